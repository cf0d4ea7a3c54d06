-- THE THEOREM FOR MANY CYCLES: from any row that fits and with any input rows that fit, the netlist of a typed module gives the rows that the module gives.
-- By induction on the input rows: a row that fits still fits once its inputs are replaced, and so does the row after a cycle.
use mathlib.Core.Path.{◌≡◌, refl}
use mathlib.Core.Bool.{true}
use mathlib.Core.List.{List, [], ◌∷◌, map, Memᴰ}
use Prim.Native.Nat.{ℕ}
use Rattle.words.specs.Values.{got}
use Rattle.tagged.specs.Declarations.{Declaration, width_of}
use Rattle.tagged.specs.Rows.{all_fit}
use Rattle.tagged.specs.Cycles.{with_inputs, inputs_fit, cycles_by}
use Rattle.netlist.specs.Cycle.{netlist_cycle}
use Rattle.verilog.specs.Tree.{Module}
use Rattle.verilog.specs.Cycle.{module_cycle}
use Rattle.verilog.proofs.Typed.{TypedModule}
use Rattle.translate.specs.Translation.{netlist_of}
use Rattle.tagged.proofs.CycleLaws.{with_inputs_fits}
use Rattle.translate.proofs.Agrees.{Agree, agrees}

-- with these input rows, the module and its netlist both go on through every cycle, and give the same rows
pub record AgreeAlways (m : Module) (row : List ℕ) (inputs : List (List ℕ)) : Type 0 where
  pub rows : List (List ℕ)
  pub module_gives : cycles_by (module_cycle m) m.declarations row inputs ≡ got rows
  pub netlist_gives : cycles_by (netlist_cycle (netlist_of m)) m.declarations row inputs ≡ got rows

-- MANY CYCLES
pub agrees_always : (m : Module) → TypedModule m → (row : List ℕ) → all_fit (map width_of m.declarations) row ≡ true → (inputs : List (List ℕ)) →
    ((i : List ℕ) → Memᴰ i inputs → inputs_fit m.declarations i ≡ true) → AgreeAlways m row inputs
unfolding cycles_by
agrees_always m typed row e [] each = record { rows = []; module_gives = refl; netlist_gives = refl }
agrees_always m typed row e (inputs ∷ later) each =
    let ds : List Declaration = m.declarations in
    let from : List ℕ = with_inputs ds inputs row in
    let now : Agree m from = agrees m typed from (with_inputs_fits ds inputs row (each inputs (Memᴰ.head refl)) e) in
    let rest : AgreeAlways m now.next later = agrees_always m typed now.next now.fits later (λ i k. each i (Memᴰ.tail k)) in
    record {
      rows = now.next ∷ rest.rows;
      module_gives = rw (now.module_gives, rest.module_gives);
      netlist_gives = rw (now.netlist_gives, rest.netlist_gives);
    }
