-- The drives by marks, first assignments and the one table of operands are the specified ones. By induction on the declarations. Assumes nothing.
use Rattle.std.specs.Prelude.{Option, None}
use mathlib.Core.Path.{◌≡◌, refl, ap, ap₂, ◌∙◌}
use mathlib.Core.Bool.{cond}
use mathlib.Core.List.{List, [], ◌∷◌, map}
use Prim.Native.Nat.{ℕ, ◌+◌, ◌≤◌, ◌<◌}
use native.Mathlib.Omega.{arith}
use lib.ListN.{length, get_or, length-map}
use Rattle.tagged.specs.Limits.{most_variables}
use Rattle.tagged.specs.Declarations.{Declaration, input, register, is_register}
use Rattle.tagged.specs.declared.sorts.Kind.{Kind}
use Rattle.netlist.specs.Rules.{registers_from}
use Rattle.netlist.specs.declared.Operand.{Operand}
use Rattle.netlist.specs.declared.Drive.{Drive}
use Rattle.verilog.specs.Tree.{Module}
use Rattle.verilog.specs.Cycle.{is_non_blocking, delays_any}
use Rattle.verilog_check.specs.Tables.{kind_of}
use Rattle.verilog_check.specs.declared.assignments.First.{First}
use Rattle.translate.specs.Tables.{Tables, operand_at, held_operand}
use Rattle.translate.specs.Translation.{drives_of}
use Rattle.translate_blocks.specs.Writing.{slot_of}
use Rattle.translate_blocks.specs.Ends.{marked_drive, drives_from, drives_by}
use Rattle.translator.proofs.OperandTables.{one_table, Sized, slot_held}

-- over tables, and first assignments that tell which variables are assigned by non-blocking, these are the specified drives
module _ (m : Module) {count : ℕ} {t : Tables} (sized : Sized count t) (few : count ≤ most_variables) (firsts : List (Option First))
    (told : (v : ℕ) → v < most_variables → delays_any m.processes v ≡ is_non_blocking (kind_of (get_or firsts v None))) where
  chosen : (v : ℕ) → v < count → operand_at (one_table t) (slot_of count (kind_of (get_or firsts v None)) v)
      ≡ cond (delays_any m.processes v) (operand_at t.pending v) (operand_at t.current v)
  chosen v h = slot_held sized (kind_of (get_or firsts v None)) v h ∙ rw (told v (omega (arith, few))) (go (kind_of (get_or firsts v None)))
    where
      go : (kind : Kind) → held_operand kind t v ≡ cond (is_non_blocking kind) (operand_at t.pending v) (operand_at t.current v)
      go Kind.Blocking = refl
      go Kind.NonBlocking = refl

  drives_from_lem : (v : ℕ) (ds : List Declaration) → v + length ds ≤ count →
      drives_from count firsts (one_table t) v (map is_register ds) ≡ drives_of m t (registers_from v ds)
  unfolding drives_from marked_drive drives_of registers_from
  drives_from_lem v [] h = refl
  drives_from_lem v (input w name ∷ ds) h = drives_from_lem (v + 1) ds (omega arith)
  drives_from_lem v (register w initial name ∷ ds) h =
      ap₂ (λ (o : Operand) (l : List Drive). record { variable = v; operand = o } ∷ l) (chosen v (omega arith)) (drives_from_lem (v + 1) ds (omega arith))

pub drives_of_table : (m : Module) (ds : List Declaration) {t : Tables} → Sized (length ds) t → length ds ≤ most_variables → (firsts : List (Option First)) →
    ((v : ℕ) → v < most_variables → delays_any m.processes v ≡ is_non_blocking (kind_of (get_or firsts v None))) →
    drives_by (map is_register ds) firsts (one_table t) ≡ drives_of m t (registers_from 0 ds)
drives_of_table m ds {t} sized few firsts told =
    ap (λ (count : ℕ). drives_from count firsts (one_table t) 0 (map is_register ds)) (length-map ds is_register)
    ∙ drives_from_lem m sized few firsts told 0 ds (omega arith)
