-- The drives of a typed module break none of rules 3, 6 and 7: each names the next register, and its operand is good and has the register's width.
-- By induction on the registers that are left.
use mathlib.Core.Path.{◌≡◌, refl, ap, ◌∙◌}
use mathlib.Core.Bool.{Bool, true, false, cond, not}
use mathlib.Core.List.{List, [], ◌∷◌, ◌++◌, append_assoc}
use Prim.Native.Nat.{ℕ, suc, ◌+◌, ◌<◌}
use native.Mathlib.Omega.{arith}
use lib.Dec.{eqb, leb}
use lib.ListN.{length, get_or, length-append}
use lib.Seq.{get_or_at}
use borrow.Author.Tests.{lt-leb}
use Rattle.tagged.specs.Declarations.{Declaration, is_register, variable_width}
use Rattle.tagged.specs.declared.answers.Rule.TheVariants as Rule
use Rattle.netlist.specs.Lists.{operand_width}
use Rattle.netlist.specs.Rules.{registers_from, not_next, drive_breaks}
use Rattle.netlist.specs.declared.Operand.{Operand}
use Rattle.netlist.specs.declared.Cell.{Cell}
use Rattle.netlist.specs.declared.Drive.{Drive}
use Rattle.verilog.specs.Tree.{Module}
use Rattle.verilog.specs.Cycle.{delays_any}
use Rattle.translate.specs.Tables.{Tables, operand_at}
use Rattle.translate.specs.Translation.{drives_of}
use Rattle.tagged.proofs.PassLaws.{EachAfter, none_after, more_after}
use Rattle.translate.proofs.Operands.{GoodOperand, equal_not}
use Rattle.translate.proofs.ExpressionCells.{held_good}
use Rattle.translate.proofs.MergeCells.{GoodTables}

-- numbers of variables that there are
pub data AllThere (ds : List Declaration) : List ℕ → Type 0 where
  no_numbers : AllThere ds []
  more_numbers : {v : ℕ} {l : List ℕ} → v < length ds → AllThere ds l → AllThere ds (v ∷ l)

-- so the numbers of the registers; `front` are the declarations before these
registers_there : (ds front l : List Declaration) (v : ℕ) → front ++ l ≡ ds → length front ≡ v → AllThere ds (registers_from v l)
unfolding registers_from
registers_there ds front [] v e n = no_numbers
registers_there ds front (d ∷ l) v e n =
    go (is_register d) (registers_there ds (front ++ (d ∷ [])) l (v + 1) (append_assoc front (d ∷ []) l ∙ e) (rw length-append (omega arith)))
  where
    go : (t : Bool) → AllThere ds (registers_from (v + 1) l) → AllThere ds (cond t (v ∷ registers_from (v + 1) l) (registers_from (v + 1) l))
    go true h = more_numbers {v = v} (rw (← e, length-append) (omega arith)) h
    go false h = h

module _ (ds : List Declaration) (cells : List Cell) where
  -- a drive that may stand after these
  pub record DrivePasses (earlier : List Drive) (d : Drive) : Type 0 where
    pub value : drive_breaks Rule.Value ds cells earlier d ≡ false
    pub reference : drive_breaks Rule.Reference ds cells earlier d ≡ false
    pub widths : drive_breaks Rule.Widths ds cells earlier d ≡ false

  -- `front` are the registers that the earlier drives name, `l` those that come after this one
  drive_passes : (front l : List ℕ) (v : ℕ) (earlier : List Drive) {o : Operand} → front ++ (v ∷ l) ≡ registers_from 0 ds → length front ≡ length earlier →
      GoodOperand ds cells o (variable_width ds v) → DrivePasses earlier (record { variable = v; operand = o })
  unfolding drive_breaks not_next
  drive_passes front l v earlier {o} e n g =
      let left : leb (length (front ++ (v ∷ l))) (length earlier) ≡ false = lt-leb (length (front ++ (v ∷ l))) (length earlier) (rw length-append (omega arith)) in
      let next : not (eqb v (get_or (front ++ (v ∷ l)) (length earlier) 0)) ≡ false =
      rw (get_or_at front v l 0 (length earlier) n) (equal_not v v refl) in
      record {
        value = g.value;
        reference = rw (← e, left, next, g.there);
        widths = rw g.like (equal_not (operand_width o) (variable_width ds v) g.wide);
      }

module _ (m : Module) (cells : List Cell) (t : Tables) (g : GoodTables m.declarations cells t) where
  -- the operand that a register is driven by
  driven_good : (v : ℕ) → v < length m.declarations → (b : Bool) →
      GoodOperand m.declarations cells (cond b (operand_at t.pending v) (operand_at t.current v)) (variable_width m.declarations v)
  driven_good v h true = held_good m.declarations g.pending v h
  driven_good v h false = held_good m.declarations g.current v h

  rest_pass : (front l : List ℕ) (earlier : List Drive) → front ++ l ≡ registers_from 0 m.declarations → length front ≡ length earlier →
      AllThere m.declarations l →
      EachAfter (DrivePasses m.declarations cells) earlier (drives_of m t l)
  unfolding drives_of
  rest_pass front [] earlier e n no_numbers = none_after
  rest_pass front (v ∷ l) earlier e n (more_numbers h r) =
      let d : Drive = record { variable = v; operand = cond (delays_any m.processes v) (operand_at t.pending v) (operand_at t.current v) } in
      more_after (drive_passes m.declarations cells front l v earlier e n (driven_good v h (delays_any m.processes v)))
      (rest_pass (front ++ (v ∷ [])) l (earlier ++ (d ∷ [])) (append_assoc front (v ∷ []) l ∙ e) (simp length-append (omega arith)) r)

  pub drives_pass : EachAfter (DrivePasses m.declarations cells) [] (drives_of m t (registers_from 0 m.declarations))
  drives_pass = rest_pass [] (registers_from 0 m.declarations) [] refl refl (registers_there m.declarations [] m.declarations 0 refl refl)

-- one drive for each register
pub drives_length : (m : Module) (t : Tables) (l : List ℕ) → length (drives_of m t l) ≡ length l
unfolding drives_of
drives_length m t [] = refl
drives_length m t (v ∷ l) = ap suc (drives_length m t l)
