-- Laws of refusal 2 on netlists, in the form in which code asks them: the slots of a payload, the sorts that a match found, and what was passed.
use Rattle.tagged.specs.Answers.{fault_at}
use Rattle.std.specs.Prelude.{Err}
use mathlib.Core.Path.{◌≡◌, refl, sym, ◌∙◌}
use mathlib.Core.Bool.{Bool, true, false, cond, ◌&&◌, true≢false}
use mathlib.Core.List.{List, [], ◌∷◌}
use Prim.Native.Nat.{ℕ, ◌+◌, ◌<◌}
use lib.Dec.{leb}
use lib.ListN.{length, get_or}
use borrow.Author.Tests.{leb-false, eq-eqb}
use Rattle.tagged.specs.Sorts.{tag_of, is_cell, is_sort}
use Rattle.tagged.specs.Fields.{ended, then_by, fixed_then, Judged}
use Rattle.tagged.specs.Declarations.{declarations_step}
use Rattle.tagged.specs.declared.sorts.CellSort.{CellSort}
use Rattle.tagged.specs.declared.sorts.Sort.{Sort}
use Rattle.tagged.proofs.SortLaws.{same_sort}
use Rattle.tagged.proofs.TestLaws.{not_both}
use Rattle.tagged.proofs.FieldLaws.{fixed_short}
use Rattle.netlist.specs.Form.{Shape, an_operand, a_byte, shape_of, slots_by, cell_body, drive_body, cells_step, drives_judge, netlist_body}
use Rattle.netlist.proofs.CellBytes.{cell_sort_lem}

-- slots that begin with an operand, as the code tests it
module _ (shape s : List Shape) (begins : shape ≡ an_operand ∷ s) (base owner : ℕ) (l : List ℕ) (t : Bool) (tested : t ≡ leb (get_or l 0 0) 2 && leb 6 (length l)) where
  pub operand_refused : t ≡ false → Err (fault_at owner) ≡ slots_by shape base owner l
  unfolding slots_by
  operand_refused off = rw begins
      (not_both (leb (get_or l 0 0) 2) (leb 6 (length l)) (sym tested ∙ off) (λ over. rw over) (λ short. either (leb (get_or l 0 0) 2) (leb-false 6 (length l) short)))
    where
      either : (kind : Bool) → length l < 6 → Err (fault_at owner) ≡ cond kind (fixed_then 6 (slots_by s) base owner l) (Err (fault_at owner))
      either true short = fixed_short 6 (slots_by s) base owner l short
      either false short = refl

-- no slots: nothing is left
pub slots_none : (base owner : ℕ) (l : List ℕ) → slots_by [] base owner l ≡ ended base owner l
unfolding slots_by
slots_none base owner l = refl

-- a match that found another sort than a cell
pub not_cell : (s : Sort) → ((c : CellSort) → s ≡ Sort.Cell c → ⊥) → is_cell s ≡ false
not_cell s k = go (is_cell s) refl
  where
    go : (t : Bool) → is_cell s ≡ t → t ≡ false
    go true is = absurd (k (cell_sort_lem s is).0 (cell_sort_lem s is).1)
    go false is = refl

-- a sort that is not another one
not_sort : (wanted s : Sort) → (s ≡ wanted → ⊥) → is_sort wanted s ≡ false
not_sort wanted s other = go (is_sort wanted s) refl
  where
    go : (t : Bool) → is_sort wanted s ≡ t → t ≡ false
    go true is = absurd (other (same_sort wanted s is))
    go false is = refl

pub not_drive : (s : Sort) → (s ≡ Sort.Drive → ⊥) → is_sort Sort.Drive s ≡ false
not_drive s k = not_sort Sort.Drive s k

-- a cell's payload
module _ (at : ℕ) (s : Sort) (l : List ℕ) where
  pub cell_slotted : (c : CellSort) → s ≡ Sort.Cell c → (w : Judged) → w ≡ slots_by (a_byte ∷ shape_of c) (at + 3) at l → w ≡ cell_body at s l
  unfolding cell_body slots_by
  cell_slotted c e w wn = wn ∙ rw e

-- a payload that is no cell's
pub cell_other : (at : ℕ) (s : Sort) (l : List ℕ) → is_cell s ≡ false → Err (fault_at at) ≡ cell_body at s l
unfolding cell_body
cell_other at Sort.Module l e = refl
cell_other at (Sort.Declaration d) l e = refl
cell_other at Sort.Process l e = refl
cell_other at (Sort.Statement s) l e = refl
cell_other at Sort.Item l e = refl
cell_other at Sort.Block l e = refl
cell_other at (Sort.Expression x) l e = refl
cell_other at (Sort.Cell c) l e = absurd (true≢false e)
cell_other at Sort.Drive l e = refl
cell_other at Sort.Netlist l e = refl
cell_other at Sort.Unknown l e = refl

-- a drive's payload, and a netlist's
module _ (at : ℕ) (s : Sort) (l : List ℕ) where
  pub drive_slotted : s ≡ Sort.Drive → (w : Judged) → w ≡ slots_by (a_byte ∷ an_operand ∷ []) (at + 3) at l → w ≡ drive_body at s l
  unfolding drive_body slots_by
  drive_slotted e w wn = wn ∙ rw (e, eq-eqb (tag_of Sort.Drive) (tag_of Sort.Drive) refl)

  pub drive_other : (s ≡ Sort.Drive → ⊥) → Err (fault_at at) ≡ drive_body at s l
  unfolding drive_body
  drive_other k = rw (not_sort Sort.Drive s k)

  pub netlist_lists : s ≡ Sort.Netlist → (w : Judged) → w ≡ then_by declarations_step (then_by cells_step drives_judge) (at + 3) at l → w ≡ netlist_body at s l
  unfolding netlist_body
  netlist_lists e w wn = wn ∙ rw (e, eq-eqb (tag_of Sort.Netlist) (tag_of Sort.Netlist) refl)

  pub netlist_other : (s ≡ Sort.Netlist → ⊥) → Err (fault_at at) ≡ netlist_body at s l
  unfolding netlist_body
  netlist_other k = rw (not_sort Sort.Netlist s k)
