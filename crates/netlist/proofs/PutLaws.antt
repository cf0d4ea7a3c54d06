-- Writing a netlist: a header with the payload's length and then the payload are a field, so a cell or a drive; and one turn of a loop over slots.
use Rattle.std.specs.Prelude.{Option, Some, None}
use mathlib.Core.Path.{◌≡◌, refl, sym, ap, ◌∙◌, subst}
use mathlib.Core.List.{List, [], ◌∷◌, ◌++◌}
use Prim.Native.Nat.{ℕ, ◌+◌, ◌<◌, ◌≤◌}
use native.Mathlib.Numerals.{add-one}
use native.Mathlib.Omega.{arith}
use lib.ListN.{length, get_or, take, length-append}
use lib.Seq.{take-suc}
use Rattle.tagged.specs.Bytes.{two_bytes, Wrote}
use Rattle.tagged.specs.Sorts.{tag_of, cell_tag}
use Rattle.tagged.specs.Fields.{field_bytes, all_bytes_of}
use Rattle.tagged.specs.declared.sorts.Sort.TheVariants as Sort
use Rattle.tagged.proofs.AllBytesLaws.{bytes_joined}
use Rattle.tagged.proofs.WriteLaws.{wrote_then}
use Rattle.tagged.proofs.ListBytes.{field_length}
use Rattle.netlist.specs.declared.Operand.{Operand}
use Rattle.netlist.specs.declared.Cell.{Cell}
use Rattle.netlist.specs.declared.Slot.{Slot}
use Rattle.netlist.specs.Lists.{cell_sort_of, cell_width, cell_slots, present, operands_in}
use Rattle.netlist.specs.Form.{operand_bytes, slot_bytes, cell_bytes}
use Rattle.netlist.proofs.CellBytes.{operand_length}

-- how many bytes some slots take
abbrev pub slots_size : List Slot → ℕ
slots_size [] = 0
slots_size (Slot.Operand o ∷ l) = 6 + slots_size l
slots_size (Slot.Byte k ∷ l) = 1 + slots_size l

slots_size_lem : (slots : List Slot) → slots_size slots ≡ length (all_bytes_of slot_bytes slots)
unfolding all_bytes_of
slots_size_lem [] = refl
slots_size_lem (Slot.Operand o ∷ l) = omega (arith, slots_size_lem l, operand_length o, length-append (operand_bytes o) (all_bytes_of slot_bytes l))
slots_size_lem (Slot.Byte k ∷ l) = omega (arith, slots_size_lem l)

-- how many bytes a cell takes: header and width, and its slots
pub cell_size_lem : (c : Cell) → length (cell_bytes c) ≡ 4 + slots_size (cell_slots c)
unfolding cell_bytes
cell_size_lem c = field_length (tag_of (Sort.Cell (cell_sort_of c))) (cell_width c ∷ all_bytes_of slot_bytes (cell_slots c)) ∙ omega (arith, slots_size_lem (cell_slots c))

-- the same bytes, given in another way
pub wrote_as : {o o₁ bs cs : List ℕ} {i i₁ : ℕ} → bs ≡ cs → Wrote o i cs o₁ i₁ → Wrote o i bs o₁ i₁
wrote_as {o} {o₁} {bs} {cs} {i} {i₁} e w = subst (λ (l : List ℕ). Wrote o i l o₁ i₁) (sym e) w

-- the header with the payload's length, then the payload
pub wrote_field : {o o₁ o₂ : List ℕ} {i i₁ i₂ size : ℕ} (tag : ℕ) (payload : List ℕ) → size ≡ length payload →
    Wrote o i (tag ∷ two_bytes size) o₁ i₁ → Wrote o₁ i₁ payload o₂ i₂ → Wrote o i (field_bytes tag payload) o₂ i₂
unfolding field_bytes
wrote_field tag payload e w v = rw (← e) (wrote_then w v)

-- a cell's header, its width byte and its slots
pub wrote_cell : {o o₁ o₂ o₃ : List ℕ} {i i₁ i₂ i₃ tag width : ℕ} {slots : List Slot} (size : ℕ) (c : Cell) →
    tag ≡ cell_tag (cell_sort_of c) → size + 3 ≡ length (cell_bytes c) → width ≡ cell_width c → slots ≡ cell_slots c →
    Wrote o i (tag ∷ two_bytes size) o₁ i₁ → Wrote o₁ i₁ (width ∷ []) o₂ i₂ → Wrote o₂ i₂ (all_bytes_of slot_bytes slots) o₃ i₃ →
    Wrote o i (cell_bytes c) o₃ i₃
unfolding cell_bytes tag_of
wrote_cell size c tagged sized wide held head byte rest =
    wrote_field (tag_of (Sort.Cell (cell_sort_of c))) (cell_width c ∷ all_bytes_of slot_bytes (cell_slots c))
    (omega (arith, sized, cell_size_lem c, slots_size_lem (cell_slots c)))
    (rw tagged at head) (rw (wide, held) at (wrote_then byte rest))

-- slots that may be missing: those so far, and one more
present_append : (l m : List (Option Slot)) → present (l ++ m) ≡ present l ++ present m
present_append [] m = refl
present_append (Some s ∷ l) m = ap (λ (y : List Slot). s ∷ y) (present_append l m)
present_append (None ∷ l) m = present_append l m

pub slots_turn : {o o₁ o₂ : List ℕ} {i i₁ i₂ : ℕ} (slots : List (Option Slot)) (index : ℕ) (other : Option Slot) → index < length slots →
    Wrote o i (all_bytes_of slot_bytes (present (take index slots))) o₁ i₁ →
    Wrote o₁ i₁ (all_bytes_of slot_bytes (present (get_or slots index other ∷ []))) o₂ i₂ →
    Wrote o i (all_bytes_of slot_bytes (present (take (index + 1) slots))) o₂ i₂
slots_turn slots index other h w v =
    rw (add-one, take-suc slots index other h, present_append (take index slots) (get_or slots index other ∷ []))
    (rw (bytes_joined slot_bytes (present (take index slots)) (present (get_or slots index other ∷ []))) (wrote_then w v))

-- a slot takes at most six bytes
pub slot_length : (s : Option Slot) → length (all_bytes_of slot_bytes (present (s ∷ []))) ≤ 6
unfolding all_bytes_of
slot_length (Some (Slot.Operand o)) = omega (arith, operand_length o, length-append (operand_bytes o) [])
slot_length (Some (Slot.Byte k)) = omega arith
slot_length None = omega arith

-- the operands among the slots so far, and those in one more
operands_append : (l m : List Slot) → operands_in (l ++ m) ≡ operands_in l ++ operands_in m
operands_append [] m = refl
operands_append (Slot.Operand o ∷ l) m = ap (λ (y : List Operand). o ∷ y) (operands_append l m)
operands_append (Slot.Byte k ∷ l) m = operands_append l m

pub operands_turn : (slots : List (Option Slot)) (index : ℕ) (other : Option Slot) → index < length slots →
    operands_in (present (take (index + 1) slots)) ≡ operands_in (present (take index slots)) ++ operands_in (present (get_or slots index other ∷ []))
operands_turn slots index other h =
    rw (add-one, take-suc slots index other h, present_append (take index slots) (get_or slots index other ∷ []))
    (operands_append (present (take index slots)) (present (get_or slots index other ∷ [])))
