-- Cells and drives and their bytes give each other back: once for all cells, by induction on what a cell holds (its slots and their shapes).
use Rattle.tagged.specs.Answers.{fault_at}
use Rattle.std.specs.Prelude.{Err}
use mathlib.Core.Path.{◌≡◌, refl, sym, ap, ap₂, ◌∙◌, subst}
use mathlib.Core.Bool.{Bool, true, false, cond, true≢false}
use mathlib.Core.List.{List, [], ◌∷◌, ◌++◌, append-nil}
use Prim.Native.Nat.{ℕ, zero, suc, ◌+◌, ◌*◌, ◌≤◌, ◌<◌}
use native.Mathlib.Omega.{arith}
use lib.Dec.{lit<, eqb, leb}
use lib.ListN.{length, get_or, take, drop, length-append, take-append-drop}
use lib.Seq.{drop-drop, drop_at}
use borrow.Author.Tests.{eqb-true, eqb-false, leb-true, le-leb}
use Rattle.words.specs.declared.OneOperand.TheVariants as one
use Rattle.words.specs.declared.TwoOperand.TheVariants as two
use Rattle.tagged.specs.Bytes.{AllBytes, four_bytes, four_of}
use Rattle.tagged.specs.Sorts.{tag_of, is_cell, is_sort}
use Rattle.tagged.specs.Fields.{faultless, field_bytes, all_bytes_of, fixed_then, ended}
use Rattle.tagged.specs.declared.sorts.CellSort.{CellSort}
use Rattle.tagged.specs.declared.sorts.Sort.{Sort}
use Rattle.tagged.proofs.ByteLaws.{front, bytes_four, four_front, four_lt, bytes_drop}
use Rattle.tagged.proofs.SortLaws.{is_itself}
use Rattle.tagged.proofs.AllBytesLaws.{bytes_none, bytes_cons, four_bytes_lem, field_bytes_lem, all_bytes}
use Rattle.tagged.proofs.JudgeLaws.{fixed_tells, ended_tells, sort_fine, fixed_written}
use Rattle.tagged.proofs.RunLaws.{Known, sort_known}
use Rattle.tagged.proofs.AnyPlace.{AnywhereBody, AnywhereJudge, fixed_anywhere, ended_anywhere}
use Rattle.tagged.proofs.ListBytes.{Stands, field_length}
use Rattle.netlist.specs.declared.Operand.{Operand}
use Rattle.netlist.specs.declared.Cell.{Cell}
use Rattle.netlist.specs.declared.Slot.{Slot}
use Rattle.netlist.specs.declared.Drive.{Drive}
use Rattle.netlist.specs.Lists.{cell_sort_of, cell_width, cell_slots}
use Rattle.netlist.specs.Form.{operand_bytes, slot_bytes, cell_bytes, drive_bytes, Shape, an_operand, a_byte, shape_of, slots_by, cell_body, drive_body}
use Rattle.netlist.specs.Reading.{operand_of, operand_in, cell_in, cell_read, drive_read}
use Rattle.netlist.specs.Fits.{Every, FitsByte, FitsFour, operand_number, FitsOperand, FitsSlot, FitsCell, FitsDrive}
use Rattle.netlist.proofs.EveryLaws.{every_member}

-- operands

-- an operand whose number fits is read back, whatever follows
pub operand_front : (o : Operand) (after : List ℕ) → FitsFour (operand_number o) → operand_in (operand_bytes o ++ after) ≡ o
unfolding operand_in operand_bytes
operand_front (Operand.Constant w n) after h = ap (Operand.Constant w) (four_front n after h)
operand_front (Operand.Variable w n) after h = ap (Operand.Variable w) (four_front n after h)
operand_front (Operand.Cell w n) after h = ap (Operand.Cell w) (four_front n after h)

pub operand_length : (o : Operand) → length (operand_bytes o) ≡ 6
unfolding operand_bytes four_bytes
operand_length (Operand.Constant w n) = refl
operand_length (Operand.Variable w n) = refl
operand_length (Operand.Cell w n) = refl

pub operand_kind : (o : Operand) (after : List ℕ) → leb (get_or (operand_bytes o ++ after) 0 0) 2 ≡ true
unfolding operand_bytes
operand_kind (Operand.Constant w n) after = refl
operand_kind (Operand.Variable w n) after = refl
operand_kind (Operand.Cell w n) after = refl

-- six bytes that begin with a kind are the bytes of the operand in them
kind_back : (kind w n : ℕ) → kind ≤ 2 → operand_bytes (operand_of kind w n) ≡ kind ∷ w ∷ four_bytes n
unfolding operand_bytes
kind_back kind w n h = go (eqb kind 0) refl (eqb kind 1) refl
  where
    go : (a : Bool) → eqb kind 0 ≡ a → (b : Bool) → eqb kind 1 ≡ b
        → operand_bytes (cond a (Operand.Constant w n) (cond b (Operand.Variable w n) (Operand.Cell w n))) ≡ kind ∷ w ∷ four_bytes n
    go true p b q = ap (λ (k : ℕ). k ∷ w ∷ four_bytes n) (sym (eqb-true kind 0 p))
    go false p true q = ap (λ (k : ℕ). k ∷ w ∷ four_bytes n) (sym (eqb-true kind 1 q))
    go false p false q = ap (λ (k : ℕ). k ∷ w ∷ four_bytes n) (let n0 = eqb-false kind 0 p in let n1 = eqb-false kind 1 q in omega arith)

pub operand_back : (l : List ℕ) → AllBytes l → 6 ≤ length l → get_or l 0 0 ≤ 2 → operand_bytes (operand_in l) ≡ take 6 l
unfolding operand_in four_of
operand_back [] h long k = absurd (omega arith)
operand_back (a ∷ []) h long k = absurd (omega arith)
operand_back (a ∷ b ∷ []) h long k = absurd (omega arith)
operand_back (a ∷ b ∷ c ∷ []) h long k = absurd (omega arith)
operand_back (a ∷ b ∷ c ∷ d ∷ []) h long k = absurd (omega arith)
operand_back (a ∷ b ∷ c ∷ d ∷ e ∷ []) h long k = absurd (omega arith)
operand_back (kind ∷ w ∷ a ∷ b ∷ c ∷ d ∷ l) h long k =
    kind_back kind w (four_of (a ∷ b ∷ c ∷ d ∷ l)) k ∙ ap (λ (n : List ℕ). kind ∷ w ∷ n) (bytes_four a b c d (h 2) (h 3) (h 4) (h 5))

-- an operand in bytes fits them
kind_fits : (kind w n : ℕ) → FitsByte w → FitsFour n → FitsOperand (operand_of kind w n)
kind_fits kind w n h k = go (eqb kind 0) (eqb kind 1)
  where
    go : (a b : Bool) → FitsOperand (cond a (Operand.Constant w n) (cond b (Operand.Variable w n) (Operand.Cell w n)))
    go true b = (h, k)
    go false true = (h, k)
    go false false = (h, k)

pub operand_fits : (l : List ℕ) → AllBytes l → FitsOperand (operand_in l)
unfolding operand_in four_of
operand_fits l h =
    let rest = bytes_drop 2 l h in
    kind_fits (get_or l 0 0) (get_or l 1 0) (four_of (drop 2 l)) (h 1)
    (four_lt (get_or (drop 2 l) 0 0) (get_or (drop 2 l) 1 0) (get_or (drop 2 l) 2 0) (get_or (drop 2 l) 3 0) (rest 0) (rest 1) (rest 2) (rest 3))

pub operand_bytes_lem : (o : Operand) → FitsOperand o → AllBytes (operand_bytes o)
unfolding operand_bytes
operand_bytes_lem (Operand.Constant w n) h = bytes_cons 0 (w ∷ four_bytes n) (lit< tt) (bytes_cons w (four_bytes n) h.0 (four_bytes_lem n))
operand_bytes_lem (Operand.Variable w n) h = bytes_cons 1 (w ∷ four_bytes n) (lit< tt) (bytes_cons w (four_bytes n) h.0 (four_bytes_lem n))
operand_bytes_lem (Operand.Cell w n) h = bytes_cons 2 (w ∷ four_bytes n) (lit< tt) (bytes_cons w (four_bytes n) h.0 (four_bytes_lem n))

-- slots

-- the shapes of some slots, and the slots of some shapes in a list of bytes
shapes_of : List Slot → List Shape
shapes_of [] = []
shapes_of (Slot.Operand o ∷ l) = an_operand ∷ shapes_of l
shapes_of (Slot.Byte k ∷ l) = a_byte ∷ shapes_of l

slots_in : List Shape → List ℕ → List Slot
slots_in [] l = []
slots_in (an_operand ∷ s) l = Slot.Operand (operand_in l) ∷ slots_in s (drop 6 l)
slots_in (a_byte ∷ s) l = Slot.Byte (get_or l 0 0) ∷ slots_in s (drop 1 l)

-- nothing is left where a payload has ended
ended_empty : (base owner : ℕ) (l : List ℕ) → ended base owner l ≡ faultless → [] ≡ l
ended_empty base owner [] e = refl
ended_empty base owner (x ∷ l) e = absurd (omega (arith, ended_tells base owner (x ∷ l) e))

-- the first of these slots is an operand: its kind is one, and the others follow
operand_fine : (s : List Shape) (base owner : ℕ) (l : List ℕ) → slots_by (an_operand ∷ s) base owner l ≡ faultless
    → (get_or l 0 0 ≤ 2) × (6 ≤ length l) × (slots_by s (base + 6) owner (drop 6 l) ≡ faultless)
unfolding slots_by
operand_fine s base owner l e = go (leb (get_or l 0 0) 2) refl e
  where
    go : (t : Bool) → leb (get_or l 0 0) 2 ≡ t → cond t (fixed_then 6 (slots_by s) base owner l) (Err (fault_at owner)) ≡ faultless
        → (get_or l 0 0 ≤ 2) × (6 ≤ length l) × (slots_by s (base + 6) owner (drop 6 l) ≡ faultless)
    go true p q = let f = fixed_tells 6 (slots_by s) base owner l q in (leb-true (get_or l 0 0) 2 p, f.0, f.1)
    go false p q = absurd (let z : ◌≡◌ {A = ℕ} 0 1 = cc in omega arith)

-- slots read without a fault are written as they stood
slots_written : (s : List Shape) (base owner : ℕ) (l : List ℕ) → AllBytes l → slots_by s base owner l ≡ faultless → all_bytes_of slot_bytes (slots_in s l) ≡ l
unfolding slots_by all_bytes_of slots_in
slots_written [] base owner l h e = ended_empty base owner l e
slots_written (an_operand ∷ s) base owner l h e =
    let f = operand_fine s base owner l e in
    ap₂ (λ (a b : List ℕ). a ++ b) (operand_back l h f.1 f.0) (slots_written s (base + 6) owner (drop 6 l) (bytes_drop 6 l h) f.2)
    ∙ take-append-drop 6 l
slots_written (a_byte ∷ s) base owner [] h e = absurd (omega (arith, (fixed_tells 1 (slots_by s) base owner [] e).0))
slots_written (a_byte ∷ s) base owner (x ∷ l) h e =
    ap (λ (r : List ℕ). x ∷ r) (slots_written s (base + 1) owner l (bytes_drop 1 (x ∷ l) h) (fixed_tells 1 (slots_by s) base owner (x ∷ l) e).1)

-- slots in bytes fit them
slots_fit : (s : List Shape) (l : List ℕ) → AllBytes l → Every FitsSlot (slots_in s l)
unfolding slots_in
slots_fit [] l h = tt
slots_fit (an_operand ∷ s) l h = (operand_fits l h, slots_fit s (drop 6 l) (bytes_drop 6 l h))
slots_fit (a_byte ∷ s) l h = (h 0, slots_fit s (drop 1 l) (bytes_drop 1 l h))

-- slots are fine anywhere
slots_anywhere : (s : List Shape) → AnywhereJudge (slots_by s)
unfolding slots_by
slots_anywhere [] a o b p l e = ended_anywhere a o b p l e
slots_anywhere (an_operand ∷ s) a o b p l e =
    let f = operand_fine s a o l e in
    rw (le-leb (get_or l 0 0) 2 f.0) (fixed_written 6 (slots_by s) b p l f.1 (slots_anywhere s (a + 6) o (b + 6) p (drop 6 l) f.2))
slots_anywhere (a_byte ∷ s) a o b p l e = fixed_anywhere 1 (slots_by s) (slots_anywhere s) a o b p l e

-- slots that are written are read as they were, without a fault
slots_fine : (slots : List Slot) (base owner : ℕ) → slots_by (shapes_of slots) base owner (all_bytes_of slot_bytes slots) ≡ faultless
unfolding slots_by shapes_of all_bytes_of ended
slots_fine [] base owner = refl
slots_fine (Slot.Operand o ∷ l) base owner =
    let after = all_bytes_of slot_bytes l in
    let six : length (operand_bytes o) ≡ 6 = operand_length o in
    rw (operand_kind o after)
    (fixed_written 6 (slots_by (shapes_of l)) base owner (operand_bytes o ++ after) (omega (arith, length-append (operand_bytes o) after))
    (rw (drop_at (operand_bytes o) after 6 six) (slots_fine l (base + 6) owner)))
slots_fine (Slot.Byte k ∷ l) base owner = fixed_written 1 (slots_by (shapes_of l)) base owner (k ∷ all_bytes_of slot_bytes l) (omega arith) (slots_fine l (base + 1) owner)

slots_back : (slots : List Slot) → Every FitsSlot slots → slots_in (shapes_of slots) (all_bytes_of slot_bytes slots) ≡ slots
unfolding slots_in shapes_of all_bytes_of
slots_back [] h = refl
slots_back (Slot.Operand o ∷ l) h =
    let after = all_bytes_of slot_bytes l in
    let six : length (operand_bytes o) ≡ 6 = operand_length o in
    ap₂ (λ (x : Operand) (y : List Slot). Slot.Operand x ∷ y) (operand_front o after h.0.1)
    (ap (slots_in (shapes_of l)) (drop_at (operand_bytes o) after 6 six) ∙ slots_back l h.1)
slots_back (Slot.Byte k ∷ l) h = ap (λ (y : List Slot). Slot.Byte k ∷ y) (slots_back l h.1)

slots_length : (slots : List Slot) → length (all_bytes_of slot_bytes slots) ≤ 6 * length slots
unfolding all_bytes_of
slots_length [] = omega arith
slots_length (Slot.Operand o ∷ l) = omega (arith, slots_length l, operand_length o, length-append (operand_bytes o) (all_bytes_of slot_bytes l))
slots_length (Slot.Byte k ∷ l) = omega (arith, slots_length l)

slot_bytes_lem : (s : Slot) → FitsSlot s → AllBytes (slot_bytes s)
slot_bytes_lem (Slot.Operand o) h = operand_bytes_lem o h
slot_bytes_lem (Slot.Byte k) h = bytes_cons k [] h bytes_none

-- cells

-- a cell from its slots; what is missing counts as nothing
operand_at : ℕ → List Slot → Operand
operand_at n [] = Operand.Constant 0 0
operand_at zero (Slot.Operand o ∷ l) = o
operand_at zero (Slot.Byte k ∷ l) = Operand.Constant 0 0
operand_at (suc n) (x ∷ l) = operand_at n l

byte_at : ℕ → List Slot → ℕ
byte_at n [] = 0
byte_at zero (Slot.Operand o ∷ l) = 0
byte_at zero (Slot.Byte k ∷ l) = k
byte_at (suc n) (x ∷ l) = byte_at n l

cell_of : CellSort → ℕ → List Slot → Cell
cell_of (CellSort.One op) w l = Cell.One op w (operand_at 0 l)
cell_of (CellSort.Two op) w l = Cell.Two op w (operand_at 0 l) (operand_at 1 l)
cell_of CellSort.Mux w l = Cell.Mux w (operand_at 0 l) (operand_at 1 l) (operand_at 2 l)
cell_of CellSort.Put w l = Cell.Put w (operand_at 0 l) (byte_at 1 l) (operand_at 2 l)
cell_of CellSort.FixedBit w l = Cell.FixedBit w (operand_at 0 l) (byte_at 1 l)
cell_of CellSort.ChosenBit w l = Cell.ChosenBit w (operand_at 0 l) (operand_at 1 l)

cell_of_lem : (c : Cell) → cell_of (cell_sort_of c) (cell_width c) (cell_slots c) ≡ c
unfolding cell_of operand_at byte_at
cell_of_lem (Cell.One op w a) = refl
cell_of_lem (Cell.Two op w a b) = refl
cell_of_lem (Cell.Mux w c a b) = refl
cell_of_lem (Cell.Put w v k b) = refl
cell_of_lem (Cell.FixedBit w v k) = refl
cell_of_lem (Cell.ChosenBit w v i) = refl

cell_shape : (c : Cell) → shape_of (cell_sort_of c) ≡ shapes_of (cell_slots c)
unfolding shapes_of
cell_shape (Cell.One op w a) = refl
cell_shape (Cell.Two op w a b) = refl
cell_shape (Cell.Mux w c a b) = refl
cell_shape (Cell.Put w v k b) = refl
cell_shape (Cell.FixedBit w v k) = refl
cell_shape (Cell.ChosenBit w v i) = refl

pub few_slots : (c : Cell) → length (cell_slots c) ≤ 3
few_slots (Cell.One op w a) = omega arith
few_slots (Cell.Two op w a b) = omega arith
few_slots (Cell.Mux w c a b) = omega arith
few_slots (Cell.Put w v k b) = omega arith
few_slots (Cell.FixedBit w v k) = omega arith
few_slots (Cell.ChosenBit w v i) = omega arith

-- the parts of the cell in a payload: its sort, its width byte, and the slots in the rest
cell_parts : (s : CellSort) (w : ℕ) (l : List ℕ)
    → (cell_sort_of (cell_in s (w ∷ l)) ≡ s) × (cell_width (cell_in s (w ∷ l)) ≡ w) × (cell_slots (cell_in s (w ∷ l)) ≡ slots_in (shape_of s) l)
unfolding slots_in
cell_parts (CellSort.One op) w l = (refl, refl, refl)
cell_parts (CellSort.Two op) w l = (refl, refl, refl)
cell_parts CellSort.Mux w l = (refl, refl, rw (drop-drop 6 6 l))
cell_parts CellSort.Put w l = (refl, refl, rw (front l 6, drop-drop 1 6 l))
cell_parts CellSort.FixedBit w l = (refl, refl, rw (front l 6))
cell_parts CellSort.ChosenBit w l = (refl, refl, refl)

-- so it is made of them
cell_in_lem : (s : CellSort) (w : ℕ) (l : List ℕ) → cell_in s (w ∷ l) ≡ cell_of s w (slots_in (shape_of s) l)
cell_in_lem s w l =
    let p = cell_parts s w l in
    sym (cell_of_lem (cell_in s (w ∷ l))) ∙ ap₂ (λ (t : CellSort) (x : ℕ). cell_of t x (cell_slots (cell_in s (w ∷ l)))) p.0 p.1 ∙ ap (cell_of s w) p.2

-- a sort that is a cell's is one
pub cell_sort_lem : (s : Sort) → is_cell s ≡ true → (c : CellSort) × (s ≡ Sort.Cell c)
cell_sort_lem Sort.Module is = absurd (true≢false (sym is))
cell_sort_lem (Sort.Declaration d) is = absurd (true≢false (sym is))
cell_sort_lem Sort.Process is = absurd (true≢false (sym is))
cell_sort_lem (Sort.Statement s) is = absurd (true≢false (sym is))
cell_sort_lem Sort.Item is = absurd (true≢false (sym is))
cell_sort_lem Sort.Block is = absurd (true≢false (sym is))
cell_sort_lem (Sort.Expression e) is = absurd (true≢false (sym is))
cell_sort_lem (Sort.Cell c) is = (c, refl)
cell_sort_lem Sort.Drive is = absurd (true≢false (sym is))
cell_sort_lem Sort.Netlist is = absurd (true≢false (sym is))
cell_sort_lem Sort.Unknown is = absurd (true≢false (sym is))

tag_bounds : (c : CellSort) → (0 < tag_of (Sort.Cell c)) × (tag_of (Sort.Cell c) < 256)
unfolding tag_of
tag_bounds (CellSort.One one.Not) = (lit< tt, lit< tt)
tag_bounds (CellSort.One one.Parity) = (lit< tt, lit< tt)
tag_bounds (CellSort.Two two.And) = (lit< tt, lit< tt)
tag_bounds (CellSort.Two two.Or) = (lit< tt, lit< tt)
tag_bounds (CellSort.Two two.Xor) = (lit< tt, lit< tt)
tag_bounds (CellSort.Two two.Add) = (lit< tt, lit< tt)
tag_bounds (CellSort.Two two.Equal) = (lit< tt, lit< tt)
tag_bounds CellSort.Mux = (lit< tt, lit< tt)
tag_bounds CellSort.Put = (lit< tt, lit< tt)
tag_bounds CellSort.FixedBit = (lit< tt, lit< tt)
tag_bounds CellSort.ChosenBit = (lit< tt, lit< tt)

pub cell_known : Known is_cell
cell_known s is e = let f = cell_sort_lem s is in omega (arith, (tag_bounds f.0).0, ap tag_of f.1)

-- a payload without a fault has a width byte, and its slots follow
cell_fine : (at : ℕ) (c : CellSort) (l : List ℕ) → cell_body at (Sort.Cell c) l ≡ faultless
    → (1 ≤ length l) × (slots_by (shape_of c) (at + 3 + 1) at (drop 1 l) ≡ faultless)
unfolding cell_body
cell_fine at c l e = fixed_tells 1 (slots_by (shape_of c)) (at + 3) at l e

-- what is read of a cell without a fault is written as it stood
cell_written : (at : ℕ) (c : CellSort) (l : List ℕ) → AllBytes l → cell_body at (Sort.Cell c) l ≡ faultless
    → cell_bytes (cell_read (Sort.Cell c) l) ≡ field_bytes (tag_of (Sort.Cell c)) l
unfolding cell_bytes cell_read
cell_written at c [] h e = absurd (omega (arith, (cell_fine at c [] e).0))
cell_written at c (w ∷ l) h e =
    let p = cell_parts c w l in
    let whole : cell_width (cell_in c (w ∷ l)) ∷ all_bytes_of slot_bytes (cell_slots (cell_in c (w ∷ l))) ≡ w ∷ l =
    ap₂ (λ (x : ℕ) (y : List Slot). x ∷ all_bytes_of slot_bytes y) p.1 p.2
    ∙ ap (λ (y : List ℕ). w ∷ y) (slots_written (shape_of c) (at + 3 + 1) at l (bytes_drop 1 (w ∷ l) h) (cell_fine at c (w ∷ l) e).1) in
    ap₂ (λ (s : CellSort) (y : List ℕ). field_bytes (tag_of (Sort.Cell s)) y) p.0 whole

pub cell_back : (at : ℕ) (s : Sort) (l : List ℕ) → AllBytes l → is_cell s ≡ true → cell_body at s l ≡ faultless → cell_bytes (cell_read s l) ≡ field_bytes (tag_of s) l
cell_back at s l h is fine =
    let f = cell_sort_lem s is in
    subst (λ (s : Sort). cell_bytes (cell_read s l) ≡ field_bytes (tag_of s) l) (sym f.1)
    (cell_written at f.0 l h (ap (λ (s : Sort). cell_body at s l) (sym f.1) ∙ fine))

-- a cell in bytes fits them
cell_in_fits : (at : ℕ) (c : CellSort) (l : List ℕ) → AllBytes l → cell_body at (Sort.Cell c) l ≡ faultless → FitsCell (cell_read (Sort.Cell c) l)
unfolding cell_read
cell_in_fits at c [] h e = absurd (omega (arith, (cell_fine at c [] e).0))
cell_in_fits at c (w ∷ l) h e =
    let p = cell_parts c w l in
    (rw p.1 (h 0), subst (λ (y : List Slot). Every FitsSlot y) (sym p.2) (slots_fit (shape_of c) l (bytes_drop 1 (w ∷ l) h)))

pub cell_fits : (at : ℕ) (s : Sort) (l : List ℕ) → AllBytes l → length l < 65536 → is_cell s ≡ true → cell_body at s l ≡ faultless → FitsCell (cell_read s l)
cell_fits at s l h short is fine =
    let f = cell_sort_lem s is in
    subst (λ (s : Sort). FitsCell (cell_read s l)) (sym f.1) (cell_in_fits at f.0 l h (ap (λ (s : Sort). cell_body at s l) (sym f.1) ∙ fine))

-- a cell is fine anywhere
pub cell_anywhere : AnywhereBody cell_body
unfolding cell_body
cell_anywhere a b Sort.Module l e = absurd (let z : ◌≡◌ {A = ℕ} 0 1 = cc in omega arith)
cell_anywhere a b (Sort.Declaration d) l e = absurd (let z : ◌≡◌ {A = ℕ} 0 1 = cc in omega arith)
cell_anywhere a b Sort.Process l e = absurd (let z : ◌≡◌ {A = ℕ} 0 1 = cc in omega arith)
cell_anywhere a b (Sort.Statement s) l e = absurd (let z : ◌≡◌ {A = ℕ} 0 1 = cc in omega arith)
cell_anywhere a b Sort.Item l e = absurd (let z : ◌≡◌ {A = ℕ} 0 1 = cc in omega arith)
cell_anywhere a b Sort.Block l e = absurd (let z : ◌≡◌ {A = ℕ} 0 1 = cc in omega arith)
cell_anywhere a b (Sort.Expression s) l e = absurd (let z : ◌≡◌ {A = ℕ} 0 1 = cc in omega arith)
cell_anywhere a b (Sort.Cell c) l e = fixed_anywhere 1 (slots_by (shape_of c)) (slots_anywhere (shape_of c)) (a + 3) a (b + 3) b l e
cell_anywhere a b Sort.Drive l e = absurd (let z : ◌≡◌ {A = ℕ} 0 1 = cc in omega arith)
cell_anywhere a b Sort.Netlist l e = absurd (let z : ◌≡◌ {A = ℕ} 0 1 = cc in omega arith)
cell_anywhere a b Sort.Unknown l e = absurd (let z : ◌≡◌ {A = ℕ} 0 1 = cc in omega arith)

-- a cell's payload
cell_payload : Cell → List ℕ
cell_payload c = cell_width c ∷ all_bytes_of slot_bytes (cell_slots c)

payload_short : (c : Cell) → length (cell_payload c) ≤ 19
unfolding cell_payload
payload_short c = omega (arith, slots_length (cell_slots c), few_slots c)

-- a cell whose numbers fit their bytes stands as a field that is read as it was
pub cell_stands : (c : Cell) → FitsCell c → Stands is_cell cell_body cell_read cell_bytes c
unfolding cell_bytes cell_body cell_read cell_payload
cell_stands c h = record {
  sort = Sort.Cell (cell_sort_of c);
  payload = cell_payload c;
  field = refl;
  short = omega (arith, payload_short c);
  is = refl;
  fine = λ base. fixed_written 1 (slots_by (shape_of (cell_sort_of c))) (base + 3) base (cell_payload c) (omega arith)
      (subst (λ (s : List Shape). slots_by s (base + 3 + 1) base (all_bytes_of slot_bytes (cell_slots c)) ≡ faultless) (sym (cell_shape c))
      (slots_fine (cell_slots c) (base + 3 + 1) base));
  back = cell_in_lem (cell_sort_of c) (cell_width c) (all_bytes_of slot_bytes (cell_slots c))
      ∙ ap (cell_of (cell_sort_of c) (cell_width c))
      (ap (λ (s : List Shape). slots_in s (all_bytes_of slot_bytes (cell_slots c))) (cell_shape c) ∙ slots_back (cell_slots c) h.1)
      ∙ cell_of_lem c;
}

pub cell_length : (c : Cell) → length (cell_bytes c) ≤ 22
unfolding cell_bytes cell_payload
cell_length c =
    let long : length (cell_bytes c) ≡ length (cell_payload c) + 3 = field_length (tag_of (Sort.Cell (cell_sort_of c))) (cell_payload c) in
    let short : length (cell_payload c) ≤ 19 = payload_short c in
    omega arith

pub cell_bytes_lem : (c : Cell) → FitsCell c → AllBytes (cell_bytes c)
unfolding cell_bytes
cell_bytes_lem c h =
    field_bytes_lem (tag_of (Sort.Cell (cell_sort_of c))) (cell_width c ∷ all_bytes_of slot_bytes (cell_slots c)) (tag_bounds (cell_sort_of c)).1
    (bytes_cons (cell_width c) (all_bytes_of slot_bytes (cell_slots c)) h.0 (all_bytes slot_bytes (cell_slots c) (λ x m. slot_bytes_lem x (every_member FitsSlot x h.1 m))))

-- drives

pub drive_known : Known (is_sort Sort.Drive)
unfolding tag_of
drive_known = sort_known Sort.Drive (λ e. omega arith)

-- the slots of a drive's payload after its variable byte
abbrev drive_shape : List Shape
drive_shape = an_operand ∷ []

-- a payload without a fault is a drive's: it has a variable byte, and its operand follows
pub drive_fine : (at : ℕ) (s : Sort) (l : List ℕ) → drive_body at s l ≡ faultless
    → (is_sort Sort.Drive s ≡ true) × (1 ≤ length l) × (slots_by drive_shape (at + 3 + 1) at (drop 1 l) ≡ faultless)
unfolding drive_body
drive_fine at s l e =
    let c = sort_fine Sort.Drive s (fixed_then 1 (slots_by drive_shape) (at + 3) at l) (fault_at at) e in
    let f = fixed_tells 1 (slots_by drive_shape) (at + 3) at l c.1 in
    (c.0, f.0, f.1)

drive_pass : (at : ℕ) (s : Sort) (l : List ℕ) → is_sort Sort.Drive s ≡ true → 1 ≤ length l → slots_by drive_shape (at + 3 + 1) at (drop 1 l) ≡ faultless
    → drive_body at s l ≡ faultless
unfolding drive_body
drive_pass at s l is h e = rw is (fixed_written 1 (slots_by drive_shape) (at + 3) at l h e)

pub drive_back : (at : ℕ) (s : Sort) (l : List ℕ) → AllBytes l → is_sort Sort.Drive s ≡ true → drive_body at s l ≡ faultless
    → drive_bytes (drive_read s l) ≡ field_bytes (tag_of s) l
unfolding drive_bytes drive_read slots_in all_bytes_of
drive_back at s [] h is e = absurd (omega (arith, (drive_fine at s [] e).1))
drive_back at s (v ∷ l) h is e =
    let f = drive_fine at s (v ∷ l) e in
    let whole : operand_bytes (operand_in l) ++ [] ≡ l = slots_written drive_shape (at + 3 + 1) at l (bytes_drop 1 (v ∷ l) h) f.2 in
    ap₂ (λ (t : ℕ) (y : List ℕ). field_bytes t (v ∷ y)) (eqb-true (tag_of Sort.Drive) (tag_of s) is) (sym (append-nil (operand_bytes (operand_in l))) ∙ whole)

pub drive_fits : (at : ℕ) (s : Sort) (l : List ℕ) → AllBytes l → length l < 65536 → is_sort Sort.Drive s ≡ true → drive_body at s l ≡ faultless
    → FitsDrive (drive_read s l)
unfolding drive_read
drive_fits at s l h short is fine = (h 0, operand_fits (drop 1 l) (bytes_drop 1 l h))

-- a drive whose numbers fit their bytes stands as a field that is read as it was, wherever drives are wanted
pub drive_stands : (wanted : Sort → Bool) → wanted Sort.Drive ≡ true → (d : Drive) → FitsDrive d → Stands wanted drive_body drive_read drive_bytes d
unfolding drive_bytes drive_read slots_in shapes_of all_bytes_of
drive_stands wanted is d h = record {
  sort = Sort.Drive;
  payload = d.variable ∷ operand_bytes d.operand;
  field = refl;
  short = omega (arith, operand_length d.operand);
  is = is;
  fine = λ base. drive_pass base Sort.Drive (d.variable ∷ operand_bytes d.operand) (is_itself Sort.Drive) (omega arith)
      (rw (← append-nil (operand_bytes d.operand)) (slots_fine (Slot.Operand d.operand ∷ []) (base + 3 + 1) base));
  back = ap (λ (o : Operand). record { variable = d.variable; operand = o })
      (ap operand_in (sym (append-nil (operand_bytes d.operand))) ∙ operand_front d.operand [] h.1.1);
}

pub drive_length : (d : Drive) → length (drive_bytes d) ≡ 10
unfolding drive_bytes
drive_length d = field_length (tag_of Sort.Drive) (d.variable ∷ operand_bytes d.operand) ∙ omega (arith, operand_length d.operand)

pub drive_bytes_lem : (d : Drive) → FitsDrive d → AllBytes (drive_bytes d)
unfolding drive_bytes tag_of
drive_bytes_lem d h =
    field_bytes_lem (tag_of Sort.Drive) (d.variable ∷ operand_bytes d.operand) (lit< tt)
    (bytes_cons d.variable (operand_bytes d.operand) h.0 (operand_bytes_lem d.operand h.1))
