-- The tests of the rules find exactly what document 01's phrases name: a declaration, a cell or a drive has a test that holds where it breaks a rule,
-- and breaks the rule where the test holds. By cases on the phrases, and on the rules and cells.
use mathlib.Core.Path.{◌≡◌, refl}
use mathlib.Core.Bool.{Bool, true, ◌||◌, not, false≢true}
use mathlib.Core.List.{List, [], ◌∷◌, Memᴰ}
use Prim.Native.Nat.{ℕ, ◌^◌}
use lib.Dec.{leb, eqb}
use lib.ListN.{length, get_or}
use borrow.Author.Tests.{leb-true, leb-false, le-leb, lt-leb, not-true}
use Rattle.words.specs.Widths.{is_width, fits_width}
use Rattle.words.specs.Operators.{one_width, two_width}
use Rattle.tagged.specs.Fields.{placed_by}
use Rattle.tagged.specs.Declarations.{Declaration, declaration_bytes, declaration_breaks, variable_width}
use Rattle.tagged.specs.declared.answers.Rule.{Rule}
use Rattle.netlist.specs.declared.Operand.{Operand}
use Rattle.netlist.specs.declared.Cell.{Cell}
use Rattle.netlist.specs.declared.Drive.{Drive}
use Rattle.netlist.specs.Lists.{Netlist, operand_width, cell_width, cell_slots, operands_in}
use Rattle.netlist.specs.Form.{cell_bytes, drive_bytes}
use Rattle.netlist.specs.Rules.{width_of_cell, some_operand, operand_value_broken, operand_missing, operand_unlike, cell_unlike, cell_outside, cell_breaks, registers_from, not_next, drive_breaks, cells_base, drives_base}
use Rattle.netlist.specs.Breaks.{CellAt, DriveAt, OperandAt, of_cell, of_drive, Breaks, of_declaration, cells_width, operands_width, constant_value, missing_variable, missing_cell, beyond_registers, other_register, unlike_variable, unlike_cell, unlike_register, unlike_operand, unlike_each_other, unlike_operands, wide_condition, unlike_first, unlike_second, unlike_vector, wide_bit, wide_fixed, wide_chosen, put_outside, fixed_outside, index_outside}
use Rattle.tagged.specs.DeclarationPhrases.{NoWidth}
use Rattle.tagged.proofs.TestLaws.{or_left, or_right, or_cases, not_so, unlike, unlike_ne}
use Rattle.tagged.proofs.DeclarationTests.{no_width, width_no, not_fits, fits_not, phrase_tested, tested_phrase}
use Rattle.tagged.proofs.PlaceLaws.{BrokenAt, broken_at}

-- some operand
some : (test : Operand → Bool) {o : Operand} {l : List Operand} → Memᴰ o l → test o ≡ true → some_operand test l ≡ true
some test {l = a ∷ l} (Memᴰ.head same) h = or_left (test a) _ (rw same at h)
some test {l = a ∷ l} (Memᴰ.tail m) h = or_right (test a) (some test m h)
some test {o = o} {l = []} x5 h = elim x5 [ ]

record Holding (test : Operand → Bool) (l : List Operand) : Type 0 where
  pub which : Operand
  pub among : Memᴰ which l
  pub holds : test which ≡ true

some_which : (test : Operand → Bool) (l : List Operand) → some_operand test l ≡ true → Holding test l
some_which test [] e = absurd (false≢true e)
some_which test (o ∷ l) e = or_cases (test o) (some_operand test l) e
    (λ h. record { which = o; among = Memᴰ.head refl; holds = h })
    (λ h. let s = some_which test l h in record { which = s.which; among = Memᴰ.tail s.among; holds = s.holds })

module _ (base : ℕ) (n : Netlist) where
  abbrev ds : List Declaration
  ds = n.declarations

  -- a test of the rule holds of the field at place p
  pub data Tested (rule : Rule) (p : ℕ) : Type 0 where
    in_declarations : BrokenAt (declaration_breaks rule) (placed_by declaration_bytes base ds) p → Tested rule p
    in_cells : BrokenAt (cell_breaks rule ds) (placed_by cell_bytes (cells_base base n) n.cells) p → Tested rule p
    in_drives : BrokenAt (drive_breaks rule ds n.cells) (placed_by drive_bytes (drives_base base n) n.drives) p → Tested rule p

  -- from the phrase to the test: an operand
  value_tested : {p : ℕ} {cells : List Cell} {o : Operand} → OperandAt base n p cells o → operand_value_broken o ≡ true → Tested Rule.Value p
  unfolding cell_breaks drive_breaks
  value_tested (of_cell {c = c} at m) h = in_cells (broken_at at (or_right (not (is_width (cell_width c))) (some operand_value_broken m h)))
  value_tested (of_drive at k same) h = in_drives (broken_at at (rw same h))

  missing_tested : {p : ℕ} {cells : List Cell} {o : Operand} → OperandAt base n p cells o → operand_missing ds cells o ≡ true → Tested Rule.Reference p
  unfolding cell_breaks drive_breaks
  missing_tested (of_cell {earlier = earlier} at m) h = in_cells (broken_at at (some (operand_missing ds earlier) m h))
  missing_tested (of_drive {earlier = earlier} {d = d} at k same) h = in_drives (broken_at at (or_right (not_next ds earlier d) (rw (same, k) h)))

  unlike_tested : {p : ℕ} {cells : List Cell} {o : Operand} → OperandAt base n p cells o → operand_unlike ds cells o ≡ true → Tested Rule.Widths p
  unfolding cell_breaks drive_breaks
  unlike_tested (of_cell {earlier = earlier} {c = c} at m) h =
      in_cells (broken_at at (or_left (some_operand (operand_unlike ds earlier) (operands_in (cell_slots c))) _ (some (operand_unlike ds earlier) m h)))
  unlike_tested (of_drive {d = d} at k same) h = in_drives (broken_at at (or_left (operand_unlike ds n.cells d.operand) _ (rw (same, k) h)))

  unlike_cell_lem : {p : ℕ} {earlier : List Cell} {c : Cell} → CellAt base n earlier p c → cell_unlike c ≡ true → Tested Rule.Widths p
  unfolding cell_breaks
  unlike_cell_lem {earlier = earlier} {c = c} at h = in_cells (broken_at at (or_right (some_operand (operand_unlike ds earlier) (operands_in (cell_slots c))) h))

  wide_tested : {p : ℕ} {cells : List Cell} {o : Operand} → OperandAt base n p cells o → NoWidth (operand_width o) → Tested Rule.Value p
  unfolding operand_value_broken
  wide_tested {o = Operand.Constant w v} at h = value_tested at (or_left (not (is_width w)) _ (no_width h))
  wide_tested {o = Operand.Variable w v} at h = value_tested at (no_width h)
  wide_tested {o = Operand.Cell w v} at h = value_tested at (no_width h)

  -- from the phrase to the test
  pub breaks_tested : {rule : Rule} {p : ℕ} → Breaks base n rule p → Tested rule p
  unfolding cell_breaks drive_breaks operand_value_broken operand_missing operand_unlike cell_unlike cell_outside not_next
  breaks_tested (of_declaration at h) = in_declarations (broken_at at (phrase_tested h))
  breaks_tested (cells_width {c = c} at h) = in_cells (broken_at at (or_left (not (is_width (cell_width c))) _ (no_width h)))
  breaks_tested (operands_width at h) = wide_tested at h
  breaks_tested (constant_value {w = w} {v = v} at h) = value_tested at (or_right (not (is_width w)) (not_fits w v h))
  breaks_tested (missing_variable {v = v} at h) = missing_tested at (le-leb (length ds) v h)
  breaks_tested (missing_cell {cells = cells} {c = c} at h) = missing_tested at (le-leb (length cells) c h)
  breaks_tested (beyond_registers {earlier = earlier} {d = d} at h) =
      let beyond : leb (length (registers_from 0 ds)) (length earlier) ≡ true = le-leb (length (registers_from 0 ds)) (length earlier) h in
      in_drives (broken_at at (or_left (not_next ds earlier d) _ (or_left (leb (length (registers_from 0 ds)) (length earlier)) _ beyond)))
  breaks_tested (other_register {earlier = earlier} {d = d} at h) =
      in_drives (broken_at at (or_left (not_next ds earlier d) _ (or_right (leb (length (registers_from 0 ds)) (length earlier)) (unlike d.variable _ h))))
  breaks_tested (unlike_variable {w = w} {v = v} at h) = unlike_tested at (unlike w (variable_width ds v) h)
  breaks_tested (unlike_cell {cells = cells} {w = w} {c = c} at h) = unlike_tested at (unlike w (width_of_cell cells c) h)
  breaks_tested (unlike_register {d = d} at h) =
      in_drives (broken_at at (or_right (operand_unlike ds n.cells d.operand) (unlike (operand_width d.operand) (variable_width ds d.variable) h)))
  breaks_tested (unlike_operand {w = w} {op = op} {a = a} at h) = unlike_cell_lem at (unlike w (one_width op (operand_width a)) h)
  breaks_tested (unlike_each_other {a = a} {b = b} at h) =
      unlike_cell_lem at (or_left (not (eqb (operand_width a) (operand_width b))) _ (unlike (operand_width a) (operand_width b) h))
  breaks_tested (unlike_operands {w = w} {op = op} {a = a} {b = b} at h) =
      unlike_cell_lem at (or_right (not (eqb (operand_width a) (operand_width b))) (unlike w (two_width op (operand_width a)) h))
  breaks_tested (wide_condition {w = w} {c = c} {a = a} at h) =
      unlike_cell_lem at (or_left (not (eqb (operand_width c) 1) || not (eqb w (operand_width a))) _ (or_left (not (eqb (operand_width c) 1)) _ (unlike (operand_width c) 1 h)))
  breaks_tested (unlike_first {w = w} {c = c} {a = a} at h) =
      unlike_cell_lem at (or_left (not (eqb (operand_width c) 1) || not (eqb w (operand_width a))) _ (or_right (not (eqb (operand_width c) 1)) (unlike w (operand_width a) h)))
  breaks_tested (unlike_second {w = w} {c = c} {a = a} {b = b} at h) =
      unlike_cell_lem at (or_right (not (eqb (operand_width c) 1) || not (eqb w (operand_width a))) (unlike w (operand_width b) h))
  breaks_tested (unlike_vector {w = w} {v = v} at h) = unlike_cell_lem at (or_left (not (eqb w (operand_width v))) _ (unlike w (operand_width v) h))
  breaks_tested (wide_bit {w = w} {v = v} {b = b} at h) = unlike_cell_lem at (or_right (not (eqb w (operand_width v))) (unlike (operand_width b) 1 h))
  breaks_tested (wide_fixed {w = w} at h) = unlike_cell_lem at (unlike w 1 h)
  breaks_tested (wide_chosen {w = w} at h) = unlike_cell_lem at (unlike w 1 h)
  breaks_tested (put_outside {k = k} {v = v} at h) = in_cells (broken_at at (le-leb (operand_width v) k h))
  breaks_tested (fixed_outside {k = k} {v = v} at h) = in_cells (broken_at at (le-leb (operand_width v) k h))
  breaks_tested (index_outside {v = v} {i = i} at h) = in_cells (broken_at at (not_so (lt-leb (2 ^ operand_width i) (operand_width v) h)))

  -- from the test to the phrase: an operand
  value_breaks : {p : ℕ} {cells : List Cell} (o : Operand) → OperandAt base n p cells o → operand_value_broken o ≡ true → Breaks base n Rule.Value p
  unfolding operand_value_broken
  value_breaks (Operand.Constant w v) at e =
      or_cases (not (is_width w)) (not (fits_width w v)) e (λ h. operands_width at (width_no w h)) (λ h. constant_value at (fits_not w v h))
  value_breaks (Operand.Variable w v) at e = operands_width at (width_no w e)
  value_breaks (Operand.Cell w v) at e = operands_width at (width_no w e)

  missing_breaks : {p : ℕ} {cells : List Cell} (o : Operand) → OperandAt base n p cells o → operand_missing ds cells o ≡ true → Breaks base n Rule.Reference p
  unfolding operand_missing
  missing_breaks (Operand.Constant w v) at e = absurd (false≢true e)
  missing_breaks (Operand.Variable w v) at e = missing_variable at (leb-true (length ds) v e)
  missing_breaks {cells = cells} (Operand.Cell w v) at e = missing_cell at (leb-true (length cells) v e)

  unlike_breaks : {p : ℕ} {cells : List Cell} (o : Operand) → OperandAt base n p cells o → operand_unlike ds cells o ≡ true → Breaks base n Rule.Widths p
  unfolding operand_unlike
  unlike_breaks (Operand.Constant w v) at e = absurd (false≢true e)
  unlike_breaks (Operand.Variable w v) at e = unlike_variable at (unlike_ne w (variable_width ds v) e)
  unlike_breaks {cells = cells} (Operand.Cell w v) at e = unlike_cell at (unlike_ne w (width_of_cell cells v) e)

  -- from the test to the phrase: a cell
  cell_unlike_lem : {earlier : List Cell} {p : ℕ} (c : Cell) → CellAt base n earlier p c → cell_unlike c ≡ true → Breaks base n Rule.Widths p
  unfolding cell_unlike
  cell_unlike_lem (Cell.One op w a) at e = unlike_operand at (unlike_ne w (one_width op (operand_width a)) e)
  cell_unlike_lem (Cell.Two op w a b) at e = or_cases (not (eqb (operand_width a) (operand_width b))) (not (eqb w (two_width op (operand_width a)))) e
      (λ h. unlike_each_other at (unlike_ne (operand_width a) (operand_width b) h))
      (λ h. unlike_operands at (unlike_ne w (two_width op (operand_width a)) h))
  cell_unlike_lem (Cell.Mux w c a b) at e = or_cases (not (eqb (operand_width c) 1) || not (eqb w (operand_width a))) (not (eqb w (operand_width b))) e
      (λ k. or_cases (not (eqb (operand_width c) 1)) (not (eqb w (operand_width a))) k
      (λ h. wide_condition at (unlike_ne (operand_width c) 1 h))
      (λ h. unlike_first at (unlike_ne w (operand_width a) h)))
      (λ h. unlike_second at (unlike_ne w (operand_width b) h))
  cell_unlike_lem (Cell.Put w v k b) at e = or_cases (not (eqb w (operand_width v))) (not (eqb (operand_width b) 1)) e
      (λ h. unlike_vector at (unlike_ne w (operand_width v) h))
      (λ h. wide_bit at (unlike_ne (operand_width b) 1 h))
  cell_unlike_lem (Cell.FixedBit w v k) at e = wide_fixed at (unlike_ne w 1 e)
  cell_unlike_lem (Cell.ChosenBit w v i) at e = wide_chosen at (unlike_ne w 1 e)

  cell_outside_lem : {earlier : List Cell} {p : ℕ} (c : Cell) → CellAt base n earlier p c → cell_outside c ≡ true → Breaks base n Rule.BitNumber p
  unfolding cell_outside
  cell_outside_lem (Cell.One op w a) at e = absurd (false≢true e)
  cell_outside_lem (Cell.Two op w a b) at e = absurd (false≢true e)
  cell_outside_lem (Cell.Mux w c a b) at e = absurd (false≢true e)
  cell_outside_lem (Cell.Put w v k b) at e = put_outside at (leb-true (operand_width v) k e)
  cell_outside_lem (Cell.FixedBit w v k) at e = fixed_outside at (leb-true (operand_width v) k e)
  cell_outside_lem (Cell.ChosenBit w v i) at e = index_outside at (leb-false (2 ^ operand_width i) (operand_width v) (not-true _ e))

  cell_breaks_lem : (rule : Rule) {earlier : List Cell} {p : ℕ} (c : Cell) → CellAt base n earlier p c → cell_breaks rule ds earlier c ≡ true → Breaks base n rule p
  unfolding cell_breaks
  cell_breaks_lem Rule.Value c at e = or_cases (not (is_width (cell_width c))) (some_operand operand_value_broken (operands_in (cell_slots c))) e
      (λ h. cells_width at (width_no (cell_width c) h))
      (λ h. let s = some_which operand_value_broken (operands_in (cell_slots c)) h in value_breaks s.which (of_cell at s.among) s.holds)
  cell_breaks_lem Rule.Reference {earlier} c at e =
      let s = some_which (operand_missing ds earlier) (operands_in (cell_slots c)) e in missing_breaks s.which (of_cell at s.among) s.holds
  cell_breaks_lem Rule.Widths {earlier} c at e = or_cases (some_operand (operand_unlike ds earlier) (operands_in (cell_slots c))) (cell_unlike c) e
      (λ h. let s = some_which (operand_unlike ds earlier) (operands_in (cell_slots c)) h in unlike_breaks s.which (of_cell at s.among) s.holds)
      (λ h. cell_unlike_lem c at h)
  cell_breaks_lem Rule.BitNumber c at e = cell_outside_lem c at e
  cell_breaks_lem Rule.FileLength c at e = absurd (false≢true e)
  cell_breaks_lem Rule.Form c at e = absurd (false≢true e)
  cell_breaks_lem Rule.Name c at e = absurd (false≢true e)
  cell_breaks_lem Rule.Count c at e = absurd (false≢true e)
  cell_breaks_lem Rule.BothKinds c at e = absurd (false≢true e)
  cell_breaks_lem Rule.TwoProcesses c at e = absurd (false≢true e)
  cell_breaks_lem Rule.ReadElsewhere c at e = absurd (false≢true e)
  cell_breaks_lem Rule.Cells c at e = absurd (false≢true e)
  cell_breaks_lem Rule.Buffer c at e = absurd (false≢true e)
  cell_breaks_lem Rule.Row c at e = absurd (false≢true e)

  -- from the test to the phrase: a drive
  drive_breaks_lem : (rule : Rule) {earlier : List Drive} {p : ℕ} (d : Drive) → DriveAt base n earlier p d →
      drive_breaks rule ds n.cells earlier d ≡ true → Breaks base n rule p
  unfolding drive_breaks not_next
  drive_breaks_lem Rule.Value d at e = value_breaks d.operand (of_drive at refl refl) e
  drive_breaks_lem Rule.Reference {earlier} d at e = or_cases (not_next ds earlier d) (operand_missing ds n.cells d.operand) e
      (λ k. or_cases (leb (length (registers_from 0 ds)) (length earlier)) (not (eqb d.variable (get_or (registers_from 0 ds) (length earlier) 0))) k
      (λ h. beyond_registers at (leb-true (length (registers_from 0 ds)) (length earlier) h))
      (λ h. other_register at (unlike_ne d.variable (get_or (registers_from 0 ds) (length earlier) 0) h)))
      (λ h. missing_breaks d.operand (of_drive at refl refl) h)
  drive_breaks_lem Rule.Widths d at e = or_cases (operand_unlike ds n.cells d.operand) (not (eqb (operand_width d.operand) (variable_width ds d.variable))) e
      (λ h. unlike_breaks d.operand (of_drive at refl refl) h)
      (λ h. unlike_register at (unlike_ne (operand_width d.operand) (variable_width ds d.variable) h))
  drive_breaks_lem Rule.FileLength d at e = absurd (false≢true e)
  drive_breaks_lem Rule.Form d at e = absurd (false≢true e)
  drive_breaks_lem Rule.Name d at e = absurd (false≢true e)
  drive_breaks_lem Rule.Count d at e = absurd (false≢true e)
  drive_breaks_lem Rule.BitNumber d at e = absurd (false≢true e)
  drive_breaks_lem Rule.BothKinds d at e = absurd (false≢true e)
  drive_breaks_lem Rule.TwoProcesses d at e = absurd (false≢true e)
  drive_breaks_lem Rule.ReadElsewhere d at e = absurd (false≢true e)
  drive_breaks_lem Rule.Cells d at e = absurd (false≢true e)
  drive_breaks_lem Rule.Buffer d at e = absurd (false≢true e)
  drive_breaks_lem Rule.Row d at e = absurd (false≢true e)

  -- from the test to the phrase
  pub tested_breaks : {rule : Rule} {p : ℕ} → Tested rule p → Breaks base n rule p
  tested_breaks {rule} (in_declarations (broken_at {before} {x = d} at e)) = of_declaration at (tested_phrase rule before d e)
  tested_breaks {rule} (in_cells (broken_at {x = c} at e)) = cell_breaks_lem rule c at e
  tested_breaks {rule} (in_drives (broken_at {x = d} at e)) = drive_breaks_lem rule d at e
