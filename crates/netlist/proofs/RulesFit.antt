-- Rules 3 to 8 and 12 on lists imply that every number fits its bytes, and that the bytes are few: so refusals 1 and 2 have nothing to add.
-- By what each rule gives of one declaration, cell or drive, and the counts that rules 5, 6 and 12 bound.
use Rattle.std.specs.Prelude.{Some, None}
use mathlib.Core.Path.{◌≡◌, refl, sym, ◌∙◌}
use mathlib.Core.Bool.{Bool, true, false, cond, not, ◌&&◌, true≢false}
use mathlib.Core.List.{List, [], ◌∷◌, ◌++◌, Memᴰ}
use Prim.Native.Nat.{ℕ, zero, suc, ◌+◌, ◌*◌, ◌^◌, ◌≤◌, ◌<◌}
use native.Mathlib.Decide.{dec_lt}
use native.Mathlib.Nat.{lt_of_lt_of_le}
use native.Mathlib.Omega.{arith}
use lib.Dec.{lit<, eqb, leb, ltb}
use lib.ListN.{length, get_or, length-append}
use lib.Pow.{pow_mono}
use borrow.Author.Tests.{leb-true, leb-false, ltb-true, ltb-false, eqb-true, not-false}
use Rattle.words.specs.Limits.{greatest_width}
use Rattle.words.specs.Widths.{is_width, fits_width}
use Rattle.tagged.specs.Sorts.{tag_of}
use Rattle.tagged.specs.Fields.{all_bytes_of}
use Rattle.tagged.specs.Names.{is_digit, is_name_byte, all_name_bytes, is_name_length, is_name}
use Rattle.tagged.specs.Declarations.{Declaration, input, register, name_of, is_register, declaration_bytes, value_broken, declaration_breaks}
use Rattle.tagged.specs.declared.sorts.Sort.TheVariants as Sort
use Rattle.tagged.specs.declared.answers.Rule.TheVariants as Rule
use Rattle.tagged.specs.Answers.{acceptance, Found}
use Rattle.tagged.proofs.NameLaws.{byte_high}
use Rattle.tagged.proofs.ListBytes.{field_length}
use Rattle.netlist.specs.declared.Operand.{Operand}
use Rattle.netlist.specs.declared.Cell.{Cell}
use Rattle.netlist.specs.declared.Drive.{Drive}
use Rattle.netlist.specs.Lists.{Netlist, operand_width, cell_width, cell_slots, operands_in}
use Rattle.netlist.specs.Form.{cell_bytes, drive_bytes, netlist_payload, netlist_bytes}
use Rattle.netlist.specs.Rules.{some_operand, operand_value_broken, operand_missing, cell_outside, cell_breaks, registers_from, not_next, drive_breaks, whole_broken, cells_base, drives_base}
use Rattle.netlist.specs.Answer.{lists_answer}
use Rattle.netlist.specs.Fits.{Every, FitsByte, FitsFour, FitsOperand, FitsCell, FitsDrive, FitsDeclaration, FitsBytes, WithoutRefusal}
use Rattle.netlist.proofs.CellBytes.{cell_length, drive_length}
use Rattle.tagged.proofs.TestLaws.{both, neither}
use Rattle.tagged.proofs.AllBytesLaws.{all_length}
use Rattle.tagged.proofs.PassLaws.{nowhere_member, nowhere_length}
use Rattle.tagged.proofs.DeclarationSizes.{payload_length, passed_name, variables_few, declarations_length}
use Rattle.netlist.proofs.EveryLaws.{member_every}
use Rattle.netlist.proofs.PassedRules.{RulesPass, accepted_rules}

-- widths, values and names

width_fits : (w : ℕ) → not (is_width w) ≡ false → w ≤ 32
width_fits w e = leb-true w greatest_width (both (leb 1 w) (leb w greatest_width) (not-false (is_width w) e)).1

value_fits : (w v : ℕ) → w ≤ 32 → not (fits_width w v) ≡ false → FitsFour v
value_fits w v h e = lt_of_lt_of_le (ltb-true v (2 ^ w) (not-false (fits_width w v) e)) (pow_mono h)

byte_fits : (b : ℕ) → is_name_byte b ≡ true → FitsByte b
byte_fits b is = go (dec_lt b 0x7B)
  where
    go : Dec (b < 0x7B) → FitsByte b
    go (yes h) = omega arith
    go (no h) = absurd (true≢false (sym is ∙ byte_high b (omega arith)))

bytes_fit : (l : List ℕ) → all_name_bytes l ≡ true → Every FitsByte l
unfolding all_name_bytes
bytes_fit [] e = tt
bytes_fit (b ∷ l) e = let p = both (is_name_byte b) (all_name_bytes l) e in (byte_fits b p.0, bytes_fit l p.1)

name_fits : (l : List ℕ) → is_name l ≡ true → Every FitsByte l
unfolding is_name
name_fits l e = bytes_fit l (both (is_name_length (length l) && not (is_digit (get_or l 0 0))) (all_name_bytes l) e).1

-- declarations

-- rules 3 and 4 on one declaration
declaration_fits : (d : Declaration) → value_broken d ≡ false → is_name (name_of d) ≡ true → FitsDeclaration d
unfolding value_broken
declaration_fits (input w name) e is =
    let h = width_fits w e in
    record { width = omega arith; initial = lit< tt; name = name_fits name is; short = omega (arith, payload_length (input w name) is) }
declaration_fits (register w v name) e is =
    let p = neither (not (is_width w)) (not (fits_width w v)) e in
    let h = width_fits w p.0 in
    record { width = omega arith; initial = value_fits w v h p.1; name = name_fits name is; short = omega (arith, payload_length (register w v name) is) }

-- operands

-- rule 3 on an operand, and rule 6
operand_fits_rules : (ds : List Declaration) (cells : List Cell) (o : Operand) → length ds ≤ 64 → length cells ≤ 1024
    → operand_value_broken o ≡ false → operand_missing ds cells o ≡ false → FitsOperand o
unfolding operand_value_broken operand_missing
operand_fits_rules ds cells (Operand.Constant w n) h k e f =
    let p = neither (not (is_width w)) (not (fits_width w n)) e in
    let small = width_fits w p.0 in
    (omega arith, value_fits w n small p.1)
operand_fits_rules ds cells (Operand.Variable w n) h k e f =
    let small = width_fits w e in
    let below = leb-false (length ds) n f in
    (omega arith, omega arith)
operand_fits_rules ds cells (Operand.Cell w n) h k e f =
    let small = width_fits w e in
    let below = leb-false (length cells) n f in
    (omega arith, omega arith)

operands_pass : (test : Operand → Bool) (l : List Operand) → some_operand test l ≡ false → {o : Operand} → Memᴰ o l → test o ≡ false
operands_pass test (a ∷ l) e (Memᴰ.head same) = rw same (neither (test a) (some_operand test l) e).0
operands_pass test (a ∷ l) e (Memᴰ.tail m) = operands_pass test l (neither (test a) (some_operand test l) e).1 m
operands_pass test [] e {o = o} x'' = elim x'' [ ]

-- cells

-- a cell whose operands fit, with rule 8
cell_fits_rules : (c : Cell) → FitsByte (cell_width c) → Every FitsOperand (operands_in (cell_slots c)) → cell_outside c ≡ false → FitsCell c
unfolding cell_outside
cell_fits_rules (Cell.One op w a) h k e = (h, k)
cell_fits_rules (Cell.Two op w a b) h k e = (h, k)
cell_fits_rules (Cell.Mux w c a b) h k e = (h, k)
cell_fits_rules (Cell.Put w v i b) h k e = (h, (k.0, ((let below = leb-false (operand_width v) i e in let wide = k.0.0 in omega arith), k.1)))
cell_fits_rules (Cell.FixedBit w v i) h k e = (h, (k.0, ((let below = leb-false (operand_width v) i e in let wide = k.0.0 in omega arith), tt)))
cell_fits_rules (Cell.ChosenBit w v i) h k e = (h, k)

-- rules 3, 6 and 8 on a cell after others
cell_after_fits : (ds : List Declaration) (earlier : List Cell) (c : Cell) → length ds ≤ 64 → length earlier ≤ 1024
    → cell_breaks Rule.Value ds earlier c ≡ false → cell_breaks Rule.Reference ds earlier c ≡ false → cell_breaks Rule.BitNumber ds earlier c ≡ false → FitsCell c
unfolding cell_breaks
cell_after_fits ds earlier c h k value refers inside =
    let operands = operands_in (cell_slots c) in
    let p = neither (not (is_width (cell_width c))) (some_operand operand_value_broken operands) value in
    let wide = width_fits (cell_width c) p.0 in
    cell_fits_rules c (omega arith)
    (member_every FitsOperand operands (λ o m. operand_fits_rules ds earlier o h k
    (operands_pass operand_value_broken operands p.1 m) (operands_pass (operand_missing ds earlier) operands refers m))) inside

pub cells_count : (n : Netlist) → whole_broken Rule.Cells n ≡ None → length n.cells ≤ 1024
unfolding whole_broken
cells_count n e = go (ltb 1024 (length n.cells)) refl e
  where
    go : (t : Bool) → ltb 1024 (length n.cells) ≡ t → cond {A = Found} t (Some 0) None ≡ None → length n.cells ≤ 1024
    go true p q = absurd (let z : ◌≡◌ {A = ℕ} 0 1 = cc in omega arith)
    go false p q = ltb-false 1024 (length n.cells) p

-- drives

-- the registers are variables, and no more than those
registers_below : (v : ℕ) (ds : List Declaration) (i : ℕ) → get_or (registers_from v ds) i 0 ≤ v + length ds
unfolding registers_from
registers_below v [] i = omega arith
registers_below v (d ∷ ds) i = go (is_register d) i (λ j. registers_below (v + 1) ds j)
  where
    go : (t : Bool) (i : ℕ) → ((j : ℕ) → get_or (registers_from (v + 1) ds) j 0 ≤ v + 1 + length ds)
        → get_or (cond t (v ∷ registers_from (v + 1) ds) (registers_from (v + 1) ds)) i 0 ≤ v + suc (length ds)
    go true zero later = omega arith
    go true (suc i) later = omega (arith, later i)
    go false i later = omega (arith, later i)

pub registers_count : (v : ℕ) (ds : List Declaration) → length (registers_from v ds) ≤ length ds
unfolding registers_from
registers_count v [] = omega arith
registers_count v (d ∷ ds) = go (is_register d) (registers_count (v + 1) ds)
  where
    go : (t : Bool) → length (registers_from (v + 1) ds) ≤ length ds → length (cond t (v ∷ registers_from (v + 1) ds) (registers_from (v + 1) ds)) ≤ suc (length ds)
    go true later = omega arith
    go false later = omega arith

-- rules 3 and 6 on a drive after others
drive_after_fits : (ds : List Declaration) (cells : List Cell) (earlier : List Drive) (d : Drive) → length ds ≤ 64 → length cells ≤ 1024
    → drive_breaks Rule.Value ds cells earlier d ≡ false → drive_breaks Rule.Reference ds cells earlier d ≡ false → FitsDrive d
unfolding drive_breaks not_next
drive_after_fits ds cells earlier d h k value refers =
    let registers = registers_from 0 ds in
    let p = neither (not_next ds earlier d) (operand_missing ds cells d.operand) refers in
    let q = neither (leb (length registers) (length earlier)) (not (eqb d.variable (get_or registers (length earlier) 0))) p.0 in
    let is = eqb-true d.variable (get_or registers (length earlier) 0) (not-false (eqb d.variable (get_or registers (length earlier) 0)) q.1) in
    (omega (arith, registers_below 0 ds (length earlier)), operand_fits_rules ds cells d.operand h k value p.1)

-- the bytes of a netlist with at most 64 declarations of at most 32 bytes, 1,024 cells of at most 22 and 64 drives of 10
pub payload_few : (n : Netlist) → length n.declarations ≤ 64 → length n.cells ≤ 1024 → length n.drives ≤ 64
    → length (all_bytes_of declaration_bytes n.declarations) ≤ length n.declarations * 32 → length (netlist_payload n) ≤ 25216
unfolding netlist_payload
payload_few n hd hc hv ld =
    let ds = all_bytes_of declaration_bytes n.declarations in
    let cs = all_bytes_of cell_bytes n.cells in
    let vs = all_bytes_of drive_bytes n.drives in
    let two : length (ds ++ cs) ≡ length ds + length cs = length-append ds cs in
    let all : length (ds ++ cs ++ vs) ≡ length (ds ++ cs) + length vs = length-append (ds ++ cs) vs in
    let lc : length cs ≤ length n.cells * 22 = all_length cell_bytes 22 n.cells (λ c m. cell_length c) in
    let lv : length vs ≤ length n.drives * 10 = all_length drive_bytes 10 n.drives (λ d m. omega (arith, drive_length d)) in
    omega arith

-- each element passes each rule after those before it, so it fits
module _ (base : ℕ) (n : Netlist) (p : RulesPass base n) where
  abbrev ds : List Declaration
  ds = n.declarations

  few_declarations : length ds ≤ 64
  few_declarations = variables_few base ds p.count.declarations

  few_cells : length n.cells ≤ 1024
  few_cells = cells_count n p.cells.whole

  few_drives : length n.drives ≤ length (registers_from 0 ds)
  unfolding drive_breaks not_next
  few_drives =
      let registers = registers_from 0 ds in
      nowhere_length (drive_breaks Rule.Reference ds n.cells) drive_bytes (length registers)
      (λ before d e. leb-false (length registers) (length before)
      (neither (leb (length registers) (length before)) (not (eqb d.variable (get_or registers (length before) 0)))
      (neither (not_next ds before d) (operand_missing ds n.cells d.operand) e).0).0) (drives_base base n) n.drives p.reference.drives

  declarations_fit : Every FitsDeclaration ds
  unfolding declaration_breaks
  declarations_fit = member_every FitsDeclaration ds (λ d m.
      let v = nowhere_member (declaration_breaks Rule.Value) declaration_bytes base p.value.declarations m in
      let a = nowhere_member (declaration_breaks Rule.Name) declaration_bytes base p.name.declarations m in
      declaration_fits d v.passes (passed_name a.before d a.passes))

  -- the tests of rules 3 and 8 on a cell are the same after any others
  cells_fit : Every FitsCell n.cells
  unfolding cell_breaks
  cells_fit = member_every FitsCell n.cells (λ c m.
      let v = nowhere_member (cell_breaks Rule.Value ds) cell_bytes (cells_base base n) p.value.cells m in
      let r = nowhere_member (cell_breaks Rule.Reference ds) cell_bytes (cells_base base n) p.reference.cells m in
      let b = nowhere_member (cell_breaks Rule.BitNumber ds) cell_bytes (cells_base base n) p.bits.cells m in
      cell_after_fits ds r.before c few_declarations (omega (arith, r.fewer, few_cells)) v.passes r.passes b.passes)

  drives_fit : Every FitsDrive n.drives
  unfolding drive_breaks
  drives_fit = member_every FitsDrive n.drives (λ d m.
      let v = nowhere_member (drive_breaks Rule.Value ds n.cells) drive_bytes (drives_base base n) p.value.drives m in
      let r = nowhere_member (drive_breaks Rule.Reference ds n.cells) drive_bytes (drives_base base n) p.reference.drives m in
      drive_after_fits ds n.cells r.before d few_declarations few_cells v.passes r.passes)

-- lists that no rule refuses fit their bytes, which are at most 25,219
pub rules_fit : (base : ℕ) (n : Netlist) → lists_answer base n ≡ acceptance → FitsBytes n × (length (netlist_bytes n) ≤ 25219)
unfolding netlist_bytes
rules_fit base n e =
    let p = accepted_rules base n e in
    let few = payload_few n (few_declarations base n p) (few_cells base n p)
    (omega (arith, few_drives base n p, registers_count 0 n.declarations, few_declarations base n p))
    (declarations_length base n.declarations p.name.declarations) in
    let long = field_length (tag_of Sort.Netlist) (netlist_payload n) in
    (record { declarations = declarations_fit base n p; cells = cells_fit base n p; drives = drives_fit base n p; short = omega arith }, omega arith)

-- so a netlist that no rule on its lists refuses is one without refusal
pub lists_accepted : (n : Netlist) → lists_answer 3 n ≡ acceptance → WithoutRefusal n
lists_accepted n e = let f = rules_fit 3 n e in record { fits = f.0; short = omega (arith, f.1); accepted = e }
