-- Cases on either side of each line of netlists and their runs: one table, under one theorem, which antt computes. Assumes nothing.
-- 1,024 and 1,025 cells, and the 3,276 that a file can hold, are too long to compute here.
use mathlib.Core.Path.{◌≡◌, refl}
use mathlib.Core.Bool.{true}
use mathlib.Core.List.{List, [], ◌∷◌, ◌++◌}
use Prim.Native.Nat.{ℕ, ◌+◌, ◌-◌, ◌*◌}
use lib.ListN.{take, set, replicate}
use Rattle.words.proofs.Cases.{Case, case, passes}
use Rattle.words.specs.Bits as bits
use Rattle.words.specs.Operators as operators
use Rattle.words.specs.declared.OneOperand.TheVariants as one
use Rattle.words.specs.declared.TwoOperand.TheVariants as two
use Rattle.tagged.specs.Answers.{number_of}
use Rattle.tagged.specs.Bytes as bytes
use Rattle.tagged.specs.Bytes.{four_bytes}
use Rattle.tagged.specs.Sorts as sorts
use Rattle.tagged.specs.Fields as fields
use Rattle.tagged.specs.Fields.{field_bytes}
use Rattle.tagged.specs.Files as files
use Rattle.tagged.specs.Names as names
use Rattle.tagged.specs.Refusals as refusals
use Rattle.tagged.specs.Rows as rows
use Rattle.tagged.specs.Runs as runs
use Rattle.tagged.specs.Declarations as declarations
use Rattle.tagged.specs.Declarations.{Declaration, input, register}
use Rattle.tagged.proofs.Cases.{answering}
use Rattle.netlist.specs.declared.Operand.{Operand}
use Rattle.netlist.specs.declared.Cell.{Cell}
use Rattle.netlist.specs.declared.Drive.{Drive}
use Rattle.netlist.specs.Form as form
use Rattle.netlist.specs.Form.{netlist_bytes}
use Rattle.netlist.specs.Reading as reading
use Rattle.netlist.specs.Rules as rules
use Rattle.netlist.specs.Cycle as cycle
use Rattle.netlist.specs.Answer.{lists_answer, netlist_answer}
use Rattle.netlist.specs.Run.{run_answer, run_leaves}

-- a refusal as its number in thousands and its place, acceptance as 0
abbrev answer : List ℕ → ℕ
answer file = answering (netlist_answer file)

-- the outer payload of "One case whole": its fields stand at 3, 9, 18, 34 and 56 in the file, which ends at 66
abbrev counter_payload : List ℕ
counter_payload =
    0x02 ∷ 0x00 ∷ 0x03 ∷ 0x01 ∷ 0x65 ∷ 0x6E
    ∷ 0x03 ∷ 0x00 ∷ 0x06 ∷ 0x04 ∷ 0x00 ∷ 0x00 ∷ 0x00 ∷ 0x00 ∷ 0x6E
    ∷ 0x34 ∷ 0x00 ∷ 0x0D ∷ 0x04 ∷ 0x01 ∷ 0x04 ∷ 0x00 ∷ 0x00 ∷ 0x00 ∷ 0x01 ∷ 0x00 ∷ 0x04 ∷ 0x00 ∷ 0x00 ∷ 0x00 ∷ 0x01
    ∷ 0x36 ∷ 0x00 ∷ 0x13 ∷ 0x04 ∷ 0x01 ∷ 0x01 ∷ 0x00 ∷ 0x00 ∷ 0x00 ∷ 0x00 ∷ 0x02 ∷ 0x04 ∷ 0x00 ∷ 0x00 ∷ 0x00 ∷ 0x00 ∷ 0x01 ∷ 0x04 ∷ 0x00 ∷ 0x00 ∷ 0x00 ∷ 0x01
    ∷ 0x40 ∷ 0x00 ∷ 0x07 ∷ 0x01 ∷ 0x02 ∷ 0x04 ∷ 0x00 ∷ 0x00 ∷ 0x00 ∷ 0x01 ∷ []

-- a file with this outer payload, and its outer length
abbrev around : List ℕ → List ℕ
around payload = field_bytes 0x81 payload

abbrev counter : List ℕ
counter = around counter_payload

-- the counter's file up to this place, with the outer length of what is left
abbrev up_to : ℕ → ℕ
up_to place = answer (around (take (place - 3) counter_payload))

-- input en (1 bit) and register n (4 bits), which take the places 3 to 17; then cells, and n keeps its value
abbrev enable : Operand
enable = Operand.Variable 1 0

abbrev count : Operand
count = Operand.Variable 4 1

abbrev drive : ℕ → Operand → Drive
drive variable operand = record { variable = variable; operand = operand }

abbrev with_cells : List Cell → ℕ
with_cells cells = answer (netlist_bytes (record {
  declarations = input 1 (0x65 ∷ 0x6E ∷ []) ∷ register 4 0 (0x6E ∷ []) ∷ [];
  cells = cells;
  drives = drive 1 count ∷ [];
}))

-- the file of a netlist without cells
abbrev with_drives : List Declaration → List Drive → List ℕ
with_drives ds drives = netlist_bytes (record { declarations = ds; cells = []; drives = drives })

-- two registers of 4 bits, which take the places 3 to 20; each drive takes ten bytes
abbrev pair : List Declaration
pair = register 4 0 (0x61 ∷ []) ∷ register 4 0 (0x62 ∷ []) ∷ []

abbrev first : Operand
first = Operand.Variable 4 0

abbrev second : Operand
second = Operand.Variable 4 1

-- each register takes the value of the other
abbrev exchange : List ℕ
exchange = with_drives pair (drive 0 second ∷ drive 1 first ∷ [])

-- a row of two numbers; bytes as one number, after a 1 that tells how many they are
abbrev row : ℕ → ℕ → List ℕ
row a b = four_bytes a ++ four_bytes b

abbrev packed_from : ℕ → List ℕ → ℕ
packed_from k [] = k
packed_from k (b ∷ l) = packed_from (k * 256 + b) l

abbrev packed : List ℕ → ℕ
packed l = packed_from 1 l

-- the answer of a run, and what it leaves of a row of so many bytes of AA
abbrev running : List ℕ → List ℕ → ℕ → ℕ
running file row room = answering (run_answer file row room)

abbrev leaving : List ℕ → List ℕ → ℕ → ℕ
leaving file row room = packed (run_leaves file row (replicate room 0xAA))

pub table : List Case
table =
    -- refusal 1: shorter than 3 bytes, one byte less or more than the outer length; another outer tag is 2
    case (answer []) 1000
    ∷ case (answer (0x81 ∷ [])) 1000
    ∷ case (answer (0x81 ∷ 0 ∷ [])) 1000
    ∷ case (answer (0x81 ∷ 0 ∷ 0 ∷ [])) 0
    ∷ case (answer (0x81 ∷ 0 ∷ 1 ∷ [])) 1000
    ∷ case (answer (0x81 ∷ 0 ∷ 0 ∷ 0 ∷ [])) 1000
    ∷ case (answer (0x01 ∷ 0 ∷ 0 ∷ [])) 2000
    ∷ case (answer (take 65 counter)) 1000
    ∷ case (answer counter) 0
    ∷ case (answer (counter ++ (0 ∷ []))) 1000
    -- cut in front of every header, after each of its bytes, and in the last payload; a byte more
    ∷ case (up_to 3) 0
    ∷ case (up_to 4) 2003
    ∷ case (up_to 5) 2003
    ∷ case (up_to 6) 2003
    ∷ case (up_to 9) 0
    ∷ case (up_to 10) 2009
    ∷ case (up_to 11) 2009
    ∷ case (up_to 12) 2009
    ∷ case (up_to 18) 6000
    ∷ case (up_to 19) 2018
    ∷ case (up_to 20) 2018
    ∷ case (up_to 21) 2018
    ∷ case (up_to 34) 6000
    ∷ case (up_to 35) 2034
    ∷ case (up_to 36) 2034
    ∷ case (up_to 37) 2034
    ∷ case (up_to 56) 6000
    ∷ case (up_to 57) 2056
    ∷ case (up_to 58) 2056
    ∷ case (up_to 59) 2056
    ∷ case (up_to 65) 2056
    ∷ case (up_to 66) 0
    ∷ case (answer (around (counter_payload ++ (0 ∷ [])))) 2066
    -- the drive's operand is a variable, a cell, of no kind
    ∷ case (answer (around (set counter_payload 57 1))) 0
    ∷ case (answer (around (set counter_payload 57 2))) 0
    ∷ case (answer (around (set counter_payload 57 3))) 2056
    -- an operand names an earlier cell, its own, a later one; the number is compared whole
    ∷ case (with_cells (Cell.One one.Not 4 count ∷ Cell.One one.Not 4 (Operand.Cell 4 0) ∷ [])) 0
    ∷ case (with_cells (Cell.One one.Not 4 count ∷ Cell.One one.Not 4 (Operand.Cell 4 1) ∷ [])) 6028
    ∷ case (with_cells (Cell.One one.Not 4 (Operand.Cell 4 0) ∷ [])) 6018
    ∷ case (with_cells (Cell.One one.Not 4 (Operand.Cell 4 1) ∷ Cell.One one.Not 4 count ∷ [])) 6018
    ∷ case (with_cells (Cell.One one.Not 4 count ∷ Cell.One one.Not 4 (Operand.Cell 4 0x8000_0000) ∷ [])) 6028
    ∷ case (with_cells (Cell.One one.Not 4 count ∷ Cell.One one.Not 4 (Operand.Cell 4 0xffff_ffff) ∷ [])) 6028
    ∷ case (with_cells (Cell.One one.Not 4 (Operand.Variable 4 1) ∷ [])) 0
    ∷ case (with_cells (Cell.One one.Not 4 (Operand.Variable 4 2) ∷ [])) 6018
    ∷ case (with_cells (Cell.One one.Not 4 (Operand.Variable 4 0x8000_0001) ∷ [])) 6018
    ∷ case (with_cells (Cell.One one.Not 4 (Operand.Variable 4 257) ∷ [])) 6018
    -- a bit number in a vector of 4; an index of 2 bits and of 3
    ∷ case (with_cells (Cell.FixedBit 1 count 3 ∷ [])) 0
    ∷ case (with_cells (Cell.FixedBit 1 count 4 ∷ [])) 8018
    ∷ case (with_cells (Cell.FixedBit 1 count 255 ∷ [])) 8018
    ∷ case (with_cells (Cell.Put 4 count 3 enable ∷ [])) 0
    ∷ case (with_cells (Cell.Put 4 count 4 enable ∷ [])) 8018
    ∷ case (with_cells (Cell.Put 4 count 255 enable ∷ [])) 8018
    ∷ case (with_cells (Cell.ChosenBit 1 count (Operand.Constant 2 3) ∷ [])) 0
    ∷ case (with_cells (Cell.ChosenBit 1 count (Operand.Constant 3 0) ∷ [])) 8018
    -- widths of 0, 1, 32 and 33: of a declaration, of a cell, of an operand, of a drive's operand
    ∷ case (answer (with_drives (input 0 (0x61 ∷ []) ∷ []) [])) 3003
    ∷ case (answer (with_drives (input 1 (0x61 ∷ []) ∷ []) [])) 0
    ∷ case (answer (with_drives (input 32 (0x61 ∷ []) ∷ []) [])) 0
    ∷ case (answer (with_drives (input 33 (0x61 ∷ []) ∷ []) [])) 3003
    ∷ case (with_cells (Cell.One one.Not 0 (Operand.Constant 1 0) ∷ [])) 3018
    ∷ case (with_cells (Cell.One one.Not 1 (Operand.Constant 1 0) ∷ [])) 0
    ∷ case (with_cells (Cell.One one.Not 32 (Operand.Constant 32 0) ∷ [])) 0
    ∷ case (with_cells (Cell.One one.Not 33 (Operand.Constant 32 0) ∷ [])) 3018
    ∷ case (with_cells (Cell.Two two.Equal 1 (Operand.Constant 0 0) (Operand.Constant 0 0) ∷ [])) 3018
    ∷ case (with_cells (Cell.Two two.Equal 1 (Operand.Constant 1 0) (Operand.Constant 1 0) ∷ [])) 0
    ∷ case (with_cells (Cell.Two two.Equal 1 (Operand.Constant 32 0) (Operand.Constant 32 0) ∷ [])) 0
    ∷ case (with_cells (Cell.Two two.Equal 1 (Operand.Constant 33 0) (Operand.Constant 33 0) ∷ [])) 3018
    ∷ case (answer (with_drives (register 1 0 (0x61 ∷ []) ∷ []) (drive 0 (Operand.Constant 0 0) ∷ []))) 3012
    ∷ case (answer (with_drives (register 1 0 (0x61 ∷ []) ∷ []) (drive 0 (Operand.Constant 1 0) ∷ []))) 0
    ∷ case (answer (with_drives (register 32 0 (0x61 ∷ []) ∷ []) (drive 0 (Operand.Constant 32 0) ∷ []))) 0
    ∷ case (answer (with_drives (register 32 0 (0x61 ∷ []) ∷ []) (drive 0 (Operand.Constant 33 0) ∷ []))) 3012
    -- a constant that fits and one that does not; widths that differ; the lower number first, though its place is the later
    ∷ case (with_cells (Cell.One one.Not 4 (Operand.Constant 4 15) ∷ [])) 0
    ∷ case (with_cells (Cell.One one.Not 4 (Operand.Constant 4 16) ∷ [])) 3018
    ∷ case (with_cells (Cell.One one.Not 5 count ∷ [])) 7018
    ∷ case (with_cells (Cell.One one.Not 5 (Operand.Variable 5 1) ∷ [])) 7018
    ∷ case (with_cells (Cell.Mux 4 enable count count ∷ [])) 0
    ∷ case (with_cells (Cell.Mux 4 count count count ∷ [])) 7018
    ∷ case (with_cells (Cell.One one.Not 4 (Operand.Cell 4 0) ∷ Cell.One one.Not 0 (Operand.Constant 1 0) ∷ [])) 3028
    -- drives: one for each register, none, the second or the first missing, one twice, both swapped, one of a missing variable
    ∷ case (answer exchange) 0
    ∷ case (answer (with_drives pair [])) 6000
    ∷ case (answer (with_drives pair (drive 0 second ∷ []))) 6000
    ∷ case (answer (with_drives pair (drive 1 first ∷ []))) 6021
    ∷ case (answer (with_drives pair (drive 0 second ∷ drive 0 second ∷ drive 1 first ∷ []))) 6031
    ∷ case (answer (with_drives pair (drive 0 second ∷ drive 1 first ∷ drive 1 first ∷ []))) 6041
    ∷ case (answer (with_drives pair (drive 1 first ∷ drive 0 second ∷ []))) 6021
    ∷ case (answer (with_drives pair (drive 0 second ∷ drive 1 first ∷ drive 2 first ∷ []))) 6041
    -- rows: one byte off, read and written; a number that fits and one that does not; after every refusal of the file
    ∷ case (running counter (row 1 15) 8) 0
    ∷ case (running counter (take 7 (row 1 15)) 8) 14_000
    ∷ case (running counter (row 1 15 ++ (0 ∷ [])) 8) 14_000
    ∷ case (running counter (row 1 15) 7) 14_000
    ∷ case (running counter (row 1 15) 9) 14_000
    ∷ case (running counter (row 1 16) 8) 14_000
    ∷ case (running counter (row 2 15) 8) 14_000
    ∷ case (running (take 65 counter) [] 8) 1000
    ∷ case (running (0x81 ∷ 0 ∷ 0 ∷ []) [] 0) 0
    ∷ case (running (0x81 ∷ 0 ∷ 0 ∷ []) (0 ∷ []) 0) 14_000
    ∷ case (running (0x81 ∷ 0 ∷ 0 ∷ []) [] 1) 14_000
    -- what a run leaves: the counter from the row's value, and both registers changed together; a refusal leaves all as it was
    ∷ case (leaving counter (row 1 15) 8) 0x1_0000_0001_0000_0000
    ∷ case (leaving counter (row 0 7) 8) 0x1_0000_0000_0000_0007
    ∷ case (leaving counter (row 1 7) 8) 0x1_0000_0001_0000_0008
    ∷ case (leaving exchange (row 1 2) 8) 0x1_0000_0002_0000_0001
    ∷ case (leaving counter (row 1 16) 8) 0x1_aaaa_aaaa_aaaa_aaaa
    ∷ case (leaving counter (take 7 (row 1 15)) 8) 0x1_aaaa_aaaa_aaaa_aaaa
    ∷ case (leaving counter (row 1 15) 7) 0x1_aaaa_aaaa_aaaa_aa
    ∷ case (leaving counter (row 1 15) 9) 0x1_aaaa_aaaa_aaaa_aaaa_aa
    ∷ case (leaving (take 65 counter) (row 1 15) 8) 0x1_aaaa_aaaa_aaaa_aaaa
    ∷ []

pub cases : passes table ≡ true
unfolding table netlist_answer lists_answer run_answer run_leaves number_of refusals.first_broken refusals.first_refusal files.file_answer files.outer_answer fields.open_of fields.field_by fields.then_by fields.fixed_then fields.ended fields.many_from fields.read_from fields.field_bytes fields.all_bytes_of fields.placed_by bytes.number_of_two bytes.number_of_four bytes.four_of bytes.two_bytes bytes.four_bytes sorts.sort_of sorts.tag_of sorts.declaration_sort sorts.cell_sort names.is_name names.is_name_byte names.all_name_bytes names.same_name declarations.declaration_bytes declarations.declaration_body declarations.declarations_step declarations.declaration_read declarations.declarations_at declarations.value_broken declarations.name_taken declarations.name_broken declarations.count_broken declarations.declaration_breaks rows.row_numbers rows.all_fit rows.rows_fit rows.row_answer runs.run_answer_of form.operand_bytes form.cell_bytes form.drive_bytes form.netlist_payload form.netlist_bytes form.slots_by form.cell_body form.drive_body form.cells_step form.drives_judge form.netlist_body form.netlist_form reading.operand_in reading.cell_read reading.drive_read reading.cells_at reading.drives_at reading.lists_in rules.operand_value_broken rules.operand_missing rules.operand_unlike rules.cell_unlike rules.cell_outside rules.cell_breaks rules.registers_from rules.not_next rules.drive_breaks rules.whole_broken rules.netlist_broken cycle.operand_value cycle.cell_value cycle.cell_values cycle.driven cycle.netlist_cycle bits.sum bits.mux operators.two_number operators.two_width operators.one_width
cases = refl
