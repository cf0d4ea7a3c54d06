-- The netlist's bytes: tag 81, the declarations unchanged, then cells, then drives; and refusal 2, the first fault met in reading them.
use Rattle.tagged.specs.Answers.{fault_at}
use Rattle.std.specs.Prelude.{Result, Ok, Err, cond, List, [], ◌∷◌, ◌++◌, ℕ, ◌+◌, leb, get_or}
use Rattle.tagged.specs.Bytes.{four_bytes}
use Rattle.tagged.specs.Sorts.{tag_of, on_cell, is_cell, is_sort}
use Rattle.tagged.specs.Fields.{Judge, Judged, Stepper, Body, field_bytes, all_bytes_of, field_by, then_by, fixed_then, ended, many, until_end, Step}
use Rattle.tagged.specs.Declarations.{declaration_bytes, declarations_step}
use Rattle.tagged.specs.Payloads.{over}
use Rattle.tagged.specs.declared.answers.Fault.{Fault}
use Rattle.tagged.specs.declared.payload.Payload.{Payload}
use Rattle.tagged.specs.declared.sorts.CellSort.{CellSort}
use Rattle.tagged.specs.declared.sorts.Sort.{Sort}
use Rattle.netlist.specs.declared.Operand.{Operand}
use Rattle.netlist.specs.declared.Cell.{Cell}
use Rattle.netlist.specs.declared.Drive.{Drive}
use Rattle.netlist.specs.declared.Slot.{Slot}
use Rattle.netlist.specs.Lists.{Netlist, cell_sort_of, cell_width, cell_slots}

-- how it is written

-- an operand is six bytes: kind (0 constant, 1 variable, 2 cell), width, four-byte number
unfoldable pub operand_bytes : Operand → List ℕ
operand_bytes (Operand.Constant w n) = 0 ∷ w ∷ four_bytes n
operand_bytes (Operand.Variable w n) = 1 ∷ w ∷ four_bytes n
operand_bytes (Operand.Cell w n) = 2 ∷ w ∷ four_bytes n

abbrev pub slot_bytes : Slot → List ℕ
slot_bytes (Slot.Operand o) = operand_bytes o
slot_bytes (Slot.Byte k) = k ∷ []

-- a cell's payload is its width byte, then its slots
unfoldable pub cell_bytes : Cell → List ℕ
cell_bytes c = field_bytes (tag_of (Sort.Cell (cell_sort_of c))) (cell_width c ∷ all_bytes_of slot_bytes (cell_slots c))

-- 40: variable byte, operand
unfoldable pub drive_bytes : Drive → List ℕ
drive_bytes d = field_bytes (tag_of Sort.Drive) (d.variable ∷ operand_bytes d.operand)

-- the outer payload: the three lists, one after the other
unfoldable pub netlist_payload : Netlist → List ℕ
netlist_payload n = all_bytes_of declaration_bytes n.declarations ++ all_bytes_of cell_bytes n.cells ++ all_bytes_of drive_bytes n.drives

unfoldable pub netlist_bytes : Netlist → List ℕ
netlist_bytes n = field_bytes (tag_of Sort.Netlist) (netlist_payload n)

-- refusal 2

-- what each cell holds after its width byte
pub data Shape : Type 0 where
  an_operand a_byte : Shape

abbrev pub shape_of : CellSort → List Shape
shape_of (CellSort.One op) = an_operand ∷ []
shape_of (CellSort.Two op) = an_operand ∷ an_operand ∷ []
shape_of CellSort.Mux = an_operand ∷ an_operand ∷ an_operand ∷ []
shape_of CellSort.Put = an_operand ∷ a_byte ∷ an_operand ∷ []
shape_of CellSort.FixedBit = an_operand ∷ a_byte ∷ []
shape_of CellSort.ChosenBit = an_operand ∷ an_operand ∷ []

-- just these slots: a byte missing, a kind over 2 or a byte left over is the owner's
unfoldable pub slots_by : List Shape → Judge
slots_by [] = ended
slots_by (a_byte ∷ l) = fixed_then 1 (slots_by l)
slots_by (an_operand ∷ l) = λ base owner bytes. cond (leb (get_or bytes 0 0) 2) (fixed_then 6 (slots_by l) base owner bytes) (Err (fault_at owner))

-- what a judge says of what is left, or the fault
abbrev pub judged_past : Result Payload Fault → Judge → Judged
judged_past (Ok more) judge = over judge more
judged_past (Err fault) judge = Err fault

unfoldable pub cell_body : Body
cell_body at s l = on_cell s (λ c. fixed_then 1 (slots_by (shape_of c)) (at + 3) at l) (Err (fault_at at))

unfoldable pub drive_body : Body
drive_body at s l = cond (is_sort Sort.Drive s) (fixed_then 1 (slots_by (an_operand ∷ [])) (at + 3) at l) (Err (fault_at at))

-- the cells at the front
unfoldable pub cells_step : Stepper
cells_step = many is_cell (field_by cell_body)

-- drives until the end
unfoldable pub drives_judge : Judge
drives_judge = until_end (field_by drive_body)

-- declarations, then cells, then drives
unfoldable pub netlist_body : Body
netlist_body at s l = cond (is_sort Sort.Netlist s) (then_by declarations_step (then_by cells_step drives_judge) (at + 3) at l) (Err (fault_at at))

-- the first fault of a file to which refusal 1 does not apply
unfoldable pub netlist_form : List ℕ → Step
netlist_form file = field_by netlist_body 0 0 file
