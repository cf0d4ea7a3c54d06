-- The lists that are read from bytes, by total functions: what is malformed is the end of a list.
use Rattle.std.specs.Prelude.{cond, List, ℕ, eqb, get_or, drop}
use Rattle.words.specs.declared.OneOperand.TheVariants as one
use Rattle.tagged.specs.Bytes.{four_of}
use Rattle.tagged.specs.Sorts.{on_cell, is_cell, is_sort}
use Rattle.tagged.specs.Fields.{passed_bytes, Placed, read_placed, unplaced}
use Rattle.tagged.specs.Declarations.{after_declarations, declarations_in}
use Rattle.tagged.specs.declared.sorts.CellSort.{CellSort}
use Rattle.tagged.specs.declared.sorts.Sort.{Sort}
use Rattle.netlist.specs.declared.Operand.{Operand}
use Rattle.netlist.specs.declared.Cell.{Cell}
use Rattle.netlist.specs.declared.Drive.{Drive}
use Rattle.netlist.specs.Lists.{Netlist}
use Rattle.netlist.specs.Form.{cells_step}

-- an operand by its kind
abbrev pub operand_of : ℕ → ℕ → ℕ → Operand
operand_of kind w n = cond (eqb kind 0) (Operand.Constant w n) (cond (eqb kind 1) (Operand.Variable w n) (Operand.Cell w n))

-- the operand in the first six bytes
unfoldable pub operand_in : List ℕ → Operand
operand_in l = operand_of (get_or l 0 0) (get_or l 1 0) (four_of (drop 2 l))

-- the cell in a payload
abbrev pub cell_in : CellSort → List ℕ → Cell
cell_in (CellSort.One op) l = Cell.One op (get_or l 0 0) (operand_in (drop 1 l))
cell_in (CellSort.Two op) l = Cell.Two op (get_or l 0 0) (operand_in (drop 1 l)) (operand_in (drop 7 l))
cell_in CellSort.Mux l = Cell.Mux (get_or l 0 0) (operand_in (drop 1 l)) (operand_in (drop 7 l)) (operand_in (drop 13 l))
cell_in CellSort.Put l = Cell.Put (get_or l 0 0) (operand_in (drop 1 l)) (get_or l 7 0) (operand_in (drop 8 l))
cell_in CellSort.FixedBit l = Cell.FixedBit (get_or l 0 0) (operand_in (drop 1 l)) (get_or l 7 0)
cell_in CellSort.ChosenBit l = Cell.ChosenBit (get_or l 0 0) (operand_in (drop 1 l)) (operand_in (drop 7 l))

unfoldable pub cell_read : Sort → List ℕ → Cell
cell_read s l = on_cell s (λ c. cell_in c l) (Cell.One one.Not 0 (Operand.Constant 0 0))

-- the drive in a payload
abbrev pub drive_in : List ℕ → Drive
drive_in l = record { variable = get_or l 0 0; operand = operand_in (drop 1 l) }

unfoldable pub drive_read : Sort → List ℕ → Drive
drive_read s l = drive_in l

-- the cells and the drives at the front of a list of bytes, each with its place
unfoldable pub cells_at : ℕ → List ℕ → List (Placed Cell)
cells_at base l = read_placed is_cell cell_read base l

unfoldable pub drives_at : ℕ → List ℕ → List (Placed Drive)
drives_at base l = read_placed (is_sort Sort.Drive) drive_read base l

-- what follows the cells of an outer payload
abbrev pub after_cells : List ℕ → List ℕ
after_cells l = drop (passed_bytes (cells_step 0 0 (after_declarations l))) (after_declarations l)

-- the netlist that an outer payload holds
unfoldable pub lists_in : List ℕ → Netlist
lists_in l = record {
  declarations = declarations_in l;
  cells = unplaced (cells_at 0 (after_declarations l));
  drives = unplaced (drives_at 0 (after_cells l));
}

-- the netlist of a file
abbrev pub netlist_in : List ℕ → Netlist
netlist_in file = lists_in (drop 3 file)
