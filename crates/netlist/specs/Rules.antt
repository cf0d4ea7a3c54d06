-- Refusals 3 to 8 and 12 on a netlist, each a test of a declaration, a cell or a drive, given those before it; the place is the cell or drive.
use Rattle.std.specs.Prelude.{Some, None, Bool, false, cond, ◌||◌, not, List, [], ◌∷◌, map, ℕ, ◌+◌, leb, ltb, eqb, length, get_or}
use Rattle.words.specs.Widths.{is_width, fits_width, index_within}
use Rattle.words.specs.Operators.{one_width, two_width}
use Rattle.tagged.specs.Limits.{most_cells}
use Rattle.tagged.specs.Fields.{all_bytes_of, placed_by}
use Rattle.tagged.specs.Refusals.{first_broken, or_else}
use Rattle.tagged.specs.Declarations.{Declaration, is_register, variable_width, declaration_bytes, declaration_broken}
use Rattle.tagged.specs.declared.answers.Rule.{Rule}
use Rattle.tagged.specs.Answers.{Found}
use Rattle.netlist.specs.declared.Operand.{Operand}
use Rattle.netlist.specs.declared.Cell.{Cell}
use Rattle.netlist.specs.declared.Drive.{Drive}
use Rattle.netlist.specs.Lists.{Netlist, operand_width, cell_width, cell_slots, operands_in}
use Rattle.netlist.specs.Form.{cell_bytes, drive_bytes}

-- the width of cell n; 0 where there is none
abbrev pub width_of_cell : List Cell → ℕ → ℕ
width_of_cell cells n = get_or (map cell_width cells) n 0

-- does one of the operands pass the test?
abbrev pub some_operand : (Operand → Bool) → List Operand → Bool
some_operand test [] = false
some_operand test (o ∷ l) = test o || some_operand test l

-- 3: an operand's width 0 or over 32; a constant not below 2 to its width
unfoldable pub operand_value_broken : Operand → Bool
operand_value_broken (Operand.Constant w n) = not (is_width w) || not (fits_width w n)
operand_value_broken (Operand.Variable w n) = not (is_width w)
operand_value_broken (Operand.Cell w n) = not (is_width w)

-- 6: a variable or cell number that does not exist; `cells` are those that the operand may name
unfoldable pub operand_missing : List Declaration → List Cell → Operand → Bool
operand_missing ds cells (Operand.Constant w n) = false
operand_missing ds cells (Operand.Variable w n) = leb (length ds) n
operand_missing ds cells (Operand.Cell w n) = leb (length cells) n

-- 7: an operand's width is that of the variable or cell it names
unfoldable pub operand_unlike : List Declaration → List Cell → Operand → Bool
operand_unlike ds cells (Operand.Constant w n) = false
operand_unlike ds cells (Operand.Variable w n) = not (eqb w (variable_width ds n))
operand_unlike ds cells (Operand.Cell w n) = not (eqb w (width_of_cell cells n))

-- 7: the cell's width against its operands', and theirs against each other
unfoldable pub cell_unlike : Cell → Bool
cell_unlike (Cell.One op w a) = not (eqb w (one_width op (operand_width a)))
cell_unlike (Cell.Two op w a b) = not (eqb (operand_width a) (operand_width b)) || not (eqb w (two_width op (operand_width a)))
cell_unlike (Cell.Mux w c a b) = not (eqb (operand_width c) 1) || not (eqb w (operand_width a)) || not (eqb w (operand_width b))
cell_unlike (Cell.Put w v k b) = not (eqb w (operand_width v)) || not (eqb (operand_width b) 1)
cell_unlike (Cell.FixedBit w v k) = not (eqb w 1)
cell_unlike (Cell.ChosenBit w v i) = not (eqb w 1)

-- 8: a bit number not below the vector's width; an index that could name a bit outside
unfoldable pub cell_outside : Cell → Bool
cell_outside (Cell.One op w a) = false
cell_outside (Cell.Two op w a b) = false
cell_outside (Cell.Mux w c a b) = false
cell_outside (Cell.Put w v k b) = leb (operand_width v) k
cell_outside (Cell.FixedBit w v k) = leb (operand_width v) k
cell_outside (Cell.ChosenBit w v i) = not (index_within (operand_width i) (operand_width v))

-- does a cell, after those before it, break this rule? It may name no cell but those
unfoldable pub cell_breaks : Rule → List Declaration → List Cell → Cell → Bool
cell_breaks Rule.Value ds earlier c = not (is_width (cell_width c)) || some_operand operand_value_broken (operands_in (cell_slots c))
cell_breaks Rule.Reference ds earlier c = some_operand (operand_missing ds earlier) (operands_in (cell_slots c))
cell_breaks Rule.Widths ds earlier c = some_operand (operand_unlike ds earlier) (operands_in (cell_slots c)) || cell_unlike c
cell_breaks Rule.BitNumber ds earlier c = cell_outside c
cell_breaks Rule.FileLength ds earlier c = false
cell_breaks Rule.Form ds earlier c = false
cell_breaks Rule.Name ds earlier c = false
cell_breaks Rule.Count ds earlier c = false
cell_breaks Rule.BothKinds ds earlier c = false
cell_breaks Rule.TwoProcesses ds earlier c = false
cell_breaks Rule.ReadElsewhere ds earlier c = false
cell_breaks Rule.Cells ds earlier c = false
cell_breaks Rule.Buffer ds earlier c = false
cell_breaks Rule.Row ds earlier c = false

-- the numbers of the registers, in rising order; `v` is the first declaration's number
unfoldable pub registers_from : ℕ → List Declaration → List ℕ
registers_from v [] = []
registers_from v (d ∷ ds) = cond (is_register d) (v ∷ registers_from (v + 1) ds) (registers_from (v + 1) ds)

-- 6: a drive not naming the next register
unfoldable pub not_next : List Declaration → List Drive → Drive → Bool
not_next ds earlier d =
    leb (length (registers_from 0 ds)) (length earlier) || not (eqb d.variable (get_or (registers_from 0 ds) (length earlier) 0))

-- does a drive, after those before it, break this rule?
unfoldable pub drive_breaks : Rule → List Declaration → List Cell → List Drive → Drive → Bool
drive_breaks Rule.Value ds cells earlier d = operand_value_broken d.operand
drive_breaks Rule.Reference ds cells earlier d = not_next ds earlier d || operand_missing ds cells d.operand
drive_breaks Rule.Widths ds cells earlier d = operand_unlike ds cells d.operand || not (eqb (operand_width d.operand) (variable_width ds d.variable))
drive_breaks Rule.FileLength ds cells earlier d = false
drive_breaks Rule.Form ds cells earlier d = false
drive_breaks Rule.Name ds cells earlier d = false
drive_breaks Rule.Count ds cells earlier d = false
drive_breaks Rule.BitNumber ds cells earlier d = false
drive_breaks Rule.BothKinds ds cells earlier d = false
drive_breaks Rule.TwoProcesses ds cells earlier d = false
drive_breaks Rule.ReadElsewhere ds cells earlier d = false
drive_breaks Rule.Cells ds cells earlier d = false
drive_breaks Rule.Buffer ds cells earlier d = false
drive_breaks Rule.Row ds cells earlier d = false

-- what the whole netlist breaks, at place 0: 6, a register without a drive, looked for after every other break of 6; 12, over 1,024 cells
unfoldable pub whole_broken : Rule → Netlist → Found
whole_broken Rule.Reference n = cond (ltb (length n.drives) (length (registers_from 0 n.declarations))) (Some 0) None
whole_broken Rule.Cells n = cond (ltb most_cells (length n.cells)) (Some 0) None
whole_broken Rule.FileLength n = None
whole_broken Rule.Form n = None
whole_broken Rule.Value n = None
whole_broken Rule.Name n = None
whole_broken Rule.Count n = None
whole_broken Rule.Widths n = None
whole_broken Rule.BitNumber n = None
whole_broken Rule.BothKinds n = None
whole_broken Rule.TwoProcesses n = None
whole_broken Rule.ReadElsewhere n = None
whole_broken Rule.Buffer n = None
whole_broken Rule.Row n = None

-- where the cells and the drives of a netlist start, whose declarations start at `base`
abbrev pub cells_base : ℕ → Netlist → ℕ
cells_base base n = base + length (all_bytes_of declaration_bytes n.declarations)

abbrev pub drives_base : ℕ → Netlist → ℕ
drives_base base n = cells_base base n + length (all_bytes_of cell_bytes n.cells)

-- the first place that breaks a rule, in file order
unfoldable pub netlist_broken : ℕ → Netlist → Rule → Found
netlist_broken base n rule =
    or_else (declaration_broken rule base n.declarations)
    (or_else (first_broken (cell_breaks rule n.declarations) [] (placed_by cell_bytes (cells_base base n) n.cells))
    (or_else (first_broken (drive_breaks rule n.declarations n.cells) [] (placed_by drive_bytes (drives_base base n) n.drives))
    (whole_broken rule n)))
