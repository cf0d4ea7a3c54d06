-- What the code of a run computes, on every input, without stopping; proofs/NumberLaws shows that it is the cycle of an accepted netlist.
use Rattle.std.specs.Prelude.{List, [], ◌∷◌, ℕ, ◌+◌, get_or, set}
use Rattle.words.specs.Bits.{bit, mux}
use Rattle.words.specs.Results.{one_result, two_result, put_result}
use Rattle.netlist.specs.declared.Operand.{Operand}
use Rattle.netlist.specs.declared.Cell.{Cell}
use Rattle.netlist.specs.declared.Drive.{Drive}

-- an operand's number, from the numbers of a row and those of the cells before; 0 where there is none
unfoldable pub read_number : List ℕ → List ℕ → Operand → ℕ
read_number row values (Operand.Constant w n) = n
read_number row values (Operand.Variable w n) = get_or row n 0
read_number row values (Operand.Cell w n) = get_or values n 0

-- a cell's number from its operands'; an operator works with the cell's own width
unfoldable pub cell_number : List ℕ → List ℕ → Cell → ℕ
cell_number row values (Cell.One op w a) = one_result op w (read_number row values a)
cell_number row values (Cell.Two op w a b) = two_result op w (read_number row values a) (read_number row values b)
cell_number row values (Cell.Mux w c a b) = mux (read_number row values c) (read_number row values a) (read_number row values b)
cell_number row values (Cell.Put w v k b) = put_result (read_number row values v) k (read_number row values b)
cell_number row values (Cell.FixedBit w v k) = bit (read_number row values v) k
cell_number row values (Cell.ChosenBit w v i) = bit (read_number row values v) (read_number row values i)

-- the values with the numbers of these cells put in, so far as there is room, the first at `k`
unfoldable pub cell_numbers : List ℕ → List ℕ → ℕ → List Cell → List ℕ
cell_numbers row values k [] = values
cell_numbers row values k (c ∷ cells) = cell_numbers row (set values k (cell_number row values c)) (k + 1) cells

-- the next row with what these drives put into it, so far as there is room
unfoldable pub driven_numbers : List ℕ → List ℕ → List ℕ → List Drive → List ℕ
driven_numbers row values next [] = next
driven_numbers row values next (d ∷ drives) = driven_numbers row values (set next d.variable (read_number row values d.operand)) drives
