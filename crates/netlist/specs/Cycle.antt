-- One cycle of a netlist: cells run in order; then all registers change together. A step without meaning stops the run.
use Rattle.std.specs.Prelude.{◌&&◌, List, [], ◌∷◌, ◌++◌, ℕ, ltb, eqb, length, get_or, set}
use Rattle.words.specs.Bits.{bit, put_bit, mux}
use Rattle.words.specs.Operators.{one_width, one_number, two_width, two_number}
use Rattle.words.specs.Values.{Value, Outcome, got, ◌>>=◌, provided}
use Rattle.tagged.specs.Declarations.{Declaration, variable_width, register_at}
use Rattle.netlist.specs.declared.Operand.{Operand}
use Rattle.netlist.specs.declared.Cell.{Cell}
use Rattle.netlist.specs.declared.Drive.{Drive}
use Rattle.netlist.specs.Lists.{Netlist}

-- the value of the width that an operand states
abbrev pub stated_width : ℕ → Value → Outcome Value
stated_width w x = provided (eqb w x.width) (got x)

-- an operand's value, from the row and the values of the cells before: a missing variable or cell, or another width, stops
unfoldable pub operand_value : List Declaration → List ℕ → List Value → Operand → Outcome Value
operand_value ds row values (Operand.Constant w n) = got (record { width = w; number = n })
operand_value ds row values (Operand.Variable w n) =
    provided (ltb n (length ds)) (stated_width w (record { width = variable_width ds n; number = get_or row n 0 }))
operand_value ds row values (Operand.Cell w n) =
    provided (ltb n (length values)) (stated_width w (get_or values n (record { width = 0; number = 0 })))

-- the value of a cell whose width is w: another width stops
abbrev pub of_width : ℕ → ℕ → ℕ → Outcome Value
of_width w own number = provided (eqb w own) (got (record { width = w; number = number }))

-- a cell's value from its operands'
unfoldable pub cell_value : List Declaration → List ℕ → List Value → Cell → Outcome Value
cell_value ds row values (Cell.One op w a) =
    operand_value ds row values a >>= λ x.
    of_width w (one_width op x.width) (one_number op x.width x.number)
cell_value ds row values (Cell.Two op w a b) =
    operand_value ds row values a >>= λ x.
    operand_value ds row values b >>= λ y.
    provided (eqb x.width y.width) (of_width w (two_width op x.width) (two_number op x.width x.number y.number))
cell_value ds row values (Cell.Mux w c a b) =
    operand_value ds row values c >>= λ z.
    operand_value ds row values a >>= λ x.
    operand_value ds row values b >>= λ y.
    provided (eqb z.width 1 && eqb w y.width) (of_width w x.width (mux z.number x.number y.number))
cell_value ds row values (Cell.Put w v k b) =
    operand_value ds row values v >>= λ x.
    operand_value ds row values b >>= λ y.
    provided (eqb y.width 1 && ltb k x.width) (of_width w x.width (put_bit x.number k y.number))
cell_value ds row values (Cell.FixedBit w v k) =
    operand_value ds row values v >>= λ x.
    provided (ltb k x.width) (of_width w 1 (bit x.number k))
cell_value ds row values (Cell.ChosenBit w v i) =
    operand_value ds row values v >>= λ x.
    operand_value ds row values i >>= λ y.
    provided (ltb y.number x.width) (of_width w 1 (bit x.number y.number))

-- the values of all cells, each from the row and from those before it
unfoldable pub cell_values : List Declaration → List ℕ → List Value → List Cell → Outcome (List Value)
cell_values ds row values [] = got values
cell_values ds row values (c ∷ cells) = cell_value ds row values c >>= λ x. cell_values ds row (values ++ (x ∷ [])) cells

-- the row after the drives: each from the old row and the cells, so that all registers change together; a later drive of one register wins
unfoldable pub driven : List Declaration → List ℕ → List Value → List ℕ → List Drive → Outcome (List ℕ)
driven ds row values next [] = got next
driven ds row values next (d ∷ drives) =
    operand_value ds row values d.operand >>= λ x.
    provided (register_at ds d.variable && eqb x.width (variable_width ds d.variable))
    (driven ds row values (set next d.variable x.number) drives)

-- one cycle: the row read has one number per variable; inputs are copied, registers are new
unfoldable pub netlist_cycle : Netlist → List ℕ → Outcome (List ℕ)
netlist_cycle n row =
    provided (eqb (length row) (length n.declarations))
    (cell_values n.declarations row [] n.cells >>= λ values.
    driven n.declarations row values row n.drives)
