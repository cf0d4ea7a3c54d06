-- Many cycles, of a module or of a netlist: each from the registers left by the last, with the inputs of its own input row.
use Rattle.std.specs.Prelude.{Bool, cond, List, [], ◌∷◌, ℕ, get_or, drop}
use Rattle.words.specs.Values.{Outcome, got, ◌>>=◌}
use Rattle.tagged.specs.Declarations.{Declaration, width_of, is_register}
use Rattle.tagged.specs.Rows.{all_fit}

-- a row whose inputs are taken from an input row, one number for each input, and whose registers are kept
unfoldable pub with_inputs : List Declaration → List ℕ → List ℕ → List ℕ
with_inputs [] inputs row = []
with_inputs (d ∷ ds) inputs row =
    cond (is_register d)
    (get_or row 0 0 ∷ with_inputs ds inputs (drop 1 row))
    (get_or inputs 0 0 ∷ with_inputs ds (drop 1 inputs) (drop 1 row))

-- the widths of the inputs, in variable order
unfoldable pub input_widths : List Declaration → List ℕ
input_widths [] = []
input_widths (d ∷ ds) = cond (is_register d) (input_widths ds) (width_of d ∷ input_widths ds)

-- an input row fits: it has as many numbers as there are inputs, and each is below 2 to its width
unfoldable pub inputs_fit : List Declaration → List ℕ → Bool
inputs_fit ds inputs = all_fit (input_widths ds) inputs

-- the rows after each of the cycles
unfoldable pub cycles_by : (List ℕ → Outcome (List ℕ)) → List Declaration → List ℕ → List (List ℕ) → Outcome (List (List ℕ))
cycles_by cycle ds row [] = got []
cycles_by cycle ds row (inputs ∷ later) =
    cycle (with_inputs ds inputs row) >>= λ next.
    cycles_by cycle ds next later >>= λ rows.
    got (next ∷ rows)
