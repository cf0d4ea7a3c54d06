-- The number that the code of a run computes for a typed expression is that of its value, from a row that fits: the code's tests of widths never fail.
-- By induction on the typing. Assumes nothing.
use mathlib.Core.Path.{◌≡◌, ap}
use mathlib.Core.Bool.{true}
use mathlib.Core.List.{List, map}
use Prim.Native.Nat.{ℕ, zero, suc, ◌^◌, ◌≤◌, ◌<◌}
use native.Mathlib.Nat.{lt_of_lt_of_le}
use native.Mathlib.Omega.{arith}
use lib.Dec.{leb}
use lib.ListN.{length, get_or}
use borrow.Author.Tests.{eq-eqb, lt-ltb, leb-true}
use Rattle.words.specs.Limits.{greatest_width}
use Rattle.words.specs.Widths.{is_width}
use Rattle.words.specs.Bits.{bit}
use Rattle.words.specs.Values.{Value, got}
use Rattle.words.specs.Operators.{one_width, two_width}
use Rattle.words.specs.declared.OneOperand.{OneOperand}
use Rattle.words.specs.declared.OneOperand.TheVariants as one
use Rattle.words.specs.declared.TwoOperand.{TwoOperand}
use Rattle.words.specs.declared.TwoOperand.TheVariants as two
use Rattle.words.proofs.ResultLaws.{one_inside, two_inside}
use Rattle.tagged.specs.Declarations.{Declaration, width_of, variable_width}
use Rattle.tagged.proofs.TestLaws.{both}
use Rattle.verilog.specs.Tree.{Expression}
use Rattle.verilog.specs.Rules.{expression_width}
use Rattle.verilog.specs.Cycle.{evaluate}
use Rattle.verilog.proofs.Typed.{Typed, constant_fits, variable_there, bit_inside, index_inside, one_typed, two_typed, WidthsFit, no_widths, more_widths}
use Rattle.verilog.proofs.NeverStops.{RowFits, typed_evaluates}
use Rattle.verilog_run.specs.declared.evaluate.Number.{Number}
use Rattle.verilog_run.specs.Numbers.{number_in}

-- a width of 1 to 32 is at most 32, and stays so under the operators
width_small : (w : ℕ) → is_width w ≡ true → w ≤ greatest_width
width_small w e = leb-true w greatest_width (both (leb 1 w) (leb w greatest_width) e).1

one_small : (op : OneOperand) (w : ℕ) → w ≤ greatest_width → one_width op w ≤ greatest_width
unfolding one_width
one_small one.Not w h = h
one_small one.Parity w h = omega arith

two_small : (op : TwoOperand) (w : ℕ) → w ≤ greatest_width → two_width op w ≤ greatest_width
unfolding two_width
two_small two.And w h = h
two_small two.Or w h = h
two_small two.Xor w h = h
two_small two.Add w h = h
two_small two.Equal w h = omega arith

-- also where there is no variable: its width counts as 0
pub variable_small : {ds : List Declaration} → WidthsFit ds → (v : ℕ) → variable_width ds v ≤ greatest_width
variable_small no_widths v = omega arith
variable_small (more_widths {d} is widths) zero = width_small (width_of d) is
variable_small (more_widths is widths) (suc v) = variable_small widths v

expression_small : {ds : List Declaration} {e : Expression} → WidthsFit ds → Typed ds e → expression_width ds e ≤ greatest_width
unfolding expression_width
expression_small widths (constant_fits {w} is fits) = width_small w is
expression_small widths (variable_there {v} there) = variable_small widths v
expression_small widths (bit_inside there inside) = omega arith
expression_small widths (index_inside there t inside) = omega arith
expression_small {ds} widths (one_typed {op} {a} t) = one_small op (expression_width ds a) (expression_small widths t)
expression_small {ds} widths (two_typed {op} {a} {b} t u same) = two_small op (expression_width ds a) (expression_small widths t)

-- a value as the code holds it
abbrev pub as_number : Value → Number
as_number x = record { width = x.width; number = x.number }

got_as : (x y : Value) → got x ≡ got y → as_number x ≡ as_number y
got_as x y e = let same : x ≡ y = cc in ap as_number same

-- what an expression evaluates to is what the code computes
pub number_computed : {ds : List Declaration} {current : List ℕ} {e : Expression} → WidthsFit ds → RowFits ds current → Typed ds e →
    (x : Value) → evaluate ds current e ≡ got x → number_in (map width_of ds) current e ≡ as_number x
unfolding evaluate number_in
number_computed widths f (constant_fits {w} {v} is fits) x e = got_as (record { width = w; number = v }) x e
number_computed {ds} {current} widths f (variable_there {v} there) x e =
    got_as (record { width = variable_width ds v; number = get_or current v 0 }) x (rw (lt-ltb v (length ds) there) at e)
number_computed {ds} {current} widths f (bit_inside {v} {k} there inside) x e =
    got_as (record { width = 1; number = bit (get_or current v 0) k }) x (rw (lt-ltb v (length ds) there, lt-ltb k (variable_width ds v) inside) at e)
number_computed {ds} {current} widths f (index_inside {v} {e = index} there t inside) x e =
    let i = typed_evaluates f t in
    let within : i.number < variable_width ds v = lt_of_lt_of_le i.small (leb-true (2 ^ expression_width ds index) (variable_width ds v) inside) in
    rw (number_computed widths f t _ i.runs)
    (got_as _ x (rw (i.runs, lt-ltb v (length ds) there, lt-ltb i.number (variable_width ds v) within) at e))
number_computed {ds} widths f (one_typed {op} {a} t) x e =
    let y = typed_evaluates f t in
    let w = expression_width ds a in
    rw (number_computed widths f t _ y.runs, one_inside op w y.number (expression_small widths t)) (got_as _ x (rw y.runs at e))
number_computed {ds} widths f (two_typed {op} {a} {b} t u same) x e =
    let y = typed_evaluates f t in
    let z = typed_evaluates f u in
    let w = expression_width ds a in
    rw (number_computed widths f t _ y.runs, number_computed widths f u _ z.runs, two_inside op w y.number z.number (expression_small widths t))
    (got_as _ x (rw (y.runs, z.runs, eq-eqb w (expression_width ds b) same) at e))
