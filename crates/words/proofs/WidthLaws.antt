-- Widths: each result stays below two to its width and its width is a width, once for all widths; parity as a count of ones of any width.
-- By the library's bounds on remainders, powers and digits; parity by induction on the width. Assumes nothing.
use mathlib.Core.Path.{◌≡◌, refl, sym, ap, ap₂, ◌∙◌}
use mathlib.Core.Bool.{Bool, true, false, cond}
use Prim.Native.Nat.{ℕ, zero, suc, ◌+◌, ◌-◌, ◌/◌, ◌%◌, ◌^◌, ◌≤◌, ◌<◌}
use native.Mathlib.Nat.{mod-lt, mod-one, mod-eq_of_lt, lt_of_lt_of_le, not-suc-le-zero, le_of_suc-le-suc}
use native.Mathlib.Numerals.{one-add}
use native.Mathlib.Omega.{arith}
use lib.Arith.{digits_lt}
use lib.Pow.{pow_pos, pow-add, pow_mono, shr_lt, mod-pow-add, ones_sub-lt}
use lib.Bits.{and_lt, or_lt, xor_lt}
use lib.Count.{ones, ones_cat}
use lib.Dec.{lit<, eqb}
use Rattle.words.specs.Limits.{greatest_width}
use Rattle.words.specs.Widths.{is_width}
use Rattle.words.specs.Bits.{bit, ones_below, parity, inverted, sum, same, put_bit, mux}
use Rattle.words.specs.Operators.{one_width, one_number, two_width, two_number}
use Rattle.words.specs.declared.OneOperand.{OneOperand}
use Rattle.words.specs.declared.OneOperand.TheVariants.{Not, Parity}
use Rattle.words.specs.declared.TwoOperand.{TwoOperand}
use Rattle.words.specs.declared.TwoOperand.TheVariants.{And, Or, Xor, Add, Equal}
use Rattle.words.proofs.BitLaws.{odd_lt, put_form, put_low}

-- one of two numbers below a bound is below it
cond_lt : (t : Bool) {n x y : ℕ} → x < n → y < n → cond t x y < n
cond_lt true h l = h
cond_lt false h l = l

pub inverted_lt : (w a : ℕ) → inverted w a < 2 ^ w
unfolding inverted
inverted_lt w a = ones_sub-lt w (a % 2 ^ w)

pub sum_lt : (w a b : ℕ) → sum w a b < 2 ^ w
unfolding sum
sum_lt w a b = mod-lt (a + b) (pow_pos w)

pub same_lt : (a b : ℕ) → same a b < 2
unfolding same
same_lt a b = cond_lt (eqb a b) (lit< tt) (lit< tt)

pub parity_lt : (v : ℕ) → parity v < 2
unfolding parity
parity_lt v = odd_lt (ones_below greatest_width v)

pub mux_lt : (w c a b : ℕ) → a < 2 ^ w → b < 2 ^ w → mux c a b < 2 ^ w
unfolding mux
mux_lt w c a b ha hb = cond_lt (eqb c 0) hb ha

pub put_bit_lt : (w v k b : ℕ) → v < 2 ^ w → k < w → b < 2 → put_bit v k b < 2 ^ w
put_bit_lt w v k b hv hk hb =
    let j : ℕ = w - suc k in
    let e : j + (1 + k) ≡ w = omega arith in
    rw (put_form v k b, ← e, pow-add 2 j (1 + k)) (digits_lt (shr_lt j (1 + k) (rw e hv)) (put_low v k b hb))

-- the results of the operators, and their widths
pub one_lt : (op : OneOperand) (w a : ℕ) → one_number op w a < 2 ^ one_width op w
unfolding one_number one_width
one_lt Not w a = inverted_lt w a
one_lt Parity w a = parity_lt a

pub two_lt : (op : TwoOperand) (w a b : ℕ) → a < 2 ^ w → b < 2 ^ w → two_number op w a b < 2 ^ two_width op w
unfolding two_number two_width
two_lt And w a b ha hb = and_lt w a b ha hb
two_lt Or w a b ha hb = or_lt w a b ha hb
two_lt Xor w a b ha hb = xor_lt w a b ha hb
two_lt Add w a b ha hb = sum_lt w a b
two_lt Equal w a b ha hb = same_lt a b

pub one_width_lem : (op : OneOperand) (w : ℕ) → is_width w ≡ true → is_width (one_width op w) ≡ true
unfolding one_width
one_width_lem Not w h = h
one_width_lem Parity w h = refl

pub two_width_lem : (op : TwoOperand) (w : ℕ) → is_width w ≡ true → is_width (two_width op w) ≡ true
unfolding two_width
two_width_lem And w h = h
two_width_lem Or w h = h
two_width_lem Xor w h = h
two_width_lem Add w h = h
two_width_lem Equal w h = refl

-- a number of w bits turned round
pub inverted_fits : (w a : ℕ) → a < 2 ^ w → inverted w a ≡ (2 ^ w - 1) - a
unfolding inverted
inverted_fits w a h = ap (λ (x : ℕ). (2 ^ w - 1) - x) (mod-eq_of_lt h)

-- the choice by a bit
pub mux_one : (a b : ℕ) → mux 1 a b ≡ a
unfolding mux
mux_one a b = refl

pub mux_zero : (a b : ℕ) → mux 0 a b ≡ b
unfolding mux
mux_zero a b = refl

-- parity: the language's count of ones is the sum of the bits
ones_digit : (b : ℕ) → b < 2 → ones b ≡ b
unfolding ones
ones_digit zero h = refl
ones_digit (suc zero) h = refl
ones_digit (suc (suc b)) h = absurd (not-suc-le-zero (le_of_suc-le-suc (le_of_suc-le-suc h)))

ones_below_lem : (w v : ℕ) → ones (v % 2 ^ w) ≡ ones_below w v
unfolding ones_below bit
ones_below_lem zero v = ap ones (mod-one v) ∙ ones_digit zero (lit< tt)
ones_below_lem (suc w) v =
    ap (λ (n : ℕ). ones (v % 2 ^ n)) (sym (one-add w)) ∙ ap ones (mod-pow-add v 1 w)
    ∙ ones_cat w (v / 2 ^ w % 2) (v % 2 ^ w) (mod-lt v (pow_pos w))
    ∙ ap₂ (λ (x y : ℕ). x + y) (ones_digit (v / 2 ^ w % 2) (odd_lt (v / 2 ^ w))) (ones_below_lem w v)

pub ones_parity : (w v : ℕ) → v < 2 ^ w → ones v % 2 ≡ ones_below w v % 2
ones_parity w v h = ap (λ (x : ℕ). x % 2) (ap ones (sym (mod-eq_of_lt h)) ∙ ones_below_lem w v)

pub parity_ones : (w v : ℕ) → w ≤ greatest_width → v < 2 ^ w → parity v ≡ ones_below w v % 2
unfolding parity
parity_ones w v l h = sym (ones_parity greatest_width v (lt_of_lt_of_le h (pow_mono l))) ∙ ones_parity w v h
