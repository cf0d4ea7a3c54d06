-- Single bits: each operator bit by bit, putting one bit, and numbers told apart by their bits, once for every width.
-- By induction on the bit's number or on the width, and by splitting a number at a power of two. Assumes nothing.
use mathlib.Core.Path.{◌≡◌, refl, sym, ap, ap₂, ◌∙◌}
use mathlib.Core.Bool.{Bool, true, false, cond}
use Prim.Native.Nat.{ℕ, zero, suc, ◌+◌, ◌-◌, ◌*◌, ◌/◌, ◌%◌, ◌^◌, ◌≤◌, ◌<◌, suc-le-suc, min, max}
use native.Mathlib.Nat.{mod-lt, div-eq_of_lt, lt_of_lt_of_le, not-suc-le-zero, le_of_suc-le-suc, zero-lt-suc}
use native.Mathlib.Nat.{div-one, one-mul, pow-suc, add-mul, mul_assoc}
use native.Mathlib.Numerals.{one-add}
use native.Mathlib.Omega.{arith, ne_cases}
use borrow.Author.Tests.{eqb-true, eqb-false}
use lib.Arith.{digits_div, digits_mod, digits_lt}
use lib.Pow.{pow_pos, pow-add, pow_mono, shr-shr, shl_exact, mod-pow-add, mod-mod-pow, field, split, high, low}
use lib.Bits.{bit_and, bit_or, bit_xor, differ, and_step, or_step, xor_step}
use lib.Dec.{lit<, eqb}
use Rattle.words.specs.Bits.{bit, inverted, put_bit, mux}

-- a remainder by two is a bit
pub odd_lt : (n : ℕ) → n % 2 < 2
odd_lt n = mod-lt n (lit< tt)

pub bit_lt : (v k : ℕ) → bit v k < 2
unfolding bit
bit_lt v k = odd_lt (v / 2 ^ k)

-- the lowest bit, and the others
pub bit_zero : (v : ℕ) → bit v zero ≡ v % 2
unfolding bit
bit_zero v = ap (λ (x : ℕ). x % 2) (div-one v)

pub bit-suc : (v k : ℕ) → bit v (suc k) ≡ bit (v / 2) k
unfolding bit
bit-suc v k = ap (λ (x : ℕ). x % 2) (ap (λ (n : ℕ). v / 2 ^ n) (sym (one-add k)) ∙ sym (shr-shr v 1 k))

-- a number of w bits has none but zeros from w on
pub bit_above : (w v k : ℕ) → v < 2 ^ w → w ≤ k → bit v k ≡ 0
unfolding bit
bit_above w v k h l = ap (λ (x : ℕ). x % 2) (div-eq_of_lt (lt_of_lt_of_le h (pow_mono l)))

-- the bits of a number moved down
pub bit_shr : (v s k : ℕ) → bit (v / 2 ^ s) k ≡ bit v (s + k)
unfolding bit
bit_shr v s k = ap (λ (x : ℕ). x % 2) (shr-shr v s k)

-- the bits below a cut are those of the whole
bit_cut : (v i k : ℕ) → bit (v % 2 ^ ((i + 1) + k)) k ≡ bit v k
unfolding bit
bit_cut v i k = ap (λ (x : ℕ). x % 2) (field v (i + 1) k) ∙ mod-mod-pow (v / 2 ^ k) i 1

pub bit_below : (w v k : ℕ) → k < w → bit (v % 2 ^ w) k ≡ bit v k
bit_below w v k h =
    let e : ((w - suc k) + 1) + k ≡ w = omega arith in
    rw e at (bit_cut v (w - suc k) k)

-- the lemma over the bit's number, for any operation that works digit by digit
module _ (op f : ℕ → ℕ → ℕ) (step : (a b : ℕ) → op a b ≡ op (a / 2) (b / 2) * 2 + f (a % 2) (b % 2))
    (small : (x y : ℕ) → x < 2 → y < 2 → f x y < 2) where
  bit-op : (k a b : ℕ) → bit (op a b) k ≡ f (bit a k) (bit b k)
  bit-op zero a b =
      bit_zero (op a b) ∙ ap (λ (x : ℕ). x % 2) (step a b)
      ∙ digits_mod (op (a / 2) (b / 2)) (small (a % 2) (b % 2) (odd_lt a) (odd_lt b))
      ∙ ap₂ f (sym (bit_zero a)) (sym (bit_zero b))
  bit-op (suc k) a b =
      bit-suc (op a b) k
      ∙ ap (λ (x : ℕ). bit x k) (ap (λ (x : ℕ). x / 2) (step a b)
      ∙ digits_div (op (a / 2) (b / 2)) (small (a % 2) (b % 2) (odd_lt a) (odd_lt b)))
      ∙ bit-op k (a / 2) (b / 2) ∙ ap₂ f (sym (bit-suc a k)) (sym (bit-suc b k))

differ_small : (x y : ℕ) → x < 2 → y < 2 → differ x y < 2
differ_small zero y h k = k
differ_small (suc x) zero h k = h
differ_small (suc x) (suc y) h k = differ_small x y (omega arith) (omega arith)

pub bit_and_lem : (k a b : ℕ) → bit (bit_and a b) k ≡ min (bit a k) (bit b k)
bit_and_lem = bit-op bit_and min and_step (λ x y h k. omega arith)

pub bit_or_lem : (k a b : ℕ) → bit (bit_or a b) k ≡ max (bit a k) (bit b k)
bit_or_lem = bit-op bit_or max or_step (λ x y h k. omega arith)

pub bit_xor_lem : (k a b : ℕ) → bit (bit_xor a b) k ≡ differ (bit a k) (bit b k)
bit_xor_lem = bit-op bit_xor differ xor_step differ_small

-- turned round: a number of w bits, and then any number, by its w lowest bits
not_half : (p a : ℕ) → a < p * 2 → ((p * 2 - 1) - a) / 2 ≡ (p - 1) - a / 2
not_half p a h = omega arith

not_low : (p a : ℕ) → a < p * 2 → ((p * 2 - 1) - a) % 2 ≡ 1 - a % 2
not_low p a h = omega arith

bit_not : (w k a : ℕ) → k < w → a < 2 ^ w → bit ((2 ^ w - 1) - a) k ≡ 1 - bit a k
bit_not zero k a h l = absurd (not-suc-le-zero h)
bit_not (suc w) zero a h l =
    bit_zero ((2 ^ suc w - 1) - a)
    ∙ rw pow-suc (not_low (2 ^ w) a (rw pow-suc at l)) ∙ ap (λ (x : ℕ). 1 - x) (sym (bit_zero a))
bit_not (suc w) (suc k) a h l =
    let l' : a < 2 ^ w * 2 = rw pow-suc at l in
    bit-suc ((2 ^ suc w - 1) - a) k
    ∙ ap (λ (x : ℕ). bit x k) (rw pow-suc (not_half (2 ^ w) a l'))
    ∙ bit_not w k (a / 2) (le_of_suc-le-suc h) (omega arith)
    ∙ ap (λ (x : ℕ). 1 - x) (sym (bit-suc a k))

pub bit-inverted : (w k a : ℕ) → k < w → bit (inverted w a) k ≡ 1 - bit a k
unfolding inverted
bit-inverted w k a h = bit_not w k (a % 2 ^ w) h (mod-lt a (pow_pos w)) ∙ ap (λ (x : ℕ). 1 - x) (bit_below w a k h)

-- the choice
bit-cond : (t : Bool) (a b k : ℕ) → bit (cond t b a) k ≡ cond t (bit b k) (bit a k)
bit-cond true a b k = refl
bit-cond false a b k = refl

pub bit-mux : (c a b k : ℕ) → bit (mux c a b) k ≡ mux c (bit a k) (bit b k)
unfolding mux
bit-mux c a b k = bit-cond (eqb c 0) a b k

-- one at a place, which the shift does not move out of the word
pub shl_one : (k w : ℕ) → k < w → (1 * 2 ^ k) % 2 ^ w ≡ 2 ^ k
shl_one k w h = shl_exact 1 k w (lit< tt) (omega arith) ∙ one-mul (2 ^ k)

-- the bit that is taken out stands within the number
pub old_le : (v k : ℕ) → bit v k * 2 ^ k ≤ v
unfolding bit
old_le v k = omega (arith, split v (1 + k), mod-pow-add v 1 k)

-- putting a bit: the bits above, the new bit, the bits below
pub put_form : (v k b : ℕ) → put_bit v k b ≡ v / 2 ^ (1 + k) * 2 ^ (1 + k) + (b * 2 ^ k + v % 2 ^ k)
unfolding put_bit bit
put_form v k b = omega (arith, split v (1 + k), mod-pow-add v 1 k)

pub put_low : (v k b : ℕ) → b < 2 → b * 2 ^ k + v % 2 ^ k < 2 ^ (1 + k)
put_low v k b h = rw (pow-add 2 1 k) (digits_lt h (mod-lt v (pow_pos k)))

put_split : (v k b : ℕ) → put_bit v k b ≡ (v / 2 ^ (1 + k) * 2 + b) * 2 ^ k + v % 2 ^ k
put_split v k b =
    let H : ℕ = v / 2 ^ (1 + k) in
    put_form v k b ∙ rw (pow-add 2 1 k) (omega (arith, add-mul (H * 2) b (2 ^ k), mul_assoc H 2 (2 ^ k)))

put_same : (v k b : ℕ) → b < 2 → bit (put_bit v k b) k ≡ b
unfolding bit
put_same v k b h =
    ap (λ (x : ℕ). x / 2 ^ k % 2) (put_split v k b)
    ∙ ap (λ (x : ℕ). x % 2) (high (v / 2 ^ (1 + k) * 2 + b) k (mod-lt v (pow_pos k))) ∙ digits_mod (v / 2 ^ (1 + k)) h

put_above : (v k b i : ℕ) → b < 2 → k < i → bit (put_bit v k b) i ≡ bit v i
put_above v k b i h l =
    let e : (1 + k) + (i - suc k) ≡ i = omega arith in
    let top : put_bit v k b / 2 ^ (1 + k) ≡ v / 2 ^ (1 + k) = rw (put_form v k b) (high (v / 2 ^ (1 + k)) (1 + k) (put_low v k b h)) in
    rw e at
    (sym (bit_shr (put_bit v k b) (1 + k) (i - suc k))
    ∙ ap (λ (x : ℕ). bit x (i - suc k)) top
    ∙ bit_shr v (1 + k) (i - suc k))

put_below : (v k b i : ℕ) → i < k → bit (put_bit v k b) i ≡ bit v i
put_below v k b i h =
    let rest : put_bit v k b % 2 ^ k ≡ v % 2 ^ k = rw (put_split v k b) (low (v / 2 ^ (1 + k) * 2 + b) k (mod-lt v (pow_pos k))) in
    sym (bit_below k (put_bit v k b) i h)
    ∙ ap (λ (x : ℕ). bit x i) rest ∙ bit_below k v i h

-- the bit that is put is the new one, and the others stay
pub put_bit_lem : (v k b i : ℕ) → b < 2 → bit (put_bit v k b) i ≡ cond (eqb i k) b (bit v i)
put_bit_lem v k b i h = decide (eqb i k) refl
  where
    decide : (t : Bool) → eqb i k ≡ t → bit (put_bit v k b) i ≡ cond t b (bit v i)
    decide true e = rw (eqb-true i k e) (put_same v k b h)
    decide false e =
        ne_cases i k (bit (put_bit v k b) i ≡ bit v i) (eqb-false i k e) (put_below v k b i) (put_above v k b i h)

-- two numbers of w bits with the same bits are the same
pub bits_ext : (w a b : ℕ) → a < 2 ^ w → b < 2 ^ w → ((k : ℕ) → k < w → bit a k ≡ bit b k) → a ≡ b
bits_ext zero a b ha hb e = omega arith
bits_ext (suc w) a b ha hb e =
    let la : a < 2 ^ w * 2 = rw pow-suc at ha in
    let lb : b < 2 ^ w * 2 = rw pow-suc at hb in
    let first : a % 2 ≡ b % 2 = sym (bit_zero a) ∙ e zero (zero-lt-suc w) ∙ bit_zero b in
    let rest : a / 2 ≡ b / 2 =
    bits_ext w (a / 2) (b / 2) (omega arith) (omega arith) (λ k h. sym (bit-suc a k) ∙ e (suc k) (suc-le-suc h) ∙ bit-suc b k) in
    omega arith
