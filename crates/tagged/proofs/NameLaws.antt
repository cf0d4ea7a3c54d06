-- Laws of names: which bytes a name may have, one turn of each loop, and that the test of sameness is equality.
use mathlib.Core.Path.{◌≡◌, refl, ap, ap₂}
use mathlib.Core.Bool.{Bool, true, false, ◌&&◌, false≢true}
use mathlib.Core.List.{List, [], ◌∷◌}
use Prim.Native.Nat.{ℕ, ◌+◌, ◌≤◌, ◌<◌}
use native.Mathlib.Numerals.{add-one}
use native.Mathlib.Omega.{arith}
use lib.Dec.{eqb}
use lib.Pointwise.{pointwise}
use lib.ListN.{length, get_or, drop}
use lib.Seq.{drop-cons}
use borrow.Author.Tests.{eq-eqb, ne_eqb, eqb-true}
use Rattle.tagged.specs.Names.{is_name_byte, all_name_bytes, same_name}
use Rattle.tagged.proofs.RangeLaws.{range_above}

-- a byte past the letters is none of a name's
pub byte_high : (b : ℕ) → 0x7B ≤ b → is_name_byte b ≡ false
unfolding is_name_byte
byte_high b h = rw (range_above b 0x41 0x5A (omega arith), range_above b 0x61 0x7A (omega arith), range_above b 0x30 0x39 (omega arith), ne_eqb b 0x5F (λ e. omega arith))

-- one turn of the loop over a name's bytes, which has come to the index `at`
module _ (l : List ℕ) (at : ℕ) (h : at < length l) where
  pub bytes_turn : is_name_byte (get_or l at 0) ≡ true → all_name_bytes (drop at l) ≡ all_name_bytes (drop (at + 1) l)
  unfolding all_name_bytes
  bytes_turn e = rw (drop-cons l at 0 h, e, add-one)

  pub bytes_broken : is_name_byte (get_or l at 0) ≡ false → all_name_bytes (drop at l) ≡ false
  unfolding all_name_bytes
  bytes_broken e = rw (drop-cons l at 0 h, e)

-- the library's comparison of two lists is the test of sameness
pub same_pointwise : (a b : List ℕ) → pointwise eqb a b ≡ same_name a b
unfolding same_name
same_pointwise [] [] = refl
same_pointwise [] (y ∷ b) = refl
same_pointwise (x ∷ a) [] = refl
same_pointwise (x ∷ a) (y ∷ b) = ap (λ (t : Bool). eqb x y && t) (same_pointwise a b)

-- the test of sameness is equality
pub same_refl : (a : List ℕ) → same_name a a ≡ true
unfolding same_name
same_refl [] = refl
same_refl (x ∷ a) = rw (eq-eqb x x refl, same_refl a)

pub same_equal : (a b : List ℕ) → same_name a b ≡ true → a ≡ b
unfolding same_name
same_equal [] [] e = refl
same_equal [] (y ∷ b) e = absurd (false≢true e)
same_equal (x ∷ a) [] e = absurd (false≢true e)
same_equal (x ∷ a) (y ∷ b) e = go (eqb x y) refl e (λ k. same_equal a b k)
  where
    go : (t : Bool) → eqb x y ≡ t → t && same_name a b ≡ true → (same_name a b ≡ true → a ≡ b) → x ∷ a ≡ y ∷ b
    go true p q ih = ap₂ (λ (z : ℕ) (l : List ℕ). z ∷ l) (eqb-true x y p) (ih q)
    go false p q ih = absurd (false≢true q)
