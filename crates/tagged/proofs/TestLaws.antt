-- What tests joined by "and", "or" and "not" say of their parts, and numbers that a test finds unlike. By cases on the tests.
use mathlib.Core.Path.{◌≡◌, refl}
use mathlib.Core.Bool.{Bool, true, false, ◌&&◌, ◌||◌, not, and-false, and-eq-true_iff, true≢false}
use Prim.Native.Nat.{ℕ}
use lib.Dec.{eqb}
use borrow.Author.Tests.{eqb-false, ne_eqb, not-true}

-- one of two tests holds
pub or_left : (a b : Bool) → a ≡ true → (a || b) ≡ true
or_left a b e = rw e

pub or_right : (a : Bool) {b : Bool} → b ≡ true → (a || b) ≡ true
or_right true e = refl
or_right false e = e

pub or_cases : {C : Type 0} (a b : Bool) → (a || b) ≡ true → (a ≡ true → C) → (b ≡ true → C) → C
or_cases true b e f g = f refl
or_cases false b e f g = g e

-- both of two tests hold
pub both : (a b : Bool) → (a && b) ≡ true → (a ≡ true) × (b ≡ true)
both a b e = (and-eq-true_iff a b).0 e

-- neither of two tests holds
pub neither : (a b : Bool) → (a || b) ≡ false → (a ≡ false) × (b ≡ false)
neither true b e = absurd (true≢false e)
neither false b e = (refl, e)

-- not both of two tests hold
pub not_first : (a b : Bool) → a ≡ false → (a && b) ≡ false
not_first a b e = rw e

pub not_second : (a : Bool) {b : Bool} → b ≡ false → (a && b) ≡ false
not_second a e = rw e (and-false a)

pub not_both : {C : Type 0} (a b : Bool) → (a && b) ≡ false → (a ≡ false → C) → (b ≡ false → C) → C
not_both true b e f g = g e
not_both false b e f g = f refl

-- a test that does not hold, turned round
pub not_so : {t : Bool} → t ≡ false → not t ≡ true
not_so e = rw e

pub not_not_so : {t : Bool} → t ≡ true → not t ≡ false
not_not_so e = rw e

-- numbers that differ
pub unlike : (a b : ℕ) → (a ≡ b → ⊥) → not (eqb a b) ≡ true
unlike a b n = not_so (ne_eqb a b n)

pub unlike_ne : (a b : ℕ) → not (eqb a b) ≡ true → a ≡ b → ⊥
unlike_ne a b e = eqb-false a b (not-true (eqb a b) e)
