-- Rows that fit, by their shape: a number below 2 to its width for each width. A number of such a row, one replaced, and the test `all_fit`, both ways.
-- By induction on the row; mentions no module. Assumes nothing.
use mathlib.Core.Path.{◌≡◌, refl}
use mathlib.Core.Bool.{true, false≢true, and-eq-true_iff}
use mathlib.Core.List.{List, [], ◌∷◌}
use Prim.Native.Nat.{ℕ, zero, suc, ◌^◌, ◌<◌}
use native.Mathlib.Omega.{arith}
use lib.ListN.{get_or, set}
use borrow.Author.Tests.{ltb-true, lt-ltb}
use Rattle.words.specs.Widths.{fits_width}
use Rattle.tagged.specs.Rows.{all_fit}

pub data Fits : List ℕ → List ℕ → Type 0 where
  none_fit : Fits [] []
  more_fit : {w v : ℕ} {widths row : List ℕ} → v < 2 ^ w → Fits widths row → Fits (w ∷ widths) (v ∷ row)

pub fits_of_test : (widths row : List ℕ) → all_fit widths row ≡ true → Fits widths row
unfolding all_fit
fits_of_test [] [] e = none_fit
fits_of_test [] (v ∷ row) e = absurd (false≢true e)
fits_of_test (w ∷ widths) [] e = absurd (false≢true e)
fits_of_test (w ∷ widths) (v ∷ row) e =
    let both = (and-eq-true_iff (fits_width w v) (all_fit widths row)).0 e in
    more_fit (ltb-true v (2 ^ w) both.0) (fits_of_test widths row both.1)

pub test_of_fits : {widths row : List ℕ} → Fits widths row → all_fit widths row ≡ true
unfolding all_fit
test_of_fits none_fit = refl
test_of_fits (more_fit {w} {v} h f) = rw (lt-ltb v (2 ^ w) h) (test_of_fits f)

-- also where there is no number: it counts as 0, and the width as 0
pub number_fits : {widths row : List ℕ} → Fits widths row → (i : ℕ) → get_or row i 0 < 2 ^ get_or widths i 0
number_fits none_fit i = omega arith
number_fits (more_fit h f) zero = h
number_fits (more_fit h f) (suc i) = number_fits f i

pub set_fits : {widths row : List ℕ} → Fits widths row → (i v : ℕ) → v < 2 ^ get_or widths i 0 → Fits widths (set row i v)
set_fits none_fit i v g = none_fit
set_fits (more_fit h f) zero v g = more_fit g f
set_fits (more_fit h f) (suc i) v g = more_fit h (set_fits f i v g)
