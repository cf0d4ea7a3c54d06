-- Small tests and choices that the definitions share.
use Rattle.std.specs.Prelude.{Bool, true, false, ◌&&◌, ℕ, leb}

-- the number lies in this range, ends included
abbrev pub in_range : ℕ → ℕ → ℕ → Bool
in_range first last n = leb first n && leb n last

-- the first if the test is true, else the second; only the side taken is computed, for definitions that recurse in one
abbrev pub choose {ℓ} : {A : Type ℓ} → Bool → (Unit {0} → A) → (Unit {0} → A) → A
choose true yes' no' = yes' tt
choose false yes' no' = no' tt
