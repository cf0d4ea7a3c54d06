-- Numbers within limits.
use Rattle.std.specs.Prelude.{ℕ, cond, ◌&&◌, leb, Option, Some, None}
use Rattle.words.specs.declared.limits.Limited.{Limited}

-- what the constructor of a limited kind answers: the number, if it lies from the least to the most, ends included
abbrev pub limited : (least most : ℕ) → ℕ → Option (Limited least most)
limited least most n = cond (leb least n && leb n most) (Some (record { number = n })) None

-- the number that such an answer holds, if it holds one
abbrev pub number_in : {least most : ℕ} → Option (Limited least most) → Option ℕ
number_in None = None
number_in (Some made) = Some made.number
