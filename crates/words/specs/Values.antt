-- Values with their widths, and what a step of a run gives: a result, or nothing where the step has no meaning.
use Rattle.std.specs.Prelude.{Bool, true, false, ℕ}

-- a number with the width of its vector
pub record Value : Type 0 where
  pub width : ℕ
  pub number : ℕ

-- a step without meaning ends the run as stopped
pub data Outcome (A : Type 0) : Type 0 where
  stopped : Outcome A
  got : A → Outcome A

infixl 20 ◌>>=◌
-- goes on with what was got
abbrev pub ◌>>=◌ : {A B : Type 0} → Outcome A → (A → Outcome B) → Outcome B
stopped >>= f = stopped
got a >>= f = f a

-- stops unless the test holds
abbrev pub provided : {A : Type 0} → Bool → Outcome A → Outcome A
provided true r = r
provided false r = stopped

-- did the run not stop?
abbrev pub is_got : {A : Type 0} → Outcome A → Bool
is_got stopped = false
is_got (got a) = true
