-- Numbers in bytes, high byte first, and writing bytes into a lent buffer.
use Rattle.std.specs.Prelude.{◌≡◌, List, [], ◌∷◌, ℕ, ◌+◌, ◌*◌, ◌/◌, ◌%◌, ◌<◌, length, get_or}
use Rattle.std.proofs.lemmas.List.Edits.{sets}

-- every element is a byte
abbrev pub AllBytes : List ℕ → Type 0
AllBytes l = (i : ℕ) → get_or l i 0 < 256

-- a number in two bytes
unfoldable pub two_bytes : ℕ → List ℕ
two_bytes n = n / 256 % 256 ∷ n % 256 ∷ []

-- the number that two bytes give
unfoldable pub number_of_two : ℕ → ℕ → ℕ
number_of_two a b = a * 256 + b

-- a number in four bytes
unfoldable pub four_bytes : ℕ → List ℕ
four_bytes n = n / 256 / 256 / 256 % 256 ∷ n / 256 / 256 % 256 ∷ n / 256 % 256 ∷ n % 256 ∷ []

-- the number that four bytes give
unfoldable pub number_of_four : ℕ → ℕ → ℕ → ℕ → ℕ
number_of_four a b c d = ((a * 256 + b) * 256 + c) * 256 + d

-- the number in the first four bytes of a list; what is missing counts as 0
unfoldable pub four_of : List ℕ → ℕ
four_of l = number_of_four (get_or l 0 0) (get_or l 1 0) (get_or l 2 0) (get_or l 3 0)

-- the buffer `out` with the bytes `bs` from index `at` on, so far as it reaches, is `written`; `next` is the index past them
pub record Wrote (out : List ℕ) (at : ℕ) (bs : List ℕ) (written : List ℕ) (next : ℕ) : Type 0 where
  pub list : written ≡ sets out at bs
  pub past : next ≡ at + length bs
