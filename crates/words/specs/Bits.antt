-- Single bits of numbers, and what each operator does with numbers of w bits, for every w.
use Rattle.std.specs.Prelude.{ℕ, zero, suc, ◌+◌, ◌-◌, ◌*◌, ◌/◌, ◌%◌, ◌^◌, cond, eqb}
use Rattle.words.specs.Limits.{greatest_width}

-- the bit k of v
unfoldable pub bit : ℕ → ℕ → ℕ
bit v k = v / 2 ^ k % 2

-- how many of the w lowest bits of v are one
unfoldable pub ones_below : ℕ → ℕ → ℕ
ones_below zero v = zero
ones_below (suc w) v = bit v w + ones_below w v

-- one when the number of ones is odd
unfoldable pub parity : ℕ → ℕ
parity v = ones_below greatest_width v % 2

-- each of the w bits turned round
unfoldable pub inverted : ℕ → ℕ → ℕ
inverted w v = (2 ^ w - 1) - v % 2 ^ w

-- the sum, without the carry out of the width
unfoldable pub sum : ℕ → ℕ → ℕ → ℕ
sum w a b = (a + b) % 2 ^ w

-- one when the numbers are equal, else zero
unfoldable pub same : ℕ → ℕ → ℕ
same a b = cond (eqb a b) 1 0

-- v with b as its bit k
unfoldable pub put_bit : ℕ → ℕ → ℕ → ℕ
put_bit v k b = (v - bit v k * 2 ^ k) + b * 2 ^ k

-- the second where the first is one, the third where it is zero
unfoldable pub mux : ℕ → ℕ → ℕ → ℕ
mux c a b = cond (eqb c 0) b a
