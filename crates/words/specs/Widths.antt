-- Widths, and the numbers that fit them.
use Rattle.std.specs.Prelude.{ℕ, ◌^◌, Bool, ◌&&◌, leb, ltb, Option}
use Rattle.words.specs.Limits.{greatest_width}
use Rattle.words.specs.Limited.{limited}
use Rattle.words.specs.declared.limits.Limited.{Limited}

-- a width is 1 to 32
abbrev pub is_width : ℕ → Bool
is_width bits = leb 1 bits && leb bits greatest_width

-- what making a width answers: the width, or nothing for 0 and for 33 and up
abbrev pub made_width : ℕ → Option (Limited 1 greatest_width)
made_width bits = limited 1 greatest_width bits

-- a number fits a width if it is below 2 to that width
abbrev pub fits_width : ℕ → ℕ → Bool
fits_width width number = ltb number (2 ^ width)

-- an index of this width stays within a vector of n bits: 2 to its width is not above n
abbrev pub index_within : ℕ → ℕ → Bool
index_within index_width n = leb (2 ^ index_width) n
