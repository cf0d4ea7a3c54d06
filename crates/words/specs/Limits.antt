-- The limit on widths, once.
use Rattle.std.specs.Prelude.{ℕ}

-- all values are vectors of 1 to 32 bits
abbrev pub greatest_width : ℕ
greatest_width = 32
