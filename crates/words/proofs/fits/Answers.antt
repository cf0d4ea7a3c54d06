-- `words::fits` meets its contract: a u32 is below every power from 2 ^ 32 on. Assumes nothing.
use Rattle.std.proofs.Common.{sym, ◌∙◌, arith}
use native.Mathlib.Nat.{lt_of_lt_of_le}
use borrow.Author.Tests.{lt-ltb}
use lib.Pow.{pow_mono}
use Rattle.words.specs.Limits.{greatest_width}
use Rattle.words.proofs.fits.Goals as goal

pub returns-then-from-gt-GREATEST_WIDTH : goal.returns-then-from-gt-GREATEST_WIDTH
returns-then-from-gt-GREATEST_WIDTH c =
    lt-ltb _ _ c.if-from-gt-GREATEST_WIDTH.true
    ∙ sym (lt-ltb _ _ (lt_of_lt_of_le c.ranges.value.fits (pow_mono {i = greatest_width} {j = c.args.width} (omega (arith, c.from.ensures, c.if-from-gt-GREATEST_WIDTH.true)))))
