-- `words::index_within` meets its contract: a u8 is below every power from 2 ^ 8 on. Assumes nothing.
use Rattle.std.proofs.Common.{sym, ◌∙◌, arith}
use native.Mathlib.Nat.{lt_of_lt_of_le}
use borrow.Author.Tests.{lt-leb}
use lib.Pow.{pow_mono}
use Rattle.words.proofs.index_within.Goals as goal

pub returns-else-from-le-GREATEST_WIDTH : goal.returns-else-from-le-GREATEST_WIDTH
returns-else-from-le-GREATEST_WIDTH c =
    lt-leb _ _ c.if-from-le-GREATEST_WIDTH.false
    ∙ sym (lt-leb _ _ (lt_of_lt_of_le c.ranges.vector_width.fits (pow_mono {i = 8} {j = c.args.index_width} (omega (arith, c.from.ensures, c.if-from-le-GREATEST_WIDTH.false)))))
