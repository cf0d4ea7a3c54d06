-- `words::bit` meets its contract: from 32 on a u32 has no ones. Assumes nothing.
use Rattle.std.proofs.Common.{sym, arith}
use Rattle.words.specs.Limits.{greatest_width}
use Rattle.words.proofs.BitLaws.{bit_above}
use Rattle.words.proofs.bit.Goals as goal

pub returns-else-number-lt-GREATEST_WIDTH : goal.returns-else-number-lt-GREATEST_WIDTH
returns-else-number-lt-GREATEST_WIDTH c =
    sym (bit_above greatest_width c.args.value c.args.number c.ranges.value.fits (omega (arith, c.if-number-lt-GREATEST_WIDTH.false)))
