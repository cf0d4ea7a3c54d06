-- `words::parity` meets its contract: the language's count of ones is the sum of the bits. Assumes nothing.
use Rattle.words.specs.Limits.{greatest_width}
use Rattle.words.specs.Bits.{parity}
use Rattle.words.proofs.WidthLaws.{ones_parity}
use Rattle.words.proofs.parity.Goals as goal

pub returns : goal.returns
unfolding parity
returns c = ones_parity greatest_width c.args.value c.ranges.value.fits
