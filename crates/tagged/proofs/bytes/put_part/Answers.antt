-- `tagged::bytes::put_part` meets its contract: at each turn the bytes passed are written. Assumes nothing.
use Rattle.tagged.proofs.WriteLaws.{part_turn}
use Rattle.tagged.proofs.bytes.put_part.Goals as goal

pub loop-byte-preserved : goal.loop-byte-preserved
loop-byte-preserved c = part_turn c.args.part.now c.loop-byte.byte-index c.loop-byte-test.true c.loop-byte.invariant c.put_byte-place.ensures
