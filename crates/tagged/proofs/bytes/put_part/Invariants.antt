use lib.ListN.{take}
use Rattle.tagged.specs.Bytes.{Wrote}
use Rattle.tagged.proofs.bytes.put_part.Given as goal

abbrev pub invariant-loop-byte : goal.invariant-loop-byte
invariant-loop-byte l = Wrote l.initial.out l.at (take l.byte-index l.part) l.out l.place
