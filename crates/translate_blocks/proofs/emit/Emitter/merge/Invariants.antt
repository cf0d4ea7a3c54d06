-- What the loop keeps. Assumes nothing.
use Rattle.translate_blocks.proofs.MergeLaws.{MergeGoing}
use Rattle.translate_blocks.proofs.emit.Emitter.merge.Given as goal

abbrev pub invariant-loop-index : goal.invariant-loop-index
invariant-loop-index l = MergeGoing l.condition l.first l.initial.table l.initial.self l.index l.table l.self
