-- What the loop keeps. Assumes nothing.
use Rattle.translate_blocks.proofs.LogLaws.{LogGoing}
use Rattle.translate_blocks.proofs.case_log.Log.push_changes.Given as goal

abbrev pub invariant-loop-slot : goal.invariant-loop-slot
invariant-loop-slot l = LogGoing l.entry l.initial.table l.initial.self l.slot l.table l.self
