-- What the loop keeps. Assumes nothing.
use lib.ListN.{length}
use Rattle.translate_blocks.proofs.DriveTurns.{DrivesGoing}
use Rattle.translate_blocks.proofs.emit.Emitter.drives.Given as goal

abbrev pub invariant-loop-variable : goal.invariant-loop-variable
invariant-loop-variable l = DrivesGoing (length l.marks) l.firsts l.table l.marks l.initial.self l.variable l.self
