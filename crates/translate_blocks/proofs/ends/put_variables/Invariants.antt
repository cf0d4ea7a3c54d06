-- What the loop keeps. Assumes nothing.
use Rattle.translate_blocks.proofs.StartTurns.{StartGoing}
use Rattle.translate_blocks.proofs.ends.put_variables.Given as goal

abbrev pub invariant-loop-variable : goal.invariant-loop-variable
invariant-loop-variable l = StartGoing l.widths l.initial.table l.at l.variable l.table
