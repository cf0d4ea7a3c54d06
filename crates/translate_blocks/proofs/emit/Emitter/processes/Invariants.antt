-- What the loop keeps. Assumes nothing.
use Rattle.tagged.specs.Fields.{fields_at}
use Rattle.translate_blocks.specs.Writing.{write_process}
use Rattle.translate_blocks.specs.Working.{work}
use Rattle.translate_blocks.proofs.ListSteps.{ListGoing}
use Rattle.translate_blocks.proofs.emit.Emitter.processes.Given as goal

abbrev pub invariant-loop-field : goal.invariant-loop-field
invariant-loop-field l = ListGoing write_process (fields_at 0 l.list) l.initial.table (work l.initial.self l.initial.log) l.field-iterator l.table (work l.self l.log)
