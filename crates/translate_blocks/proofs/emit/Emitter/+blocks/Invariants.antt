-- What falls with each call, and what the loops keep. Assumes nothing.
use Prim.Native.Nat.{◌+◌, ◌*◌}
use Rattle.tagged.specs.Fields.{fields_at}
use Rattle.translate_blocks.specs.Writing.{variables_in, write_statement}
use Rattle.translate_blocks.specs.Working.{work}
use Rattle.translate_blocks.proofs.ItemSteps.{ItemsGoing}
use Rattle.translate_blocks.proofs.ListSteps.{ListGoing}
use Rattle.translate_blocks.proofs.emit.Emitter.+blocks.Given as goal

abbrev pub decreases-block : goal.decreases-block
decreases-block l = 6 * l.depth

abbrev pub decreases-case_of : goal.decreases-case_of
decreases-case_of l = 6 * l.depth + 3

abbrev pub decreases-front_block : goal.decreases-front_block
decreases-front_block l = 6 * l.depth + 1

abbrev pub decreases-if_else : goal.decreases-if_else
decreases-if_else l = 6 * l.depth + 3

abbrev pub decreases-item : goal.decreases-item
decreases-item l = 6 * l.depth

abbrev pub decreases-items : goal.decreases-items
decreases-items l = 6 * l.depth + 2

abbrev pub decreases-marked_item : goal.decreases-marked_item
decreases-marked_item l = 6 * l.depth + 1

abbrev pub decreases-statement : goal.decreases-statement
decreases-statement l = 6 * l.depth

abbrev pub decreases-statement_by : goal.decreases-statement_by
decreases-statement_by l = 6 * l.depth + 4

abbrev pub decreases-statements : goal.decreases-statements
decreases-statements l = 6 * l.depth + 1

abbrev pub invariant-items-loop-field : goal.invariant-items-loop-field
invariant-items-loop-field l =
    ItemsGoing (variables_in l.entry) l.depth l.selector l.entry (fields_at 0 l.list) (work l.initial.self l.initial.log) l.field-iterator l.table (work l.self l.log)

abbrev pub invariant-statements-loop-field : goal.invariant-statements-loop-field
invariant-statements-loop-field l =
    ListGoing (λ k. write_statement k l.depth) (fields_at 0 l.list) l.initial.table (work l.initial.self l.initial.log) l.field-iterator l.table (work l.self l.log)
