-- What falls with each call and each turn, and what the loops keep. Assumes nothing.
use Prim.Native.Nat.{ℕ, ◌+◌, ◌*◌}
use mathlib.Core.List.{List}
use mathlib.Core.Path.{◌≡◌}
use Rattle.verilog_run.specs.Execution.{widths_of, state_of, run_block, run_items, run_item, run_all, run_statement}
use Rattle.tagged.specs.Fields.{fields_at}
use Rattle.tagged.specs.Walk.{fields_left}
use Rattle.verilog_run.proofs.execute.+execution.Given as goal

abbrev pub decreases-block : goal.decreases-block
decreases-block l = 4 * l.depth

abbrev pub decreases-case_of : goal.decreases-case_of
decreases-case_of l = 4 * l.depth + 2

abbrev pub decreases-front_block : goal.decreases-front_block
decreases-front_block l = 4 * l.depth + 1

abbrev pub decreases-if_else : goal.decreases-if_else
decreases-if_else l = 4 * l.depth + 2

abbrev pub decreases-item : goal.decreases-item
decreases-item l = 4 * l.depth

abbrev pub decreases-items : goal.decreases-items
decreases-items l = 4 * l.depth + 1

abbrev pub decreases-statement : goal.decreases-statement
decreases-statement l = 4 * l.depth

abbrev pub decreases-statement_by : goal.decreases-statement_by
decreases-statement_by l = 4 * l.depth + 3

abbrev pub decreases-statements : goal.decreases-statements
decreases-statements l = 4 * l.depth + 1

abbrev pub invariant-items-loop-field : goal.invariant-items-loop-field
invariant-items-loop-field l =
    let widths : List ℕ = widths_of l.initial.variables in
    (widths_of l.variables ≡ widths)
    × (run_items (run_item widths l.depth) (run_block widths l.depth) l.selector (fields_left l.field-iterator) (state_of l.variables)
    ≡ run_items (run_item widths l.depth) (run_block widths l.depth) l.selector (fields_at 0 l.list) (state_of l.initial.variables))

abbrev pub invariant-statements-loop-field : goal.invariant-statements-loop-field
invariant-statements-loop-field l =
    (widths_of l.variables ≡ widths_of l.initial.variables)
    × (run_all (run_statement (widths_of l.initial.variables) l.depth) (fields_left l.field-iterator) (state_of l.variables)
    ≡ run_all (run_statement (widths_of l.initial.variables) l.depth) (fields_at 0 l.list) (state_of l.initial.variables))
