-- What the loop over the processes keeps: the widths, and that what is left makes of the values what the whole list makes of the first ones.
use mathlib.Core.Path.{◌≡◌}
use Rattle.tagged.specs.Fields.{fields_at}
use Rattle.tagged.specs.Walk.{fields_left}
use Rattle.verilog_run.specs.Execution.{widths_of, state_of, run_all, run_process}
use Rattle.verilog_run.proofs.execute.processes.Given as goal

abbrev pub invariant-loop-field : goal.invariant-loop-field
invariant-loop-field l = (widths_of l.variables ≡ widths_of l.initial.variables)
    × (run_all (run_process (widths_of l.initial.variables)) (fields_left l.field-iterator) (state_of l.variables)
    ≡ run_all (run_process (widths_of l.initial.variables)) (fields_at 0 l.list) (state_of l.initial.variables))
