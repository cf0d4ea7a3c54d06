-- What the loop that settles keeps: the numbers settled and those still to be settled are the whole.
use mathlib.Core.Path.{◌≡◌}
use mathlib.Core.List.{◌++◌}
use lib.ListN.{take, drop}
use Rattle.verilog.specs.Cycle.{settled}
use Rattle.verilog_run.specs.Execution.{state_of, delayed_by, settled_state}
use Rattle.verilog_run.proofs.cycle.settle.Given as goal

abbrev pub invariant-loop-at : goal.invariant-loop-at
invariant-loop-at l =
    take l.at l.numbers ++ settled (delayed_by l.firsts) l.at (drop l.at (state_of l.variables).current) (drop l.at (state_of l.variables).pending)
    ≡ settled_state l.firsts (state_of l.variables)
