-- What the loop that begins the variables keeps: those before the index show the widths and the numbers.
use mathlib.Core.Path.{◌≡◌}
use lib.ListN.{take}
use Rattle.verilog_run.specs.Execution.{widths_of, state_of}
use Rattle.verilog_run.proofs.cycle.begin.Given as goal

abbrev pub invariant-loop-at : goal.invariant-loop-at
invariant-loop-at l = (take l.at (widths_of l.variables) ≡ take l.at l.widths)
    × (take l.at (state_of l.variables).current ≡ take l.at l.numbers) × (take l.at (state_of l.variables).pending ≡ take l.at l.numbers)
