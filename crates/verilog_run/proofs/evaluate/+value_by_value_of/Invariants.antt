-- What falls with each call and each turn, and what the loops keep. Assumes nothing.
use Prim.Native.Nat.{◌+◌, ◌*◌}
use Rattle.verilog_run.proofs.evaluate.+value_by_value_of.Given as goal

abbrev pub decreases-value_by : goal.decreases-value_by
decreases-value_by l = 2 * l.depth + 1

abbrev pub decreases-value_of : goal.decreases-value_of
decreases-value_of l = 2 * l.depth
