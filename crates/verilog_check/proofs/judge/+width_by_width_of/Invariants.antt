-- What falls with each call and each turn, and what the loops keep. Assumes nothing.
use Prim.Native.Nat.{◌+◌, ◌*◌}
use Rattle.verilog_check.proofs.judge.+width_by_width_of.Given as goal

abbrev pub decreases-width_by : goal.decreases-width_by
decreases-width_by l =
    2 * l.depth + 1

abbrev pub decreases-width_of : goal.decreases-width_of
decreases-width_of l =
    2 * l.depth
