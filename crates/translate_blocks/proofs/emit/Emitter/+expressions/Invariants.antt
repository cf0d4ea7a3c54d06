-- What falls with each call. Assumes nothing.
use Prim.Native.Nat.{◌+◌, ◌*◌}
use Rattle.translate_blocks.proofs.emit.Emitter.+expressions.Given as goal

abbrev pub decreases-expression : goal.decreases-expression
decreases-expression l = 2 * l.depth

abbrev pub decreases-expression_by : goal.decreases-expression_by
decreases-expression_by l = 2 * l.depth + 1
