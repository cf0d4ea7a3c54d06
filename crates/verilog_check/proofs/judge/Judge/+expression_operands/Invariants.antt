-- What falls with each call and each turn, and what the loops keep. Assumes nothing.
use mathlib.Core.Path.{◌≡◌}
use Prim.Native.Nat.{◌+◌, ◌*◌}
use Rattle.tagged.specs.Fields.{fields_at}
use Rattle.tagged.specs.Walk.{fields_left}
use Rattle.tagged.specs.Refusals.{lower_refusal}
use Rattle.verilog_check.specs.Known.{answer_by}
use Rattle.verilog_check.specs.Walk.{Walker, walk_all, walk_expression}
use Rattle.verilog_check.proofs.judge.Judge.+expression_operands.Given as goal

abbrev pub decreases-expression : goal.decreases-expression
decreases-expression l =
    2 * l.depth

abbrev pub decreases-operands : goal.decreases-operands
decreases-operands l =
    2 * l.depth + 1

abbrev pub invariant-operands-loop-field : goal.invariant-operands-loop-field
invariant-operands-loop-field l =
    let walk : Walker = walk_expression (answer_by l.self) l.depth in
    lower_refusal l.best (walk_all walk (fields_left l.field-iterator)) ≡ walk_all walk (fields_at l.base l.list)
