-- What falls with each call and each turn, and what the loops keep. Assumes nothing.
use Prim.Native.Nat.{◌+◌, ◌*◌}
use Rattle.verilog_check.specs.Known.{answer_by, width_by}
use mathlib.Core.Path.{◌≡◌}
use Rattle.tagged.specs.Fields.{fields_at}
use Rattle.tagged.specs.Walk.{fields_left}
use Rattle.tagged.specs.Refusals.{lower_refusal}
use Rattle.verilog_check.specs.Walk.{Walker, walk_all, walk_part, walk_statement}
use Rattle.verilog_check.proofs.judge.Judge.+statement_walk.Given as goal

abbrev pub decreases-part : goal.decreases-part
decreases-part l =
    3 * l.depth

abbrev pub decreases-parts : goal.decreases-parts
decreases-parts l =
    3 * l.depth + 1

abbrev pub decreases-statement : goal.decreases-statement
decreases-statement l =
    3 * l.depth

abbrev pub decreases-statements : goal.decreases-statements
decreases-statements l =
    3 * l.depth + 1

abbrev pub invariant-parts-loop-field : goal.invariant-parts-loop-field
invariant-parts-loop-field l =
    let walk : Walker = walk_part (answer_by l.self) (width_by l.self) l.depth l.selector in
    lower_refusal l.best (walk_all walk (fields_left l.field-iterator)) ≡ walk_all walk (fields_at l.base l.list)

abbrev pub invariant-statements-loop-field : goal.invariant-statements-loop-field
invariant-statements-loop-field l =
    let walk : Walker = walk_statement (answer_by l.self) (width_by l.self) l.depth in
    lower_refusal l.best (walk_all walk (fields_left l.field-iterator)) ≡ walk_all walk (fields_at l.base l.list)
