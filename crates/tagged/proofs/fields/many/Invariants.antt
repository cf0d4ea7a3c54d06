use Rattle.std.proofs.Common.{◌≡◌, Bool, ◌+◌, ◌-◌, ◌≤◌, length, drop}
use Rattle.tagged.specs.Fields.{Body, further, field_by, many}
use Rattle.tagged.specs.declared.sorts.Sort.{Sort}
use Rattle.tagged.specs.Bodies.{Judges, Chooses}
use Rattle.tagged.proofs.fields.many.Given as goal

abbrev pub invariant-loop-at : goal.invariant-loop-at
invariant-loop-at g l = (l.at ≤ length l.part.bytes.now)
    × ((chosen : Sort → Bool) (judged : Body) → Chooses (goal.W-post g l.wanted) chosen → Judges (goal.B-post g l.body) judged → many chosen (field_by judged) l.part.base l.part.owner l.part.bytes.now ≡ further l.at (many chosen (field_by judged) (l.part.base + l.at) l.part.owner (drop l.at l.part.bytes.now)))

abbrev pub decreases-loop-at : goal.decreases-loop-at
decreases-loop-at g l = length l.part.bytes.now - l.at
