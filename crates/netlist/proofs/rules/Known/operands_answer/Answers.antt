-- `netlist::rules::Known::operands_answer` meets its contract: the lower of the answer so far and the next slot's is that of the slots passed. Assumes nothing.
use Rattle.std.proofs.Common.{◌≡◌, ◌<◌, length, arith, rules, refl, sym, ap, ap₂, ◌∙◌, [], ◌∷◌, None, get_or, take}
use Rattle.tagged.specs.Refusals.{lower_refusal}
use Rattle.netlist.specs.Lists.{present, operands_in}
use Rattle.netlist.specs.WalkAnswers.{answer_of, operands_answer}
use Rattle.netlist.proofs.PutLaws.{operands_turn}
use Rattle.netlist.proofs.RuleAnswers.{operands_both}
use Rattle.netlist.proofs.rules.Known.operands_answer.Goals as goal

pub loop-slot-init : goal.loop-slot-init
unfolding operands_answer answer_of
loop-slot-init c = λ ds cs k. refl

pub loop-slot-preserved : goal.loop-slot-preserved
loop-slot-preserved c = λ ds cs k.
    let three : length c.slots-slot-items.result ≡ 3 = search rules in
    let within : c.loop-slot.slot-index < length c.slots-slot-items.result = omega (arith, three, c.loop-slot-test.true) in
    c.slot_answer-answer.ensures ds cs k ∙ ap₂ lower_refusal (c.loop-slot.invariant ds cs k) refl
    ∙ sym (ap (λ os. operands_answer ds cs os c.args.place) (operands_turn c.slots-slot-items.result c.loop-slot.slot-index None within)
    ∙ operands_both ds cs c.args.place (operands_in (present (take c.loop-slot.slot-index c.slots-slot-items.result)))
    (operands_in (present (get_or c.slots-slot-items.result c.loop-slot.slot-index None ∷ []))))
