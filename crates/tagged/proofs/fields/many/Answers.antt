-- `many` meets its contract: what is passed is fine, so the whole is the bytes passed and then the rest. Assumes nothing.
use Rattle.std.proofs.Common.{◌≡◌, ◌-◌, sym, ap, ◌∙◌, rules, arith, add-zero, Err, length, take, drop}
use lib.ListN.{length-drop}
use Rattle.tagged.specs.Sorts.{sort_of}
use Rattle.tagged.specs.Fields.{field_by}
use Rattle.tagged.proofs.ByteLaws.{front, rest}
use Rattle.tagged.proofs.ListLaws.{further_zero, turn_done, turn_stop, turn_refused, turn_past}
use Rattle.tagged.proofs.fields.many.Goals as goal

pub loop-at-init : goal.loop-at-init
loop-at-init g c = (search rules, λ chosen judged w j. rw (add-zero, further_zero))

pub returns-then-not-wanted-clause-told : goal.returns-then-not-wanted-clause-told
returns-then-not-wanted-clause-told g c chosen judged w j =
    turn_stop chosen (field_by judged) _ _ c.args.part.bytes.now _ (c.loop-at.invariant.1 chosen judged w j) c.loop-at-test.true
    (ap (λ x. chosen (sort_of x)) (front c.args.part.bytes.now c.loop-at.at) ∙ ap chosen (sym c.sort_of.ensures) ∙ sym (w _ _ c.wanted.ensures) ∙ c.if-not-wanted.true)

pub loop-at-preserved : goal.loop-at-preserved
loop-at-preserved g c =
    let l = c.args.part.bytes.now in
    let past = c.past.ensures in
    let within = c.field_by.ensures.within _ c.in_ok-at.was in
    let long : length c.past.result.bytes.now ≡ length (take (length l - c.loop-at.at) (drop c.loop-at.at l)) = ap length (past.bytes ∙ sym (rest l c.loop-at.at)) in (
      omega (arith, within, ap length past.bytes, length-drop c.loop-at.at l, c.loop-at-test.true),
      λ chosen judged w j.
          turn_past chosen (field_by judged) _ _ l _ (c.loop-at.invariant.1 chosen judged w j) c.loop-at-test.true
          (ap (λ x. chosen (sort_of x)) (front l c.loop-at.at) ∙ ap chosen (sym c.sort_of.ensures) ∙ sym (w _ _ c.wanted.ensures) ∙ c.if-not-wanted.false)
          _ (c.field_by.ensures.told judged (λ s p at r k. j s p at r k.1) ∙ (λ i. field_by judged (past.base i) (past.owner i) ((past.bytes ∙ sym (rest l c.loop-at.at)) i)))
          _ c.in_ok-at.was (omega (arith, within), omega (arith, within, long)),
    )

pub returns-in_err-at-clause-told : goal.returns-in_err-at-clause-told
returns-in_err-at-clause-told g c chosen judged w j =
    let l = c.args.part.bytes.now in
    let past = c.past.ensures in
    let r : c.from_residual.result ≡ Err c.in_err-at.field-0.0 = search rules in
    r
    ∙ turn_refused chosen (field_by judged) _ _ l _ (c.loop-at.invariant.1 chosen judged w j) c.loop-at-test.true
    (ap (λ x. chosen (sort_of x)) (front l c.loop-at.at) ∙ ap chosen (sym c.sort_of.ensures) ∙ sym (w _ _ c.wanted.ensures) ∙ c.if-not-wanted.false)
    _ (c.field_by.ensures.told judged (λ s p at r k. j s p at r k.1) ∙ (λ i. field_by judged (past.base i) (past.owner i) ((past.bytes ∙ sym (rest l c.loop-at.at)) i)))
    _ c.in_err-at.was

pub returns-clause-told : goal.returns-clause-told
returns-clause-told g c chosen judged w j =
    turn_done chosen (field_by judged) _ _ c.args.part.bytes.now _ (c.loop-at.invariant.1 chosen judged w j) c.loop-at-test.false
