-- `field_by` meets its contract: by the laws of one field. Assumes nothing.
use Rattle.std.proofs.Common.{◌≡◌, ◌+◌, sym, ◌∙◌, ap, refl, rules, arith, of_calls, Err}
use Rattle.tagged.specs.Fields.{passing}
use Rattle.tagged.proofs.FieldLaws.{open_whole, field_refused, field_past, past_within}
use Rattle.tagged.proofs.fields.field_by.Goals as goal

pub returns-in_err-sort-clause-told : goal.returns-in_err-sort-clause-told
returns-in_err-sort-clause-told g c judged h =
    let r : c.from_residual.result ≡ Err c.in_err-sort.field-0.0 = search rules in
    r ∙ field_refused _ _ c.args.part.bytes.now _ c.open_field.ensures judged _ c.in_err-sort.was

pub overflow_add-size : goal.overflow_add-size
overflow_add-size g c = omega (arith, (open_whole _ _ c.args.part.bytes.now (sym c.open_field.ensures ∙ c.in_ok-sort.was)).within)

pub slice_bounds-body-end : goal.slice_bounds-body-end
slice_bounds-body-end g c = omega (arith, (open_whole _ _ c.args.part.bytes.now (sym c.open_field.ensures ∙ c.in_ok-sort.was)).within)

pub body-requires : goal.body-requires
body-requires g c =
    let w = (open_whole _ _ c.args.part.bytes.now (sym c.open_field.ensures ∙ c.in_ok-sort.was)).within in
    search (rules, of_calls)

pub returns-in_err-body-clause-told : goal.returns-in_err-body-clause-told
returns-in_err-body-clause-told g c judged h =
    let r : c.from_residual-in_err-body.result ≡ Err c.in_err-body.field-0.0 = search rules in
    r ∙ field_past _ _ c.args.part.bytes.now _ c.open_field.ensures judged _ _ c.in_ok-sort.was _ (h _ _ _ _ c.body.ensures) _ (sym (ap (λ w. passing w (c.in_ok-sort.size + 3)) c.in_err-body.was))

pub returns-clause-told : goal.returns-clause-told
returns-clause-told g c judged h =
    field_past _ _ c.args.part.bytes.now _ c.open_field.ensures judged _ _ c.in_ok-sort.was _ (h _ _ _ _ c.body.ensures) _ (sym (ap (λ w. passing w (c.in_ok-sort.size + 3)) c.in_ok-body.was))

-- what was passed is as long as any judge with this answer would have it
pub returns-clause-within : goal.returns-clause-within
returns-clause-within g c m e =
    past_within (λ at s l. c.body.result) _ c.args.part.owner c.args.part.bytes.now _ m
    (field_past _ _ c.args.part.bytes.now _ c.open_field.ensures (λ at s l. c.body.result) _ _ c.in_ok-sort.was _ refl _ (sym (ap (λ w. passing w (c.in_ok-sort.size + 3)) c.in_ok-body.was))) e
