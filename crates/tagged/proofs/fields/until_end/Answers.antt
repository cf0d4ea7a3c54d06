-- `until_end` meets its contract: fields of every sort, and then nothing. Assumes nothing.
use Rattle.std.proofs.Common.{◌≡◌, ◌∙◌, sym, rules, Err}
use Rattle.tagged.specs.Fields.{field_by, any_sort, many, ended}
use Rattle.tagged.proofs.ByteLaws.{rest}
use Rattle.tagged.proofs.FieldLaws.{then_past, then_refused}
use Rattle.tagged.proofs.fields.until_end.Goals as goal

pub returns-in_err-past : goal.returns-in_err-past
returns-in_err-past g c judged j =
    let r : c.from_residual.result ≡ Err c.in_err-past.field-0.0 = search rules in
    r ∙ then_refused (many any_sort (field_by judged)) ended _ _ c.args.part.bytes.now _ (c.many.ensures.told any_sort judged (λ s r e. search rules) j) _ c.in_err-past.was

pub returns : goal.returns
returns g c judged j =
    let l = c.args.part.bytes.now in
    let past = c.past.ensures in
    then_past (many any_sort (field_by judged)) ended _ _ l _ (c.many.ensures.told any_sort judged (λ s r e. search rules) j) _ c.in_ok-past.was
    _ (c.ended.ensures ∙ (λ i. ended (past.base i) (past.owner i) ((past.bytes ∙ sym (rest l _)) i)))
