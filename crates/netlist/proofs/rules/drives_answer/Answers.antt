-- `netlist::rules::drives_answer` meets its contract: the answer so far, joined with that of the drives left, is that of the list. Assumes nothing.
use Rattle.std.proofs.Common.{◌≡◌, [], sym, ap, ap₂, ◌∙◌, arith, length, take}
use Rattle.tagged.specs.Fields.{unplaced}
use Rattle.tagged.specs.Refusals.{lower_refusal}
use Rattle.tagged.specs.Walk.{fields_left}
use Rattle.tagged.specs.declared.walk.Fields.{Fields}
use Rattle.netlist.specs.Reading.{drives_at}
use Rattle.netlist.specs.Rules.{drive_breaks}
use Rattle.netlist.specs.WalkAnswers.{one_answer}
use Rattle.netlist.proofs.FormLaws.{not_drive}
use Rattle.netlist.proofs.Listed.{driving, drives_fields, drives_in, left_start, drive_here, drives_end, drives_none}
use Rattle.netlist.proofs.RuleAnswers.{walking_start, walking_more, walking_done}
use Rattle.netlist.proofs.RuleWalks.{walked_all, walked_start, walked_more, walked_before, walked_earlier}
use Rattle.netlist.proofs.rules.drives_answer.Goals as goal
use Rattle.netlist.proofs.rules.drives_answer.Goals.{in-None, in-Some+in_default}

pub loop-field-init : goal.loop-field-init
loop-field-init c =
    let it = c.into_iter-field-iterator.ensures.into_iter_gives in
    let from = c.fields_of-field-items.ensures in
    let left = left_start c.args.base c.args.list.now it from.rest from.place in
    record {
      walked = walked_start (drives_in c.args.base c.args.list.now ∙ ap (λ f. unplaced (driving f)) (sym left));
      small = omega (arith, c.requires, ap (λ (f : Fields). length f.rest.now) it, ap length from.rest);
      going = λ ds cs k. rw (left, ← drives_fields c.args.base c.args.list.now) (walking_start (λ rule. drive_breaks rule ds cs) (drives_at c.args.base c.args.list.now));
    }

pub loop-field-preserved : goal.loop-field-preserved
loop-field-preserved c =
    let s = c.in-Some.ensures.steps in
    let i = c.loop-field.invariant in
    let more = drive_here s.first c.in-Drive.is in
    let earlier = take c.loop-field.count (unplaced (drives_at 0 c.args.list.now)) in
    record {
      walked = walked_more i.walked more;
      small = omega (arith, i.small, s.shorter);
      going = λ ds cs k. walking_more (i.going ds cs k) more
          (c.drive_answer.ensures ds cs earlier k (walked_earlier i.walked)
          ∙ ap (λ d. one_answer (λ rule. drive_breaks rule ds cs) earlier d c.in-Some.field.place) c.drive_in-drive.ensures)
          c.or_lower-answer.ensures (walked_before i.walked more);
    }

pub returns : goal.returns
returns c = λ n k drives.
    let i = c.loop-field.invariant in
    let none : driving (fields_left c.loop-field.field-iterator) ≡ [] =
    elim c.match-next.branch [
      | in-None w ↦ drives_none w.in-None.ensures.steps
      | in-Some+in_default w ↦ drives_end w.in-Some.ensures.steps.first (not_drive _ w.in_default.not-Drive)
    ] in
    c.or_lower.ensures ∙ ap₂ lower_refusal (walking_done (i.going n.declarations n.cells k) none)
    (c.whole_answer.ensures n k (ap length drives ∙ sym (walked_all i.walked none)))
