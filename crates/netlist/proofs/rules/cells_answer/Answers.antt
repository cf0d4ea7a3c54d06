-- `netlist::rules::cells_answer` meets its contract: the answer so far, joined with that of the cells left, is that of the list.
-- The table holds the widths of the cells passed. Assumes nothing.
use Rattle.std.proofs.Common.{◌≡◌, ◌+◌, [], map, sym, ap, ap₂, ◌∙◌, arith, length, take, drop}
use lib.Seq.{take_all}
use Rattle.tagged.specs.Fields.{unplaced}
use Rattle.tagged.specs.Refusals.{lower_refusal}
use Rattle.tagged.specs.Walk.{fields_left}
use Rattle.tagged.specs.declared.walk.Fields.{Fields}
use Rattle.netlist.specs.Lists.{cell_width}
use Rattle.netlist.specs.Reading.{cells_at, drives_at}
use Rattle.netlist.specs.Rules.{cell_breaks, drive_breaks}
use Rattle.netlist.specs.WalkAnswers.{one_answer, list_answer, whole_answer, cells_end, parts_answer, most_listed}
use Rattle.netlist.proofs.FormLaws.{not_cell}
use Rattle.netlist.proofs.Listed.{celled, cells_fields, cells_in, left_start, cell_here, cells_end as cells_ended, cells_none, celled_size, cells_sized, size_here, size_none}
use Rattle.netlist.proofs.RuleAnswers.{walking_start, walking_more, walking_done}
use Rattle.netlist.proofs.RuleWalks.{walked_all, walked_start, walked_more, walked_before, tabled_start, tabled_more}
use Rattle.netlist.proofs.rules.cells_answer.Goals as goal
use Rattle.netlist.proofs.rules.cells_answer.Goals.{in-None, in-Some+in_default}

pub loop-field-init : goal.loop-field-init
loop-field-init c =
    let it = c.into_iter-field-iterator.ensures.into_iter_gives in
    let from = c.fields_of-field-items.ensures in
    let left = left_start c.args.base c.args.list.now it from.rest from.place in
    record {
      walked = walked_start (cells_in c.args.base c.args.list.now ∙ ap (λ f. unplaced (celled f)) (sym left));
      tabled = tabled_start cell_width most_listed (unplaced (cells_at 0 c.args.list.now));
      ending = omega (arith, ap celled_size left);
      within = omega (arith, ap (λ (f : Fields). length f.rest.now) it, ap length from.rest);
      going = λ ds k. rw (left, ← cells_fields c.args.base c.args.list.now) (walking_start (λ rule. cell_breaks rule ds) (cells_at c.args.base c.args.list.now));
    }

pub loop-field-preserved : goal.loop-field-preserved
loop-field-preserved c =
    let s = c.in-Some.ensures.steps in
    let i = c.loop-field.invariant in
    let more = cell_here s.first _ c.in-Cell.is in
    let earlier = take c.loop-field.count (unplaced (cells_at 0 c.args.list.now)) in
    record {
      walked = walked_more i.walked more;
      tabled = tabled_more i.walked i.tabled c.requires.2 more (c.width.ensures ∙ ap cell_width c.cell_in-cell.ensures);
      ending = omega (arith, i.ending, size_here s.first _ c.in-Cell.is);
      within = omega (arith, i.within, s.shorter);
      going = λ ds k. walking_more (i.going ds k) more
          (c.cell_answer.ensures ds earlier (c.with_cells-known.ensures ds _ earlier k (i.tabled.held ∙ sym c.front.ensures))
          ∙ ap (λ a. one_answer (λ rule. cell_breaks rule ds) earlier a c.in-Some.field.place) c.cell_in-cell.ensures)
          c.or_lower-answer.ensures (walked_before i.walked more);
    }

pub returns : goal.returns
unfolding parts_answer
returns c = λ n k cells drives.
    let l = c.args.list.now in
    let i = c.loop-field.invariant in
    let none : celled (fields_left c.loop-field.field-iterator) ≡ [] =
    elim c.match-next.branch [
      | in-None w ↦ cells_none w.in-None.ensures.steps
      | in-Some+in_default w ↦ cells_ended w.in-Some.ensures.steps.first (not_cell _ w.in_default.not-Cell)
    ] in
    let listed = cells ∙ sym (take_all c.loop-field.count (unplaced (cells_at 0 l)) (omega (arith, walked_all i.walked none))) in
    let held = ap (map cell_width) listed ∙ i.tabled.held ∙ sym c.front-2.ensures in
    let bytes : c.loop-field.end ≡ cells_end l = omega (arith, i.ending, size_none _ none, cells_sized c.args.base l _ c.requires.1) in
    let after = c.from.ensures ∙ ap (λ k. drop k l) bytes in
    c.or_lower.ensures ∙ ap₂ lower_refusal (walking_done (i.going n.declarations k) none)
    (c.drives_answer.ensures n (c.with_cells-known-2.ensures n.declarations [] n.cells k held) (drives ∙ ap (λ l. unplaced (drives_at 0 l)) (sym after))
    ∙ ap₂ (λ k l. lower_refusal (list_answer (λ rule. drive_breaks rule n.declarations n.cells) [] (drives_at (c.args.base + k) l)) (whole_answer n)) bytes after)
