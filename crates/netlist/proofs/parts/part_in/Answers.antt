-- `netlist::parts::part_in` meets its contract: so many cells are still to be passed. Assumes nothing.
use Rattle.std.proofs.Common.{◌≡◌, ◌+◌, ◌-◌, sym, ap, ◌∙◌, arith, drop, length}
use lib.Seq.{drop-drop}
use Rattle.tagged.proofs.PartLaws.{drop_one}
use Rattle.netlist.proofs.Listed.{cell_here}
use Rattle.netlist.proofs.parts.part_in.Goals as goal

pub loop-field-preserved : goal.loop-field-preserved
loop-field-preserved c =
    let s = c.in-Some.ensures.steps in
    let i = c.loop-field.invariant in
    let past : c.next.new.self.place - c.args.base ≡ (c.loop-field.field-iterator.place - c.args.base) + (3 + length c.in-Some.field.payload.now) = omega (arith, i.after, s.next) in
    record {
      ahead = i.ahead ∙ ap (drop c.loop-field.left) (cell_here s.first _ c.in-Cell.is) ∙ drop_one c.loop-field.left _ _ c.if-left-eq0.false;
      after = omega (arith, i.after, s.next);
      rest = ap (λ n. drop n c.args.list.now) past ∙ sym (drop-drop _ _ c.args.list.now) ∙ ap (drop _) i.rest ∙ sym s.after;
    }
