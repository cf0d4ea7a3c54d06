-- `netlist::cycle::run_cells` meets its contract: the values so far, with the numbers of the rest of the list, are those of the list. Assumes nothing.
use Rattle.std.proofs.Common.{ap, ◌∙◌, arith}
use Rattle.tagged.specs.Fields.{unplaced}
use Rattle.netlist.specs.Numbers.{cell_number}
use Rattle.netlist.proofs.FormLaws.{not_cell}
use Rattle.netlist.proofs.Listed.{cell_here, cells_end, cells_none, cells_sized, size_here, size_none}
use Rattle.netlist.proofs.RunWalks.{numbers_turn}
use Rattle.netlist.proofs.cycle.run_cells.Goals as goal

pub loop-field-preserved : goal.loop-field-preserved
loop-field-preserved c =
    let s = c.in-Some.ensures.steps in
    record {
      going = numbers_turn c.args.row.now c.loop-field.values c.loop-field.count _ _ _ (ap unplaced (cell_here s.first _ c.in-Cell.is)) c.loop-field.invariant.going _
          (c.cell-number.ensures ∙ ap (cell_number c.args.row.now c.loop-field.values) c.cell_in.ensures) _ c.put_item.ensures;
      ending = omega (arith, c.loop-field.invariant.ending, size_here s.first _ c.in-Cell.is);
      within = omega (arith, c.loop-field.invariant.within, s.shorter);
      small = omega (arith, c.loop-field.invariant.small, s.shorter);
    }

pub returns-in-None-clause-ends : goal.returns-in-None-clause-ends
returns-in-None-clause-ends c = λ m e. omega (arith, c.loop-field.invariant.ending, cells_sized 0 c.args.list.now m e, size_none _ (cells_none c.in-None.ensures.steps))

pub returns-in_default-clause-ends : goal.returns-in_default-clause-ends
returns-in_default-clause-ends c = λ m e.
    omega (arith, c.loop-field.invariant.ending, cells_sized 0 c.args.list.now m e, size_none _ (cells_end c.in-Some.ensures.steps.first (not_cell _ c.in_default.not-Cell)))
