-- `netlist::cycle::run_drives` meets its contract: the next row so far, with what the rest of the list drives, is what the list drives. Assumes nothing.
use Rattle.std.proofs.Common.{◌≡◌, ap, ◌∙◌, set, rules}
use Rattle.tagged.specs.Fields.{unplaced}
use Rattle.netlist.proofs.Listed.{drive_here}
use Rattle.netlist.proofs.RunWalks.{driven_turn}
use Rattle.netlist.proofs.cycle.run_drives.Goals as goal

pub loop-field-preserved : goal.loop-field-preserved
loop-field-preserved c =
    let index : c.from.result ≡ c.drive_in-drive.result.variable = search rules in
    driven_turn c.args.numbers.row.now c.args.numbers.cells.now c.loop-field.next _ _ _ (ap unplaced (drive_here c.in-Some.ensures.steps.first c.in-Drive.is)) c.loop-field.invariant _
    c.drive_in-drive.ensures _ c.operand-number.ensures _
    (c.put_item.ensures ∙ ap (λ v. set c.loop-field.next v c.operand-number.result) index)
