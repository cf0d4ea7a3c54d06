-- `netlist::form::cell_body` meets its contract: without a width byte the fault is the cell's. Assumes nothing.
use Rattle.std.proofs.Common.{◌≡◌, Err, sym, ◌∙◌, rules}
use Rattle.netlist.specs.Form.{shape_of}
use Rattle.netlist.proofs.FormLaws.{cell_slotted}
use Rattle.netlist.proofs.form.cell_body.Goals as goal

pub returns-in_err-past_byte-in-Cell : goal.returns-in_err-past_byte-in-Cell
returns-in_err-past_byte-in-Cell c =
    let fault = c.in_err-past_byte-in-Cell in
    let r : c.from_residual.result ≡ Err fault.field-0.0 = search rules in
    let slots = sym (fault.ensures (shape_of c.in-Cell.cell)) in
    r ∙ cell_slotted c.args.at c.args.sort c.args.payload.now _ c.in-Cell.is _ (rw (c.of.ensures.bytes, c.of.ensures.base, c.of.ensures.owner) at slots)
