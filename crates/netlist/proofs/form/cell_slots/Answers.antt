-- `netlist::form::cell_slots` meets its contract: of a put, each slot is passed in turn. Assumes nothing.
use Rattle.std.proofs.Common.{[], ◌∷◌, sym, ◌∙◌}
use Rattle.netlist.specs.Form.{an_operand, a_byte}
use Rattle.netlist.proofs.FormLaws.{slots_none}
use Rattle.netlist.proofs.form.cell_slots.Goals as goal

pub returns-in_ok-past_operand-in-Put : goal.returns-in_ok-past_operand-in-Put
returns-in_ok-past_operand-in-Put c =
    let vector = c.in_ok-more.ensures (a_byte ∷ an_operand ∷ []) in
    let number = c.in_ok-past_byte-in-Put.ensures (an_operand ∷ []) in
    let bit = c.in_ok-past_operand-in-Put.ensures [] in
    rw c.in-Put.is (c.ended-in-Put.ensures ∙ sym (vector ∙ number ∙ bit ∙ slots_none _ _ _))
