-- `verilog_check::survey::survey` meets its contract: the table so far, with what the rest of the list adds, is what the list adds. Assumes nothing.
use mathlib.Core.Path.{◌∙◌}
use Rattle.verilog_check.proofs.SurveySteps.{turn_ended, turn_within, turn_begun, turn_noted, turn_length}
use Rattle.verilog_check.proofs.survey.survey.Goals as goal

pub returns : goal.returns
returns c = turn_ended c.args.list.now _ _ c.open_field.ensures _ c.loop-sort.firsts c.loop-sort.invariant.3 _ c.in_default.is

pub loop-sort-preserved : goal.loop-sort-preserved
loop-sort-preserved c =
    let list = c.args.list.now in
    let loop = c.loop-sort in
    let open-field = c.open_field in
    let get_or = c.get_or in
    let note = c.note in
    let begun-after = c.begun_after-begun in
    let step-over = c.step_over-at in (
      (turn_within list _ _ open-field.ensures _ _ c.in-Ok.is _ step-over.ensures).1,
      turn_begun list _ _ open-field.ensures _ _ c.in-Ok.is _ _ _ loop.invariant.1 begun-after.ensures step-over.ensures,
      turn_length _ _ _ loop.firsts _ note.ensures ∙ loop.invariant.2,
      turn_noted list _ _ open-field.ensures _ _ c.in-Ok.is _ loop.firsts loop.invariant.3 _ get_or.ensures _ note.ensures _ begun-after.ensures _
          step-over.ensures,
    )
