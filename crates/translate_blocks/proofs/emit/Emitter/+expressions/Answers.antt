-- `translate_blocks::emit::Emitter::expression` and `expression_by` meet their contracts: by what is read at the front of a part, and by its sort.
use mathlib.Core.Path.{ap, ◌∙◌}
use native.Mathlib.Omega.{arith}
use lib.ListN.{length, length-drop}
use Rattle.words.specs.Operators.{one_width, two_width}
use Rattle.verilog.proofs.FrontReading.{no_level, read_other, read_none}
use Rattle.verilog.specs.Reading.{expression_in}
use Rattle.translate_blocks.proofs.ExpressionEmits.{nothing_emitted, room_after, room_left, constant_emitted, variable_emitted, chosen_emitted, one_emitted, two_emitted}
use Rattle.translate_blocks.proofs.emit.Emitter.+expressions.Goals as goal

pub expression-returns-then-depth-eq0 : goal.expression-returns-then-depth-eq0
expression-returns-then-depth-eq0 t c = nothing_emitted _ _ (no_level _ c.if-depth-eq0.true _)

pub expression-returns-in_default-sort : goal.expression-returns-in_default-sort
expression-returns-in_default-sort t c =
    nothing_emitted _ _ (read_other _ c.if-depth-eq0.false _ _ c.open_field.ensures _ _ c.in-Ok.is c.in_default-sort.not-Expression)

pub expression-returns-in_default : goal.expression-returns-in_default
expression-returns-in_default t c = nothing_emitted _ _ (read_none _ c.if-depth-eq0.false _ _ c.open_field.ensures _ c.in_default.is)

pub expression_by-own_cell-requires-in-ChosenBit : goal.expression_by-own_cell-requires-in-ChosenBit
expression_by-own_cell-requires-in-ChosenBit t c =
    omega (arith, room_left _ _ _ c.expression-index.ensures, ap length c.from-in-ChosenBit.ensures, length-drop 1 c.args.payload.now)

pub expression_by-own_cell-requires-in-One : goal.expression_by-own_cell-requires-in-One
expression_by-own_cell-requires-in-One t c = omega (arith, room_left _ _ _ c.expression-operand.ensures)

pub expression_by-expression-right-requires : goal.expression_by-expression-right-requires
expression_by-expression-right-requires t c = omega (arith, room_after _ _ _ c.expression-left.ensures _ c.after_front.ensures)

pub expression_by-own_cell-requires-in-Two : goal.expression_by-own_cell-requires-in-Two
expression_by-own_cell-requires-in-Two t c =
    let room = c.requires in
    omega (arith, room, room_after _ _ _ c.expression-left.ensures _ c.after_front.ensures, room_left _ _ _ c.expression-right.ensures)

pub expression_by-returns-in-Constant : goal.expression_by-returns-in-Constant
expression_by-returns-in-Constant t c =
    constant_emitted c.args.table.now (expression_in c.args.depth) c.args.sort c.args.payload.now c.in-Constant.is _ _ c.get_or-first.ensures _ c.from-in-Constant.ensures c.four_of.ensures

pub expression_by-returns-in-Variable : goal.expression_by-returns-in-Variable
expression_by-returns-in-Variable t c =
    variable_emitted c.args.table.now (expression_in c.args.depth) c.args.sort c.args.payload.now c.in-Variable.is _ (c.from.ensures ∙ c.get_or-first.ensures) c.operand_at-variable.ensures

pub expression_by-returns-in-ChosenBit : goal.expression_by-returns-in-ChosenBit
expression_by-returns-in-ChosenBit t c =
    chosen_emitted c.args.table.now (expression_in c.args.depth) c.args.sort c.args.payload.now c.in-ChosenBit.is _ (c.from.ensures ∙ c.get_or-first.ensures) _
    c.operand_at-variable.ensures _ c.from-in-ChosenBit.ensures c.expression-index.ensures c.own_cell-in-ChosenBit.ensures

pub expression_by-returns-in-One : goal.expression_by-returns-in-One
expression_by-returns-in-One t c =
    one_emitted c.args.table.now (expression_in c.args.depth) c.args.sort c.args.payload.now _ c.in-One.is c.expression-operand.ensures
    (c.result_width-width.ensures ∙ ap (one_width _) c.width.ensures) c.own_cell-in-One.ensures

pub expression_by-returns-in-Two : goal.expression_by-returns-in-Two
expression_by-returns-in-Two t c =
    two_emitted c.args.table.now (expression_in c.args.depth) c.args.sort c.args.payload.now _ c.in-Two.is c.expression-left.ensures _ c.after_front.ensures
    c.expression-right.ensures (c.result_width-width-in-Two.ensures ∙ ap (two_width _) c.width-in-Two.ensures) c.own_cell-in-Two.ensures
