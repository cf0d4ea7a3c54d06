-- The functions of `translate_blocks::blocks` for statements, blocks and items meet their contracts: by the laws of the translation, the depth left falling.
use mathlib.Core.Path.{◌≡◌, sym, ap}
use native.Mathlib.Omega.{arith}
use borrow.Author.Rules.{rules}
use lib.ListN.{length}
use Rattle.tagged.specs.declared.sorts.Sort.TheVariants as Sort
use Rattle.translate_blocks.specs.Writing.{variables_in, write_block}
use Rattle.translate_blocks.proofs.Bounds.{statement_bounded}
use Rattle.translate_blocks.proofs.WorkLaws.{translates_none, room_less, room_table, room_emitted, room_expression}
use Rattle.translate_blocks.proofs.WritingSteps.{statement_deep, statement_other, block_deep, block_other, item_deep, front_nothing, if_done, case_done, room_front, merge_fits}
use Rattle.translate_blocks.proofs.ListSteps.{list_start, list_done, list_room, list_turn}
use Rattle.translate_blocks.proofs.ItemSteps.{items_start, items_none, items_other, items_block, items_turn, top_within, unwind_room, log_room_lem, item_marked}
use Rattle.translate_blocks.proofs.emit.Emitter.+blocks.Goals as goal

-- `block`: nothing at depth 0 and for another sort.
pub block-returns-then-depth-eq0 : goal.block-returns-then-depth-eq0
block-returns-then-depth-eq0 t c = translates_none (block_deep _ _ _ _ _ c.if-depth-eq0.true _)

pub block-returns-else-eq : goal.block-returns-else-eq
block-returns-else-eq t c =
    let other : c.args.sort ≡ Sort.Block → ⊥ = search rules in
    translates_none (block_other _ _ _ _ _ c.if-depth-eq0.false _ other)

-- `case_of`: the selector, forward over the items, and backward over the log.
pub case_of-items-requires : goal.case_of-items-requires
case_of-items-requires t c =
    (omega arith, (c.copy_from_slice.ensures.after, room_less (omega arith) (room_expression _ _ _ _ c.requires c.expression-selector.ensures.emits _ c.after_front.ensures)))

-- all that the law gives but the log's length, of which `unwind` asks nothing
pub case_of-unwind-requires : goal.case_of-unwind-requires
case_of-unwind-requires t c =
    let room = room_expression _ _ _ _ c.requires c.expression-selector.ensures.emits _ c.after_front.ensures in
    let has = unwind_room _ _ _ _ c.copy_from_slice.ensures.after room c.items.ensures in
    (has.0, has.1, has.2, has.4, has.5)

pub case_of-returns : goal.case_of-returns
case_of-returns t c =
    let copied = c.copy_from_slice.ensures.after in
    let room = room_expression _ _ _ _ c.requires c.expression-selector.ensures.emits _ c.after_front.ensures in
    case_done _ _ _ _ _ c.current.ensures _ c.expression-selector.ensures _ c.after_front.ensures _ copied (omega (arith, c.requires.free))
    (ap variables_in copied) c.items.ensures
    (top_within _ _ _ _ copied room c.items.ensures) c.unwind.ensures

-- `front_block`: nothing where no field is opened.
pub front_block-returns-in_default : goal.front_block-returns-in_default
front_block-returns-in_default t c = translates_none (front_nothing (write_block _ _) _ _ _ _ c.open_field.ensures _ c.in_default.is)

-- `if_else`: the condition, a block on each of two tables, and the muxes.
pub if_else-front_block-requires : goal.if_else-front_block-requires
if_else-front_block-requires t c = (
  omega arith,
  room_table (ap length c.copy_from_slice.ensures.after)
      (room_less (omega arith) (room_expression _ _ _ _ c.requires c.expression-condition.ensures.emits _ c.after_front-first.ensures)),
)

pub if_else-front_block-requires-2 : goal.if_else-front_block-requires-2
if_else-front_block-requires-2 t c =
    let room = room_front (variables_in c.args.table.now) c.args.depth _ c.copy_from_slice.ensures.after
    (room_expression _ _ _ _ c.requires c.expression-condition.ensures.emits _ c.after_front-first.ensures) _ c.front_block.ensures _ c.after_front.ensures in
    (omega arith, room_less (omega arith) room)

pub if_else-merge-requires : goal.if_else-merge-requires
if_else-merge-requires t c =
    merge_fits (variables_in c.args.table.now) c.args.depth _ c.copy_from_slice.ensures.after
    (room_expression _ _ _ _ c.requires c.expression-condition.ensures.emits _ c.after_front-first.ensures) _ c.front_block.ensures _ c.after_front.ensures
    c.front_block-2.ensures

pub if_else-returns : goal.if_else-returns
if_else-returns t c =
    let copied = c.copy_from_slice.ensures.after in
    if_done _ _ _ _ _ c.current.ensures _ c.expression-condition.ensures _ c.after_front-first.ensures _ c.after_front.ensures _ copied (ap variables_in copied)
    c.front_block.ensures c.front_block-2.ensures c.merge.ensures.emits c.merge.ensures.table_after

-- `item`: nothing at depth 0.
pub item-returns-else-depth-gt0 : goal.item-returns-else-depth-gt0
item-returns-else-depth-gt0 t c = translates_none (item_deep _ _ _ _ _ (omega arith))

-- `items`: a loop over the items, and the block that ends them.
pub items-loop-field-init : goal.items-loop-field-init
items-loop-field-init t c =
    items_start c.into_iter-field-iterator.ensures.into_iter_gives c.fields_of-field-items.ensures.rest c.fields_of-field-items.ensures.place
    c.requires.entry_is_table c.requires.room

pub items-loop-field-preserved : goal.items-loop-field-preserved
items-loop-field-preserved t c =
    let given = c.in-Some.ensures.steps in
    items_turn c.loop-field.invariant c.in-Some.field c.next.new.self given.first given.shorter c.in-Item.is c.marked_item.ensures

pub items-returns-in-Block : goal.items-returns-in-Block
items-returns-in-Block t c =
    let given = c.in-Some.ensures.steps in
    items_block c.loop-field.invariant c.in-Some.field c.next.new.self given.first given.shorter c.in-Block.is (ap variables_in c.loop-field.invariant.same) c.block.ensures

pub items-returns-in_default : goal.items-returns-in_default
items-returns-in_default t c =
    let given = c.in-Some.ensures.steps in
    items_other c.loop-field.invariant c.in-Some.field c.next.new.self given.first given.shorter c.in_default.not-Item c.in_default.not-Block

pub items-returns : goal.items-returns
items-returns t c = items_none c.loop-field.invariant c.in-None.ensures.steps

-- `marked_item`: an equal cell, the item's block, and its changes into the log.
pub marked_item-item-requires : goal.marked_item-item-requires
marked_item-item-requires t c = (omega arith, room_emitted 1 c.requires.room c.emit.ensures (omega arith) (omega arith))

pub marked_item-push_item-requires : goal.marked_item-push_item-requires
marked_item-push_item-requires t c = log_room_lem _ _ c.requires.entry_is_table _ _ c.requires.room c.item.ensures

pub marked_item-returns : goal.marked_item-returns
marked_item-returns t c =
    item_marked _ _ c.requires.entry_is_table _ (ap variables_in (sym c.requires.entry_is_table)) _ c.item_operand-constant.ensures c.emit.ensures c.item.ensures
    c.push_item.ensures.set_back c.push_item.ensures.grown

-- `statement`: nothing at depth 0 and for another sort.
pub statement-returns-then-depth-eq0 : goal.statement-returns-then-depth-eq0
statement-returns-then-depth-eq0 t c = translates_none (statement_deep _ _ _ _ _ c.if-depth-eq0.true _)

pub statement-returns-in_default : goal.statement-returns-in_default
statement-returns-in_default t c = translates_none (statement_other _ _ _ _ _ c.if-depth-eq0.false _ c.in_default.not-Statement)

-- `statements`: a loop over the statements of a list.
pub statements-loop-field-init : goal.statements-loop-field-init
statements-loop-field-init t c = list_start c.into_iter-field-iterator.ensures.into_iter_gives c.fields_of-field-items.ensures.rest c.fields_of-field-items.ensures.place c.requires

pub statements-statement-requires : goal.statements-statement-requires
statements-statement-requires t c =
    let given = c.in-Some.ensures.steps in
    (omega arith, list_room c.loop-field.invariant c.in-Some.field c.next.new.self given.first given.shorter)

pub statements-loop-field-preserved : goal.statements-loop-field-preserved
statements-loop-field-preserved t c =
    let given = c.in-Some.ensures.steps in
    list_turn c.loop-field.invariant c.in-Some.field c.next.new.self given.first given.shorter (λ table n. statement_bounded _ _ _ _ table n)
    c.statement.ensures

pub statements-returns : goal.statements-returns
statements-returns t c = list_done c.loop-field.invariant c.in-None.ensures.steps
