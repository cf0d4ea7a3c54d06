-- `translate_blocks::emit::Emitter::merge` meets its contract: at each turn the entries passed are merged. Assumes nothing.
use mathlib.Core.Path.{refl}
use native.Mathlib.Omega.{arith}
use Rattle.translate_blocks.proofs.MergeLaws.{merge_start, merge_room, merge_turn, merge_done}
use Rattle.translate_blocks.proofs.emit.Emitter.merge.Goals as goal

pub loop-index-init : goal.loop-index-init
loop-index-init c = merge_start _ _ _ _

pub choose-requires : goal.choose-requires
choose-requires c = omega (arith, c.requires, merge_room _ _ _ _ (omega arith) c.loop-index.invariant)

pub loop-index-preserved : goal.loop-index-preserved
loop-index-preserved c =
    merge_turn _ _ _ _ c.requires.2 _ c.loop-index-test.true c.loop-index.invariant c.choose.ensures.emits c.choose.ensures.operand refl

pub returns : goal.returns
returns c =
    let done = merge_done _ _ _ _ c.requires.2 (omega arith) c.loop-index.invariant in
    record { emits = done.0; table_after = done.1 }
