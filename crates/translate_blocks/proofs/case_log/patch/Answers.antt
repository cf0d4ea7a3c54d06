-- `translate_blocks::case_log::patch` meets its contract: at each turn the changes passed are put. Assumes nothing.
use Rattle.translate_blocks.proofs.LogLaws.{patch_turn, patch_done}
use Rattle.translate_blocks.proofs.case_log.patch.Goals as goal

pub loop-change-preserved : goal.loop-change-preserved
loop-change-preserved c = patch_turn _ _ _ _ _ c.loop-change-test.true c.loop-change.invariant c.from.ensures c.put_item.ensures

pub returns : goal.returns
returns c = patch_done _ _ _ _ c.loop-change-test.false c.loop-change.invariant
