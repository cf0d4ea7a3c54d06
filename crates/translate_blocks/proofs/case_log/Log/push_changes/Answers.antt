-- `translate_blocks::case_log::Log::push_changes` meets its contract: at each turn the entries passed are logged and set back. Assumes nothing.
use mathlib.Core.Path.{refl}
use Rattle.translate_blocks.proofs.LogLaws.{log_start, log_turn}
use Rattle.translate_blocks.proofs.case_log.Log.push_changes.Goals as goal

pub loop-slot-init : goal.loop-slot-init
loop-slot-init c = log_start _ _ _

pub loop-slot-preserved : goal.loop-slot-preserved
loop-slot-preserved c = log_turn _ _ _ c.requires.0 c.loop-slot.invariant c.loop-slot-test.true _ c.push_change.ensures refl
