-- `translate_blocks::emit::Emitter::merge_last` meets its contract: the last item's changes are put on a copy of the entry table, which is merged. Assumes nothing.
use mathlib.Core.Path.{ap, ◌∙◌}
use Rattle.translate_blocks.specs.Log.{patched}
use Rattle.translate_blocks.proofs.UnwindSteps.{last_merged}
use Rattle.translate_blocks.proofs.emit.Emitter.merge_last.Goals as goal

pub returns : goal.returns
returns c below mark last =
    let popped = c.pop_item-condition.ensures below mark last in
    let copied = c.copy_from_slice.ensures.after in
    last_merged _ _ below mark popped.0 (popped.1 ∙ ap (patched mark.changed) copied) popped.2 c.merge.ensures.emits c.merge.ensures.table_after
