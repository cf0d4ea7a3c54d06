-- `translate_blocks::case_log::Log::pop_item` meets its contract: the last item is read, and the log ends where it started. Assumes nothing.
use mathlib.Core.Path.{refl}
use Rattle.translate_blocks.proofs.case_log.Log.pop_item.Goals as goal

pub returns : goal.returns
returns c below mark last =
    let read = c.last_item-start.ensures below mark last in
    (read.1, read.2, record { same = refl; height = read.0; same_buffer = refl })
