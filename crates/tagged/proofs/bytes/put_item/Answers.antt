-- `tagged::bytes::put_item` meets its contract: without room the list stays as it was. Assumes nothing.
use Rattle.std.proofs.Common.{sym}
use lib.Seq.{set_out}
use Rattle.tagged.proofs.bytes.put_item.Goals as goal

pub returns-else-index-items : goal.returns-else-index-items
returns-else-index-items g c = sym (set_out _ _ _ c.if-index-items.false)
