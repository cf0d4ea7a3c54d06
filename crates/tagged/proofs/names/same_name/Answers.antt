-- `tagged::names::same_name` meets its contract: the library compares byte for byte. Assumes nothing.
use Rattle.std.proofs.Common.{◌∙◌}
use Rattle.tagged.proofs.NameLaws.{same_pointwise}
use Rattle.tagged.proofs.names.same_name.Goals as goal

pub returns : goal.returns
returns c = c.eq.ensures ∙ same_pointwise c.args.first.now c.args.second.now
