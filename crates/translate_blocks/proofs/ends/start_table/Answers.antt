-- `translate_blocks::ends::start_table` meets its contract: the two halves take all the room. Assumes nothing.
use Rattle.translate_blocks.proofs.StartTurns.{start_both}
use Rattle.translate_blocks.proofs.ends.start_table.Goals as goal

pub returns : goal.returns
returns c =
    let given = c.args in
    let long = c.requires.0 in
    let first = c.put_variables.ensures in
    let second = c.put_variables-2.ensures in
    start_both given.widths.now given.table.now long first second
