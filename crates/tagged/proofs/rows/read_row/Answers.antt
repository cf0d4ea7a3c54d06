-- `tagged::rows::read_row` meets its contract: at each turn the numbers read and those still in the row are the row's. Assumes nothing.
use Rattle.std.proofs.Common.{arith}
use lib.ListN.{length, length-set}
use Rattle.tagged.proofs.RowLaws.{read_turn, read_done}
use Rattle.tagged.proofs.rows.read_row.Goals as goal

pub loop-at-preserved : goal.loop-at-preserved
loop-at-preserved c =
    let a = c.args in
    let l = c.loop-at in
    let same = l.invariant.0 in
    (simp length-set same, read_turn a.row.now (length a.values.now) l.at _ _ c.from.ensures c.four_of.ensures (omega arith) l.values same l.invariant.1)

pub returns : goal.returns
returns c =
    let a = c.args in
    let l = c.loop-at in
    read_done a.row.now l.values (length a.values.now) l.at l.invariant.0 (omega arith) l.invariant.1
