-- `tagged::rows::write_row` meets its contract: at each turn the bytes of the values passed are written. Assumes nothing.
use Rattle.std.proofs.Common.{arith}
use lib.ListN.{take, length-take}
use Rattle.tagged.specs.Fields.{all_bytes_of}
use Rattle.tagged.proofs.WriteLaws.{wrote_none}
use Rattle.tagged.proofs.RowLaws.{bytes_length, write_turn}
use Rattle.tagged.proofs.rows.write_row.Goals as goal

pub loop-value-init : goal.loop-value-init
unfolding all_bytes_of
loop-value-init c = wrote_none

pub put_four-place-requires : goal.put_four-place-requires
put_four-place-requires c =
    let l = c.loop-value in
    omega (arith, l.invariant.past, bytes_length (take l.value-index c.args.values.now), length-take l.value-index c.args.values.now)

pub loop-value-preserved : goal.loop-value-preserved
loop-value-preserved c = write_turn c.args.values.now c.loop-value.value-index (omega arith) c.loop-value.invariant c.put_four-place.ensures
