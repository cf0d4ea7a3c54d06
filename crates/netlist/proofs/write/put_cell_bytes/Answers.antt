-- `netlist::write::put_cell_bytes` meets its contract: the header with the size, the width and the slots are the cell's. Assumes nothing.
use Rattle.std.proofs.Common.{ap, ◌∙◌, arith}
use Rattle.tagged.specs.Sorts.{cell_tag}
use Rattle.netlist.proofs.PutLaws.{cell_size_lem, wrote_cell}
use Rattle.netlist.proofs.write.put_cell_bytes.Goals as goal

pub returns : goal.returns
returns c =
    wrote_cell _ c.args.cell (c.tag_of_cell.ensures ∙ ap cell_tag c.sort.ensures) (omega (arith, c.cell_size-size.ensures, cell_size_lem c.args.cell))
    c.width.ensures c.slots.ensures c.put_header-first.ensures c.put_byte-second.ensures c.put_slots.ensures
