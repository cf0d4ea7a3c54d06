-- `netlist::parts::cell_part` meets its contract: the cells follow the declarations, within the file. Assumes nothing.
use Rattle.netlist.proofs.PartLaws.{cells_short}
use Rattle.netlist.proofs.parts.cell_part.Goals as goal

pub part_in-requires : goal.part_in-requires
part_in-requires c =
    cells_short c.args.file.now c.from-payload.result.now c.from-payload.ensures c.requires c.declared_bytes-bytes.result c.declared_bytes-bytes.ensures _ c.from.ensures
