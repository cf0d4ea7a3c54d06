-- `netlist::write::put_drive` meets its contract: header, variable and operand are the field, whose length is that of its payload. Assumes nothing.
use mathlib.Core.List.{◌∷◌}
use native.Mathlib.Omega.{arith}
use Rattle.tagged.specs.Sorts.{tag_of}
use Rattle.tagged.specs.declared.sorts.Sort.TheVariants as Sort
use Rattle.tagged.proofs.WriteLaws.{wrote_then}
use Rattle.netlist.specs.Form.{operand_bytes, drive_bytes}
use Rattle.netlist.proofs.CellBytes.{operand_length}
use Rattle.netlist.proofs.PutLaws.{wrote_field}
use Rattle.netlist.proofs.write.put_drive.Goals as goal

pub returns : goal.returns
unfolding drive_bytes tag_of
returns c =
    let d = c.args.drive in
    let header = c.put_header-past in
    let variable = c.put_byte-next in
    let operand = c.put_operand in
    wrote_field (tag_of Sort.Drive) (d.variable ∷ operand_bytes d.operand) (omega (arith, operand_length d.operand))
    header.ensures (wrote_then variable.ensures operand.ensures)
