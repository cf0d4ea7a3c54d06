-- `netlist::cycle::write_cycle` meets its contract: the parts that it reads are those of the netlist, and there is room for its variables and cells. Assumes nothing.
use Rattle.std.proofs.Common.{refl, ap, ap₂, ◌∙◌, arith, drop}
use lib.Seq.{sets}
use Rattle.tagged.specs.Fields.{passed_bytes}
use Rattle.tagged.specs.Rows.{row_bytes}
use Rattle.tagged.specs.Declarations.{declarations_step}
use Rattle.netlist.proofs.CycleWritten.{part_short, file_short, cycle_written}
use Rattle.netlist.proofs.cycle.write_cycle.Goals as goal

pub declared_bytes-requires : goal.declared_bytes-requires
declared_bytes-requires c =
    let short = file_short c.args.file.now c.args.row.now c.args.next.now c.requires.0 c.requires.1 in
    omega (arith, part_short c.args.file.now 3 _ c.from-payload.ensures short)

pub run_cells-end-requires : goal.run_cells-end-requires
run_cells-end-requires c =
    let short = file_short c.args.file.now c.args.row.now c.args.next.now c.requires.0 c.requires.1 in
    omega (arith, part_short c.from-payload.result.now c.declared_bytes.result _ c.from-cells.ensures (part_short c.args.file.now 3 _ c.from-payload.ensures short))

pub run_drives-requires : goal.run_drives-requires
run_drives-requires c =
    let short = file_short c.args.file.now c.args.row.now c.args.next.now c.requires.0 c.requires.1 in
    let cells = part_short c.from-payload.result.now c.declared_bytes.result _ c.from-cells.ensures (part_short c.args.file.now 3 _ c.from-payload.ensures short) in
    omega (arith, part_short c.from-cells.result.now c.run_cells-end.result _ c.from.ensures cells)

pub returns : goal.returns
returns c =
    cycle_written c.args.file.now c.args.row.now c.args.next.now c.requires.0 c.requires.1 _
    (c.from-cells.ensures ∙ ap₂ drop (c.declared_bytes.ensures ∙ ap (λ l. passed_bytes (declarations_step 0 0 l)) c.from-payload.ensures) c.from-payload.ensures)
    _ c.run_cells-end.ensures.ends _ c.read_row.ensures _ _ refl c.run_cells-end.ensures.numbers _ c.from.ensures _ c.run_drives.ensures _
    (c.write_row.ensures ∙ ap (λ l. sets c.args.next.now 0 (row_bytes l)) c.front.ensures)
