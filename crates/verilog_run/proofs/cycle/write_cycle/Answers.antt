-- `verilog_run::cycle::write_cycle` meets its contract: the parts and the tables that it makes are those of the module. Assumes nothing.
use Rattle.std.specs.Prelude.{None}
use mathlib.Core.Path.{refl, sym, ◌∙◌, ap}
use mathlib.Core.List.{List, replicate}
use Prim.Native.Nat.{ℕ}
use lib.Seq.{sets}
use borrow.Author.Rules.{rules}
use Rattle.tagged.specs.Rows.{row_bytes, row_numbers}
use Rattle.tagged.proofs.AllBytesLaws.{read_bytes}
use Rattle.tagged.proofs.TableLaws.{filled_at}
use Rattle.verilog_run.proofs.CycleWritten.{table_room, cycle_written}
use Rattle.verilog_run.proofs.cycle.write_cycle.Goals as goal

pub returns : goal.returns
returns c =
    let file = c.args.file.now in
    let part = c.from-payload.ensures in
    let made = c.variable_table-table.ensures in
    let room = table_room file c.requires.0 _ part _ made (replicate {A = ℕ} 64 0) refl in
    let read = c.read_row.ensures ∙ ap (λ (n : ℕ). row_numbers n c.args.row.now) (sym room) in
    let written = c.write_row.ensures ∙ ap (λ (l : List ℕ). sets c.args.next.now 0 (row_bytes l)) (rw c.widths.ensures at c.run_processes.ensures) in
    cycle_written file c.args.row.now c.args.next.now (read_bytes file (search rules)) c.requires.0 c.requires.1 _ part _ c.process_list-list.ensures.list
    _ made _ refl (filled_at None 64) _ c.survey.ensures _ read _ written
