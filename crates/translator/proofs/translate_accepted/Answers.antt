-- `translator::translate_accepted` meets its contract: the parts and tables that it makes are those of the module, so the passes give its netlist. Assumes nothing.
use borrow.Author.Rules.{rules}
use Rattle.std.specs.Prelude.{None}
use mathlib.Core.Path.{refl}
use Rattle.tagged.proofs.AllBytesLaws.{read_bytes}
use Rattle.tagged.proofs.TableLaws.{filled_at}
use Rattle.translator.proofs.ModulePassed.{module_passed}
use Rattle.translator.proofs.translate_accepted.Goals as goal

pub returns : goal.returns
returns c =
    module_passed c.args.file.now (read_bytes c.args.file.now (search rules)) c.requires c.from-payload.result.now c.from-payload.ensures
    c.declared_bytes-taken.result c.declared_bytes-taken.ensures _ c.front.ensures c.from-list.ensures c.variable_table-table.result
    c.variable_table-table.ensures c.widths.ensures c.registers.ensures _ refl (filled_at None 64) c.survey.ensures _ c.measure_and_write.ensures
