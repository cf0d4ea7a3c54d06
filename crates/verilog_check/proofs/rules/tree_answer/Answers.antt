-- `verilog_check::rules::tree_answer` meets its contract: the parts and the tables that it makes are those of the file's tree. Assumes nothing.
use borrow.Author.Rules.{rules}
use Rattle.std.specs.Prelude.{None}
use mathlib.Core.Path.{refl}
use Rattle.tagged.proofs.AllBytesLaws.{read_bytes}
use Rattle.tagged.proofs.TableLaws.{filled_at}
use Rattle.verilog_check.proofs.TreeAnswers.{answered}
use Rattle.verilog_check.proofs.rules.tree_answer.Goals as goal

pub returns : goal.returns
returns c =
    let args = c.args in
    let pre = c.requires in
    let from = c.from-payload in
    let declared_bytes = c.declared_bytes-bytes in
    let from2 = c.from-list in
    let variable-table = c.variable_table-table in
    let survey = c.survey in
    let declarations-answer = c.declarations_answer-declared in
    let walked = rw (c.widths.ensures, c.registers.ensures) at c.processes_answer-processes.ensures in
    answered args.file.now (read_bytes args.file.now (search rules)) pre.0 pre.1 from.result.now from.ensures
    declared_bytes.result declared_bytes.ensures from2.result.now from2.ensures variable-table.result variable-table.ensures
    _ (λ e. refl) _ refl (filled_at None 64) _ survey.ensures
    _ _ _ declarations-answer.ensures walked c.or_lower.ensures
