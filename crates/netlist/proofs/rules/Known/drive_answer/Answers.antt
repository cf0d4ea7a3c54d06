-- `netlist::rules::Known::drive_answer` meets its contract: the lower of the register's answer and the operand's. Assumes nothing.
use Rattle.netlist.proofs.RuleAnswers.{drive_joined}
use Rattle.netlist.proofs.rules.Known.drive_answer.Goals as goal

pub returns : goal.returns
returns c = λ ds cs before k e. drive_joined ds cs c.args.place before c.args.drive k e c.register_answer.ensures (c.operand_answer.ensures ds cs k) c.or_lower.ensures
