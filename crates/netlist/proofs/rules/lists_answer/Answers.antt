-- `netlist::rules::lists_answer` meets its contract: the lower of what the declarations and what the rest is refused for. Assumes nothing.
use Rattle.std.proofs.Common.{rules}
use Rattle.tagged.proofs.AllBytesLaws.{read_bytes}
use Rattle.netlist.specs.Reading.{netlist_in}
use Rattle.netlist.proofs.RuleParts.{declared_placed}
use Rattle.netlist.proofs.RuleAnswers.{lists_joined}
use Rattle.netlist.proofs.rules.lists_answer.Goals as goal

pub returns : goal.returns
returns c =
    let bytes = read_bytes c.args.file.now (search rules) in
    lists_joined 3 (netlist_in c.args.file.now)
    (declared_placed c.args.file.now bytes c.requires.0 c.requires.1 c.from.result.now c.from.ensures c.declarations_answer-answer.ensures)
    c.rest_answer.ensures c.or_lower.ensures
