-- Reading a netlist uses refusals 1 to 8 and 12, in their order.
use Rattle.std.specs.Prelude.{List, [], ◌∷◌, ℕ}
use Rattle.tagged.specs.Limits.{longest_netlist}
use Rattle.tagged.specs.Files.{file_answer}
use Rattle.tagged.specs.Refusals.{first_refusal, after_form, after_answer}
use Rattle.tagged.specs.declared.answers.Rule.{Rule}
use Rattle.tagged.specs.Answers.{Answer}
use Rattle.netlist.specs.Lists.{Netlist}
use Rattle.netlist.specs.Form.{netlist_form}
use Rattle.netlist.specs.Reading.{netlist_in}
use Rattle.netlist.specs.Rules.{netlist_broken}

-- the rules that are looked for in the lists, in their order
abbrev pub netlist_rules : List Rule
netlist_rules = Rule.Value ∷ Rule.Name ∷ Rule.Count ∷ Rule.Reference ∷ Rule.Widths ∷ Rule.BitNumber ∷ Rule.Cells ∷ []

-- the answer of the lists of a netlist, whose declarations start at `base`
unfoldable pub lists_answer : ℕ → Netlist → Answer
lists_answer base n = first_refusal (netlist_broken base n) netlist_rules

-- the answer of a file
unfoldable pub netlist_answer : List ℕ → Answer
netlist_answer file = after_answer (file_answer longest_netlist file) (after_form (netlist_form file) (lists_answer 3 (netlist_in file)))
