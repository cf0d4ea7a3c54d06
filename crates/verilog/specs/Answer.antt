-- Checking a module uses refusals 1 to 11, in their order.
use Rattle.std.specs.Prelude.{List, [], ◌∷◌, ℕ}
use Rattle.tagged.specs.Limits.{longest_module}
use Rattle.tagged.specs.Files.{file_answer}
use Rattle.tagged.specs.Refusals.{first_refusal, after_form, after_answer}
use Rattle.tagged.specs.declared.answers.Rule.{Rule}
use Rattle.tagged.specs.Answers.{Answer}
use Rattle.verilog.specs.Tree.{Module}
use Rattle.verilog.specs.Form.{module_form}
use Rattle.verilog.specs.Reading.{module_in}
use Rattle.verilog.specs.Rules.{module_broken}

-- the rules that are looked for in the tree, in their order
abbrev pub module_rules : List Rule
module_rules =
    Rule.Value ∷ Rule.Name ∷ Rule.Count ∷ Rule.Reference ∷ Rule.Widths ∷ Rule.BitNumber ∷ Rule.BothKinds ∷ Rule.TwoProcesses ∷ Rule.ReadElsewhere ∷ []

-- the answer of a tree whose payload starts at `base`
unfoldable pub tree_answer : ℕ → Module → Answer
tree_answer base m = first_refusal (module_broken base m) module_rules

-- the answer of a file
unfoldable pub module_answer : List ℕ → Answer
module_answer file = after_answer (file_answer longest_module file) (after_form (module_form file) (tree_answer 3 (module_in file)))
