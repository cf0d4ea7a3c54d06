-- The declarations of an accepted module file break none of rules 3, 4 and 5: acceptance says that no rule has a place.
use mathlib.Core.Path.{◌≡◌}
use mathlib.Core.List.{List}
use Prim.Native.Nat.{ℕ}
use Rattle.tagged.specs.Limits.{longest_module}
use Rattle.tagged.specs.Files.{file_answer}
use Rattle.tagged.specs.declared.answers.Rule.TheVariants as Rule
use Rattle.tagged.specs.Answers.{acceptance}
use Rattle.tagged.proofs.RefusalLaws.{NoneBroken, more, accepted_none}
use Rattle.tagged.proofs.FileLaws.{accepted_parts}
use Rattle.verilog.specs.Tree.{Module}
use Rattle.verilog.specs.Form.{module_form}
use Rattle.verilog.specs.Reading.{module_in}
use Rattle.verilog.specs.Rules.{module_broken}
use Rattle.verilog.specs.Answer.{module_rules, tree_answer, module_answer}
use Rattle.verilog.proofs.DeclarationsKept.{DeclarationsPass, declarations_kept}

-- rules 3, 4 and 5 are the first that are looked for in the tree
tree_declarations : (base : ℕ) (m : Module) → tree_answer base m ≡ acceptance → DeclarationsPass base m.declarations
unfolding tree_answer
tree_declarations base m e = go (accepted_none (module_broken base m) module_rules e)
  where
    go : NoneBroken (module_broken base m) module_rules → DeclarationsPass base m.declarations
    go (more value (more name (more count others))) =
        record {
          value = declarations_kept m base Rule.Value value;
          name = declarations_kept m base Rule.Name name;
          count = declarations_kept m base Rule.Count count;
        }

pub accepted_tree : (file : List ℕ) → module_answer file ≡ acceptance → tree_answer 3 (module_in file) ≡ acceptance
unfolding module_answer
accepted_tree file e = (accepted_parts (file_answer longest_module file) (module_form file) (tree_answer 3 (module_in file)) e).3

pub accepted_declarations : (file : List ℕ) → module_answer file ≡ acceptance → DeclarationsPass 3 (module_in file).declarations
accepted_declarations file e = tree_declarations 3 (module_in file) (accepted_tree file e)
