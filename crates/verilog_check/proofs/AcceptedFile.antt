-- An accepted module file: it has a length and a form without a fault, is short, has at most 64 variables, their widths are as its table tells them,
-- and no register has both kinds of assignment.
use Rattle.std.specs.Prelude.{Ok, None}
use mathlib.Core.Path.{◌≡◌, refl, ap, ◌∙◌}
use mathlib.Core.List.{List, map}
use Prim.Native.Nat.{ℕ, ◌≤◌}
use native.Mathlib.Omega.{arith}
use lib.ListN.{length, take, drop, length-take, length-drop}
use Rattle.tagged.specs.Answers.{acceptance}
use Rattle.tagged.specs.Limits.{longest_module, deepest, most_variables}
use Rattle.tagged.specs.Files.{file_answer}
use Rattle.tagged.specs.Declarations.{width_of, declarations_in, variable_table}
use Rattle.tagged.specs.declared.declarations.VariableTable.{VariableTable}
use Rattle.tagged.specs.declared.answers.Rule.TheVariants as Rule
use Rattle.tagged.proofs.RefusalLaws.{NoneBroken, more, accepted_none}
use Rattle.tagged.proofs.FileLaws.{file_fits, accepted_parts, form_whole}
use Rattle.tagged.proofs.TableLaws.{count_fits, widths_long, marks_long}
use Rattle.tagged.proofs.DeclarationSizes.{variables_few}
use Rattle.verilog.specs.Tree.{Module}
use Rattle.verilog.specs.Rules.{module_broken}
use Rattle.verilog.specs.Form.{module_body, module_form}
use Rattle.verilog.specs.Reading.{tree_in, module_in}
use Rattle.verilog.specs.Answer.{module_rules, module_answer, tree_answer}
use Rattle.verilog.specs.Run.{file_widths}
use Rattle.verilog.proofs.AcceptedModule.{accepted_declarations}

-- rule 9 has no place in an accepted tree
pub one_kind : (m : Module) → tree_answer 3 m ≡ acceptance → module_broken 3 m Rule.BothKinds ≡ None
unfolding tree_answer
one_kind m e = go (accepted_none (module_broken 3 m) module_rules e)
  where
    go : NoneBroken (module_broken 3 m) module_rules → module_broken 3 m Rule.BothKinds ≡ None
    go (more value (more name (more count (more reference (more widths (more bits (more kinds others))))))) = kinds

module _ (file : List ℕ) (accepted : module_answer file ≡ acceptance) where
  pub length_accepted : file_answer longest_module file ≡ acceptance
  unfolding module_answer
  length_accepted = (accepted_parts (file_answer longest_module file) (module_form file) (tree_answer 3 (module_in file)) accepted).1

  pub form_passed : module_form file ≡ Ok (length file)
  unfolding module_answer module_form
  form_passed =
      let parts = accepted_parts (file_answer longest_module file) (module_form file) (tree_answer 3 (module_in file)) accepted in
      form_whole longest_module file (file_answer longest_module file) refl length_accepted (module_body deepest) parts.0 parts.2

  pub few_variables : length (module_in file).declarations ≤ most_variables
  few_variables = variables_few 3 (module_in file).declarations (accepted_declarations file accepted).count

  module _ (payload : List ℕ) (part : payload ≡ drop 3 file) where
    pub payload_short : length payload ≤ longest_module
    payload_short = omega (arith, (file_fits longest_module file length_accepted).short, ap length part, length-drop 3 file)

    pub payload_declared : declarations_in payload ≡ (module_in file).declarations
    unfolding tree_in
    payload_declared = ap declarations_in part

    pub variables_told : length (declarations_in payload) ≤ most_variables
    variables_told = omega (arith, few_variables, ap length payload_declared)

    pub widths_told : (widths : List ℕ) → widths ≡ map width_of (declarations_in payload) → widths ≡ file_widths file
    widths_told widths e = e ∙ ap (map width_of) payload_declared

    -- the table of its variables has room for them all
    module _ (table : VariableTable) (made : table ≡ variable_table (declarations_in payload)) where
      pub widths_room : table.count ≤ length table.widths
      widths_room = omega (arith, count_fits (declarations_in payload) table made variables_told, widths_long (declarations_in payload) table made)

      pub marks_room : table.count ≤ length table.registers
      marks_room = omega (arith, count_fits (declarations_in payload) table made variables_told, marks_long (declarations_in payload) table made)

      pub widths_few : length (take table.count table.widths) ≤ most_variables
      widths_few = omega (arith, count_fits (declarations_in payload) table made variables_told, length-take table.count table.widths)

      pub marks_few : length (take table.count table.registers) ≤ most_variables
      marks_few = omega (arith, count_fits (declarations_in payload) table made variables_told, length-take table.count table.registers)
