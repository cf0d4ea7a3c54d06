-- Rules 3 to 8 on a module have the same first place as the tests by tables, which ask for no other field: the tests agree on each field of the processes.
use Rattle.std.specs.Prelude.{Option}
use mathlib.Core.Path.{◌≡◌, refl, ap, ◌∙◌}
use mathlib.Core.Bool.{Bool, false}
use mathlib.Core.List.{List, [], ◌++◌, map}
use Prim.Native.Nat.{ℕ, ◌+◌}
use lib.ListN.{length}
use Rattle.tagged.specs.Fields.{Placed, unplaced, all_bytes_of, placed_by}
use Rattle.tagged.specs.Refusals.{first_broken, or_else}
use Rattle.tagged.specs.Declarations.{Declaration, width_of, is_register, declaration_bytes, declaration_breaks, declaration_broken}
use Rattle.tagged.specs.declared.answers.Rule.{Rule}
use Rattle.tagged.specs.Answers.{Found}
use Rattle.tagged.proofs.RefusalLaws.{passes_nowhere}
use Rattle.tagged.proofs.FoundLaws.{or_nowhere, found_same}
use Rattle.verilog.specs.Tree.{Module}
use Rattle.verilog.specs.Nodes.{Node, process_nodes, module_nodes}
use Rattle.verilog.specs.Rules.{breaks, module_broken}
use Rattle.verilog.proofs.DeclarationsKept.{declaration_node, module_found}
use Rattle.verilog_check.specs.declared.assignments.First.{First}
use Rattle.verilog_check.specs.Judged.{judged}
use Rattle.verilog_check.proofs.EachField.{each_fails, each_process}
use Rattle.verilog_check.proofs.ProcessCount.{none_declared, processes_numbered}
use Rattle.verilog_check.proofs.TableTests.{OfDeclarations, no_declaration, test_same}

-- where the processes of a module start whose payload starts at `base`
abbrev pub after_declared : ℕ → Module → ℕ
after_declared base m = base + length (all_bytes_of declaration_bytes m.declarations)

-- their fields
abbrev pub process_fields : ℕ → Module → List (Placed Node)
process_fields base m = process_nodes 0 (after_declared base m) m.processes

-- the first place among them by the tables of widths, registers and first assignments
abbrev pub found_by : List ℕ → List Bool → List (Option First) → ℕ → Module → Rule → Found
found_by widths marks firsts base m rule = first_broken (λ earlier n. judged widths marks firsts rule n) [] (process_fields base m)

module _ (base : ℕ) (m : Module) where
  abbrev ds : List Declaration
  ds = m.declarations

  abbrev all : List Node
  all = unplaced (module_nodes base m)

  -- a rule that no declaration breaks has its first place in the processes
  pub undeclared_found : (rule : Rule) → ((earlier : List Declaration) (d : Declaration) → declaration_breaks rule earlier d ≡ false) →
      module_broken base m rule ≡ first_broken (breaks m.declarations (unplaced (module_nodes base m)) rule) (map declaration_node m.declarations)
      (process_fields base m)
  undeclared_found rule none =
      let nowhere = passes_nowhere (declaration_breaks rule) [] (placed_by declaration_bytes base ds) (λ before p d s. none before d) in
      module_found m base rule ∙ ap (λ (f : Found). or_else f (first_broken (breaks ds all rule) (map declaration_node ds) (process_fields base m))) nowhere

  pub value_found : (widths : List ℕ) (marks : List Bool) (firsts : List (Option First)) →
      module_broken base m Rule.Value ≡ or_else (declaration_broken Rule.Value base m.declarations) (found_by widths marks firsts base m Rule.Value)
  unfolding breaks judged
  value_found widths marks firsts =
      module_found m base Rule.Value ∙ ap (or_else (declaration_broken Rule.Value base ds))
      (found_same (breaks ds all Rule.Value) (λ earlier n. judged widths marks firsts Rule.Value n) (map declaration_node ds) [] (process_fields base m) (λ passed p n s. refl))

  pub name_found : module_broken base m Rule.Name ≡ declaration_broken Rule.Name base m.declarations
  unfolding breaks
  name_found =
      module_found m base Rule.Name
      ∙ ap (or_else (declaration_broken Rule.Name base ds))
      (each_fails (breaks ds all Rule.Name) (map declaration_node ds)
      (each_process (λ p earlier. refl) (λ p e earlier. refl) (λ p s earlier. refl) (λ p e w earlier. refl) 0 (after_declared base m) m.processes))
      ∙ or_nowhere (declaration_broken Rule.Name base ds)

  pub count_found : (widths : List ℕ) (marks : List Bool) (firsts : List (Option First)) →
      module_broken base m Rule.Count ≡ or_else (declaration_broken Rule.Count base m.declarations) (found_by widths marks firsts base m Rule.Count)
  count_found widths marks firsts =
      module_found m base Rule.Count ∙ ap (or_else (declaration_broken Rule.Count base ds))
      (processes_numbered ds all widths marks firsts 0 (after_declared base m) m.processes (map declaration_node ds) [] (none_declared ds))

  pub tables_found : (widths : List ℕ) (marks : List Bool) (firsts : List (Option First)) → widths ≡ map width_of m.declarations →
      marks ≡ map is_register m.declarations → {rule : Rule} → OfDeclarations rule →
      module_broken base m rule ≡ found_by widths marks firsts base m rule
  tables_found widths marks firsts sized marked {rule} of =
      undeclared_found rule (no_declaration of) ∙ found_same (breaks ds all rule) (λ earlier n. judged widths marks firsts rule n) (map declaration_node ds) [] (process_fields base m)
      (λ passed p n s. test_same ds widths marks firsts sized marked of all (map declaration_node ds ++ passed) n)
