-- The first place that breaks a rule in a module is that of its declarations, which are the first of its fields, or else that of its processes after them.
-- So a module without refusal 3, 4 or 5 has declarations without it. By induction on the declarations.
use Rattle.std.specs.Prelude.{Some, None}
use mathlib.Core.Path.{◌≡◌, refl, sym, ap, ap₂, ◌∙◌}
use mathlib.Core.Bool.{Bool}
use mathlib.Core.List.{List, [], ◌∷◌, ◌++◌, map, map-append}
use Prim.Native.Nat.{ℕ, ◌+◌}
use lib.ListN.{length}
use Rattle.tagged.specs.Choice.{choose}
use Rattle.tagged.specs.Fields.{unplaced, all_bytes_of, placed_by}
use Rattle.tagged.specs.Refusals.{first_broken, or_else}
use Rattle.tagged.specs.Declarations.{Declaration, declaration_bytes, declaration_breaks, declaration_broken}
use Rattle.tagged.specs.declared.answers.Rule.{Rule}
use Rattle.tagged.specs.Answers.{Found}
use Rattle.tagged.proofs.RefusalLaws.{nowhere_both}
use Rattle.tagged.proofs.FoundLaws.{found_append}
use Rattle.verilog.specs.Tree.{Module}
use Rattle.verilog.specs.Nodes.{declaration, Node, declaration_nodes, process_nodes, module_nodes}
use Rattle.verilog.specs.Rules.{declarations_of, breaks, module_broken}

-- rules 3, 4 and 5 on declarations
pub record DeclarationsPass (base : ℕ) (ds : List Declaration) : Type 0 where
  pub value : declaration_broken Rule.Value base ds ≡ None
  pub name : declaration_broken Rule.Name base ds ≡ None
  pub count : declaration_broken Rule.Count base ds ≡ None

abbrev pub declaration_node : Declaration → Node
declaration_node d = record { in_process = 0; what = declaration d }

-- the fields of declarations, without places
pub declared_nodes : (at : ℕ) (l : List Declaration) → unplaced (declaration_nodes at l) ≡ map declaration_node l
unfolding declaration_nodes
declared_nodes at [] = refl
declared_nodes at (d ∷ l) = ap (λ (k : List Node). declaration_node d ∷ k) (declared_nodes (at + length (declaration_bytes d)) l)

-- the declarations among their own fields
nodes_back : (l : List Declaration) → declarations_of (map declaration_node l) ≡ l
nodes_back [] = refl
nodes_back (d ∷ l) = ap (λ (k : List Declaration). d ∷ k) (nodes_back l)

module _ (ds : List Declaration) (all : List Node) where
  -- the test of a declaration's field is that of the declaration
  declared_test : (rule : Rule) (earlier : List Node) (d : Declaration) → breaks ds all rule earlier (declaration_node d) ≡ declaration_breaks rule (declarations_of earlier) d
  unfolding breaks declaration_breaks
  declared_test Rule.Value earlier d = refl
  declared_test Rule.Name earlier d = refl
  declared_test Rule.Count earlier d = refl
  declared_test Rule.Reference earlier d = refl
  declared_test Rule.Widths earlier d = refl
  declared_test Rule.BitNumber earlier d = refl
  declared_test Rule.BothKinds earlier d = refl
  declared_test Rule.TwoProcesses earlier d = refl
  declared_test Rule.ReadElsewhere earlier d = refl
  declared_test Rule.FileLength earlier d = refl
  declared_test Rule.Form earlier d = refl
  declared_test Rule.Cells earlier d = refl
  declared_test Rule.Buffer earlier d = refl
  declared_test Rule.Row earlier d = refl

  -- so the first place among their fields is the first among them
  declared_found : (rule : Rule) (before : List Declaration) (at : ℕ) (l : List Declaration) →
      first_broken (breaks ds all rule) (map declaration_node before) (declaration_nodes at l) ≡ first_broken (declaration_breaks rule) before (placed_by declaration_bytes at l)
  unfolding first_broken declaration_nodes placed_by
  declared_found rule before at [] = refl
  declared_found rule before at (d ∷ l) =
      let test = declared_test rule (map declaration_node before) d ∙ ap (λ (k : List Declaration). declaration_breaks rule k d) (nodes_back before) in
      let later = declared_found rule (before ++ (d ∷ [])) (at + length (declaration_bytes d)) l in
      ap₂ (λ (t : Bool) (f : Found). choose t (λ _. Some at) (λ _. f)) test (rw map-append at later)

module _ (m : Module) (base : ℕ) where
  -- the first place among the declarations, or else among the fields of the processes, which stand after all declarations
  pub module_found : (rule : Rule) →
      module_broken base m rule
      ≡ or_else (declaration_broken rule base m.declarations)
      (first_broken (breaks m.declarations (unplaced (module_nodes base m)) rule) (map declaration_node m.declarations)
      (process_nodes 0 (base + length (all_bytes_of declaration_bytes m.declarations)) m.processes))
  unfolding module_broken module_nodes
  module_found rule =
      let test = breaks m.declarations (unplaced (module_nodes base m)) rule in
      let declared = declaration_nodes base m.declarations in
      let rest = process_nodes 0 (base + length (all_bytes_of declaration_bytes m.declarations)) m.processes in
      found_append test [] declared rest
      ∙ ap₂ (λ (f : Found) (l : List Node). or_else f (first_broken test l rest))
      (declared_found m.declarations (unplaced (module_nodes base m)) rule [] base m.declarations) (declared_nodes base m.declarations)

  -- no place in the module: none among its declarations
  pub declarations_kept : (rule : Rule) → module_broken base m rule ≡ None → declaration_broken rule base m.declarations ≡ None
  declarations_kept rule e = (nowhere_both _ _ (sym (module_found rule) ∙ e)).0
