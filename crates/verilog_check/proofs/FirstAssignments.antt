-- Rules 9 to 11 on a module have the same first place as the tests by the table of first assignments. In 9 and 10 the first assignment unlike an earlier one is the
-- first unlike the first one (FirstUnlike); where neither has a place, all assignments to a variable have one kind and one process, and in 11 the first stands for all of them.
use Rattle.std.specs.Prelude.{Option, Some, None}
use mathlib.Core.Path.{◌≡◌, refl, sym, ap, fun_ext, ◌∙◌}
use mathlib.Core.Bool.{Bool, false, ◌&&◌, not}
use mathlib.Core.List.{List, [], ◌∷◌, ◌++◌, map, Memᴰ}
use Prim.Native.Nat.{ℕ, ◌+◌, ◌≤◌, ◌<◌}
use native.Mathlib.Omega.{arith}
use lib.Dec.{eqb}
use lib.ListN.{length, get_or}
use borrow.Author.Tests.{not-false}
use Rattle.tagged.specs.Limits.{most_variables}
use Rattle.tagged.specs.Fields.{unplaced}
use Rattle.tagged.specs.Stands.{Stands}
use Rattle.tagged.specs.Refusals.{first_broken}
use Rattle.tagged.specs.Declarations.{Declaration, declaration_breaks}
use Rattle.tagged.specs.declared.answers.Rule.{Rule}
use Rattle.tagged.proofs.RefusalLaws.{nowhere_passes}
use Rattle.tagged.proofs.FoundLaws.{unplaced_append, found_same}
use Rattle.verilog.specs.Tree.{Module}
use Rattle.verilog.specs.Nodes.{Node, declaration_nodes, module_nodes}
use Rattle.verilog.specs.Rules.{is_assignment, is_blocking, same_kind, some_node, breaks, module_broken}
use Rattle.verilog.proofs.DeclarationsKept.{declaration_node, declared_nodes}
use Rattle.verilog_check.specs.declared.assignments.First.{First}
use Rattle.verilog_check.specs.Tables.{kind_of, is_elsewhere, other_kind, other_process, blocked_elsewhere}
use Rattle.verilog_check.specs.Judged.{judged}
use Rattle.verilog_check.proofs.Firsts.{as_first, first_in, not_none}
use Rattle.verilog_check.proofs.SomeField.{none_member, first_decides}
use Rattle.verilog_check.proofs.RulesByTables.{process_fields, found_by, undeclared_found}
use Rattle.verilog_check.proofs.FirstUnlike.{Asked, unlike, unlike_earlier, unlike_first, Alike, first_unlike, nowhere_alike}
use Rattle.verilog_check.proofs.TestsByFirst.{OfAssignments, of_both_kinds, of_two_processes, asked_of, process_of, same_number, first_equal, elsewhere_process, undeclared, breaks_by_first, elsewhere, elsewhere_first}
use Rattle.verilog_check.proofs.Existing.{reads_same, assignments_same}

-- declarations are no assignments
declared_first : (v : ℕ) (ds : List Declaration) (l : List Node) → first_in v (map declaration_node ds ++ l) ≡ first_in v l
unfolding first_in
declared_first v [] l = refl
declared_first v (d ∷ ds) l = declared_first v ds l

declared_alike : (asked : Asked) (first : ℕ → Option First) (ds : List Declaration) → Alike asked first (map declaration_node ds)
declared_alike asked first [] v = refl
declared_alike asked first (d ∷ ds) v = declared_alike asked first ds v

module _ (base : ℕ) (m : Module) where
  abbrev ds : List Declaration
  ds = m.declarations

  abbrev all : List Node
  all = unplaced (module_nodes base m)

  -- the first assignment to a variable in the processes
  abbrev first_of : ℕ → Option First
  first_of v = first_in v (unplaced (process_fields base m))

  -- 9 and 10, by the first assignment to the same variable
  unlike_found : {rule : Rule} (of : OfAssignments rule) → module_broken base m rule ≡ first_broken (λ passed n. unlike_first (asked_of of) first_of n) [] (process_fields base m)
  unlike_found {rule} of =
      undeclared_found base m rule (undeclared of)
      ∙ found_same (breaks ds all rule) (unlike_earlier (asked_of of)) (map declaration_node ds) (map declaration_node ds) (process_fields base m)
      (λ passed p n s. breaks_by_first ds all of (map declaration_node ds ++ passed) n)
      ∙ first_unlike (asked_of of) first_of (map declaration_node ds) (process_fields base m) (λ v. sym (declared_first v ds (unplaced (process_fields base m))))
      (declared_alike (asked_of of) first_of ds) []

  -- where such a rule has no place, every assignment has what it asks for from the first one to its variable
  pub part_of_first : {rule : Rule} (of : OfAssignments rule) → module_broken base m rule ≡ None → (v : ℕ) (n : Node) →
      Memᴰ n (map declaration_node m.declarations ++ unplaced (process_fields base m)) → (as_first v n ≡ None → ⊥) →
      (asked_of of).part (as_first v n) ≡ (asked_of of).part (first_in v (unplaced (process_fields base m)))
  part_of_first of e v n i some =
      let alike = nowhere_alike (asked_of of) first_of (map declaration_node ds) (process_fields base m) [] (declared_alike (asked_of of) first_of ds) (sym (unlike_found of) ∙ e) v in
      let like = none_member (λ k. unlike (asked_of of) ((asked_of of).part (first_of v)) (as_first v k)) (map declaration_node ds ++ unplaced (process_fields base m)) alike n i in
      (asked_of of).same_true ((asked_of of).part (as_first v n)) ((asked_of of).part (first_of v))
      (not-false ((asked_of of).same ((asked_of of).part (as_first v n)) ((asked_of of).part (first_of v)))
      (rw (not_none (as_first v n) some) at like))

  -- the fields of the module, without places
  all_fields : unplaced (module_nodes base m) ≡ map declaration_node m.declarations ++ unplaced (process_fields base m)
  unfolding module_nodes
  all_fields = unplaced_append (declaration_nodes base ds) (process_fields base m) ∙ ap (λ (l : List Node). l ++ unplaced (process_fields base m)) (declared_nodes base ds)

  module _ (widths : List ℕ) (marks : List Bool) (firsts : List (Option First))
      (tabled : (v : ℕ) → v < most_variables → get_or firsts v None ≡ first_in v (unplaced (process_fields base m)))
      (few : length m.declarations ≤ most_variables) (existing : module_broken base m Rule.Reference ≡ None) where
    reference_passes : {passed : List Node} {p : ℕ} {n : Node} → Stands (process_fields base m) passed p n → breaks ds all Rule.Reference (map declaration_node ds ++ passed) n ≡ false
    unfolding declaration_breaks
    reference_passes s =
        nowhere_passes (breaks ds all Rule.Reference) (map declaration_node ds) s (sym (undeclared_found base m Rule.Reference (λ earlier d. refl)) ∙ existing)

    -- 9 and 10 on one assignment, by the table
    judged_by_first : {rule : Rule} (of : OfAssignments rule) (earlier : List Node) (n : Node) → breaks ds all Rule.Reference earlier n ≡ false →
        unlike_first (asked_of of) first_of n ≡ judged widths marks firsts rule n
    unfolding judged
    judged_by_first of_both_kinds earlier n passes =
        assignments_same ds all earlier n passes (λ kind v. not (same_kind (kind_of (first_of v)) kind)) (other_kind firsts)
        (λ kind v there. ap (λ (first : Option First). not (same_kind (kind_of first) kind)) (sym (tabled v (omega arith))))
    judged_by_first of_two_processes earlier n passes =
        assignments_same ds all earlier n passes (λ kind v. not (same_number (process_of (first_of v)) (Some (n.in_process + 1))))
        (λ kind v. other_process firsts n.in_process v)
        (λ kind v there. elsewhere_process n.in_process (first_of v) ∙ ap (is_elsewhere n.in_process) (sym (tabled v (omega arith))))

    pub assignments_found : {rule : Rule} → OfAssignments rule → module_broken base m rule ≡ found_by widths marks firsts base m rule
    assignments_found {rule} of =
        unlike_found of ∙ found_same (λ passed n. unlike_first (asked_of of) first_of n) (λ passed n. judged widths marks firsts rule n) [] [] (process_fields base m)
        (λ passed p n s. judged_by_first of (map declaration_node ds ++ passed) n (reference_passes s))

    -- 11, where 9 and 10 have no place
    module _ (kinds : module_broken base m Rule.BothKinds ≡ None) (processes : module_broken base m Rule.TwoProcesses ≡ None) where
      one_first : (v : ℕ) (n : Node) → Memᴰ n (map declaration_node ds ++ unplaced (process_fields base m)) → (as_first v n ≡ None → ⊥) →
          as_first v n ≡ first_in v (map declaration_node ds ++ unplaced (process_fields base m))
      one_first v n i some =
          let same : as_first v n ≡ first_of v =
          first_equal (as_first v n) (first_of v) some (part_of_first of_both_kinds kinds v n i some) (part_of_first of_two_processes processes v n i some) in
          same ∙ sym (declared_first v ds (unplaced (process_fields base m)))

      blocked_by_first : (p v : ℕ) → v < most_variables →
          some_node (λ k. is_assignment (λ other u. is_blocking other && eqb u v && not (eqb k.in_process p)) k) all ≡ blocked_elsewhere firsts p v
      blocked_by_first p v few =
          ap (λ (test : Node → Bool). some_node test all) (fun_ext (elsewhere_first p v)) ∙ ap (λ (l : List Node). some_node (λ k. elsewhere p (as_first v k)) l) all_fields
          ∙ first_decides v (elsewhere p) refl (map declaration_node ds ++ unplaced (process_fields base m)) (λ n i some. ap (elsewhere p) (one_first v n i some))
          ∙ ap (elsewhere p) (declared_first v ds (unplaced (process_fields base m)) ∙ sym (tabled v few))

      pub reads_found : module_broken base m Rule.ReadElsewhere ≡ found_by widths marks firsts base m Rule.ReadElsewhere
      unfolding declaration_breaks breaks judged
      reads_found =
          undeclared_found base m Rule.ReadElsewhere (λ earlier d. refl)
          ∙ found_same (breaks ds all Rule.ReadElsewhere) (λ passed n. judged widths marks firsts Rule.ReadElsewhere n) (map declaration_node ds) [] (process_fields base m)
          (λ passed p n s. reads_same ds all (map declaration_node ds ++ passed) n (reference_passes s)
          (λ v. some_node (λ k. is_assignment (λ other u. is_blocking other && eqb u v && not (eqb k.in_process n.in_process)) k) all) (blocked_elsewhere firsts n.in_process)
          (λ v there. blocked_by_first n.in_process v (omega arith)))
