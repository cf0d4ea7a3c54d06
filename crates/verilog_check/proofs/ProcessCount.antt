-- Rule 5 on processes has the same first place by the processes counted before a process as by its number: before process number p there are p.
-- By induction on the processes.
use Rattle.std.specs.Prelude.{Option, Some}
use mathlib.Core.Path.{◌≡◌, refl, sym, ap₂, ◌∙◌}
use mathlib.Core.Bool.{Bool, true, false}
use mathlib.Core.List.{List, [], ◌∷◌, ◌++◌, map}
use Prim.Native.Nat.{ℕ, ◌+◌}
use native.Mathlib.Omega.{arith}
use lib.Dec.{leb}
use lib.ListN.{length}
use Rattle.tagged.specs.Limits.{most_processes}
use Rattle.tagged.specs.Choice.{choose}
use Rattle.tagged.specs.Fields.{Placed, unplaced}
use Rattle.tagged.specs.Refusals.{first_broken, or_else}
use Rattle.tagged.specs.Declarations.{Declaration}
use Rattle.tagged.specs.declared.answers.Rule.TheVariants as Rule
use Rattle.tagged.specs.Answers.{Found}
use Rattle.tagged.proofs.FoundLaws.{found_append}
use Rattle.verilog.specs.Tree.{Block}
use Rattle.verilog.specs.Form.{process_bytes}
use Rattle.verilog.specs.Nodes.{process, Node, block_nodes, process_nodes}
use Rattle.verilog.specs.Rules.{one_more, count_processes, by_field, breaks}
use Rattle.verilog.proofs.DeclarationsKept.{declaration_node}
use Rattle.verilog_check.specs.declared.assignments.First.{First}
use Rattle.verilog_check.specs.Judged.{judged}
use Rattle.verilog_check.proofs.EachField.{Each, no_field, one_more_lem, each_fails, each_block}

abbrev is_process : Node → Bool
is_process n = by_field (λ d. false) true (λ e. false) (λ s. false) (λ e w. false) n.what

count_append : (a b : List Node) → count_processes (a ++ b) ≡ count_processes a + count_processes b
count_append [] b = omega arith
count_append (n ∷ a) b = go (is_process n) (count_append a b)
  where
    go : (t : Bool) → count_processes (a ++ b) ≡ count_processes a + count_processes b →
        one_more t (count_processes (a ++ b)) ≡ one_more t (count_processes a) + count_processes b
    go true h = omega arith
    go false h = h

-- there is none inside a process, and none among the declarations
none_counted : {l : List (Placed Node)} → Each (λ n. is_process n ≡ false) l → count_processes (unplaced l) ≡ 0
none_counted no_field = refl
none_counted (one_more_lem e r) = rw e (none_counted r)

none_inside : (p at : ℕ) (b : Block) → count_processes (unplaced (block_nodes p at b)) ≡ 0
none_inside p at b = none_counted (each_block p (λ e. refl) (λ s. refl) (λ e w. refl) at b)

pub none_declared : (l : List Declaration) → count_processes (map declaration_node l) ≡ 0
none_declared [] = refl
none_declared (d ∷ l) = none_declared l

module _ (ds : List Declaration) (all : List Node) (widths : List ℕ) (marks : List Bool) (firsts : List (Option First)) where
  abbrev by_earlier : List Node → Node → Bool
  by_earlier = breaks ds all Rule.Count

  abbrev by_number : List Node → Node → Bool
  by_number earlier n = judged widths marks firsts Rule.Count n

  -- no field inside a process breaks the rule, so the first place is that of what follows
  past_block : (p at : ℕ) (b : Block) (rest : List (Placed Node)) (before after : List Node) →
      first_broken by_earlier (before ++ unplaced (block_nodes p at b)) rest ≡ first_broken by_number (after ++ unplaced (block_nodes p at b)) rest →
      first_broken by_earlier before (block_nodes p at b ++ rest) ≡ first_broken by_number after (block_nodes p at b ++ rest)
  unfolding breaks judged
  past_block p at b rest before after later =
      let none-earlier = each_fails by_earlier before (each_block p (λ e earlier. refl) (λ s earlier. refl) (λ e w earlier. refl) at b) in
      let none-numbered = each_fails by_number after (each_block p (λ e earlier. refl) (λ s earlier. refl) (λ e w earlier. refl) at b) in
      found_append by_earlier before (block_nodes p at b) rest ∙ ap₂ or_else (none-earlier ∙ sym none-numbered) later
      ∙ sym (found_append by_number after (block_nodes p at b) rest)

  pub processes_numbered : (p at : ℕ) (l : List Block) (before after : List Node) → count_processes before ≡ p →
      first_broken (breaks ds all Rule.Count) before (process_nodes p at l) ≡ first_broken (λ earlier n. judged widths marks firsts Rule.Count n) after (process_nodes p at l)
  unfolding first_broken process_nodes breaks judged
  processes_numbered p at [] before after counted = refl
  processes_numbered p at (b ∷ l) before after counted =
      let own : Node = record { in_process = p; what = process } in
      let inner : List Node = unplaced (block_nodes p (at + 3) b) in
      let next : ℕ = at + length (process_bytes b) in
      let own-counted = count_append before (own ∷ []) in
      let inner-counted = count_append (before ++ (own ∷ [])) inner in
      let none = none_inside p (at + 3) b in
      ap₂ (λ (k : ℕ) (f : Found). choose (leb most_processes k) (λ _. Some at) (λ _. f)) counted
      (past_block p (at + 3) b (process_nodes (p + 1) next l) (before ++ (own ∷ [])) (after ++ (own ∷ []))
      (processes_numbered (p + 1) next l ((before ++ (own ∷ [])) ++ inner) ((after ++ (own ∷ [])) ++ inner) (omega arith)))
