-- Rules 3 and 5 to 11 on one field of a process, by what is known of the variables. In this form a rule asks for no other field:
-- an assignment is held against the first one to its variable.
use Rattle.std.specs.Prelude.{Bool, false, not, List, [], Option, ℕ, leb, length, get_or}
use Rattle.tagged.specs.Limits.{most_processes}
use Rattle.tagged.specs.Refusals.{found_if, first_refusal}
use Rattle.tagged.specs.declared.answers.Rule.{Rule}
use Rattle.tagged.specs.Answers.{Answer}
use Rattle.verilog.specs.Nodes.{What, Node}
use Rattle.verilog.specs.Rules.{by_field, reads_by, assigns_by, is_assignment, is_read, breaks}
use Rattle.verilog.specs.Answer.{module_rules}
use Rattle.verilog_check.specs.declared.assignments.First.{First}
use Rattle.verilog_check.specs.Tables.{variables_of, other_kind, other_process, blocked_elsewhere}

-- does a field break this rule?
unfoldable pub judged : List ℕ → List Bool → List (Option First) → Rule → Node → Bool
judged widths marks firsts Rule.Value n = breaks [] [] Rule.Value [] n
judged widths marks firsts Rule.Count n =
    by_field (λ d. false) (leb most_processes n.in_process) (λ e. false) (λ s. false) (λ e w. false) n.what
judged widths marks firsts Rule.Reference n =
    by_field (λ d. false) false (reads_by (λ v. leb (length widths) v)) (assigns_by (λ kind v. not (get_or marks v false))) (λ e w. false) n.what
judged widths marks firsts Rule.Widths n = breaks (variables_of widths) [] Rule.Widths [] n
judged widths marks firsts Rule.BitNumber n = breaks (variables_of widths) [] Rule.BitNumber [] n
judged widths marks firsts Rule.BothKinds n = is_assignment (other_kind firsts) n
judged widths marks firsts Rule.TwoProcesses n = is_assignment (λ kind v. other_process firsts n.in_process v) n
judged widths marks firsts Rule.ReadElsewhere n = is_read (blocked_elsewhere firsts n.in_process) n
judged widths marks firsts Rule.Name n = false
judged widths marks firsts Rule.FileLength n = false
judged widths marks firsts Rule.Form n = false
judged widths marks firsts Rule.Cells n = false
judged widths marks firsts Rule.Buffer n = false
judged widths marks firsts Rule.Row n = false

-- the same, of a field in process number p
abbrev pub judged_in : List ℕ → List Bool → List (Option First) → Rule → ℕ → What → Bool
judged_in widths marks firsts rule p w = judged widths marks firsts rule (record { in_process = p; what = w })

-- the first rule that such a field breaks, at its place
abbrev pub field_answer : List ℕ → List Bool → List (Option First) → ℕ → What → ℕ → Answer
field_answer widths marks firsts p w at = first_refusal (λ rule. found_if (judged_in widths marks firsts rule p w) at) module_rules
