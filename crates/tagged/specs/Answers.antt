-- Answers: the numbers of document 01 for each case, and the values in which C gets them.
use Rattle.std.specs.Prelude.{Option, Result, Ok, Err, ℕ, cond, List, ◌++◌, codes, ◌≡◌, eqb}
use Rattle.std.specs.Fmt.{decimal}
use Rattle.tagged.specs.declared.answers.Rule.{Rule}
use Rattle.tagged.specs.declared.answers.Refusal.{Refusal}
use Rattle.tagged.specs.declared.answers.Written.{Written}
use Rattle.tagged.specs.declared.answers.Fault.{Fault}
use Rattle.tagged.specs.declared.answers.Reply.{Reply}

-- a refusal by this rule, at this place
abbrev pub refused : Rule → ℕ → Refusal
refused rule place = record { rule = rule; place = place }

-- a fault of the form, at this place
abbrev pub fault_at : ℕ → Fault
fault_at place = record { place = place }

-- it is refusal 2
abbrev pub refused_form : Fault → Refusal
refused_form fault = refused Rule.Form fault.place

-- a netlist of this length and count of cells
abbrev pub written : ℕ → ℕ → Written
written length cells = record { length = length; cells = cells }

-- what a check, a reading or a run answers: acceptance, or a refusal
abbrev pub Answer : Type 0
Answer = Result (Unit {0}) Refusal

-- acceptance
abbrev pub acceptance : Answer
acceptance = Ok tt

-- what translating answers: what was written, or a refusal
abbrev pub Translation : Type 0
Translation = Result Written Refusal

-- the place where something was found, if it was
abbrev pub Found : Type 0
Found = Option ℕ

-- the table of refusals: the number of each, in the order in which they are looked for
unfoldable pub number_of : Rule → ℕ
number_of Rule.FileLength = 1
number_of Rule.Form = 2
number_of Rule.Value = 3
number_of Rule.Name = 4
number_of Rule.Count = 5
number_of Rule.Reference = 6
number_of Rule.Widths = 7
number_of Rule.BitNumber = 8
number_of Rule.BothKinds = 9
number_of Rule.TwoProcesses = 10
number_of Rule.ReadElsewhere = 11
number_of Rule.Cells = 12
number_of Rule.Buffer = 13
number_of Rule.Row = 14

-- the words that a refusal prints: "refused N at P", both numbers in decimal
abbrev pub refusal_words : Refusal → List ℕ
refusal_words r = codes "refused " ++ (decimal (number_of r.rule) ++ (codes " at " ++ decimal r.place))

-- a refusal has its number and place
unfoldable pub refusal_reply : Refusal → Reply
refusal_reply e = record { number = number_of e.rule; cells = 0; at = e.place }

-- acceptance is number 0
unfoldable pub reply_of : Answer → Reply
reply_of (Ok _) = record { number = 0; cells = 0; at = 0 }
reply_of (Err e) = record { number = number_of e.rule; cells = 0; at = e.place }

-- translating returns length and cell count, or a refusal
unfoldable pub translation_reply : Translation → Reply
translation_reply (Ok e) = record { number = 0; cells = e.cells; at = e.length }
translation_reply (Err e) = record { number = number_of e.rule; cells = 0; at = e.place }

-- and back: the rule with a number, the answer and the translation that a reply stands for
unfoldable pub rule_of : ℕ → Rule
rule_of n =
    cond (eqb n 1) Rule.FileLength
    (cond (eqb n 2) Rule.Form
    (cond (eqb n 3) Rule.Value
    (cond (eqb n 4) Rule.Name
    (cond (eqb n 5) Rule.Count
    (cond (eqb n 6) Rule.Reference
    (cond (eqb n 7) Rule.Widths
    (cond (eqb n 8) Rule.BitNumber
    (cond (eqb n 9) Rule.BothKinds
    (cond (eqb n 10) Rule.TwoProcesses
    (cond (eqb n 11) Rule.ReadElsewhere
    (cond (eqb n 12) Rule.Cells
    (cond (eqb n 13) Rule.Buffer Rule.Row))))))))))))

unfoldable pub answer_of : Reply → Answer
answer_of r = cond (eqb r.number 0) acceptance (Err (refused (rule_of r.number) r.at))

unfoldable pub translation_of : Reply → Translation
translation_of r = cond (eqb r.number 0) (Ok (written r.at r.cells)) (Err (refused (rule_of r.number) r.at))

-- what a call promises, on every input: the answer wanted, and what the lent memory is then
pub record Promise {A : Type 0} (wanted : A) (left : List ℕ) (answer : A) (lent : List ℕ) : Type 0 where
  pub answered : answer ≡ wanted
  pub leaves : lent ≡ left
