-- The answer that C gets gives back every answer's number and values; and two results of one promise coincide.
use Rattle.std.specs.Prelude.{Ok, Err}
use mathlib.Core.Path.{◌≡◌, refl, sym, ◌∙◌}
use mathlib.Core.List.{List}
use Prim.Native.Nat.{ℕ}
use mathlib.Core.Bool.{false}
use lib.Dec.{eqb}
use Rattle.tagged.specs.Answers.{number_of, reply_of, translation_reply, rule_of, answer_of, translation_of, Promise, Answer, Translation}
use Rattle.tagged.specs.declared.answers.Rule.{Rule}

-- a rule is that of its number
pub rule_back : (r : Rule) → rule_of (number_of r) ≡ r
unfolding rule_of number_of
rule_back Rule.FileLength = refl
rule_back Rule.Form = refl
rule_back Rule.Value = refl
rule_back Rule.Name = refl
rule_back Rule.Count = refl
rule_back Rule.Reference = refl
rule_back Rule.Widths = refl
rule_back Rule.BitNumber = refl
rule_back Rule.BothKinds = refl
rule_back Rule.TwoProcesses = refl
rule_back Rule.ReadElsewhere = refl
rule_back Rule.Cells = refl
rule_back Rule.Buffer = refl
rule_back Rule.Row = refl

-- no rule has the number of acceptance
number_some : (r : Rule) → eqb (number_of r) 0 ≡ false
unfolding number_of
number_some Rule.FileLength = refl
number_some Rule.Form = refl
number_some Rule.Value = refl
number_some Rule.Name = refl
number_some Rule.Count = refl
number_some Rule.Reference = refl
number_some Rule.Widths = refl
number_some Rule.BitNumber = refl
number_some Rule.BothKinds = refl
number_some Rule.TwoProcesses = refl
number_some Rule.ReadElsewhere = refl
number_some Rule.Cells = refl
number_some Rule.Buffer = refl
number_some Rule.Row = refl

-- what a reply stands for is the answer that it was made of
pub answer_back : (a : Answer) → answer_of (reply_of a) ≡ a
unfolding answer_of reply_of
answer_back (Ok _) = refl
answer_back (Err e) = rw (number_some e.rule, rule_back e.rule)

pub translation_back : (t : Translation) → translation_of (translation_reply t) ≡ t
unfolding translation_of translation_reply
translation_back (Ok e) = refl
translation_back (Err e) = rw (number_some e.rule, rule_back e.rule)

-- an answer that a contract equates with a definition is the only one that it admits
pub one_answer_lem : {A : Type 0} {wanted a b : A} → a ≡ wanted → b ≡ wanted → a ≡ b
one_answer_lem p q = p ∙ sym q

-- any two results of one promise coincide: the answer, and every byte lent
pub coincide : {A : Type 0} {wanted a b : A} {left lent held : List ℕ} → Promise wanted left a lent → Promise wanted left b held → (a ≡ b) × (lent ≡ held)
coincide p q = (one_answer_lem p.answered q.answered, one_answer_lem p.leaves q.leaves)
