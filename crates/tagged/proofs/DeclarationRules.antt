-- Declarations are refused for rules 3 to 5 alone: no declaration breaks a later rule, so to look for more rules after these changes nothing. By cases on the rule.
use Rattle.std.specs.Prelude.{Ok, Err, None}
use mathlib.Core.Path.{◌≡◌, refl, ap, ◌∙◌}
use mathlib.Core.Bool.{true, false}
use mathlib.Core.List.{List, [], ◌++◌}
use Prim.Native.Nat.{◌≤◌}
use native.Mathlib.Omega.{arith}
use Rattle.tagged.specs.Fields.{Placed}
use Rattle.tagged.specs.Answers.{acceptance, number_of, Answer}
use Rattle.tagged.specs.Refusals.{first_broken, first_refusal, after_answer}
use Rattle.tagged.specs.Declarations.{Declaration, declaration_breaks, declaration_rules}
use Rattle.tagged.specs.declared.answers.Rule.{Rule}
use Rattle.tagged.proofs.RefusalLaws.{passes_nowhere, in_order, order_rising, rising_above, none_accepted, each_none, refusal_append}

late_passes : (rule : Rule) → 6 ≤ number_of rule → (earlier : List Declaration) (d : Declaration) → declaration_breaks rule earlier d ≡ false
unfolding number_of declaration_breaks
late_passes Rule.FileLength late earlier d = refl
late_passes Rule.Form late earlier d = refl
late_passes Rule.Value late earlier d = absurd (omega arith)
late_passes Rule.Name late earlier d = absurd (omega arith)
late_passes Rule.Count late earlier d = absurd (omega arith)
late_passes Rule.Reference late earlier d = refl
late_passes Rule.Widths late earlier d = refl
late_passes Rule.BitNumber late earlier d = refl
late_passes Rule.BothKinds late earlier d = refl
late_passes Rule.TwoProcesses late earlier d = refl
late_passes Rule.ReadElsewhere late earlier d = refl
late_passes Rule.Cells late earlier d = refl
late_passes Rule.Buffer late earlier d = refl
late_passes Rule.Row late earlier d = refl

-- a rule from the sixth on has no place among declarations
pub late_nowhere : (rule : Rule) → 6 ≤ number_of rule → (l : List (Placed Declaration)) → first_broken (declaration_breaks rule) [] l ≡ None
late_nowhere rule late l = passes_nowhere (declaration_breaks rule) [] l (λ before p d s. late_passes rule late before d)

after_accepted : (a : Answer) → after_answer a acceptance ≡ a
after_accepted (Ok _) = refl
after_accepted (Err e) = refl

-- so the answer by all rules is that by rules 3 to 5
pub declared_only : (later : List Rule) → in_order 6 later ≡ true → (l : List (Placed Declaration)) →
    first_refusal (λ rule. first_broken (declaration_breaks rule) [] l) (declaration_rules ++ later) ≡ first_refusal (λ rule. first_broken (declaration_breaks rule) [] l) declaration_rules
declared_only later order l =
    let none = each_none (λ rule. first_broken (declaration_breaks rule) [] l) later (λ rule m. late_nowhere rule (rising_above (order_rising 6 later order) m) l) in
    refusal_append (λ rule. first_broken (declaration_breaks rule) [] l) declaration_rules later
    ∙ ap (after_answer (first_refusal (λ rule. first_broken (declaration_breaks rule) [] l) declaration_rules)) (none_accepted (λ rule. first_broken (declaration_breaks rule) [] l) none)
    ∙ after_accepted _
