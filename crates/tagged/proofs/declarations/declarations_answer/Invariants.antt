use mathlib.Core.Path.{◌≡◌}
use lib.ListN.{drop}
use Rattle.tagged.specs.Declarations.{declarations_answer, declaration_rules, declaration_breaks, declarations_at}
use Rattle.tagged.specs.Refusals.{first_refusal, first_broken}
use mathlib.Core.List.{[]}
use Rattle.tagged.proofs.declarations.declarations_answer.Given as goal

abbrev pub invariant-loop-rule : goal.invariant-loop-rule
invariant-loop-rule l = first_refusal (λ rule. first_broken (declaration_breaks rule) [] (declarations_at l.base l.list)) (drop l.rule-index declaration_rules) ≡ declarations_answer l.base l.list
