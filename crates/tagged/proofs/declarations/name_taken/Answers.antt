-- `tagged::declarations::name_taken` meets its contract: the names that are left decide at each turn. Assumes nothing.
use Rattle.std.proofs.Common.{sym, ap, ◌∙◌, arith, rules}
use Rattle.tagged.specs.Names.{same_name}
use Rattle.tagged.proofs.DeclarationLaws.{name_in_lem}
use Rattle.tagged.proofs.DeclarationWalks.{declared_here, taken_here, taken_later}
use Rattle.tagged.proofs.declarations.name_taken.Goals as goal

pub returns-then-same_name : goal.returns-then-same_name
returns-then-same_name c =
    taken_here _ _ _ _ c.loop-field.invariant (omega (arith, c.if-left-eq0.false)) _ _ (declared_here c.in-Some.ensures.steps.first _ c.in-Declaration.is)
    (ap (λ n. same_name n c.args.name.now) (name_in_lem c.in-Declaration.sort _ ∙ sym (search rules)) ∙ sym c.same_name.ensures ∙ c.if-same_name.true)

pub loop-field-preserved : goal.loop-field-preserved
loop-field-preserved c =
    taken_later _ _ _ _ c.loop-field.invariant (omega (arith, c.if-left-eq0.false)) _ _ (declared_here c.in-Some.ensures.steps.first _ c.in-Declaration.is)
    (ap (λ n. same_name n c.args.name.now) (name_in_lem c.in-Declaration.sort _ ∙ sym (search rules)) ∙ sym c.same_name.ensures ∙ c.if-same_name.false)
