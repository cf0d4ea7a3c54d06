-- `tagged::declarations::declaration_broken` meets its contract: what is passed breaks nothing, so the whole is as the rest. Assumes nothing.
use Rattle.std.proofs.Common.{sym, ◌∙◌, arith}
use Rattle.tagged.specs.Declarations.{declaration_breaks}
use Rattle.tagged.proofs.DeclarationWalks.{declared_here, walked_more, walked_before, broken_here, broken_later}
use Rattle.tagged.proofs.declarations.declaration_broken.Goals as goal

pub returns-then-declaration_breaks : goal.returns-then-declaration_breaks
returns-then-declaration_breaks c =
    broken_here (declaration_breaks c.args.rule) _ _ c.loop-field.invariant.going (declared_here c.in-Some.ensures.steps.first _ c.in-Declaration.is)
    (sym c.declaration_breaks.ensures ∙ c.if-declaration_breaks.true)

pub loop-field-preserved : goal.loop-field-preserved
loop-field-preserved c =
    let more = declared_here c.in-Some.ensures.steps.first _ c.in-Declaration.is in
    record {
      going = broken_later (declaration_breaks c.args.rule) _ _ c.loop-field.invariant.going more (sym c.declaration_breaks.ensures ∙ c.if-declaration_breaks.false)
          ∙ rw (walked_before c.loop-field.invariant.walked more);
      walked = walked_more c.loop-field.invariant.walked more;
      small = omega (arith, c.loop-field.invariant.small, c.in-Some.ensures.steps.shorter);
    }
