-- `translator::passes::pass` meets its contract: the header, the declarations and the rest are written one after the other. Assumes nothing.
use mathlib.Core.Path.{refl}
use native.Mathlib.Omega.{arith}
use borrow.Author.Rules.{rules}
use Rattle.translator.proofs.PassSteps.{whole_passed, head_past}
use Rattle.translator.proofs.passes.pass.Goals as goal

pub put_part-at-requires : goal.put_part-at-requires
put_part-at-requires c = omega (arith, head_past _ c.put_head-head.ensures, c.args.parts.short)

pub put_rest-requires-clause-begun : goal.put_rest-requires-clause-begun
put_rest-requires-clause-begun c =
    (refl, omega (arith, head_past _ c.put_head-head.ensures, c.put_part-at.ensures.past, c.args.parts.short))

pub returns : goal.returns
returns c =
    let all = whole_passed c.args.parts _ c.put_head-head.ensures c.put_part-at.ensures c.put_rest.ensures.passed in
    search rules
