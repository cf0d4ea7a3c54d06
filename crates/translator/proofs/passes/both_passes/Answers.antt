-- `translator::passes::both_passes` meets its contract: it refuses by what the first pass measured, and else the second writes. Assumes nothing.
use native.Mathlib.Omega.{arith}
use borrow.Author.Rules.{rules}
use Rattle.translator.proofs.PassSteps.{at_least, at_most, refused_kept, both_passed}
use Rattle.translator.proofs.passes.both_passes.Goals as goal

pub returns-in_err-measured_answer : goal.returns-in_err-measured_answer
returns-in_err-measured_answer g c = let kept = refused_kept c.args.parts _ c.pass-measured.ensures c.in_err-measured_answer.ensures in search rules

pub overflow_sub-measured : goal.overflow_sub-measured
overflow_sub-measured g c = at_least _ c.pass-measured.ensures

pub overflow_cast-measured : goal.overflow_cast-measured
overflow_cast-measured g c = omega (arith, at_most _ c.pass-measured.ensures)

pub returns : goal.returns
returns g c = both_passed _ _ c.pass-measured.ensures c.in_ok-measured_answer.ensures c.pass.ensures
