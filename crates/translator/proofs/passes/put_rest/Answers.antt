-- `translator::passes::put_rest` meets its contract: the cells and then the drives are written, and the index stays within bounds. Assumes nothing.
use native.Mathlib.Omega.{arith}
use Rattle.translator.proofs.PassSteps.{cells_reach, rest_passed}
use Rattle.translator.proofs.passes.put_rest.Goals as goal

pub drives-requires : goal.drives-requires
drives-requires c =
    let begun = c.requires.begun in
    (c.args.parts.few_marks, omega (arith, cells_reach c.args.parts c.start_table.ensures begun.0 c.processes.ensures, begun.1))

pub returns-clause-passed : goal.returns-clause-passed
returns-clause-passed c = rest_passed c.args.parts c.start_table.ensures c.requires.begun.0 c.processes.ensures c.drives.ensures
