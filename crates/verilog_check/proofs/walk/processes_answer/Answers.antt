-- `processes_answer` meets its contract: a list has no more processes than bytes, so that their count fits. Assumes nothing.
use Rattle.std.proofs.Common.{ap, inl, arith, length}
use Rattle.verilog_check.proofs.FewFields.{fields_few}
use Rattle.verilog_check.proofs.walk.processes_answer.Goals as goal

pub loop-process-init-derived : goal.loop-process-init-derived
loop-process-init-derived c =
    let fields = c.fields_of.result in
    let numbered = c.enumerate-process-items.ensures in
    rw (c.into_iter-process-iterator.ensures.into_iter_gives, numbered.count, numbered.source)
    ((tt, tt, inl (omega (arith, fields_few fields.place fields.rest.now, ap length c.fields_of.ensures.rest))), tt)
