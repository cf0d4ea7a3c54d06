-- What the loop keeps: what is refused so far, with what the processes that are left are, is what all are. Assumes nothing.
use mathlib.Core.Path.{◌≡◌}
use mathlib.Core.List.{List}
use Prim.Native.Nat.{ℕ, ◌≤◌, ◌+◌, ◌^◌}
use lib.ListN.{length}
use Rattle.tagged.specs.Fields.{Placed, Field, fields_at}
use Rattle.tagged.specs.Walk.{fields_left}
use Rattle.tagged.specs.Refusals.{lower_refusal}
use Rattle.tagged.specs.Answers.{Answer}
use Rattle.verilog.specs.Rules.{expression_width}
use Rattle.verilog_check.specs.Tables.{variables_of}
use Rattle.verilog_check.specs.Judged.{field_answer}
use Rattle.verilog_check.specs.Walk.{walk_processes}
use Rattle.verilog_check.proofs.walk.processes_answer.Given as goal

abbrev pub invariant-loop-process : goal.invariant-loop-process
invariant-loop-process l =
    let walk : ℕ → List (Placed Field) → Answer = walk_processes (field_answer l.widths l.marks l.firsts) (expression_width (variables_of l.widths)) in
    (l.process-iterator.count + length l.process-iterator.iter.rest.now ≤ 2 ^ 40)
    × (lower_refusal l.best (walk l.process-iterator.count (fields_left l.process-iterator.iter)) ≡ walk 0 (fields_at l.base l.list))
