use mathlib.Core.Path.{◌≡◌}
use Prim.Native.Nat.{◌-◌, ◌≤◌}
use lib.ListN.{length, drop}
use Rattle.verilog_check.specs.Survey.{survey_from}
use Rattle.verilog_check.proofs.survey.survey.Given as goal

abbrev pub invariant-loop-sort : goal.invariant-loop-sort
invariant-loop-sort l = (l.at ≤ length l.list) × (l.begun ≤ l.at) × (length l.firsts ≡ length l.initial.firsts) × (survey_from 0 l.begun (drop l.at l.list) l.firsts ≡ survey_from 0 0 l.list l.initial.firsts)

abbrev pub decreases-loop-sort : goal.decreases-loop-sort
decreases-loop-sort l = length l.list - l.at
