use mathlib.Core.List.{List, []}
use Prim.Native.Nat.{◌+◌, ◌≤◌, ◌^◌}
use lib.ListN.{length, take}
use Rattle.tagged.specs.Declarations.{Declaration}
use Rattle.tagged.specs.Fields.{unplaced}
use Rattle.tagged.specs.Walk.{fields_left}
use Rattle.netlist.specs.declared.Cell.{Cell}
use Rattle.netlist.specs.Reading.{drives_at}
use Rattle.netlist.specs.Rules.{drive_breaks}
use Rattle.netlist.specs.WalkAnswers.{list_answer, Knows}
use Rattle.netlist.proofs.Listed.{driving}
use Rattle.netlist.proofs.RuleAnswers.{Walking}
use Rattle.netlist.proofs.RuleWalks.{Walked}
use Rattle.netlist.proofs.rules.drives_answer.Given as goal

abbrev pub invariant-loop-field : goal.invariant-loop-field
invariant-loop-field l = record {
  walked : Walked (unplaced (drives_at 0 l.list)) l.count (driving (fields_left l.field-iterator));
  small : l.count + length l.field-iterator.rest.now ≤ 2 ^ 40;
  going : (ds : List Declaration) (cs : List Cell) → Knows ds cs l.known
      → Walking (λ rule. drive_breaks rule ds cs) (list_answer (λ rule. drive_breaks rule ds cs) [] (drives_at l.base l.list)) l.answer
      (take l.count (unplaced (drives_at 0 l.list))) (driving (fields_left l.field-iterator));
}
