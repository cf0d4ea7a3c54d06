use mathlib.Core.Path.{◌≡◌}
use mathlib.Core.List.{List}
use lib.ListN.{take}
use Rattle.tagged.specs.Declarations.{Declaration}
use Rattle.netlist.specs.declared.Cell.{Cell}
use Rattle.netlist.specs.Lists.{present, operands_in}
use Rattle.netlist.specs.WalkAnswers.{operands_answer, Knows}
use Rattle.netlist.proofs.rules.Known.operands_answer.Given as goal

abbrev pub invariant-loop-slot : goal.invariant-loop-slot
invariant-loop-slot l = (ds : List Declaration) (cs : List Cell) → Knows ds cs l.self → l.answer ≡ operands_answer ds cs (operands_in (present (take l.slot-index l.slot-items))) l.place
