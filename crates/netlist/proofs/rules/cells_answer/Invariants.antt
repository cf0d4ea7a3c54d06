use mathlib.Core.Path.{◌≡◌}
use mathlib.Core.List.{List, []}
use Prim.Native.Nat.{◌+◌}
use lib.ListN.{length, take}
use Rattle.tagged.specs.Declarations.{Declaration}
use Rattle.tagged.specs.Fields.{fields_at, unplaced}
use Rattle.tagged.specs.Walk.{fields_left}
use Rattle.netlist.specs.Lists.{cell_width}
use Rattle.netlist.specs.Reading.{cells_at}
use Rattle.netlist.specs.Rules.{cell_breaks}
use Rattle.netlist.specs.WalkAnswers.{list_answer, Knows, most_listed}
use Rattle.netlist.proofs.Listed.{celled, celled_size}
use Rattle.netlist.proofs.RuleAnswers.{Walking}
use Rattle.netlist.proofs.RuleWalks.{Walked, Tabled}
use Rattle.netlist.proofs.rules.cells_answer.Given as goal

abbrev pub invariant-loop-field : goal.invariant-loop-field
invariant-loop-field l = record {
  walked : Walked (unplaced (cells_at 0 l.list)) l.count (celled (fields_left l.field-iterator));
  tabled : Tabled cell_width most_listed (unplaced (cells_at 0 l.list)) l.count l.widths;
  ending : l.end + celled_size (fields_left l.field-iterator) ≡ celled_size (fields_at l.base l.list);
  within : l.end + length l.field-iterator.rest.now ≡ length l.list;
  going : (ds : List Declaration) → Knows ds [] l.declared
      → Walking (λ rule. cell_breaks rule ds) (list_answer (λ rule. cell_breaks rule ds) [] (cells_at l.base l.list)) l.answer
      (take l.count (unplaced (cells_at 0 l.list))) (celled (fields_left l.field-iterator));
}
