use mathlib.Core.Path.{◌≡◌}
use Prim.Native.Nat.{◌-◌, ◌≤◌}
use lib.ListN.{drop}
use Rattle.tagged.specs.Walk.{fields_left}
use Rattle.netlist.specs.Reading.{cells_at}
use Rattle.netlist.proofs.Listed.{celled}
use Rattle.netlist.proofs.parts.part_in.Given as goal

abbrev pub invariant-loop-field : goal.invariant-loop-field
invariant-loop-field l = record {
  ahead : drop l.number (cells_at l.base l.list) ≡ drop l.left (celled (fields_left l.field-iterator));
  after : l.base ≤ l.field-iterator.place;
  rest : drop (l.field-iterator.place - l.base) l.list ≡ l.field-iterator.rest.now;
}
