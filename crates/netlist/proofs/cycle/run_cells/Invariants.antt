use mathlib.Core.Path.{◌≡◌}
use Prim.Native.Nat.{◌+◌, ◌≤◌, ◌^◌}
use lib.ListN.{length}
use Rattle.tagged.specs.Fields.{fields_at, unplaced}
use Rattle.tagged.specs.Walk.{fields_left}
use Rattle.netlist.specs.Reading.{cells_at}
use Rattle.netlist.specs.Numbers.{cell_numbers}
use Rattle.netlist.proofs.Listed.{celled, celled_size}
use Rattle.netlist.proofs.cycle.run_cells.Given as goal

abbrev pub invariant-loop-field : goal.invariant-loop-field
invariant-loop-field l = record {
  going : cell_numbers l.row l.values l.count (unplaced (celled (fields_left l.field-iterator)))
      ≡ cell_numbers l.row l.initial.values 0 (unplaced (cells_at 0 l.list));
  ending : l.end + celled_size (fields_left l.field-iterator) ≡ celled_size (fields_at 0 l.list);
  within : l.end + length l.field-iterator.rest.now ≡ length l.list;
  small : l.count + length l.field-iterator.rest.now ≤ 2 ^ 40;
}
