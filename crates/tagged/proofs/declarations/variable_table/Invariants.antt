use mathlib.Core.Path.{◌≡◌}
use Prim.Native.Nat.{◌+◌, ◌≤◌, ◌^◌}
use lib.ListN.{length}
use Rattle.tagged.specs.Fields.{unplaced}
use Rattle.tagged.specs.Walk.{fields_left}
use Rattle.tagged.specs.Declarations.{declarations_in, variable_table}
use Rattle.tagged.proofs.DeclarationWalks.{declared}
use Rattle.tagged.proofs.TableLaws.{extend}
use Rattle.tagged.proofs.declarations.variable_table.Given as goal

abbrev pub invariant-loop-field : goal.invariant-loop-field
invariant-loop-field l = record {
  filled : extend l.table (unplaced (declared (fields_left l.field-iterator))) ≡ variable_table (declarations_in l.list);
  small : l.table.count + length l.field-iterator.rest.now ≤ 2 ^ 40;
}
