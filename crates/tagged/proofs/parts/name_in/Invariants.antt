use mathlib.Core.Path.{◌≡◌}
use Prim.Native.Nat.{◌-◌, ◌≤◌}
use lib.ListN.{drop}
use Rattle.tagged.specs.Walk.{fields_left}
use Rattle.tagged.specs.Declarations.{declarations_at}
use Rattle.tagged.proofs.DeclarationWalks.{declared}
use Rattle.tagged.proofs.parts.name_in.Given as goal

abbrev pub invariant-loop-field : goal.invariant-loop-field
invariant-loop-field l = record {
  ahead : drop l.number (declarations_at l.base l.list) ≡ drop l.left (declared (fields_left l.field-iterator));
  after : l.base ≤ l.field-iterator.place;
  rest : drop (l.field-iterator.place - l.base) l.list ≡ l.field-iterator.rest.now;
}
