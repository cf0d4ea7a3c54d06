use mathlib.Core.Path.{◌≡◌}
use mathlib.Core.List.{[]}
use Prim.Native.Nat.{◌+◌, ◌≤◌, ◌^◌}
use lib.ListN.{length, take}
use Rattle.tagged.specs.Walk.{fields_left}
use Rattle.tagged.specs.Refusals.{first_broken}
use Rattle.tagged.specs.Declarations.{declarations_at, declarations_in, declaration_breaks}
use Rattle.tagged.proofs.DeclarationWalks.{declared, Walked}
use Rattle.tagged.proofs.declarations.declaration_broken.Given as goal

abbrev pub invariant-loop-field : goal.invariant-loop-field
invariant-loop-field l = record {
  going : first_broken (declaration_breaks l.rule) [] (declarations_at l.base l.list)
      ≡ first_broken (declaration_breaks l.rule) (take l.count (declarations_in l.list)) (declared (fields_left l.field-iterator));
  walked : Walked (declarations_in l.list) l.count (declared (fields_left l.field-iterator));
  small : l.count + length l.field-iterator.rest.now ≤ 2 ^ 40;
}
