use mathlib.Core.Path.{◌≡◌}
use lib.ListN.{take}
use Rattle.tagged.specs.Fields.{unplaced}
use Rattle.tagged.specs.Walk.{fields_left}
use Rattle.tagged.specs.Declarations.{declarations_in, name_taken}
use Rattle.tagged.proofs.DeclarationWalks.{declared}
use Rattle.tagged.proofs.declarations.name_taken.Given as goal

abbrev pub invariant-loop-field : goal.invariant-loop-field
invariant-loop-field l =
    name_taken l.name (take l.count (declarations_in l.list)) ≡ name_taken l.name (take l.left (unplaced (declared (fields_left l.field-iterator))))
