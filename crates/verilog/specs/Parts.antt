-- The part of a module's file that holds a variable's name, for the listing.
use Rattle.std.specs.Prelude.{List, ℕ, drop}
use Rattle.tagged.specs.Parts.{name_in}
use Rattle.tagged.specs.declared.parts.Part.{Part}

-- the part of a name by its variable's number, in a file
unfoldable pub name_part : ℕ → List ℕ → Part
name_part number file = name_in 3 number (drop 3 file)
