-- The part of a file that holds a cell, from its tag to the byte past its payload, for the listing.
use Rattle.std.specs.Prelude.{List, [], ◌∷◌, ℕ, ◌+◌, ◌-◌, length, drop}
use Rattle.tagged.specs.Fields.{Placed, size_of, passed_bytes}
use Rattle.tagged.specs.Declarations.{after_declarations, declarations_step}
use Rattle.netlist.specs.declared.Cell.{Cell}
use Rattle.tagged.specs.declared.parts.Part.{Part}
use Rattle.netlist.specs.Reading.{cells_at}

-- the part of the first of these cells, in the bytes that start at `base`; without a cell, nothing at their end
unfoldable pub first_part : ℕ → List ℕ → List (Placed Cell) → Part
first_part base l [] = record { start = base + length l; end = base + length l }
first_part base l (x ∷ cells) = record { start = x.place; end = x.place + 3 + size_of (drop (x.place - base) l) }

-- the part of a cell by its number, in a list of cells
unfoldable pub part_in : ℕ → ℕ → List ℕ → Part
part_in base number l = first_part base l (drop number (cells_at base l))

-- the part of a cell by its number, in a file
unfoldable pub cell_part : ℕ → List ℕ → Part
cell_part number file = part_in (3 + passed_bytes (declarations_step 0 0 (drop 3 file))) number (after_declarations (drop 3 file))
