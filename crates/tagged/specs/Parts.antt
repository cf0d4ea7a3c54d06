-- The part of a list of declarations that holds a variable's name, for the listing.
use Rattle.std.specs.Prelude.{List, [], ◌∷◌, ℕ, ◌+◌, ◌-◌, length, drop}
use Rattle.tagged.specs.Fields.{Placed, size_of}
use Rattle.tagged.specs.Declarations.{Declaration, name_of, declarations_at}
use Rattle.tagged.specs.declared.parts.Part.{Part}

-- the name of the first of these declarations, in the bytes that start at `base`: it ends where its field does; without a declaration, nothing at their end
unfoldable pub first_name : ℕ → List ℕ → List (Placed Declaration) → Part
first_name base l [] = record { start = base + length l; end = base + length l }
first_name base l (x ∷ declarations) =
    let end : ℕ = x.place + 3 + size_of (drop (x.place - base) l) in
    record { start = end - length (name_of x.what); end = end }

-- the name of a variable by its number
unfoldable pub name_in : ℕ → ℕ → List ℕ → Part
name_in base number l = first_name base l (drop number (declarations_at base l))
