-- The widths of variables as the table has them, in the form in which code asks it. By induction on the table.
use mathlib.Core.Path.{◌≡◌, refl, ap}
use mathlib.Core.List.{List, [], ◌∷◌, map}
use Prim.Native.Nat.{ℕ}
use lib.ListN.{get_or}
use Rattle.tagged.specs.Declarations.{width_of, variable_width}
use Rattle.verilog_check.specs.Tables.{variables_of}

-- the width of the variable that a payload's first byte names, from a table of widths
widths_listed : (widths : List ℕ) → map width_of (variables_of widths) ≡ widths
widths_listed [] = refl
widths_listed (w ∷ l) = ap (λ (x : List ℕ). w ∷ x) (widths_listed l)

pub width_read : (widths l : List ℕ) (v w : ℕ) → v ≡ get_or l 0 0 → w ≡ get_or widths v 0 → w ≡ variable_width (variables_of widths) (get_or l 0 0)
width_read widths l v w named told = rw (widths_listed widths, ← named) told
