-- One turn of the loops that run the cells and the drives of a list.
use mathlib.Core.Path.{◌≡◌}
use mathlib.Core.List.{List, ◌∷◌}
use Prim.Native.Nat.{ℕ, ◌+◌}
use lib.ListN.{set}
use Rattle.netlist.specs.declared.Cell.{Cell}
use Rattle.netlist.specs.declared.Drive.{Drive}
use Rattle.netlist.specs.Numbers.{read_number, cell_number, cell_numbers, driven_numbers}

-- the numbers of the cells so far, and one more
pub numbers_turn : {whole : List ℕ} (row values : List ℕ) (k : ℕ) (l : List Cell) (c : Cell) (after : List Cell) → l ≡ c ∷ after →
    cell_numbers row values k l ≡ whole → (number : ℕ) → number ≡ cell_number row values c → (values' : List ℕ) → values' ≡ set values k number →
    cell_numbers row values' (k + 1) after ≡ whole
unfolding cell_numbers
numbers_turn row values k l c after m going number e values' f = rw (f, e) (rw m at going)

-- the next row so far, and what one drive more puts into it
pub driven_turn : {whole : List ℕ} (row values next : List ℕ) (l : List Drive) (d : Drive) (after : List Drive) → l ≡ d ∷ after →
    driven_numbers row values next l ≡ whole → (drive : Drive) → drive ≡ d → (number : ℕ) → number ≡ read_number row values drive.operand →
    (next' : List ℕ) → next' ≡ set next drive.variable number → driven_numbers row values next' after ≡ whole
unfolding driven_numbers
driven_turn row values next l d after m going drive s number e next' f = rw (f, e, s) (rw m at going)
