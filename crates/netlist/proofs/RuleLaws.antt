-- Laws of the code that looks for refusals 3 to 8 and 12: a match that found another cell and how many cells a file has.
use mathlib.Core.Path.{◌≡◌, refl, sym, ap, ◌∙◌}
use mathlib.Core.Bool.{false}
use mathlib.Core.List.{List, [], ◌∷◌, ◌++◌, map}
use Prim.Native.Nat.{ℕ, suc, ◌+◌, ◌*◌, ◌≤◌}
use native.Mathlib.Omega.{arith}
use lib.ListN.{length, length-map, length-append}
use Rattle.tagged.specs.Bytes.{two_bytes}
use Rattle.tagged.specs.Fields.{field_bytes, all_bytes_of}
use Rattle.tagged.specs.Declarations.{declaration_bytes}
use Rattle.netlist.specs.declared.Operand.{Operand}
use Rattle.netlist.specs.declared.Cell.{Cell}
use Rattle.netlist.specs.Lists.{Netlist}
use Rattle.netlist.specs.Form.{operand_bytes, cell_bytes, drive_bytes, netlist_payload}
use Rattle.netlist.specs.Rules.{cell_outside}
use Rattle.netlist.specs.WalkAnswers.{most_listed}
use Rattle.netlist.proofs.CellBytes.{operand_length}

-- the cells without a bit number or an index
pub no_bit : (c : Cell) → ((w : ℕ) (v : Operand) (n : ℕ) (b : Operand) → c ≡ Cell.Put w v n b → ⊥) →
    ((w : ℕ) (v : Operand) (n : ℕ) → c ≡ Cell.FixedBit w v n → ⊥) → ((w : ℕ) (v i : Operand) → c ≡ Cell.ChosenBit w v i → ⊥) → false ≡ cell_outside c
unfolding cell_outside
no_bit (Cell.One op w a) put fixed chosen = refl
no_bit (Cell.Two op w a b) put fixed chosen = refl
no_bit (Cell.Mux w c a b) put fixed chosen = refl
no_bit (Cell.Put w v n b) put fixed chosen = absurd (put w v n b refl)
no_bit (Cell.FixedBit w v n) put fixed chosen = absurd (fixed w v n refl)
no_bit (Cell.ChosenBit w v i) put fixed chosen = absurd (chosen w v i refl)

-- as many as there are in their list
pub counted : {A B : Type 0} (f : A → B) (items : List A) {l : List B} → map f items ≡ l → length items ≡ length l
counted f items e = sym (length-map items f) ∙ ap length e

-- a cell takes at least ten bytes
cell_bytes_least : (c : Cell) → 10 ≤ length (cell_bytes c)
unfolding cell_bytes field_bytes two_bytes all_bytes_of
cell_bytes_least (Cell.One op w a) = omega (arith, length-append (operand_bytes a) [], operand_length a)
cell_bytes_least (Cell.Two op w a b) = omega (arith, length-append (operand_bytes a) (operand_bytes b ++ []), operand_length a)
cell_bytes_least (Cell.Mux w c a b) = omega (arith, length-append (operand_bytes c) (operand_bytes a ++ (operand_bytes b ++ [])), operand_length c)
cell_bytes_least (Cell.Put w v k b) = omega (arith, length-append (operand_bytes v) (k ∷ (operand_bytes b ++ [])), operand_length v)
cell_bytes_least (Cell.FixedBit w v k) = omega (arith, length-append (operand_bytes v) (k ∷ []), operand_length v)
cell_bytes_least (Cell.ChosenBit w v i) = omega (arith, length-append (operand_bytes v) (operand_bytes i ++ []), operand_length v)

cells_bytes_least : (cs : List Cell) → length cs * 10 ≤ length (all_bytes_of cell_bytes cs)
unfolding all_bytes_of
cells_bytes_least [] = omega arith
cells_bytes_least (c ∷ cs) =
    let first = cell_bytes_least c in
    let later = cells_bytes_least cs in
    let both : length (cell_bytes c ++ all_bytes_of cell_bytes cs) ≡ length (cell_bytes c) + length (all_bytes_of cell_bytes cs) = length-append (cell_bytes c)
    (all_bytes_of cell_bytes cs) in
    let product : suc (length cs) * 10 ≡ 10 + length cs * 10 = omega arith in
    omega arith

-- so a payload of a file has no more cells than the table has room for
pub few_cells : (n : Netlist) → length (netlist_payload n) ≤ 32765 → length n.cells ≤ most_listed
unfolding netlist_payload
few_cells n h =
    let declared = all_bytes_of declaration_bytes n.declarations in
    let celled = all_bytes_of cell_bytes n.cells in
    let driven = all_bytes_of drive_bytes n.drives in
    omega (arith, cells_bytes_least n.cells, length-append (declared ++ celled) driven, length-append declared celled)
