-- The cells and the drives of a list as a walk over its fields meets them, and how many bytes the cells take, by the fields that are passed.
use Rattle.std.specs.Prelude.{Ok, Err}
use mathlib.Core.Path.{◌≡◌, refl, ap, ap₂, ◌∙◌}
use mathlib.Core.Bool.{Bool, true, false, cond}
use mathlib.Core.List.{List, [], ◌∷◌}
use Prim.Native.Nat.{ℕ, ◌+◌}
use native.Mathlib.Omega.{arith}
use lib.ListN.{length, drop, length-take, length-drop}
use Rattle.tagged.specs.Choice.{choose}
use Rattle.tagged.specs.Sorts.{tag_of, is_cell, is_sort}
use Rattle.tagged.specs.Fields.{Opened, open_of, Placed, Field, fields_at, unplaced}
use Rattle.tagged.specs.declared.sorts.CellSort.{CellSort}
use Rattle.tagged.specs.declared.sorts.Sort.{Sort}
use Rattle.tagged.specs.declared.walk.Fields.{Fields}
use Rattle.tagged.specs.Walk.{fields_left}
use Rattle.tagged.proofs.FieldLaws.{open_whole}
use Rattle.tagged.proofs.FieldLists.{reading, read_fields, fields_none, fields_more}
use Rattle.tagged.proofs.ListLaws.{read_anywhere}
use Rattle.tagged.proofs.ListBytes.{Run, stop, more, many_run}
use Rattle.netlist.specs.declared.Cell.{Cell}
use Rattle.netlist.specs.declared.Drive.{Drive}
use Rattle.netlist.specs.Form.{cell_body, cells_step}
use Rattle.netlist.specs.Reading.{cell_in, cell_read, drive_in, drive_read, cells_at, drives_at}

-- the cells of the fields at the front, and the drives
abbrev pub celled : List (Placed Field) → List (Placed Cell)
celled = reading is_cell cell_read

abbrev pub driving : List (Placed Field) → List (Placed Drive)
driving = reading (is_sort Sort.Drive) drive_read

pub cells_fields : (base : ℕ) (l : List ℕ) → cells_at base l ≡ celled (fields_at base l)
unfolding cells_at
cells_fields base l = read_fields is_cell cell_read base l

pub drives_fields : (base : ℕ) (l : List ℕ) → drives_at base l ≡ driving (fields_at base l)
unfolding drives_at
drives_fields base l = read_fields (is_sort Sort.Drive) drive_read base l

-- what is left when a walk begins
pub left_start : (base : ℕ) (l : List ℕ) {s t : Fields} → t ≡ s → s.rest.now ≡ l → s.place ≡ base → fields_left t ≡ fields_at base l
left_start base l e rest place = ap fields_left e ∙ ap₂ fields_at place rest

-- which are read does not depend on where they stand
pub cells_in : (base : ℕ) (l : List ℕ) → unplaced (cells_at 0 l) ≡ unplaced (celled (fields_at base l))
unfolding cells_at
cells_in base l = read_anywhere is_cell cell_read 0 0 base l ∙ ap unplaced (read_fields is_cell cell_read base l)

pub drives_in : (base : ℕ) (l : List ℕ) → unplaced (drives_at 0 l) ≡ unplaced (driving (fields_at base l))
unfolding drives_at
drives_in base l = read_anywhere (is_sort Sort.Drive) drive_read 0 0 base l ∙ ap unplaced (read_fields (is_sort Sort.Drive) drive_read base l)

-- how many bytes the cells at the front take
abbrev pub celled_size : List (Placed Field) → ℕ
celled_size [] = 0
celled_size (x ∷ l) = cond (is_cell x.what.sort) (3 + length x.what.payload + celled_size l) 0

-- so many bytes were passed where the cells are passed
run_size : {at m : ℕ} {l : List ℕ} → Run is_cell cell_body at l m → (base : ℕ) → celled_size (fields_at base l) ≡ m
run_size {l = l} (stop off) base = go (open_of 0 0 l) refl
  where
    go : (o : Opened) → open_of 0 0 l ≡ o → celled_size (fields_at base l) ≡ 0
    go (Ok (s, n)) p = let w = open_whole 0 0 l p in rw (fields_more base l w, off s n w)
    go (Err x) p = rw (fields_none base l x p)
run_size {l = l} (more {m = j} p is tail) base =
    let later = run_size tail (base + j) in
    rw (fields_more base l p.whole, is, ← p.bytes) (omega (arith, later, length-take p.size (drop 3 l), length-drop 3 l, p.bytes, p.whole.within))

pub cells_sized : (base : ℕ) (l : List ℕ) (m : ℕ) → cells_step 0 0 l ≡ Ok m → celled_size (fields_at base l) ≡ m
unfolding cells_step
cells_sized base l m e = run_size (many_run is_cell cell_body (length l) 0 0 l m (omega arith) e) base

-- where no cell is left, no byte of one is
pub size_none : (all : List (Placed Field)) → celled all ≡ [] → celled_size all ≡ 0
size_none [] e = refl
size_none (x ∷ l) e = go (is_cell x.what.sort) e
  where
    go : (t : Bool) → choose t (λ _. record { place = x.place; what = cell_read x.what.sort x.what.payload } ∷ celled l) (λ _. []) ≡ []
        → cond t (3 + length x.what.payload + celled_size l) 0 ≡ 0
    go true e = absurd cc
    go false e = refl

-- at a field: a cell, or a drive, is the first of them, a cell's bytes are counted, and any other field ends them
module _ {all after : List (Placed Field)} {x : Placed Field} (first : all ≡ x ∷ after) where
  pub cell_here : (c : CellSort) → x.what.sort ≡ Sort.Cell c → celled all ≡ record { place = x.place; what = cell_in c x.what.payload } ∷ celled after
  unfolding cell_read
  cell_here c e = rw (first, e)

  pub cells_end : is_cell x.what.sort ≡ false → celled all ≡ []
  cells_end e = rw (first, e)

  pub size_here : (c : CellSort) → x.what.sort ≡ Sort.Cell c → celled_size all ≡ 3 + length x.what.payload + celled_size after
  size_here c e = rw (first, e)

  pub drive_here : x.what.sort ≡ Sort.Drive → driving all ≡ record { place = x.place; what = drive_in x.what.payload } ∷ driving after
  unfolding drive_read tag_of
  drive_here e = rw (first, e)

  pub drives_end : is_sort Sort.Drive x.what.sort ≡ false → driving all ≡ []
  drives_end e = rw (first, e)

pub cells_none : {all : List (Placed Field)} → all ≡ [] → celled all ≡ []
cells_none e = rw e

pub drives_none : {all : List (Placed Field)} → all ≡ [] → driving all ≡ []
drives_none e = rw e
