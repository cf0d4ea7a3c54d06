-- A case by two loops with a log is the case as nested ifs: its changes, put on the entry table, give an item's table back, and what follows an item is the
-- else part. By induction on the fields. Assumes nothing.
use mathlib.Core.Path.{◌≡◌, refl, sym, ap, ◌∙◌}
use mathlib.Core.Bool.{Bool, true, false, cond}
use mathlib.Core.List.{List, [], ◌∷◌, ◌++◌, append_assoc, append-nil}
use Prim.Native.Nat.{ℕ, ◌+◌, ◌*◌, ◌≤◌}
use native.Mathlib.Omega.{arith}
use lib.ListN.{length, set, length-append}
use lib.Seq.{append_snoc, set-append_seam}
use Rattle.tagged.specs.Fields.{Placed, Field, fields_at}
use Rattle.netlist.specs.declared.Operand.{Operand}
use Rattle.netlist.specs.declared.Cell.{Cell}
use Rattle.translate.specs.Tables.{same_operand, merge}
use Rattle.translate.proofs.Merging.{same_operand_lem}
use Rattle.translate_blocks.specs.declared.case_log.Entry.{Entry}
use Rattle.translate_blocks.specs.Writing.{Written, Translator, behind, untouched, join_sides, write_items, write_item}
use Rattle.translate_blocks.specs.Log.{changes, changes_from, changes_of, patched, log_of, Forward, onward, arrived, equal_cell, mark_of, forward_items, merge_mark, backward_items}
use Rattle.translate_blocks.proofs.SortBranches.{branch_related, branch_holds}
use Rattle.translate_blocks.proofs.FieldSizes.{fields_within, fields_size}
use Rattle.translate_blocks.proofs.Bounds.{item_bounded}

-- both loops
abbrev pub closed : List Operand → Forward → ℕ → Written
closed entry f n = behind f.cells (backward_items entry f.marks f.table (n + length f.cells))

abbrev pub items_by_loops : (List ℕ → List Operand → ℕ → Written) → Translator → Operand → List (Placed Field) → List Operand → ℕ → Written
items_by_loops item block selector l table n = closed table (forward_items item block selector l table n) n

-- an entry for each operand that differs

pub changes_counted : (slot : ℕ) (entry table : List Operand) → length (changes_from slot entry table) ≡ changes entry table
unfolding changes_from changes
changes_counted slot [] table = refl
changes_counted slot (x ∷ entry) [] = refl
changes_counted slot (x ∷ entry) (y ∷ table) = go (same_operand x y) (changes_counted (slot + 1) entry table)
  where
    rest : List Entry
    rest = changes_from (slot + 1) entry table

    go : (t : Bool) → length rest ≡ changes entry table → length (cond t rest (record { slot = slot; operand = y } ∷ rest)) ≡ cond t 0 1 + changes entry table
    go true later = omega (arith, later)
    go false later = omega (arith, later)

-- the changes of a table, put on the entry table, are that table; `earlier` stands before both

patched_from : (earlier entry table : List Operand) (slot : ℕ) → slot ≡ length earlier → length table ≡ length entry →
    patched (changes_from slot entry table) (earlier ++ entry) ≡ earlier ++ table
unfolding changes_from patched
patched_from earlier [] [] slot e h = refl
patched_from earlier [] (y ∷ table) slot e h = absurd (omega arith)
patched_from earlier (x ∷ entry) [] slot e h = absurd (omega arith)
patched_from earlier (x ∷ entry) (y ∷ table) slot e h =
    go (same_operand x y) refl (λ o. patched_from (earlier ++ (o ∷ [])) entry table (slot + 1) (rw length-append (omega arith)) (omega arith))
  where
    rest : List Entry
    rest = changes_from (slot + 1) entry table

    go : (t : Bool) → same_operand x y ≡ t → ((o : Operand) → patched rest ((earlier ++ (o ∷ [])) ++ entry) ≡ (earlier ++ (o ∷ [])) ++ table) →
        patched (cond t rest (record { slot = slot; operand = y } ∷ rest)) (earlier ++ x ∷ entry) ≡ earlier ++ y ∷ table
    go true q later = rw (← same_operand_lem x y q) (rw (append_snoc earlier x entry, append_snoc earlier x table) at (later x))
    go false q later =
        let put : set (earlier ++ x ∷ entry) slot y ≡ earlier ++ y ∷ entry = ap (λ (k : ℕ). set (earlier ++ x ∷ entry) k y) e ∙ set-append_seam earlier x entry y in
        ap (patched rest) put ∙ (rw (append_snoc earlier y entry, append_snoc earlier y table) at (later y))

pub patched_changes : (entry table : List Operand) → length table ≡ length entry → patched (changes_of entry table) entry ≡ table
patched_changes entry table h = patched_from [] entry table 0 refl h

-- an item in front of what both loops make of the rest: cells of the forward loop, and then what the backward loop gives

before_rest : (c : Cell) (entry : List Operand) (first : Written) (cells : List Cell) (back : Written) (n : ℕ) → length first.operands ≡ length entry →
    behind (c ∷ []) (join_sides (Operand.Cell 1 n) (n + 1) first (behind cells back)) ≡
    behind (c ∷ first.cells ++ cells)
    (behind back.cells (merge_mark entry (mark_of entry n first) back.operands (n + 1 + length first.cells + length cells + length back.cells)))
before_rest c entry first cells back n kept =
    let merged : Written = merge_mark entry (mark_of entry n first) back.operands (n + 1 + length first.cells + length cells + length back.cells) in
    let number : n + 1 + length first.cells + length (cells ++ back.cells) ≡ n + 1 + length first.cells + length cells + length back.cells =
    omega (arith, length-append cells back.cells) in
    let same : merge (Operand.Cell 1 n) (n + 1 + length first.cells + length (cells ++ back.cells)) first.operands back.operands ≡ merged =
    rw (number, patched_changes entry first.operands kept) in
    let order : (first.cells ++ (cells ++ back.cells)) ++ merged.cells ≡ (first.cells ++ cells) ++ (back.cells ++ merged.cells) =
    ap (λ (l : List Cell). l ++ merged.cells) (sym (append_assoc first.cells cells back.cells))
    ∙ append_assoc (first.cells ++ cells) back.cells merged.cells in
    ap (λ (m : Written). behind (c ∷ first.cells ++ (cells ++ back.cells)) m) same ∙ ap (λ (l : List Cell). record { cells = c ∷ l; operands = merged.operands }) order

before_loops : (c : Cell) (entry : List Operand) (first : Written) (rest : Forward) (n : ℕ) → length first.operands ≡ length entry →
    behind (c ∷ []) (join_sides (Operand.Cell 1 n) (n + 1) first (closed entry rest (n + 1 + length first.cells))) ≡
    closed entry (onward (record { cells = c ∷ first.cells; marks = mark_of entry n first ∷ []; table = entry }) rest) n
unfolding backward_items
before_loops c entry first rest n kept =
    let start : n + 1 + length first.cells + length rest.cells ≡ n + length (c ∷ first.cells ++ rest.cells) =
    omega (arith, length-append first.cells rest.cells) in
    before_rest c entry first rest.cells (backward_items entry rest.marks rest.table (n + 1 + length first.cells + length rest.cells)) n kept
    ∙ ap (λ (k : ℕ). behind (c ∷ first.cells ++ rest.cells) (backward_items entry (mark_of entry n first ∷ rest.marks) rest.table k)) start

-- nothing is left to merge
closed-arrived : (entry : List Operand) (w : Written) (n : ℕ) → w ≡ closed entry (arrived w) n
unfolding backward_items
closed-arrived entry w n = ap (λ (l : List Cell). record { cells = l; operands = w.operands }) (sym (append-nil w.cells))

module _ (item : List ℕ → List Operand → ℕ → Written) (block : Translator) (selector : Operand) where
  pub items_by_loops_lem : ((p : List ℕ) (table : List Operand) (n : ℕ) → length (item p table n).operands ≡ length table) →
      (l : List (Placed Field)) (table : List Operand) (n : ℕ) → write_items item block selector l table n ≡ items_by_loops item block selector l table n
  unfolding write_items forward_items
  items_by_loops_lem kept [] table n = closed-arrived table (untouched table) n
  items_by_loops_lem kept (f ∷ l) table n =
      let p : List ℕ = f.what.payload in
      let first : Written = item p table (n + 1) in
      let later : ℕ = n + 1 + length first.cells in
      let follows : write_items item block selector l table later ≡ items_by_loops item block selector l table later = items_by_loops_lem kept l table later in
      branch_related (λ (w : Written) (g : Forward). w ≡ closed table g n) f.what.sort
      (ap (λ (w : Written). behind (equal_cell selector p ∷ []) (join_sides (Operand.Cell 1 n) (n + 1) first w)) follows
      ∙ before_loops (equal_cell selector p) table first (forward_items item block selector l table later) n (kept p table (n + 1)))
      (closed-arrived table (block f.what.sort p table n) n)
      (closed-arrived table (untouched table) n)

-- a log entry for each item and each of its changes: three bytes of the items' fields at least

module _ (item : List ℕ → List Operand → ℕ → Written) (light : (p : List ℕ) (table : List Operand) (n : ℕ) → 3 * changes table (item p table n).operands ≤ length p) where
  pub mark_small : (p : List ℕ) (table : List Operand) (n : ℕ) → 3 * (length (mark_of table n (item p table (n + 1))).changed + 1) ≤ length p + 3
  mark_small p table n = omega (arith, changes_counted 0 table (item p table (n + 1)).operands, light p table (n + 1))

  pub log_small : (block : Translator) (selector : Operand) (l : List (Placed Field)) (table : List Operand) (n : ℕ) →
      3 * length (log_of (forward_items item block selector l table n).marks) ≤ fields_size l
  unfolding forward_items log_of fields_size
  log_small block selector [] table n = omega arith
  log_small block selector (f ∷ l) table n =
      let p : List ℕ = f.what.payload in
      let first : Written = item p table (n + 1) in
      branch_holds (λ (g : Forward). 3 * length (log_of g.marks) ≤ fields_size (f ∷ l)) f.what.sort
      (simp length-append (omega (arith, mark_small p table n, log_small block selector l table (n + 1 + length first.cells))))
      (omega arith)
      (omega arith)

-- the items of the translation, whatever the bytes

module _ (count d : ℕ) (block : Translator) (selector : Operand) where
  pub case_by_loops : (l : List (Placed Field)) (table : List Operand) (n : ℕ) →
      write_items (write_item count d) block selector l table n ≡ items_by_loops (write_item count d) block selector l table n
  case_by_loops = items_by_loops_lem (write_item count d) block selector (λ p table n. (item_bounded count d p table n).kept)

  pub case_log_lem : (base : ℕ) (l : List ℕ) (table : List Operand) (n : ℕ) → 3 * length (log_of (forward_items (write_item count d) block selector (fields_at base l) table n).marks) ≤ length l
  case_log_lem base l table n =
      omega (arith, log_small (write_item count d) (λ p t k. (item_bounded count d p t k).changed) block selector (fields_at base l) table n, fields_within base l)
