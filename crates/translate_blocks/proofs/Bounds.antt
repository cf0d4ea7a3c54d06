-- How much the translation of a part of a module adds and changes, by the bytes of the part, whatever they are: at most 128 cells a byte for a table of at most
-- 128 operands, a changed entry for every third byte, and the table keeps its length. By induction on the levels that may be opened. Assumes nothing.
use mathlib.Core.Path.{◌≡◌, refl, sym, ◌∙◌}
use mathlib.Core.List.{List, [], ◌∷◌, ◌++◌}
use Prim.Native.Nat.{ℕ, zero, suc, ◌+◌, ◌*◌, ◌≤◌}
use native.Mathlib.Omega.{arith}
use lib.ListN.{length, get_or, drop, length-append, length-drop, length-set}
use Rattle.tagged.specs.Sorts.{on_expression, is_sort}
use Rattle.tagged.specs.Fields.{Placed, Field, fields_at}
use Rattle.tagged.specs.declared.sorts.StatementSort.{StatementSort}
use Rattle.tagged.specs.declared.sorts.ExpressionSort.{ExpressionSort}
use Rattle.tagged.specs.declared.sorts.Sort.{Sort}
use Rattle.netlist.specs.Lists.{operand_width}
use Rattle.netlist.specs.declared.Operand.{Operand}
use Rattle.netlist.specs.declared.Cell.{Cell}
use Rattle.verilog.specs.Tree.{Expression}
use Rattle.verilog.specs.Reading.{no_expression, after_front, expression_with, expression_in}
use Rattle.translate.specs.Translation.{Emitted, translate_expression}
use Rattle.translate.specs.Tables.{operand_at, merge}
use Rattle.translate_blocks.specs.Writing.{slot_of, current_operands, Written, expression_at, Translator, behind, untouched, write_all, write_assign, write_assign_bit, join_sides, write_items, write_front, write_if, write_case, write_by, write_statement, write_block, write_item, write_process, write_processes}
use Rattle.translate_blocks.specs.Log.{changes, equal_cell}
use Rattle.translate_blocks.proofs.SortBranches.{test_holds, branch_holds, statement_holds, expression_holds}
use Rattle.translate_blocks.proofs.ChangeCounts.{changes_none, changes-set, changes_twice, merged_length, merged_few, merged_changes}
use Rattle.translate_blocks.proofs.FieldSizes.{front_size, front_within, front_sized, fields_within, fields_size}

-- an expression adds a cell for every third byte of its field at most

module _ (table : List Operand) where
  abbrev FewCells : ℕ → Expression → Type 0
  FewCells bytes e = (n : ℕ) → 3 * length (translate_expression table n e).cells ≤ bytes

  expression_few : (inner : List ℕ → Expression) → ((l : List ℕ) → FewCells (front_size l) (inner l)) → (e : ExpressionSort) (p : List ℕ) →
      FewCells (length p + 3) (expression_with inner e p)
  unfolding translate_expression
  expression_few inner few ExpressionSort.Constant p n = omega arith
  expression_few inner few ExpressionSort.Variable p n = omega arith
  expression_few inner few ExpressionSort.FixedBit p n = omega arith
  expression_few inner few ExpressionSort.ChosenBit p n =
      rw length-append (omega (arith, few (drop 1 p) n, front_within (drop 1 p), length-drop 1 p))
  expression_few inner few (ExpressionSort.One op) p n = rw length-append (omega (arith, few p n, front_within p))
  expression_few inner few (ExpressionSort.Two op) p n =
      let x : Emitted = translate_expression table n (inner p) in
      let later : ℕ = n + length x.cells in
      simp length-append (omega (arith, few p n, few (after_front p) later, front_within p, front_within (after_front p)))

  none_few : (bytes : ℕ) → FewCells bytes no_expression
  unfolding translate_expression
  none_few bytes n = omega arith

  pub expression_cells : (d : ℕ) (l : List ℕ) (n : ℕ) → 3 * length (translate_expression table n (expression_in d l)).cells ≤ front_size l
  unfolding expression_in
  expression_cells zero l n = none_few (front_size l) n
  expression_cells (suc d) l n =
      front_sized FewCells (λ s p. on_expression s (λ e. expression_with (expression_in d) e p) no_expression) no_expression l
      (λ s p. expression_holds (FewCells (length p + 3)) s (λ e. expression_few (expression_in d) (expression_cells d) e p) (none_few (length p + 3)))
      (none_few 0) n

  pub expression_small : (d : ℕ) (l : List ℕ) (n : ℕ) → 3 * length (translate_expression table n (expression_in d l)).cells ≤ length l
  expression_small d l n = omega (arith, expression_cells d l n, front_within l)

-- what a part of so many bytes may add and change
pub record Bounded (bytes : ℕ) (table : List Operand) (w : Written) : Type 0 where
  pub kept : length w.operands ≡ length table
  pub cells : length table ≤ 128 → length w.cells ≤ 128 * bytes
  pub changed : 3 * changes table w.operands ≤ bytes

-- parts together

pub more_bytes : {a b : ℕ} {table : List Operand} {w : Written} → a ≤ b → Bounded a table w → Bounded b table w
more_bytes h w = record { kept = w.kept; cells = λ few. omega (arith, h, w.cells few); changed = omega (arith, h, w.changed) }

added : (bytes : ℕ) (cells : List Cell) (table : List Operand) → length cells ≤ 128 * bytes → Bounded bytes table (record { cells = cells; operands = table })
added bytes cells table h = record { kept = refl; cells = λ few. h; changed = omega (arith, changes_none table) }

nothing : (bytes : ℕ) (table : List Operand) → Bounded bytes table (untouched table)
nothing bytes table = added bytes [] table (omega arith)

then_more : {a b : ℕ} {table : List Operand} {w v : Written} → Bounded a table w → Bounded b w.operands v → Bounded (a + b) table (behind w.cells v)
then_more {table = table} {w} {v} p q =
    record {
      kept = q.kept ∙ p.kept;
      cells = λ few. omega (arith, length-append w.cells v.cells, p.cells few, q.cells (omega (arith, p.kept, few)));
      changed = omega (arith, changes_twice table w.operands v.operands p.kept, p.changed, q.changed);
    }

-- the merge's muxes count as one byte more
joined : {a b : ℕ} {table : List Operand} {w v : Written} (condition : Operand) (n : ℕ) → Bounded a table w → Bounded b table v →
    Bounded (a + b + 1) table (join_sides condition n w v)
joined {table = table} {w} {v} condition n p q =
    let later : ℕ = n + length w.cells + length v.cells in
    let both : length v.operands ≡ length w.operands = q.kept ∙ sym p.kept in
    let muxes : List Cell = (merge condition later w.operands v.operands).cells in
    record {
      kept = merged_length condition later w.operands v.operands both ∙ p.kept;
      cells = λ few. omega (
        arith,
        length-append (w.cells ++ v.cells) muxes,
        length-append w.cells v.cells,
        p.cells few,
        q.cells few,
        few,
        p.kept,
        merged_few condition later w.operands v.operands,
      );
      changed = omega (arith, merged_changes condition later table w.operands v.operands p.kept q.kept, p.changed, q.changed);
    }

-- lists of fields

pub all_bounded : (one : Translator) → ((s : Sort) (p : List ℕ) (table : List Operand) (n : ℕ) → Bounded (length p + 3) table (one s p table n)) →
    (l : List (Placed Field)) (table : List Operand) (n : ℕ) → Bounded (fields_size l) table (write_all one l table n)
unfolding write_all fields_size
all_bounded one each [] table n = nothing 0 table
all_bounded one each (f ∷ l) table n =
    let first : Written = one f.what.sort f.what.payload table n in
    then_more (each f.what.sort f.what.payload table n) (all_bounded one each l first.operands (n + length first.cells))

pub items_bounded : (item : List ℕ → List Operand → ℕ → Written) (block : Translator) → ((p : List ℕ) (table : List Operand) (n : ℕ) → Bounded (length p) table (item p table n)) →
    ((s : Sort) (p : List ℕ) (table : List Operand) (n : ℕ) → Bounded (length p) table (block s p table n)) →
    (selector : Operand) (l : List (Placed Field)) (table : List Operand) (n : ℕ) → Bounded (fields_size l) table (write_items item block selector l table n)
unfolding write_items fields_size
items_bounded item block item-holds block-holds selector [] table n = nothing 0 table
items_bounded item block item-holds block-holds selector (f ∷ l) table n =
    let p : List ℕ = f.what.payload in
    let first : Written = item p table (n + 1) in
    let later : ℕ = n + 1 + length first.cells in
    let equal : Bounded 1 table (record { cells = equal_cell selector p ∷ []; operands = table }) = added 1 (equal_cell selector p ∷ []) table (omega arith) in
    branch_holds (λ (w : Written). Bounded (length p + 3 + fields_size l) table w) f.what.sort
    (more_bytes (omega arith)
    (then_more equal
    (joined (Operand.Cell 1 n) (n + 1) (item-holds p table (n + 1)) (items_bounded item block item-holds block-holds selector l table later))))
    (more_bytes (omega arith) (block-holds f.what.sort p table n))
    (nothing (length p + 3 + fields_size l) table)

-- the block at the front
pub front_bounded : (block : Translator) → ((s : Sort) (p : List ℕ) (table : List Operand) (n : ℕ) → Bounded (length p) table (block s p table n)) →
    (l : List ℕ) (table : List Operand) (n : ℕ) → Bounded (front_size l) table (write_front block l table n)
front_bounded block holds l table n =
    front_sized (λ (k : ℕ) (w : Written). Bounded k table w) (λ s p. block s p table n) (untouched table) l
    (λ s p. more_bytes (omega arith) (holds s p table n)) (nothing 0 table)

-- statements, by the blocks and items in them

module _ (count d : ℕ) (block : Translator) (item : List ℕ → List Operand → ℕ → Written)
    (block-holds : (s : Sort) (p : List ℕ) (table : List Operand) (n : ℕ) → Bounded (length p) table (block s p table n))
    (item-holds : (p : List ℕ) (table : List Operand) (n : ℕ) → Bounded (length p) table (item p table n)) where
  -- an expression in front of the rest
  with_expression : (l : List ℕ) (table : List Operand) (n : ℕ) → Bounded (front_size l) table (record { cells = (expression_at count table n d l).cells; operands = table })
  with_expression l table n =
      added (front_size l) (expression_at count table n d l).cells table (omega (arith, expression_cells (current_operands count table) d l n))

  by_bounded : (t : StatementSort) (l : List ℕ) (table : List Operand) (n : ℕ) → Bounded (length l + 3) table (write_by count d block item t l table n)
  unfolding write_assign write_assign_bit write_if write_case
  by_bounded (StatementSort.Assign kind) l table n =
      let slot : ℕ = slot_of count kind (get_or l 0 0) in
      let x : Emitted = expression_at count table n d (drop 1 l) in
      record {
        kept = length-set table slot x.operand;
        cells = λ few. omega (arith, expression_small (current_operands count table) d (drop 1 l) n, length-drop 1 l);
        changed = omega (arith, changes-set table slot x.operand);
      }
  by_bounded (StatementSort.AssignBit kind) l table n =
      let slot : ℕ = slot_of count kind (get_or l 0 0) in
      let x : Emitted = expression_at count table n d (drop 2 l) in
      let old : Operand = operand_at table slot in
      let own : Operand = Operand.Cell (operand_width old) (n + length x.cells) in
      let put : Cell = Cell.Put (operand_width old) old (get_or l 1 0) x.operand in
      record {
        kept = length-set table slot own;
        cells = λ few. omega (arith, expression_small (current_operands count table) d (drop 2 l) n, length-drop 2 l, length-append x.cells (put ∷ []));
        changed = omega (arith, changes-set table slot own);
      }
  by_bounded StatementSort.If l table n =
      let x : Emitted = expression_at count table n d l in
      let start : ℕ = n + length x.cells in
      let first : Written = write_front block (after_front l) table start in
      more_bytes (omega (arith, front_within l, front_within (after_front l), front_within (after_front (after_front l))))
      (then_more (with_expression l table n)
      (joined x.operand start (front_bounded block block-holds (after_front l) table start)
      (front_bounded block block-holds (after_front (after_front l)) table (start + length first.cells))))
  by_bounded StatementSort.Case l table n =
      let x : Emitted = expression_at count table n d l in
      more_bytes (omega (arith, front_within l, fields_within 0 (after_front l)))
      (then_more (with_expression l table n)
      (items_bounded item block item-holds block-holds x.operand (fields_at 0 (after_front l)) table (n + length x.cells)))

-- whatever the bytes

module _ (count : ℕ) where
  mutual
    unfolding write_statement

    pub statement_bounded : (d : ℕ) (s : Sort) (l : List ℕ) (table : List Operand) (n : ℕ) → Bounded (length l + 3) table (write_statement count d s l table n)
    statement_bounded zero s l table n = nothing (length l + 3) table
    statement_bounded (suc d) s l table n =
        statement_holds (λ (w : Written). Bounded (length l + 3) table w) s
        (λ t. by_bounded count d (λ u p w k. write_block count d u p w k) (λ p w k. write_item count d p w k) (λ u p w k. block_bounded d u p w k)
        (λ p w k. item_bounded d p w k) t l table n)
        (nothing (length l + 3) table)

    pub block_bounded : (d : ℕ) (s : Sort) (l : List ℕ) (table : List Operand) (n : ℕ) → Bounded (length l) table (write_block count d s l table n)
    block_bounded zero s l table n = nothing (length l) table
    block_bounded (suc d) s l table n =
        test_holds (λ (w : Written). Bounded (length l) table w) (is_sort Sort.Block s)
        (more_bytes (fields_within 0 l)
        (all_bounded (λ u p w k. write_statement count d u p w k) (λ u p w k. statement_bounded d u p w k) (fields_at 0 l) table n))
        (nothing (length l) table)

    pub item_bounded : (d : ℕ) (l : List ℕ) (table : List Operand) (n : ℕ) → Bounded (length l) table (write_item count d l table n)
    item_bounded zero l table n = nothing (length l) table
    item_bounded (suc d) l table n =
        more_bytes (omega (arith, front_within l, front_within (after_front l)))
        (front_bounded (λ u p w k. write_block count d u p w k) (λ u p w k. block_bounded d u p w k) (after_front l) table n)

  pub process_bounded : (s : Sort) (l : List ℕ) (table : List Operand) (n : ℕ) → Bounded (length l) table (write_process count s l table n)
  unfolding write_process
  process_bounded s l table n =
      test_holds (λ (w : Written). Bounded (length l) table w) (is_sort Sort.Process s)
      (more_bytes (fields_within 0 l) (all_bounded (write_statement count 30) (statement_bounded 30) (fields_at 0 l) table n))
      (nothing (length l) table)

  pub processes_bounded : (l : List ℕ) (table : List Operand) (n : ℕ) → Bounded (length l) table (write_processes count l table n)
  unfolding write_processes
  processes_bounded l table n =
      more_bytes (fields_within 0 l)
      (all_bounded (write_process count) (λ s p t k. more_bytes (omega arith) (process_bounded s p t k)) (fields_at 0 l) table n)
