-- How many cells translation adds, by the bytes of the tree, typed or not: an expression one for every third byte at most; statements, blocks, items and
-- processes 128 for each byte at most, from tables of at most 64 operands each, and those after them have no more. By induction on the tree.
use mathlib.Core.Bool.{Bool, true, false, cond}
use mathlib.Core.List.{List, [], ◌∷◌, ◌++◌}
use Prim.Native.Nat.{ℕ, ◌+◌, ◌*◌, ◌≤◌}
use native.Mathlib.Omega.{arith}
use lib.ListN.{length, length-append, length-set}
use Rattle.words.specs.declared.TwoOperand.TheVariants as two_operand
use Rattle.tagged.specs.Bytes.{two_bytes}
use Rattle.tagged.specs.Fields.{field_bytes, all_bytes_of}
use Rattle.tagged.specs.declared.sorts.Kind.{Kind}
use Rattle.netlist.specs.Lists.{operand_width}
use Rattle.netlist.specs.declared.Operand.{Operand}
use Rattle.netlist.specs.declared.Cell.{Cell}
use Rattle.verilog.specs.Tree.{Expression, constant, variable, fixed_bit, chosen_bit, one, two, Statement, assign, assign_bit, if_else, case, Block, end, ◌then◌, Items, default, item}
use Rattle.verilog.specs.Form.{expression_bytes, statement_bytes, block_payload, items_bytes, process_bytes}
use Rattle.translate.specs.Tables.{Tables, held_operand, replaced, same_operand, Merged, kept, muxed, merge, Translated, merge_tables}
use Rattle.translate.specs.Translation.{Emitted, translate_expression, after, joined, translate_statement, translate_block, translate_items, translate_all}

-- tables of at most 64 operands each
pub record FewOperands (t : Tables) : Type 0 where
  pub current : length t.current ≤ 64
  pub pending : length t.pending ≤ 64

-- an assignment replaces an operand, and leaves as many
replaced_few : {t : Tables} (kind : Kind) (v : ℕ) (o : Operand) → FewOperands t → FewOperands (replaced kind t v o)
replaced_few {t} Kind.Blocking v o f = record { current = omega (arith, length-set t.current v o, f.current); pending = f.pending }
replaced_few {t} Kind.NonBlocking v o f = record { current = f.current; pending = omega (arith, length-set t.pending v o, f.pending) }

-- an expression adds a cell for each of its fields at most
pub expression_few : (table : List Operand) (n : ℕ) (e : Expression) → 3 * length (translate_expression table n e).cells ≤ length (expression_bytes e)
unfolding translate_expression expression_bytes field_bytes two_bytes
expression_few table n (constant w v) = omega arith
expression_few table n (variable v) = omega arith
expression_few table n (fixed_bit v k) = omega arith
expression_few table n (chosen_bit v e) = simp length-append (omega (arith, expression_few table n e))
expression_few table n (one op a) = simp length-append (omega (arith, expression_few table n a))
expression_few table n (two op a b) =
    let x : Emitted = translate_expression table n a in
    simp length-append (omega (arith, expression_few table n a, expression_few table (n + length x.cells) b))

-- a merge adds a cell for each operand of the first table at most, and gives no more operands than it has
pub record FewMerged (count : ℕ) (m : Merged) : Type 0 where
  pub cells : length m.cells ≤ count
  pub operands : length m.operands ≤ count

module _ (condition : Operand) where
  pub merge_few : (n : ℕ) (a b : List Operand) → FewMerged (length a) (merge condition n a b)
  unfolding merge
  merge_few n [] bs = record { cells = omega arith; operands = omega arith }
  merge_few n (a ∷ as') [] = record { cells = omega arith; operands = omega arith }
  merge_few n (a ∷ as') (b ∷ bs) = go (same_operand a b) (merge_few n as' bs) (merge_few (n + 1) as' bs)
    where
      go : (t : Bool) → FewMerged (length as') (merge condition n as' bs) → FewMerged (length as') (merge condition (n + 1) as' bs) →
          FewMerged (length (a ∷ as')) (cond t (kept a (merge condition n as' bs)) (muxed condition n a b (merge condition (n + 1) as' bs)))
      go true same other = record { cells = omega (arith, same.cells); operands = omega (arith, same.operands) }
      go false same other = record { cells = omega (arith, other.cells); operands = omega (arith, other.operands) }

-- what a part of a module of so many bytes may add and leave
pub record FewCells (bytes : ℕ) (r : Translated) : Type 0 where
  pub cells : length r.cells ≤ 128 * bytes
  pub tables : FewOperands r.tables

-- parts together

more_bytes : {a b : ℕ} {r : Translated} → a ≤ b → FewCells a r → FewCells b r
more_bytes h f = record { cells = omega (arith, h, f.cells); tables = f.tables }

after_few : (a : ℕ) {b : ℕ} {r : Translated} (cells : List Cell) → length cells ≤ 128 * a → FewCells b r → FewCells (a + b) (after cells r)
after_few a {r = r} cells h f = record { cells = omega (arith, length-append cells r.cells, h, f.cells); tables = f.tables }

-- the muxes of a merge count as one byte
merge_tables_few : {a : Tables} (condition : Operand) (n : ℕ) (b : Tables) → FewOperands a → FewCells 1 (merge_tables condition n a b)
unfolding merge_tables
merge_tables_few {a} condition n b f =
    let first : Merged = merge condition n a.current b.current in
    let second : Merged = merge condition (n + length first.cells) a.pending b.pending in
    let p = merge_few condition n a.current b.current in
    let q = merge_few condition (n + length first.cells) a.pending b.pending in
    record {
      cells = omega (arith, length-append first.cells second.cells, p.cells, q.cells, f.current, f.pending);
      tables = record { current = omega (arith, p.operands, f.current); pending = omega (arith, q.operands, f.pending) };
    }

joined_few : {a b : ℕ} {x y : Translated} (condition : Operand) (n : ℕ) → FewCells a x → FewCells b y → FewCells (a + b + 1) (joined condition n x y)
joined_few {a} {b} {x} {y} condition n p q =
    let later : ℕ = n + length x.cells + length y.cells in
    after_few (a + b) (x.cells ++ y.cells) (omega (arith, length-append x.cells y.cells, p.cells, q.cells))
    (merge_tables_few condition later y.tables p.tables)

-- parts of a module

mutual
  unfolding translate_statement statement_bytes field_bytes two_bytes

  pub statement_few : (s : Statement) {t : Tables} (n : ℕ) → FewOperands t → FewCells (length (statement_bytes s)) (translate_statement t n s)
  statement_few (assign kind v e) {t} n f =
      let x : Emitted = translate_expression t.current n e in
      record { cells = omega (arith, expression_few t.current n e); tables = replaced_few kind v x.operand f }
  statement_few (assign_bit kind v k e) {t} n f =
      let x : Emitted = translate_expression t.current n e in
      let old : Operand = held_operand kind t v in
      let put : Cell = Cell.Put (operand_width old) old k x.operand in
      record {
        cells = omega (arith, expression_few t.current n e, length-append x.cells (put ∷ []));
        tables = replaced_few kind v (Operand.Cell (operand_width old) (n + length x.cells)) f;
      }
  statement_few (if_else c a b) {t} n f =
      let x : Emitted = translate_expression t.current n c in
      let start : ℕ = n + length x.cells in
      let first : Translated = translate_block t start a in
      more_bytes (simp length-append (omega arith))
      (after_few (length (expression_bytes c)) x.cells (omega (arith, expression_few t.current n c))
      (joined_few x.operand start (block_few a start f) (block_few b (start + length first.cells) f)))
  statement_few (case e items) {t} n f =
      let x : Emitted = translate_expression t.current n e in
      more_bytes (simp length-append (omega arith))
      (after_few (length (expression_bytes e)) x.cells (omega (arith, expression_few t.current n e))
      (items_few items (n + length x.cells) x.operand f))

  pub block_few : (b : Block) {t : Tables} (n : ℕ) → FewOperands t → FewCells (length (block_payload b)) (translate_block t n b)
  block_few end n f = record { cells = omega arith; tables = f }
  block_few (s then b) {t} n f =
      let first : Translated = translate_statement t n s in
      let p = statement_few s n f in
      more_bytes (simp length-append (omega arith))
      (after_few (length (statement_bytes s)) first.cells p.cells (block_few b (n + length first.cells) p.tables))

  pub items_few : (items : Items) {t : Tables} (n : ℕ) (selector : Operand) → FewOperands t →
      FewCells (length (items_bytes items)) (translate_items t n selector items)
  items_few (default b) n selector f = more_bytes (omega arith) (block_few b n f)
  items_few (item w v b items) {t} n selector f =
      let equal : Cell = Cell.Two two_operand.Equal 1 selector (Operand.Constant w v) in
      let first : Translated = translate_block t (n + 1) b in
      more_bytes (simp length-append (omega arith))
      (after_few 1 (equal ∷ []) (omega arith)
      (joined_few (Operand.Cell 1 n) (n + 1) (block_few b (n + 1) f) (items_few items (n + 1 + length first.cells) selector f)))

pub processes_few : (ps : List Block) {t : Tables} (n : ℕ) → FewOperands t → FewCells (length (all_bytes_of process_bytes ps)) (translate_all t n ps)
unfolding translate_all all_bytes_of process_bytes field_bytes two_bytes
processes_few [] n f = record { cells = omega arith; tables = f }
processes_few (p ∷ ps) {t} n f =
    let first : Translated = translate_block t n p in
    let x = block_few p n f in
    more_bytes (simp length-append (omega arith))
    (after_few (length (block_payload p)) first.cells x.cells (processes_few ps (n + length first.cells) x.tables))

pub all_cells : (ps : List Block) (t : Tables) (n : ℕ) → FewOperands t → length (translate_all t n ps).cells ≤ 128 * length (all_bytes_of process_bytes ps)
all_cells ps t n f = (processes_few ps n f).cells
