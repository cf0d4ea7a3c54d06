-- Statements, blocks and items from bytes: what is read without a fault is written as it stood; by induction on the levels that may be opened.
use Rattle.tagged.specs.Answers.{fault_at}
use Rattle.std.specs.Prelude.{Ok, Err}
use mathlib.Core.Path.{◌≡◌, refl, sym, ap, ap₂, ◌∙◌, subst}
use mathlib.Core.Bool.{cond}
use mathlib.Core.List.{List, ◌∷◌, ◌++◌, append_assoc}
use Prim.Native.Nat.{ℕ, zero, suc, ◌+◌}
use native.Mathlib.Omega.{arith}
use lib.ListN.{get_or, take, drop, take-append-drop}
use borrow.Author.Tests.{eqb-true}
use Rattle.tagged.specs.Bytes.{AllBytes, four_of}
use Rattle.tagged.specs.Sorts.{tag_of, is_expression, is_statement, is_sort}
use Rattle.tagged.specs.Fields.{faultless, Judge, field_bytes, open_of, on_field, field_by, then_by, fixed_then, ended, many, passed_bytes, until_end, read_placed, unplaced, Opened, Step}
use Rattle.tagged.specs.declared.sorts.StatementSort.{StatementSort}
use Rattle.tagged.specs.declared.sorts.ExpressionSort.TheVariants as ExpressionSort
use Rattle.tagged.specs.declared.sorts.Sort.{Sort}
use Rattle.tagged.proofs.ByteLaws.{bytes_drop}
use Rattle.verilog.specs.Tree.{Expression, constant, Block, end}
use Rattle.verilog.specs.Form.{expression_bytes, statement_field, statement_bytes, block_payload, items_bytes, block_bytes, expression_body, constant_body, statement_parts, statement_body, block_body, item_body}
use Rattle.verilog.specs.Reading.{no_expression, front_by, after_front, block_front, expression_in, items_from, after_items, statement_with, no_statement, statement_in, block_in, item_in}
use Rattle.tagged.proofs.JudgeLaws.{then_tells, fixed_tells, fixed_only_lem, sort_fine}
use Rattle.verilog.proofs.FrontLaws.{Returned, Returns, Fronts, front_written, next_returns, last_returns}
use Rattle.tagged.proofs.RunLaws.{list_in}
use Rattle.verilog.proofs.FrontLists.{many_returns, until_returns}
use Rattle.tagged.proofs.AnyPlace.{field_anywhere, many_anywhere}
use Rattle.verilog.proofs.SortChoices.{item_known, block_known, expression_known, statement_known, statement_fine, constant_known}
use Rattle.verilog.proofs.ExpressionBytes.{expression_at, expression_front, expression_returns, expression_last, constant_payload, one_first, two_first}
use Rattle.verilog.proofs.StatementLists.{from_bytes, item_bytes, items_from_bytes}
use Rattle.verilog.proofs.StatementPlaces.{level_anywhere}

-- readers by sort and payload, which read what stands at the front
abbrev pub constant_at : Sort → List ℕ → Expression
constant_at s l = constant (get_or l 0 0) (four_of (drop 1 l))

abbrev pub block_at : ℕ → Sort → List ℕ → Block
block_at d s l = cond (is_sort Sort.Block s) (block_in d l) end

-- an item's constant
pub constant_front : (l : List ℕ) → front_by constant_at no_expression l ≡ constant (front_by (λ s p. get_or p 0 0) 0 l) (front_by (λ s p. four_of (drop 1 p)) 0 l)
constant_front l = go (open_of 0 0 l)
  where
    go : (o : Opened) →
        on_field o (λ s n. constant_at s (take n (drop 3 l))) no_expression
        ≡ constant (on_field o (λ s n. get_or (take n (drop 3 l)) 0 0) 0) (on_field o (λ s n. four_of (drop 1 (take n (drop 3 l)))) 0)
    go (Ok (s, n)) = refl
    go (Err x) = refl

pub constant_returns : (d : ℕ) → Returns (is_sort (Sort.Expression ExpressionSort.Constant)) (constant_body d) constant_at expression_bytes
unfolding constant_body expression_bytes
constant_returns zero base s l h fine = absurd (let z : ◌≡◌ {A = ℕ} 0 1 = cc in omega arith)
constant_returns (suc d) base s l h fine =
    let c = sort_fine (Sort.Expression ExpressionSort.Constant) s (fixed_then 5 ended (base + 3) base l) (fault_at base) fine in
    record {
      is = c.0;
      written = ap₂ field_bytes (eqb-true _ _ c.0) (constant_payload l h (fixed_only_lem 5 (base + 3) base l c.1));
    }

-- what follows the items that were passed
pub after_items_lem : (d base owner : ℕ) (l : List ℕ) (m : ℕ) → many (is_sort Sort.Item) (field_by (item_body d)) base owner l ≡ Ok m → after_items d l ≡ drop m l
after_items_lem d base owner l m e =
    ap (λ (s : Step). drop (passed_bytes s) l)
    (many_anywhere (is_sort Sort.Item) (field_by (item_body d)) (field_anywhere (item_body d) (level_anywhere d).item) base owner 0 0 l m e)

-- what is known of a level
pub record LevelReturns (d : ℕ) : Type 0 where
  pub statement : Returns is_statement (statement_body d) (λ s l. statement_in d s l) statement_bytes
  pub block : Returns (is_sort Sort.Block) (block_body d) (block_at d) block_bytes
  pub item : Returns (is_sort Sort.Item) (item_body d) (λ s l. item_in d s l) item_bytes

-- the statements of a payload
statements_return : (d : ℕ) → LevelReturns d → (base owner : ℕ) (l : List ℕ) → AllBytes l → until_end (field_by (statement_body d)) base owner l ≡ faultless →
    block_payload (block_in (suc d) l) ≡ l
unfolding block_in
statements_return d level base owner l h fine =
    from_bytes (list_in is_statement (statement_body d) (λ s p. statement_in d s p) statement_bytes l)
    ∙ until_returns is_statement (statement_body d) (λ s p. statement_in d s p) statement_bytes statement_known level.statement base owner l h fine

module _ (d : ℕ) (level : LevelReturns d) where
  -- the block at the front, and nothing after it
  block_last : (base owner : ℕ) (l : List ℕ) → AllBytes l → then_by (field_by (block_body d)) ended base owner l ≡ faultless →
      block_bytes (block_front (λ p. block_in d p) l) ≡ l
  block_last base owner l h fine = last_returns (is_sort Sort.Block) (block_body d) (block_at d) block_bytes block_known level.block end base owner l h fine

  -- the items at the front, and then the default block
  items_return : (base owner : ℕ) (l : List ℕ) → AllBytes l →
      then_by (many (is_sort Sort.Item) (field_by (item_body d))) (then_by (field_by (block_body d)) ended) base owner l ≡ faultless →
      items_bytes (items_from (list_in (is_sort Sort.Item) (item_body d) (λ s p. item_in d s p) item_bytes l) (block_front (λ p. block_in d p) (after_items d l))) ≡ l
  items_return base owner l h fine =
      let t = then_tells (many (is_sort Sort.Item) (field_by (item_body d))) (then_by (field_by (block_body d)) ended) base owner l fine in
      let m = t.size in
      let after : after_items d l ≡ drop m l = after_items_lem d base owner l m t.passed in
      let items = many_returns (is_sort Sort.Item) (item_body d) (λ s p. item_in d s p) item_bytes item_known level.item base owner l m h t.passed in
      let block : block_bytes (block_front (λ p. block_in d p) (after_items d l)) ≡ drop m l =
      ap (λ (x : List ℕ). block_bytes (block_front (λ p. block_in d p) x)) after ∙ block_last (base + m) owner (drop m l) (bytes_drop m l h) t.rest in
      items_from_bytes (list_in (is_sort Sort.Item) (item_body d) (λ s p. item_in d s p) item_bytes l) (block_front (λ p. block_in d p) (after_items d l))
      ∙ ap₂ (λ (a b : List ℕ). a ++ b) (sym items.0) block ∙ take-append-drop m l

  -- the expression at the front, and then more
  expression_next : (next : Judge) (base owner : ℕ) (l : List ℕ) (h : AllBytes l) → then_by (field_by (expression_body d)) next base owner l ≡ faultless →
      Fronts is_expression (expression_body d) (expression_at d) expression_bytes expression_known (expression_returns d) no_expression base owner l h next
  expression_next next base owner l h fine =
      next_returns is_expression (expression_body d) (expression_at d) expression_bytes expression_known (expression_returns d) no_expression base owner l h next fine

  -- what a statement holds
  statement_parts_lem : (t : StatementSort) (base owner : ℕ) (l : List ℕ) → AllBytes l →
      statement_parts (field_by (expression_body d)) (field_by (block_body d)) (field_by (item_body d)) t base owner l ≡ faultless →
      statement_bytes (statement_with d (expression_in d) (λ p. block_in d p) (λ u p. item_in d u p) t l) ≡ field_bytes (tag_of (Sort.Statement t)) l
  unfolding statement_bytes block_bytes
  statement_parts_lem (StatementSort.Assign kind) base owner l h fine =
      let f = fixed_tells 1 (then_by (field_by (expression_body d)) ended) base owner l fine in
      let value = expression_last d (expression_returns d) (base + 1) owner (drop 1 l) (bytes_drop 1 l h) f.1 in
      ap (statement_field (StatementSort.Assign kind)) (ap (λ (p : List ℕ). get_or l 0 0 ∷ p) value ∙ one_first l f.0)
  statement_parts_lem (StatementSort.AssignBit kind) base owner l h fine =
      let f = fixed_tells 2 (then_by (field_by (expression_body d)) ended) base owner l fine in
      let value = expression_last d (expression_returns d) (base + 2) owner (drop 2 l) (bytes_drop 2 l h) f.1 in
      ap (statement_field (StatementSort.AssignBit kind)) (ap (λ (p : List ℕ). get_or l 0 0 ∷ get_or l 1 0 ∷ p) value ∙ two_first l f.0)
  statement_parts_lem StatementSort.If base owner l h fine =
      let c = expression_next (then_by (field_by (block_body d)) (then_by (field_by (block_body d)) ended)) base owner l h fine in
      let a = next_returns (is_sort Sort.Block) (block_body d) (block_at d) block_bytes block_known level.block end c.place owner (after_front l) c.left
      (then_by (field_by (block_body d)) ended) c.rest in
      let b = block_last a.place owner (after_front (after_front l)) a.left a.rest in
      let first = block_bytes (block_front (λ p. block_in d p) (after_front l)) in
      let both : first ++ block_bytes (block_front (λ p. block_in d p) (after_front (after_front l))) ≡ after_front l = ap (λ (x : List ℕ). first ++ x) b ∙ a.written in
      ap (statement_field StatementSort.If)
      (append_assoc (expression_bytes (expression_in d l)) first (block_bytes (block_front (λ p. block_in d p) (after_front (after_front l))))
      ∙ ap₂ (λ (x y : List ℕ). x ++ y) (ap expression_bytes (sym (expression_front d l))) both ∙ c.written)
  statement_parts_lem StatementSort.Case base owner l h fine =
      let c = expression_next (then_by (many (is_sort Sort.Item) (field_by (item_body d))) (then_by (field_by (block_body d)) ended)) base owner l h fine in
      let items = items_return c.place owner (after_front l) c.left c.rest in
      ap (statement_field StatementSort.Case) (ap₂ (λ (x y : List ℕ). x ++ y) (ap expression_bytes (sym (expression_front d l))) items ∙ c.written)

  statement_next : Returns is_statement (statement_body (suc d)) (λ s l. statement_in (suc d) s l) statement_bytes
  unfolding statement_body statement_in
  statement_next base s l h fine =
      let c = statement_fine s (λ t. statement_parts (field_by (expression_body d)) (field_by (block_body d)) (field_by (item_body d)) t (base + 3) base l) (fault_at base) fine in
      subst (λ (s : Sort). Returned is_statement (statement_body (suc d)) (λ s l. statement_in (suc d) s l) statement_bytes s l) (sym c.1)
      (record { is = refl; written = statement_parts_lem c.0 (base + 3) base l h c.2 })

  block_next : Returns (is_sort Sort.Block) (block_body (suc d)) (block_at (suc d)) block_bytes
  unfolding block_body block_bytes
  block_next base s l h fine =
      let c = sort_fine Sort.Block s (until_end (field_by (statement_body d)) (base + 3) base l) (fault_at base) fine in
      let read : block_at (suc d) s l ≡ block_in (suc d) l = rw c.0 in
      record {
        is = c.0;
        written = ap₂ field_bytes (eqb-true _ _ c.0) (ap block_payload read ∙ statements_return d level (base + 3) base l h c.1);
      }

  item_next : Returns (is_sort Sort.Item) (item_body (suc d)) (λ s l. item_in (suc d) s l) item_bytes
  unfolding item_body item_in item_bytes expression_bytes
  item_next base s l h fine =
      let c = sort_fine Sort.Item s (then_by (field_by (constant_body d)) (then_by (field_by (block_body d)) ended) (base + 3) base l) (fault_at base) fine in
      let n = next_returns (is_sort (Sort.Expression ExpressionSort.Constant)) (constant_body d) constant_at expression_bytes constant_known
      (constant_returns d) no_expression (base + 3) base l h (then_by (field_by (block_body d)) ended) c.1 in
      let block = block_last n.place base (after_front l) n.left n.rest in
      record {
        is = c.0;
        written = ap₂ field_bytes (eqb-true _ _ c.0) (ap₂ (λ (x y : List ℕ). x ++ y) (ap expression_bytes (sym (constant_front l))) block ∙ n.written);
      }

pub level_returns : (d : ℕ) → LevelReturns d
unfolding statement_body block_body item_body
level_returns zero = record {
  statement = λ base s l h fine. absurd (let z : ◌≡◌ {A = ℕ} 0 1 = cc in omega arith);
  block = λ base s l h fine. absurd (let z : ◌≡◌ {A = ℕ} 0 1 = cc in omega arith);
  item = λ base s l h fine. absurd (let z : ◌≡◌ {A = ℕ} 0 1 = cc in omega arith);
}
level_returns (suc d) =
    let inner = level_returns d in
    record { statement = statement_next d inner; block = block_next d inner; item = item_next d inner }

-- a statement at the front, the statements of a payload, and the items at the front with their default block, as they stood
pub statement_written : (d base owner : ℕ) (l : List ℕ) (m : ℕ) → AllBytes l → field_by (statement_body d) base owner l ≡ Ok m →
    take m l ≡ statement_bytes (front_by (λ s p. statement_in d s p) no_statement l)
statement_written d base owner l m h e =
    front_written is_statement (statement_body d) (λ s p. statement_in d s p) statement_bytes statement_known (level_returns d).statement no_statement base owner l h m e

pub block_written : (d base owner : ℕ) (l : List ℕ) → AllBytes l → until_end (field_by (statement_body d)) base owner l ≡ faultless →
    block_payload (block_in (suc d) l) ≡ l
block_written d base owner l h fine = statements_return d (level_returns d) base owner l h fine

pub items_written : (d base owner : ℕ) (l : List ℕ) → AllBytes l →
    then_by (many (is_sort Sort.Item) (field_by (item_body d))) (then_by (field_by (block_body d)) ended) base owner l ≡ faultless →
    items_bytes (items_from (unplaced (read_placed (is_sort Sort.Item) (λ s p. item_in d s p) 0 l)) (block_front (λ p. block_in d p) (after_items d l))) ≡ l
items_written d base owner l h fine = items_return d (level_returns d) base owner l h fine
