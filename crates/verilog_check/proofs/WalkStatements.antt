-- The walk over the bytes of written statements gives what their fields are refused for. By induction on statements, blocks and items.
use mathlib.Core.Path.{◌≡◌, refl, sym, ap, ◌∙◌}
use mathlib.Core.List.{List, [], ◌∷◌, ◌++◌, append_assoc}
use Prim.Native.Nat.{ℕ, zero, suc, ◌+◌, ◌≤◌, ◌<◌}
use native.Mathlib.Omega.{arith}
use lib.ListN.{length, get_or, drop, length-append}
use Rattle.tagged.specs.Bytes.{four_bytes}
use Rattle.tagged.specs.Sorts.{tag_of}
use Rattle.tagged.specs.Fields.{Placed, field_bytes, fields_at}
use Rattle.tagged.specs.declared.sorts.StatementSort.{StatementSort}
use Rattle.tagged.specs.declared.sorts.ExpressionSort.TheVariants as ExpressionSort
use Rattle.tagged.specs.declared.sorts.Sort.{Sort}
use Rattle.tagged.proofs.ListBytes.{field_length}
use Rattle.verilog.specs.Tree.{Expression, constant, Statement, assign, assign_bit, if_else, case, Block, end, ◌then◌, Items, default, item}
use Rattle.verilog.specs.Form.{expression_bytes, statement_field, statement_bytes, block_payload, items_bytes, block_bytes}
use Rattle.verilog.specs.Fits.{longest_field, FitsOne, FitsFour, FitsExpression, FitsStatement, FitsBlock, FitsItems, expression_depth, statement_depth, statements_depth, items_depth}
use Rattle.verilog.specs.Reading.{front_by, expression_in, no_statement, statement_in}
use Rattle.verilog.specs.Nodes.{expression, statement, item_of, Node, node_at, past, expression_nodes, statement_nodes, block_nodes, items_nodes}
use Rattle.verilog.proofs.ExpressionBytes.{expression_read, payload_short, four_length}
use Rattle.verilog.proofs.StatementStands.{some_statement, statement_read}
use Rattle.verilog.proofs.WrittenFields.{front_field}
use Rattle.verilog_check.specs.Walk.{Judge, walk_all, before_parts, walk_expression, statement_of, walk_statement, walk_part}
use Rattle.verilog_check.proofs.WalkFields.{Walked, walk_none, walk_last, walk_joined}
use Rattle.verilog_check.proofs.WalkExpressions.{of_node, fields_answer, WalksExpressions, walk_expression_lem}

-- what stands in a statement's payload is the statement
statement_inside : (d : ℕ) (s : Statement) → FitsStatement s → statement_depth s ≤ suc d → length (statement_bytes s) ≤ longest_field →
    (t : StatementSort) (q : List ℕ) → statement_bytes s ≡ statement_field t q → statement_of d t q ≡ s
unfolding statement_in
statement_inside d s fits deep long t q written =
    sym (front_field (Sort.Statement t) q [] (payload_short (tag_of (Sort.Statement t)) q (rw written at long)) (λ u l. statement_in (suc d) u l) no_statement)
    ∙ rw written at (statement_read (suc d) s fits deep long [])

-- an item's constant has 8 bytes
constant-length : (w v : ℕ) → length (expression_bytes (constant w v)) ≡ 8
unfolding expression_bytes
constant-length w v = field_length (tag_of (Sort.Expression ExpressionSort.Constant)) (w ∷ four_bytes v) ∙ omega (arith, four_length v)

module _ (judge : ℕ → Judge) (width : Expression → ℕ) (p : ℕ) where
  -- what may stand in a statement: an expression
  part_expression : (d w : ℕ) → WalksExpressions (judge p) d (walk_part (judge p) width d w)
  unfolding walk_part walk_expression
  part_expression zero w at s q = refl
  part_expression (suc d) w at s q = refl

  -- a block, by what is found in its statements
  part_block : (d w at start : ℕ) → at + 3 ≡ start → (b : Block) → suc (statements_depth b) ≤ d → length (block_payload b) < 65536 →
      ((k : ℕ) → statements_depth b ≤ k → walk_all (walk_statement (judge p) width k) (fields_at start (block_payload b)) ≡ fields_answer judge (block_nodes p start b)) →
      Walked (walk_part (judge p) width d w) at (block_bytes b) (fields_answer judge (block_nodes p start b))
  unfolding walk_part block_bytes
  part_block zero w at start place b deep short found = absurd (omega arith)
  part_block (suc d) w at start place b deep short found = record {
    sort = Sort.Block;
    payload = block_payload b;
    field = refl;
    short = short;
    gives = rw place (found d (omega arith));
  }

  -- a statement, by what is found in its parts
  statement_own : (d at : ℕ) (s : Statement) → FitsStatement s → statement_depth s ≤ d → length (statement_bytes s) ≤ longest_field →
      (t : StatementSort) (q : List ℕ) → statement_bytes s ≡ statement_field t q →
      (start : ℕ) → at + 3 + before_parts t ≡ start → (inner : List (Placed Node)) →
      ((k : ℕ) → statement_depth s ≤ suc k →
      walk_all (walk_part (judge p) width k (width (expression_in k q))) (fields_at start (drop (before_parts t) q)) ≡ fields_answer judge inner) →
      Walked (walk_statement (judge p) width d) at (statement_bytes s) (fields_answer judge (node_at p at (statement s) ∷ inner))
  unfolding walk_statement
  statement_own zero at s fits deep long t q written start place inner found = absurd (omega (arith, some_statement s))
  statement_own (suc d) at s fits deep long t q written start place inner found = record {
    sort = Sort.Statement t;
    payload = q;
    field = written;
    short = payload_short (tag_of (Sort.Statement t)) q (rw written at long);
    gives = rw (statement_inside d s fits deep long t q written, place, found d deep);
  }

  module _ (alike : (e : Expression) (w at : ℕ) → judge p (item_of e w) at ≡ judge p (item_of (constant (width e) 0) w) at) where
    -- an item of a case with selector e: its constant, and its block by what is found there
    part_item : (d at : ℕ) (e : Expression) (w v : ℕ) (b : Block) → FitsOne w → FitsFour v → suc (suc (statements_depth b)) ≤ d →
        length (expression_bytes (constant w v) ++ block_bytes b) < 65536 →
        ((k : ℕ) → statements_depth b ≤ k → walk_all (walk_statement (judge p) width k) (fields_at (at + 14) (block_payload b)) ≡ fields_answer judge (block_nodes p (at + 14) b)) →
        Walked (walk_part (judge p) width d (width e)) at (field_bytes (tag_of Sort.Item) (expression_bytes (constant w v) ++ block_bytes b))
        (fields_answer judge (node_at p at (item_of e w) ∷ node_at p (at + 3) (expression (constant w v)) ∷ block_nodes p (at + 14) b))
    unfolding walk_part expression_bytes block_bytes expression_nodes expression_depth FitsExpression
    part_item zero at e w v b one four deep short found = absurd (omega arith)
    part_item (suc d) at e w v b one four deep short found =
        let whole = expression_bytes (constant w v) ++ block_bytes b in
        let number = constant-length w v in
        let sum = length-append (expression_bytes (constant w v)) (block_bytes b) in
        let size = field_length (tag_of Sort.Block) (block_payload b) in
        let front : front_by (λ s q. get_or q 0 0) 0 whole ≡ w = front_field (Sort.Expression ExpressionSort.Constant)
        (w ∷ four_bytes v) (block_bytes b) (omega (arith, four_length v)) (λ s q. get_or q 0 0) 0 in
        let inner : List (Placed Node) = node_at p (at + 3) (expression (constant w v)) ∷ block_nodes p (at + 14) b in
        let walked : walk_all (walk_part (judge p) width d (width e)) (fields_at (at + 3) whole) ≡ fields_answer judge inner =
        walk_joined (of_node judge) (expression_nodes p (at + 3) (constant w v)) (block_nodes p (at + 14) b)
        (walk_expression_lem judge p d (at + 3) _ (part_expression d (width e)) (constant w v) (one, four) (omega arith) (omega arith)) (block_bytes b) (at + 11) (omega arith)
        (walk_last (part_block d (width e) (at + 11) (at + 14) (omega arith) b (omega arith) (omega arith) found)) in
        record {
          sort = Sort.Item;
          payload = whole;
          field = refl;
          short = short;
          gives = rw (front, ← alike e w at, walked);
        }

    mutual
      unfolding statement_nodes statement_bytes block_nodes block_payload items_nodes items_bytes block_bytes expression_bytes FitsStatement FitsBlock FitsItems statement_depth statements_depth items_depth

      -- a statement
      walk_statement_lem : (d at : ℕ) (s : Statement) → FitsStatement s → statement_depth s ≤ d → length (statement_bytes s) ≤ longest_field →
          Walked (walk_statement (judge p) width d) at (statement_bytes s) (fields_answer judge (statement_nodes p at s))
      walk_statement_lem d at (assign kind v e) fits deep long =
          let size = field_length (tag_of (Sort.Statement (StatementSort.Assign kind))) (v ∷ expression_bytes e) in
          statement_own d at (assign kind v e) fits deep long (StatementSort.Assign kind) (v ∷ expression_bytes e) refl (at + 4) (omega arith) (expression_nodes p (at + 4) e)
          (λ k h. walk_last (walk_expression_lem judge p k (at + 4) _ (part_expression k _) e fits.1 (omega arith) (omega arith)))
      walk_statement_lem d at (assign_bit kind v j e) fits deep long =
          let size = field_length (tag_of (Sort.Statement (StatementSort.AssignBit kind))) (v ∷ j ∷ expression_bytes e) in
          statement_own d at (assign_bit kind v j e) fits deep long (StatementSort.AssignBit kind) (v ∷ j ∷ expression_bytes e) refl (at + 5) (omega arith)
          (expression_nodes p (at + 5) e) (λ k h. walk_last (walk_expression_lem judge p k (at + 5) _ (part_expression k _) e fits.2 (omega arith) (omega arith)))
      walk_statement_lem d at (if_else c a b) fits deep long =
          let first = block_bytes a in
          let second = block_bytes b in
          let whole = expression_bytes c ++ (first ++ second) in
          let same : statement_bytes (if_else c a b) ≡ statement_field StatementSort.If whole = ap (statement_field StatementSort.If)
          (append_assoc (expression_bytes c) first second) in
          let size = ap length same ∙ field_length (tag_of (Sort.Statement StatementSort.If)) whole in
          let sum = length-append (expression_bytes c) (first ++ second) in
          let blocks = length-append first second in
          let left = field_length (tag_of Sort.Block) (block_payload a) in
          let right = field_length (tag_of Sort.Block) (block_payload b) in
          let next : ℕ = at + 3 + length (expression_bytes c) in
          let last : ℕ = past next (block_payload a) in
          let condition : List (Placed Node) = expression_nodes p (at + 3) c in
          let thens : List (Placed Node) = block_nodes p (next + 3) a in
          let elses : List (Placed Node) = block_nodes p (last + 3) b in
          statement_own d at (if_else c a b) fits deep long StatementSort.If whole same (at + 3) (omega arith) (condition ++ thens ++ elses)
          (λ k h. walk_joined (of_node judge) condition (thens ++ elses) (walk_expression_lem judge p k (at + 3) _ (part_expression k _) c fits.0 (omega arith) (omega arith))
          (first ++ second) next refl
          (walk_joined (of_node judge) thens elses
          (part_block k _ next (next + 3) refl a (omega arith) (omega arith) (λ j g. walk_block j (next + 3) a fits.1 g (omega arith)))
          second last (omega arith)
          (walk_last (part_block k _ last (last + 3) refl b (omega arith) (omega arith) (λ j g. walk_block j (last + 3) b fits.2 g (omega arith)))))
          ∙ ap (fields_answer judge) (sym (append_assoc condition thens elses)))
      walk_statement_lem d at (case e items) fits deep long =
          let whole = expression_bytes e ++ items_bytes items in
          let size = field_length (tag_of (Sort.Statement StatementSort.Case)) whole in
          let sum = length-append (expression_bytes e) (items_bytes items) in
          let next : ℕ = at + 3 + length (expression_bytes e) in
          statement_own d at (case e items) fits deep long StatementSort.Case whole refl (at + 3) (omega arith) (expression_nodes p (at + 3) e ++ items_nodes p next e items)
          (λ k h.
          rw (expression_read k e fits.0 (omega arith) (omega arith) (items_bytes items))
          (walk_joined (of_node judge) (expression_nodes p (at + 3) e) (items_nodes p next e items)
          (walk_expression_lem judge p k (at + 3) _ (part_expression k (width e)) e fits.0 (omega arith) (omega arith))
          (items_bytes items) next refl (walk_items k next e items fits.1 (omega arith) (omega arith))))

      -- the statements of a block or a process, from the place of its payload
      pub walk_block : (d at : ℕ) (b : Block) → FitsBlock b → statements_depth b ≤ d → length (block_payload b) ≤ longest_field →
          walk_all (walk_statement (judge p) width d) (fields_at at (block_payload b)) ≡ fields_answer judge (block_nodes p at b)
      walk_block d at end fits deep long = walk_none _ at
      walk_block d at (s then b) fits deep long =
          let both = length-append (statement_bytes s) (block_payload b) in
          let next : ℕ = at + length (statement_bytes s) in
          walk_joined (of_node judge) (statement_nodes p at s) (block_nodes p next b) (walk_statement_lem d at s fits.0 (omega arith) (omega arith)) (block_payload b) next refl
          (walk_block d next b fits.1 (omega arith) (omega arith))

      -- the items of a case with selector e, and its default block
      walk_items : (d at : ℕ) (e : Expression) (items : Items) → FitsItems items → items_depth items ≤ d → length (items_bytes items) ≤ longest_field →
          walk_all (walk_part (judge p) width d (width e)) (fields_at at (items_bytes items)) ≡ fields_answer judge (items_nodes p at e items)
      walk_items d at e (default b) fits deep long =
          let size = field_length (tag_of Sort.Block) (block_payload b) in
          walk_last (part_block d (width e) at (at + 3) refl b deep (omega arith) (λ k h. walk_block k (at + 3) b fits h (omega arith)))
      walk_items d at e (item w v b items) fits deep long =
          let inside = expression_bytes (constant w v) ++ block_bytes b in
          let number = constant-length w v in
          let sum = length-append (expression_bytes (constant w v)) (block_bytes b) in
          let block = field_length (tag_of Sort.Block) (block_payload b) in
          let size = field_length (tag_of Sort.Item) inside in
          let both = length-append (field_bytes (tag_of Sort.Item) inside) (items_bytes items) in
          let next : ℕ = past (at + 11) (block_payload b) in
          walk_joined (of_node judge) (node_at p at (item_of e w) ∷ node_at p (at + 3) (expression (constant w v)) ∷ block_nodes p (at + 14) b) (items_nodes p next e items)
          (part_item d at e w v b fits.0 fits.1 (omega arith) (omega arith) (λ k h. walk_block k (at + 14) b fits.2 h (omega arith)))
          (items_bytes items) next (omega arith) (walk_items d next e items fits.3 (omega arith) (omega arith))
