-- The walk over the bytes of a written expression gives what its fields are refused for. By induction on the levels that may be opened.
use mathlib.Core.Path.{◌≡◌, refl, sym, ap, ◌∙◌}
use mathlib.Core.List.{List, [], ◌∷◌, ◌++◌}
use Prim.Native.Nat.{ℕ, zero, suc, ◌+◌, ◌≤◌}
use native.Mathlib.Omega.{arith}
use lib.ListN.{length, drop, length-append}
use Rattle.tagged.specs.Bytes.{four_bytes}
use Rattle.tagged.specs.Sorts.{tag_of}
use Rattle.tagged.specs.Fields.{Placed, fields_at}
use Rattle.tagged.specs.declared.sorts.ExpressionSort.{ExpressionSort}
use Rattle.tagged.specs.declared.sorts.Sort.{Sort}
use Rattle.tagged.specs.Answers.{Answer}
use Rattle.tagged.proofs.ListBytes.{field_length}
use Rattle.verilog.specs.Tree.{Expression, constant, variable, fixed_bit, chosen_bit, one, two}
use Rattle.verilog.specs.Form.{expression_field, expression_bytes}
use Rattle.verilog.specs.Fits.{longest_field, FitsExpression, expression_depth}
use Rattle.verilog.specs.Reading.{no_expression, expression_with, expression_in}
use Rattle.verilog.specs.Nodes.{expression, Node, node_at, expression_nodes}
use Rattle.verilog.proofs.ExpressionBytes.{expression_at, expression_read, some_depth, payload_short}
use Rattle.verilog.proofs.WrittenFields.{front_field}
use Rattle.verilog_check.specs.Walk.{Judge, Walker, walk_all, before_operands, walk_expression}
use Rattle.verilog_check.proofs.WalkFields.{lowest_of, Walked, walk_none, walk_last, walk_joined}

-- what a field is refused for, by the number of its process
abbrev pub of_node : (ℕ → Judge) → Node → ℕ → Answer
of_node judge n at = judge n.in_process n.what at

-- what these fields are refused for, each by itself
abbrev pub fields_answer : (ℕ → Judge) → List (Placed Node) → Answer
fields_answer judge l = lowest_of (of_node judge) l

-- what stands in an expression's payload is the expression
expression_inside : (d : ℕ) (e : Expression) → FitsExpression e → expression_depth e ≤ suc d → length (expression_bytes e) ≤ longest_field →
    (s : ExpressionSort) (q : List ℕ) → expression_bytes e ≡ expression_field s q → expression_with (expression_in d) s q ≡ e
unfolding expression_in
expression_inside d e fits deep long s q written =
    sym (front_field (Sort.Expression s) q [] (payload_short (tag_of (Sort.Expression s)) q (rw written at long)) (expression_at (suc d)) no_expression)
    ∙ ap (λ (l : List ℕ). expression_in (suc d) (l ++ [])) (sym written)
    ∙ expression_read (suc d) e fits deep long []

-- a walk that goes over expressions as `walk_expression` does
abbrev pub WalksExpressions : Judge → ℕ → Walker → Type 0
WalksExpressions judge d walk = (at : ℕ) (s : ExpressionSort) (q : List ℕ) → walk at (Sort.Expression s) q ≡ walk_expression judge d at (Sort.Expression s) q

module _ (judge : ℕ → Judge) (p : ℕ) where
  -- an expression, by what is found in its operands
  expression_own : (d at : ℕ) (walk : Walker) → WalksExpressions (judge p) (suc d) walk →
      (e : Expression) → FitsExpression e → expression_depth e ≤ suc d → length (expression_bytes e) ≤ longest_field →
      (s : ExpressionSort) (q : List ℕ) → expression_bytes e ≡ expression_field s q →
      (start : ℕ) → at + 3 + before_operands s ≡ start → (inner : List (Placed Node)) →
      walk_all (walk_expression (judge p) d) (fields_at start (drop (before_operands s) q)) ≡ fields_answer judge inner →
      Walked walk at (expression_bytes e) (fields_answer judge (node_at p at (expression e) ∷ inner))
  unfolding walk_expression
  expression_own d at walk same e fits deep long s q written start place inner found = record {
    sort = Sort.Expression s;
    payload = q;
    field = written;
    short = payload_short (tag_of (Sort.Expression s)) q (rw written at long);
    gives = same at s q ∙ rw (expression_inside d e fits deep long s q written, place, found);
  }

  -- any expression, by a walk that goes over expressions so
  pub walk_expression_lem : (d at : ℕ) (walk : Walker) → WalksExpressions (judge p) d walk →
      (e : Expression) → FitsExpression e → expression_depth e ≤ d → length (expression_bytes e) ≤ longest_field →
      Walked walk at (expression_bytes e) (fields_answer judge (expression_nodes p at e))
  unfolding expression_nodes expression_bytes expression_depth FitsExpression four_bytes
  walk_expression_lem zero at walk same e fits deep long = absurd (omega (arith, some_depth e))
  walk_expression_lem (suc d) at walk same (constant w v) fits deep long =
      expression_own d at walk same (constant w v) fits deep long ExpressionSort.Constant (w ∷ four_bytes v) refl (at + 8) (omega arith) [] (walk_none _ (at + 8))
  walk_expression_lem (suc d) at walk same (variable v) fits deep long =
      expression_own d at walk same (variable v) fits deep long ExpressionSort.Variable (v ∷ []) refl (at + 4) (omega arith) [] (walk_none _ (at + 4))
  walk_expression_lem (suc d) at walk same (fixed_bit v k) fits deep long =
      expression_own d at walk same (fixed_bit v k) fits deep long ExpressionSort.FixedBit (v ∷ k ∷ []) refl (at + 5) (omega arith) [] (walk_none _ (at + 5))
  walk_expression_lem (suc d) at walk same (chosen_bit v e) fits deep long =
      let size = field_length (tag_of (Sort.Expression ExpressionSort.ChosenBit)) (v ∷ expression_bytes e) in
      let index = walk_expression_lem d (at + 4) (walk_expression (judge p) d) (λ at s q. refl) e fits.1 (omega arith) (omega arith) in
      expression_own d at walk same (chosen_bit v e) fits deep long ExpressionSort.ChosenBit (v ∷ expression_bytes e) refl (at + 4) (omega arith)
      (expression_nodes p (at + 4) e) (walk_last index)
  walk_expression_lem (suc d) at walk same (one op a) fits deep long =
      let size = field_length (tag_of (Sort.Expression (ExpressionSort.One op))) (expression_bytes a) in
      let operand = walk_expression_lem d (at + 3) (walk_expression (judge p) d) (λ at s q. refl) a fits (omega arith) (omega arith) in
      expression_own d at walk same (one op a) fits deep long (ExpressionSort.One op) (expression_bytes a) refl (at + 3) (omega arith)
      (expression_nodes p (at + 3) a) (walk_last operand)
  walk_expression_lem (suc d) at walk same (two op a b) fits deep long =
      let size = field_length (tag_of (Sort.Expression (ExpressionSort.Two op))) (expression_bytes a ++ expression_bytes b) in
      let both = length-append (expression_bytes a) (expression_bytes b) in
      let second : ℕ = at + 3 + length (expression_bytes a) in
      let left = walk_expression_lem d (at + 3) (walk_expression (judge p) d) (λ at s q. refl) a fits.0 (omega arith) (omega arith) in
      let right = walk_expression_lem d second (walk_expression (judge p) d) (λ at s q. refl) b fits.1 (omega arith) (omega arith) in
      expression_own d at walk same (two op a b) fits deep long (ExpressionSort.Two op) (expression_bytes a ++ expression_bytes b) refl (at + 3) (omega arith)
      (expression_nodes p (at + 3) a ++ expression_nodes p second b)
      (walk_joined (of_node judge) (expression_nodes p (at + 3) a) (expression_nodes p second b) left (expression_bytes b) second refl (walk_last right))
