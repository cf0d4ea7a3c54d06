-- Each field of a list has a property: where every expression, statement and item has it, each field inside a process has. By induction on the tree.
-- So a test that each field fails has no place.
use Rattle.std.specs.Prelude.{None}
use mathlib.Core.Path.{◌≡◌}
use mathlib.Core.Bool.{Bool, false}
use mathlib.Core.List.{List, [], ◌∷◌, ◌++◌}
use Prim.Native.Nat.{ℕ, ◌+◌}
use lib.ListN.{length}
use Rattle.tagged.specs.Fields.{Placed}
use Rattle.tagged.specs.Stands.{Stands, first, next}
use Rattle.tagged.specs.Refusals.{first_broken}
use Rattle.tagged.proofs.RefusalLaws.{passes_nowhere}
use Rattle.verilog.specs.Tree.{Expression, constant, variable, fixed_bit, chosen_bit, one, two, Statement, assign, assign_bit, if_else, case, Block, end, ◌then◌, Items, default, item}
use Rattle.verilog.specs.Form.{expression_bytes, statement_bytes, block_payload, process_bytes}
use Rattle.verilog.specs.Nodes.{What, process, expression, statement, item_of, Node, past, expression_nodes, statement_nodes, block_nodes, items_nodes, process_nodes}

pub data Each (P : Node → Type 0) : List (Placed Node) → Type 0 where
  no_field : Each P []
  one_more_lem : {n : Placed Node} {l : List (Placed Node)} → P n.what → Each P l → Each P (n ∷ l)

module _ {P : Node → Type 0} where
  each_append : {a b : List (Placed Node)} → Each P a → Each P b → Each P (a ++ b)
  each_append no_field h = h
  each_append (one_more_lem p r) h = one_more_lem p (each_append r h)

  each_stands : {l : List (Placed Node)} {before : List Node} {place : ℕ} {n : Node} → Each P l → Stands l before place n → P n
  each_stands (one_more_lem p r) (first i j) = rw (← j) p
  each_stands (one_more_lem p r) (next s) = each_stands r s
  each_stands {before = before} {place = place} {n = n} no_field x3 = elim x3 [ ]

pub each_fails : (test : List Node → Node → Bool) (before : List Node) {l : List (Placed Node)} → Each (λ n. (earlier : List Node) → test earlier n ≡ false) l →
    first_broken test before l ≡ None
each_fails test before {l} fails = passes_nowhere test before l (λ passed p n s. each_stands fails s (before ++ passed))

-- a field in process number p
abbrev field_in : ℕ → What → Node
field_in p w = record { in_process = p; what = w }

module _ {P : Node → Type 0} (p : ℕ) (an-expression : (e : Expression) → P (field_in p (expression e))) where
  pub each_expression : (at : ℕ) (e : Expression) → Each P (expression_nodes p at e)
  unfolding expression_nodes
  each_expression at (constant w v) = one_more_lem (an-expression (constant w v)) no_field
  each_expression at (variable v) = one_more_lem (an-expression (variable v)) no_field
  each_expression at (fixed_bit v k) = one_more_lem (an-expression (fixed_bit v k)) no_field
  each_expression at (chosen_bit v e) = one_more_lem (an-expression (chosen_bit v e)) (each_expression (at + 4) e)
  each_expression at (one op a) = one_more_lem (an-expression (one op a)) (each_expression (at + 3) a)
  each_expression at (two op a b) =
      one_more_lem (an-expression (two op a b)) (each_append (each_expression (at + 3) a) (each_expression (at + 3 + length (expression_bytes a)) b))

  module _ (a-statement : (s : Statement) → P (field_in p (statement s))) (an_item : (e : Expression) (w : ℕ) → P (field_in p (item_of e w))) where
    mutual
      unfolding statement_nodes block_nodes items_nodes

      each_statement : (at : ℕ) (s : Statement) → Each P (statement_nodes p at s)
      each_statement at (assign kind v e) = one_more_lem (a-statement (assign kind v e)) (each_expression (at + 4) e)
      each_statement at (assign_bit kind v k e) = one_more_lem (a-statement (assign_bit kind v k e)) (each_expression (at + 5) e)
      each_statement at (if_else c a b) =
          let first : ℕ = at + 3 + length (expression_bytes c) in
          one_more_lem (a-statement (if_else c a b))
          (each_append (each_append (each_expression (at + 3) c) (each_block (first + 3) a)) (each_block (past first (block_payload a) + 3) b))
      each_statement at (case e items) =
          one_more_lem (a-statement (case e items)) (each_append (each_expression (at + 3) e) (each_items (at + 3 + length (expression_bytes e)) e items))

      pub each_block : (at : ℕ) (b : Block) → Each P (block_nodes p at b)
      each_block at end = no_field
      each_block at (s then b) = each_append (each_statement at s) (each_block (at + length (statement_bytes s)) b)

      each_items : (at : ℕ) (e : Expression) (items : Items) → Each P (items_nodes p at e items)
      each_items at e (default b) = each_block (at + 3) b
      each_items at e (item w v b items) =
          one_more_lem (an_item e w) (one_more_lem (an-expression (constant w v))
          (each_append (each_block (at + 14) b) (each_items (past (at + 11) (block_payload b)) e items)))

-- where processes have it too, each field of a list of processes has
pub each_process : {P : Node → Type 0} → ((p : ℕ) → P (field_in p process)) → ((p : ℕ) (e : Expression) → P (field_in p (expression e))) →
    ((p : ℕ) (s : Statement) → P (field_in p (statement s))) → ((p : ℕ) (e : Expression) (w : ℕ) → P (field_in p (item_of e w))) →
    (p at : ℕ) (l : List Block) → Each P (process_nodes p at l)
unfolding process_nodes
each_process pr ex st it p at [] = no_field
each_process pr ex st it p at (b ∷ l) =
    one_more_lem (pr p) (each_append (each_block p (ex p) (st p) (it p) (at + 3) b) (each_process pr ex st it (p + 1) (at + length (process_bytes b)) l))
