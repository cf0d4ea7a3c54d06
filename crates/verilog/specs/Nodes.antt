-- The fields of a module that a rule can name, in file order, each with its place. Outer fields stand before inner ones, by start.
use Rattle.std.specs.Prelude.{List, [], ◌∷◌, ◌++◌, ℕ, ◌+◌, length}
use Rattle.tagged.specs.Fields.{Placed, all_bytes_of}
use Rattle.tagged.specs.Declarations.{Declaration, declaration_bytes}
use Rattle.verilog.specs.Tree.{Expression, constant, variable, fixed_bit, chosen_bit, one, two, Statement, assign, assign_bit, if_else, case, Block, end, ◌then◌, Items, default, item, Module}
use Rattle.verilog.specs.Form.{expression_bytes, statement_bytes, block_payload, process_bytes}

-- what a field is; an item knows its case's selector
pub data What : Type 0 where
  declaration : Declaration → What
  process : What
  expression : Expression → What
  statement : Statement → What
  item_of : (selector : Expression) (width : ℕ) → What

-- a field, and the number of the process that it is or lies in
pub record Node : Type 0 where
  pub in_process : ℕ
  pub what : What

abbrev pub node_at : ℕ → ℕ → What → Placed Node
node_at p at w = record { place = at; what = record { in_process = p; what = w } }

-- p is the number of the process, `at` the place of the field or of the first byte of a list

unfoldable pub expression_nodes : ℕ → ℕ → Expression → List (Placed Node)
expression_nodes p at (constant w v) = node_at p at (expression (constant w v)) ∷ []
expression_nodes p at (variable v) = node_at p at (expression (variable v)) ∷ []
expression_nodes p at (fixed_bit v k) = node_at p at (expression (fixed_bit v k)) ∷ []
expression_nodes p at (chosen_bit v e) = node_at p at (expression (chosen_bit v e)) ∷ expression_nodes p (at + 4) e
expression_nodes p at (one op a) = node_at p at (expression (one op a)) ∷ expression_nodes p (at + 3) a
expression_nodes p at (two op a b) =
    node_at p at (expression (two op a b)) ∷ expression_nodes p (at + 3) a ++ expression_nodes p (at + 3 + length (expression_bytes a)) b

-- where a field ends that starts at `at` and has this payload
abbrev pub past : ℕ → List ℕ → ℕ
past at payload = at + 3 + length payload

unfoldable mutual
  pub statement_nodes : ℕ → ℕ → Statement → List (Placed Node)
  statement_nodes p at (assign kind v e) = node_at p at (statement (assign kind v e)) ∷ expression_nodes p (at + 4) e
  statement_nodes p at (assign_bit kind v k e) = node_at p at (statement (assign_bit kind v k e)) ∷ expression_nodes p (at + 5) e
  statement_nodes p at (if_else c a b) =
      let first : ℕ = at + 3 + length (expression_bytes c) in
      node_at p at (statement (if_else c a b)) ∷ expression_nodes p (at + 3) c ++ block_nodes p (first + 3) a ++ block_nodes p (past first (block_payload a) + 3) b
  statement_nodes p at (case e items) =
      node_at p at (statement (case e items)) ∷ expression_nodes p (at + 3) e ++ items_nodes p (at + 3 + length (expression_bytes e)) e items

  -- the statements of a block, from the place of its payload
  pub block_nodes : ℕ → ℕ → Block → List (Placed Node)
  block_nodes p at end = []
  block_nodes p at (s then b) = statement_nodes p at s ++ block_nodes p (at + length (statement_bytes s)) b

  -- an item, its constant, its block, and what follows
  pub items_nodes : ℕ → ℕ → Expression → Items → List (Placed Node)
  items_nodes p at e (default b) = block_nodes p (at + 3) b
  items_nodes p at e (item w v b items) =
      node_at p at (item_of e w) ∷ node_at p (at + 3) (expression (constant w v)) ∷ block_nodes p (at + 14) b ++ items_nodes p (past (at + 11) (block_payload b)) e items

-- processes, from number p on
unfoldable pub process_nodes : ℕ → ℕ → List Block → List (Placed Node)
process_nodes p at [] = []
process_nodes p at (b ∷ l) = node_at p at process ∷ block_nodes p (at + 3) b ++ process_nodes (p + 1) (at + length (process_bytes b)) l

unfoldable pub declaration_nodes : ℕ → List Declaration → List (Placed Node)
declaration_nodes at [] = []
declaration_nodes at (d ∷ l) = node_at 0 at (declaration d) ∷ declaration_nodes (at + length (declaration_bytes d)) l

-- the fields of a module whose payload starts at `at`
unfoldable pub module_nodes : ℕ → Module → List (Placed Node)
module_nodes at m =
    declaration_nodes at m.declarations ++ process_nodes 0 (at + length (all_bytes_of declaration_bytes m.declarations)) m.processes
