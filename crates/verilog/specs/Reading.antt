-- The tree that is read from bytes, by total functions: what is malformed is a constant of width 0, the end of a block, or an empty default.
-- The first argument of what recurses is how many levels of fields may still be opened.
use Rattle.std.specs.Prelude.{cond, List, [], ◌∷◌, ℕ, zero, suc, ◌+◌, get_or, take, drop}
use Rattle.tagged.specs.Bytes.{four_of}
use Rattle.tagged.specs.Sorts.{on_statement, on_expression, is_statement, is_sort}
use Rattle.tagged.specs.Fields.{open_of, on_field, field_by, many, passed_bytes, read_placed, unplaced}
use Rattle.tagged.specs.Declarations.{declarations_in, after_declarations}
use Rattle.tagged.specs.declared.sorts.StatementSort.{StatementSort}
use Rattle.tagged.specs.declared.sorts.ExpressionSort.{ExpressionSort}
use Rattle.tagged.specs.declared.sorts.Sort.{Sort}
use Rattle.verilog.specs.Form.{item_body}
use Rattle.verilog.specs.Tree.{Expression, constant, variable, fixed_bit, chosen_bit, one, two, Statement, assign, assign_bit, if_else, case, Block, end, ◌then◌, Items, default, item, Module}

-- what stands for an expression that is not there
abbrev pub no_expression : Expression
no_expression = constant 0 0

-- the field at the front, by its sort and payload; `none` where no whole field stands
abbrev pub front_by : {A : Type 0} → (Sort → List ℕ → A) → A → List ℕ → A
front_by read none l = on_field (open_of 0 0 l) (λ s n. read s (take n (drop 3 l))) none

-- what follows the field at the front
abbrev pub after_front : List ℕ → List ℕ
after_front l = on_field (open_of 0 0 l) (λ s n. drop (n + 3) l) []

-- by what stands next in a case: an item, the default block, or what ends it
abbrev pub by_branch : {A : Type 0} → Sort → A → A → A → A
by_branch Sort.Item for_item for_block otherwise = for_item
by_branch Sort.Block for_item for_block otherwise = for_block
by_branch (Sort.Expression e) for_item for_block otherwise = otherwise
by_branch Sort.Module for_item for_block otherwise = otherwise
by_branch (Sort.Declaration d) for_item for_block otherwise = otherwise
by_branch Sort.Process for_item for_block otherwise = otherwise
by_branch (Sort.Statement s) for_item for_block otherwise = otherwise
by_branch (Sort.Cell c) for_item for_block otherwise = otherwise
by_branch Sort.Drive for_item for_block otherwise = otherwise
by_branch Sort.Netlist for_item for_block otherwise = otherwise
by_branch Sort.Unknown for_item for_block otherwise = otherwise

-- an expression by its sort and payload; `inner` reads the inner expression at the front
abbrev pub expression_with : (List ℕ → Expression) → ExpressionSort → List ℕ → Expression
expression_with inner ExpressionSort.Constant l = constant (get_or l 0 0) (four_of (drop 1 l))
expression_with inner ExpressionSort.Variable l = variable (get_or l 0 0)
expression_with inner ExpressionSort.FixedBit l = fixed_bit (get_or l 0 0) (get_or l 1 0)
expression_with inner ExpressionSort.ChosenBit l = chosen_bit (get_or l 0 0) (inner (drop 1 l))
expression_with inner (ExpressionSort.One op) l = one op (inner l)
expression_with inner (ExpressionSort.Two op) l = two op (inner l) (inner (after_front l))

-- the expression at the front
unfoldable pub expression_in : ℕ → List ℕ → Expression
expression_in zero l = no_expression
expression_in (suc d) l = front_by (λ s p. on_expression s (λ e. expression_with (expression_in d) e p) no_expression) no_expression l

-- statements, from what was read of each
abbrev pub block_from : List Statement → Block
block_from [] = end
block_from (s ∷ l) = s then block_from l

-- an item that was read: its constant's width and value, and its block
pub record ReadItem : Type 0 where
  pub width : ℕ
  pub value : ℕ
  pub block : Block

abbrev pub items_from : List ReadItem → Block → Items
items_from [] b = default b
items_from (i ∷ l) b = item i.width i.value i.block (items_from l b)

-- the block at the front; `payload` reads a block's payload
abbrev pub block_front : (List ℕ → Block) → List ℕ → Block
block_front payload l = front_by (λ s p. cond (is_sort Sort.Block s) (payload p) end) end l

-- what follows the items at the front
abbrev pub after_items : ℕ → List ℕ → List ℕ
after_items d l = drop (passed_bytes (many (is_sort Sort.Item) (field_by (item_body d)) 0 0 l)) l

-- a statement by its sort and payload; `e` reads the expression at the front, `b` a block's payload, `i` an item, and d levels may be opened
abbrev pub statement_with : ℕ → (List ℕ → Expression) → (List ℕ → Block) → (Sort → List ℕ → ReadItem) → StatementSort → List ℕ → Statement
statement_with d e b i (StatementSort.Assign kind) l = assign kind (get_or l 0 0) (e (drop 1 l))
statement_with d e b i (StatementSort.AssignBit kind) l = assign_bit kind (get_or l 0 0) (get_or l 1 0) (e (drop 2 l))
statement_with d e b i StatementSort.If l = if_else (e l) (block_front b (after_front l)) (block_front b (after_front (after_front l)))
statement_with d e b i StatementSort.Case l =
    case (e l) (items_from (unplaced (read_placed (is_sort Sort.Item) i 0 (after_front l))) (block_front b (after_items d (after_front l))))

-- what stands for a statement that is not there
abbrev pub no_statement : Statement
no_statement = if_else no_expression end end

unfoldable mutual
  -- a statement by its sort and payload
  pub statement_in : ℕ → Sort → List ℕ → Statement
  statement_in zero s l = no_statement
  statement_in (suc d) s l = on_statement s (λ t. statement_with d (expression_in d) (λ p. block_in d p) (λ u p. item_in d u p) t l) no_statement

  -- the statements in a block's or a process's payload
  pub block_in : ℕ → List ℕ → Block
  block_in zero l = end
  block_in (suc d) l = block_from (unplaced (read_placed is_statement (λ s p. statement_in d s p) 0 l))

  -- an item: a constant and a block
  pub item_in : ℕ → Sort → List ℕ → ReadItem
  item_in zero s l = record { width = 0; value = 0; block = end }
  item_in (suc d) s l = record {
    width = front_by (λ t p. get_or p 0 0) 0 l;
    value = front_by (λ t p. four_of (drop 1 p)) 0 l;
    block = block_front (λ p. block_in d p) (after_front l);
  }

-- the module in an outer payload; a process's statements have 31 levels left, itself counted
unfoldable pub tree_in : List ℕ → Module
tree_in l = record {
  declarations = declarations_in l;
  processes = unplaced (read_placed (is_sort Sort.Process) (λ s p. block_in 31 p) 0 (after_declarations l));
}

-- the module of a file
abbrev pub module_in : List ℕ → Module
module_in file = tree_in (drop 3 file)
