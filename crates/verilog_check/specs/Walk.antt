-- What a part of a file is refused for, by one walk over the bytes: each field by itself first, then those that it holds, in order.
-- `judge` tells what a field at a place is refused for, `width` gives an expression's width; the number d is how many levels may be opened.
use Rattle.std.specs.Prelude.{cond, List, [], ◌∷◌, ℕ, zero, suc, ◌+◌, get_or, drop}
use Rattle.tagged.specs.Sorts.{on_statement, on_expression, is_sort}
use Rattle.tagged.specs.Fields.{Placed, Field, fields_at}
use Rattle.tagged.specs.Refusals.{lower_refusal}
use Rattle.tagged.specs.declared.sorts.StatementSort.{StatementSort}
use Rattle.tagged.specs.declared.sorts.ExpressionSort.{ExpressionSort}
use Rattle.tagged.specs.declared.sorts.Sort.{Sort}
use Rattle.tagged.specs.Answers.{acceptance, Answer}
use Rattle.verilog.specs.Tree.{Expression, constant, Statement}
use Rattle.verilog.specs.Nodes.{What, process, expression, statement, item_of}
use Rattle.verilog.specs.Reading.{front_by, expression_with, expression_in, statement_with, block_in, item_in}

-- what a field is refused for by itself, and where: the field, its place
abbrev pub Judge : Type 0
Judge = What → ℕ → Answer

-- walks a field: its place, its sort, its payload
abbrev pub Walker : Type 0
Walker = ℕ → Sort → List ℕ → Answer

-- the fields of a list, one after the other
unfoldable pub walk_all : Walker → List (Placed Field) → Answer
walk_all walk [] = acceptance
walk_all walk (x ∷ l) = lower_refusal (walk x.place x.what.sort x.what.payload) (walk_all walk l)

-- how many bytes stand before an expression's operands, or a statement's first inner field
abbrev pub before_operands : ExpressionSort → ℕ
before_operands ExpressionSort.Constant = 5
before_operands ExpressionSort.Variable = 1
before_operands ExpressionSort.FixedBit = 2
before_operands ExpressionSort.ChosenBit = 1
before_operands (ExpressionSort.One op) = 0
before_operands (ExpressionSort.Two op) = 0

abbrev pub before_parts : StatementSort → ℕ
before_parts (StatementSort.Assign kind) = 1
before_parts (StatementSort.AssignBit kind) = 2
before_parts StatementSort.If = 0
before_parts StatementSort.Case = 0

-- an expression, then its operands
unfoldable pub walk_expression : Judge → ℕ → Walker
walk_expression judge zero at s l = acceptance
walk_expression judge (suc d) at s l =
    on_expression s
    (λ e. lower_refusal (judge (expression (expression_with (expression_in d) e l)) at)
    (walk_all (walk_expression judge d) (fields_at (at + 3 + before_operands e) (drop (before_operands e) l))))
    acceptance

-- the statement that is read from a payload where d levels may be opened
abbrev pub statement_of : ℕ → StatementSort → List ℕ → Statement
statement_of d t l = statement_with d (expression_in d) (block_in d) (item_in d) t l

-- what stands in a statement or an item is an expression, an item or a block; other sorts hold nothing to be refused
abbrev pub by_part : Sort → Answer → Answer → Answer → Answer
by_part (Sort.Expression e) in_expression in_item in_block = in_expression
by_part Sort.Item in_expression in_item in_block = in_item
by_part Sort.Block in_expression in_item in_block = in_block
by_part Sort.Module in_expression in_item in_block = acceptance
by_part (Sort.Declaration d) in_expression in_item in_block = acceptance
by_part Sort.Process in_expression in_item in_block = acceptance
by_part (Sort.Statement s) in_expression in_item in_block = acceptance
by_part (Sort.Cell c) in_expression in_item in_block = acceptance
by_part Sort.Drive in_expression in_item in_block = acceptance
by_part Sort.Netlist in_expression in_item in_block = acceptance
by_part Sort.Unknown in_expression in_item in_block = acceptance

-- the width that a statement's items are held against: its first expression's
abbrev pub selector_width : (Expression → ℕ) → ℕ → List ℕ → ℕ
selector_width width d l = width (expression_in d l)

-- an item by itself, and then what it holds; only the width of its case's selector counts
abbrev pub item_first : Judge → ℕ → ℕ → List ℕ → Answer → Answer
item_first judge w at l inner = lower_refusal (judge (item_of (constant w 0) (front_by (λ t p. get_or p 0 0) 0 l)) at) inner

unfoldable mutual
  -- a statement, then its expressions, items and blocks
  pub walk_statement : Judge → (Expression → ℕ) → ℕ → Walker
  walk_statement judge width zero at s l = acceptance
  walk_statement judge width (suc d) at s l =
      on_statement s
      (λ t. lower_refusal (judge (statement (statement_of d t l)) at)
      (walk_all (λ a u p. walk_part judge width d (selector_width width d l) a u p) (fields_at (at + 3 + before_parts t) (drop (before_parts t) l))))
      acceptance

  -- an expression, an item or a block, in a statement whose items are held against the width w
  pub walk_part : Judge → (Expression → ℕ) → ℕ → ℕ → Walker
  walk_part judge width zero w at s l = acceptance
  walk_part judge width (suc d) w at s l =
      by_part s (walk_expression judge (suc d) at s l)
      (item_first judge w at l (walk_all (λ a u p. walk_part judge width d w a u p) (fields_at (at + 3) l)))
      (walk_all (λ a u p. walk_statement judge width d a u p) (fields_at (at + 3) l))

-- an item, then its constant and its block
abbrev pub walk_item : Judge → (Expression → ℕ) → ℕ → ℕ → ℕ → List ℕ → Answer
walk_item judge width d w at l = item_first judge w at l (walk_all (walk_part judge width d w) (fields_at (at + 3) l))

-- a process, then its statements, which have 30 levels left
unfoldable pub walk_process : Judge → (Expression → ℕ) → Walker
walk_process judge width at s l =
    cond (is_sort Sort.Process s) (lower_refusal (judge process at) (walk_all (walk_statement judge width 30) (fields_at (at + 3) l))) acceptance

-- processes, from number p on
unfoldable pub walk_processes : (ℕ → Judge) → (Expression → ℕ) → ℕ → List (Placed Field) → Answer
walk_processes judge width p [] = acceptance
walk_processes judge width p (x ∷ l) =
    lower_refusal (walk_process (judge p) width x.place x.what.sort x.what.payload) (walk_processes judge width (p + 1) l)
