-- The module's bytes, and refusal 2, the first fault met in reading them from left to right.
use Rattle.tagged.specs.Answers.{fault_at}
use Rattle.std.specs.Prelude.{Err, cond, List, [], ◌∷◌, ◌++◌, ℕ, zero, suc, ◌+◌}
use Rattle.tagged.specs.Limits.{deepest}
use Rattle.tagged.specs.Bytes.{four_bytes}
use Rattle.tagged.specs.Sorts.{tag_of, on_statement, on_expression, is_sort}
use Rattle.tagged.specs.Fields.{Judge, Stepper, Body, field_bytes, all_bytes_of, field_by, then_by, fixed_then, ended, many, until_end, Step}
use Rattle.tagged.specs.Declarations.{declaration_bytes, declarations_step}
use Rattle.tagged.specs.declared.sorts.StatementSort.{StatementSort}
use Rattle.tagged.specs.declared.sorts.ExpressionSort.{ExpressionSort}
use Rattle.tagged.specs.declared.sorts.Sort.{Sort}
use Rattle.verilog.specs.Tree.{Expression, constant, variable, fixed_bit, chosen_bit, one, two, Statement, assign, assign_bit, if_else, case, Block, end, ◌then◌, Items, default, item, Module}

-- how it is written

abbrev pub expression_field : ExpressionSort → List ℕ → List ℕ
expression_field s = field_bytes (tag_of (Sort.Expression s))

unfoldable pub expression_bytes : Expression → List ℕ
expression_bytes (constant w v) = expression_field ExpressionSort.Constant (w ∷ four_bytes v)
expression_bytes (variable v) = expression_field ExpressionSort.Variable (v ∷ [])
expression_bytes (fixed_bit v k) = expression_field ExpressionSort.FixedBit (v ∷ k ∷ [])
expression_bytes (chosen_bit v e) = expression_field ExpressionSort.ChosenBit (v ∷ expression_bytes e)
expression_bytes (one op a) = expression_field (ExpressionSort.One op) (expression_bytes a)
expression_bytes (two op a b) = expression_field (ExpressionSort.Two op) (expression_bytes a ++ expression_bytes b)

abbrev pub statement_field : StatementSort → List ℕ → List ℕ
statement_field s = field_bytes (tag_of (Sort.Statement s))

unfoldable mutual
  pub statement_bytes : Statement → List ℕ
  statement_bytes (assign kind v e) = statement_field (StatementSort.Assign kind) (v ∷ expression_bytes e)
  statement_bytes (assign_bit kind v k e) = statement_field (StatementSort.AssignBit kind) (v ∷ k ∷ expression_bytes e)
  statement_bytes (if_else c a b) =
      statement_field StatementSort.If (expression_bytes c ++ field_bytes (tag_of Sort.Block) (block_payload a) ++ field_bytes (tag_of Sort.Block) (block_payload b))
  statement_bytes (case e items) = statement_field StatementSort.Case (expression_bytes e ++ items_bytes items)

  -- statements, maybe none
  pub block_payload : Block → List ℕ
  block_payload end = []
  block_payload (s then b) = statement_bytes s ++ block_payload b

  -- items, then one block (default)
  pub items_bytes : Items → List ℕ
  items_bytes (default b) = field_bytes (tag_of Sort.Block) (block_payload b)
  items_bytes (item w v b items) =
      field_bytes (tag_of Sort.Item) (expression_field ExpressionSort.Constant (w ∷ four_bytes v) ++ field_bytes (tag_of Sort.Block) (block_payload b)) ++ items_bytes items

unfoldable pub block_bytes : Block → List ℕ
block_bytes b = field_bytes (tag_of Sort.Block) (block_payload b)

unfoldable pub process_bytes : Block → List ℕ
process_bytes b = field_bytes (tag_of Sort.Process) (block_payload b)

unfoldable pub module_payload : Module → List ℕ
module_payload m = all_bytes_of declaration_bytes m.declarations ++ all_bytes_of process_bytes m.processes

unfoldable pub module_bytes : Module → List ℕ
module_bytes m = field_bytes (tag_of Sort.Module) (module_payload m)

-- refusal 2; the first argument of what recurses is how many levels of fields may still be opened

-- a field where none may be opened any more, or of a wrong tag
abbrev pub too_deep : Body
too_deep at s l = Err (fault_at at)

-- what an expression's payload holds; `inner` judges an inner expression
abbrev pub expression_parts : Stepper → ExpressionSort → Judge
expression_parts inner ExpressionSort.Constant = fixed_then 5 ended
expression_parts inner ExpressionSort.Variable = fixed_then 1 ended
expression_parts inner ExpressionSort.FixedBit = fixed_then 2 ended
expression_parts inner ExpressionSort.ChosenBit = fixed_then 1 (then_by inner ended)
expression_parts inner (ExpressionSort.One op) = then_by inner ended
expression_parts inner (ExpressionSort.Two op) = then_by inner (then_by inner ended)

abbrev pub expression_of : Stepper → Body
expression_of inner at s l = on_expression s (λ e. expression_parts inner e (at + 3) at l) (Err (fault_at at))

unfoldable pub expression_body : ℕ → Body
expression_body zero = too_deep
expression_body (suc d) = expression_of (field_by (expression_body d))

-- an item's constant
abbrev pub constant_of : Body
constant_of at s l = cond (is_sort (Sort.Expression ExpressionSort.Constant) s) (fixed_then 5 ended (at + 3) at l) (Err (fault_at at))

unfoldable pub constant_body : ℕ → Body
constant_body zero = too_deep
constant_body (suc d) = constant_of

-- what a statement's payload holds; `e` judges an inner expression, `b` a block, `i` an item
abbrev pub statement_parts : Stepper → Stepper → Stepper → StatementSort → Judge
statement_parts e b i (StatementSort.Assign kind) = fixed_then 1 (then_by e ended)
statement_parts e b i (StatementSort.AssignBit kind) = fixed_then 2 (then_by e ended)
statement_parts e b i StatementSort.If = then_by e (then_by b (then_by b ended))
statement_parts e b i StatementSort.Case = then_by e (then_by (many (is_sort Sort.Item) i) (then_by b ended))

abbrev pub statement_of : Stepper → Stepper → Stepper → Body
statement_of e b i at s l = on_statement s (λ t. statement_parts e b i t (at + 3) at l) (Err (fault_at at))

-- a block's payload is statements until the end
abbrev pub block_of : Stepper → Body
block_of inner at s l = cond (is_sort Sort.Block s) (until_end inner (at + 3) at l) (Err (fault_at at))

-- an item's is a constant and a block
abbrev pub item_of : Stepper → Stepper → Body
item_of c b at s l = cond (is_sort Sort.Item s) (then_by c (then_by b ended) (at + 3) at l) (Err (fault_at at))

unfoldable mutual
  pub statement_body : ℕ → Body
  statement_body zero = too_deep
  statement_body (suc d) = statement_of (field_by (expression_body d)) (field_by (block_body d)) (field_by (item_body d))

  pub block_body : ℕ → Body
  block_body zero = too_deep
  block_body (suc d) = block_of (field_by (statement_body d))

  pub item_body : ℕ → Body
  item_body zero = too_deep
  item_body (suc d) = item_of (field_by (constant_body d)) (field_by (block_body d))

-- a process's payload is statements until the end
abbrev pub process_of : Stepper → Body
process_of inner at s l = cond (is_sort Sort.Process s) (until_end inner (at + 3) at l) (Err (fault_at at))

-- the outer field has depth 1, a process 2, its statements 3
abbrev pub process_body : ℕ → Body
process_body zero = too_deep
process_body (suc d) = process_of (field_by (statement_body d))

-- declarations, then processes
abbrev pub module_of : Stepper → Body
module_of p at s l = cond (is_sort Sort.Module s) (then_by declarations_step (until_end p) (at + 3) at l) (Err (fault_at at))

abbrev pub module_body : ℕ → Body
module_body zero = too_deep
module_body (suc d) = module_of (field_by (process_body d))

-- the first fault of a file to which refusal 1 does not apply
unfoldable pub module_form : List ℕ → Step
module_form file = field_by (module_body deepest) 0 0 file
