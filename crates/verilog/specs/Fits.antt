-- What the tagged form leaves room for: numbers that fit their bytes, and how deep fields stand in fields.
use Rattle.std.specs.Prelude.{List, [], ◌∷◌, ℕ, suc, ◌^◌, ◌≤◌, ◌<◌, max, length}
use Rattle.tagged.specs.Bytes.{AllBytes}
use Rattle.tagged.specs.Limits.{deepest, longest_module}
use Rattle.tagged.specs.Declarations.{Declaration, width_of, name_of, initial_of}
use Rattle.verilog.specs.Tree.{Expression, constant, variable, fixed_bit, chosen_bit, one, two, Statement, assign, assign_bit, if_else, case, Block, end, ◌then◌, Items, default, item, Module}
use Rattle.verilog.specs.Form.{module_bytes}

-- a number in one byte: a width, a variable's number, a bit's number
abbrev pub FitsOne : ℕ → Type 0
FitsOne n = n < 256

-- a number in four bytes: a value
abbrev pub FitsFour : ℕ → Type 0
FitsFour n = n < 2 ^ 32

-- the most bytes that a field can have: its tag, its length, and 65,535 bytes of payload
abbrev pub longest_field : ℕ
longest_field = 65538

-- numbers that fit their bytes

unfoldable pub FitsExpression : Expression → Type 0
FitsExpression (constant w v) = FitsOne w × FitsFour v
FitsExpression (variable v) = FitsOne v
FitsExpression (fixed_bit v k) = FitsOne v × FitsOne k
FitsExpression (chosen_bit v e) = FitsOne v × FitsExpression e
FitsExpression (one op a) = FitsExpression a
FitsExpression (two op a b) = FitsExpression a × FitsExpression b

unfoldable mutual
  pub FitsStatement : Statement → Type 0
  FitsStatement (assign kind v e) = FitsOne v × FitsExpression e
  FitsStatement (assign_bit kind v k e) = FitsOne v × FitsOne k × FitsExpression e
  FitsStatement (if_else c a b) = FitsExpression c × FitsBlock a × FitsBlock b
  FitsStatement (case e items) = FitsExpression e × FitsItems items

  pub FitsBlock : Block → Type 0
  FitsBlock end = Unit
  FitsBlock (s then b) = FitsStatement s × FitsBlock b

  pub FitsItems : Items → Type 0
  FitsItems (default b) = FitsBlock b
  FitsItems (item w v b items) = FitsOne w × FitsFour v × FitsBlock b × FitsItems items

unfoldable pub FitsDeclaration : Declaration → Type 0
FitsDeclaration d = FitsOne (width_of d) × FitsFour (initial_of d) × AllBytes (name_of d)

-- every element of a list
unfoldable pub All : {A : Type 0} → (A → Type 0) → List A → Type 0
All P [] = Unit
All P (a ∷ l) = P a × All P l

-- how deep fields stand in fields: a field that holds none has depth 1

unfoldable pub expression_depth : Expression → ℕ
expression_depth (constant w v) = 1
expression_depth (variable v) = 1
expression_depth (fixed_bit v k) = 1
expression_depth (chosen_bit v e) = suc (expression_depth e)
expression_depth (one op a) = suc (expression_depth a)
expression_depth (two op a b) = suc (max (expression_depth a) (expression_depth b))

unfoldable mutual
  pub statement_depth : Statement → ℕ
  statement_depth (assign kind v e) = suc (expression_depth e)
  statement_depth (assign_bit kind v k e) = suc (expression_depth e)
  statement_depth (if_else c a b) = suc (max (expression_depth c) (max (suc (statements_depth a)) (suc (statements_depth b))))
  statement_depth (case e items) = suc (max (expression_depth e) (items_depth items))

  -- of the statements in a block or in a process, whose own field is one level more
  pub statements_depth : Block → ℕ
  statements_depth end = 0
  statements_depth (s then b) = max (statement_depth s) (statements_depth b)

  -- an item holds a constant and a block, which is never less deep than the constant
  pub items_depth : Items → ℕ
  items_depth (default b) = suc (statements_depth b)
  items_depth (item w v b items) = max (suc (suc (statements_depth b))) (items_depth items)

-- a declaration holds no field
unfoldable pub declarations_depth : List Declaration → ℕ
declarations_depth [] = 0
declarations_depth (d ∷ l) = 1

unfoldable pub processes_depth : List Block → ℕ
processes_depth [] = 0
processes_depth (b ∷ l) = max (suc (statements_depth b)) (processes_depth l)

-- the outer field has depth 1
unfoldable pub module_depth : Module → ℕ
module_depth m = suc (max (declarations_depth m.declarations) (processes_depth m.processes))

-- a module within the limits of its tagged form
pub record FitsModule (m : Module) : Type 0 where
  pub declarations : All FitsDeclaration m.declarations
  pub processes : All FitsBlock m.processes
  pub deep : module_depth m ≤ deepest
  pub long : length (module_bytes m) ≤ longest_module
