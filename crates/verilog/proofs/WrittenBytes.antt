-- What is written of a tree whose numbers fit their bytes is bytes; by the shape of the tree.
use mathlib.Core.List.{[], ◌∷◌, ◌++◌}
use Prim.Native.Nat.{ℕ, ◌<◌}
use lib.Dec.{lit<}
use Rattle.words.specs.declared.OneOperand.TheVariants as operand
use Rattle.words.specs.declared.TwoOperand.TheVariants as operands
use Rattle.tagged.specs.Bytes.{AllBytes, four_bytes}
use Rattle.tagged.specs.Sorts.{tag_of}
use Rattle.tagged.specs.Fields.{field_bytes, all_bytes_of}
use Rattle.tagged.specs.Declarations.{Declaration, input, register, declaration_bytes}
use Rattle.tagged.specs.declared.sorts.DeclarationSort.{DeclarationSort}
use Rattle.tagged.specs.declared.sorts.Kind.TheVariants as Kind
use Rattle.tagged.specs.declared.sorts.StatementSort.{StatementSort}
use Rattle.tagged.specs.declared.sorts.ExpressionSort.{ExpressionSort}
use Rattle.tagged.specs.declared.sorts.Sort.{Sort}
use Rattle.tagged.proofs.AllBytesLaws.{bytes_none, bytes_cons, bytes_append, four_bytes_lem, field_bytes_lem, all_bytes}
use Rattle.verilog.specs.Tree.{Expression, constant, variable, fixed_bit, chosen_bit, one, two, Statement, assign, assign_bit, if_else, case, Block, end, ◌then◌, Items, default, item, Module}
use Rattle.verilog.specs.Form.{expression_bytes, statement_bytes, block_payload, items_bytes, process_bytes, module_payload, module_bytes}
use Rattle.verilog.specs.Fits.{FitsExpression, FitsStatement, FitsBlock, FitsItems, FitsDeclaration, FitsModule}
use Rattle.verilog.proofs.AllLaws.{all_member}

-- tags are bytes
expression_tag_byte : (e : ExpressionSort) → tag_of (Sort.Expression e) < 256
unfolding tag_of
expression_tag_byte ExpressionSort.Constant = lit< tt
expression_tag_byte ExpressionSort.Variable = lit< tt
expression_tag_byte ExpressionSort.FixedBit = lit< tt
expression_tag_byte ExpressionSort.ChosenBit = lit< tt
expression_tag_byte (ExpressionSort.One operand.Not) = lit< tt
expression_tag_byte (ExpressionSort.One operand.Parity) = lit< tt
expression_tag_byte (ExpressionSort.Two operands.And) = lit< tt
expression_tag_byte (ExpressionSort.Two operands.Or) = lit< tt
expression_tag_byte (ExpressionSort.Two operands.Xor) = lit< tt
expression_tag_byte (ExpressionSort.Two operands.Add) = lit< tt
expression_tag_byte (ExpressionSort.Two operands.Equal) = lit< tt

statement_tag_byte : (s : StatementSort) → tag_of (Sort.Statement s) < 256
unfolding tag_of
statement_tag_byte (StatementSort.Assign Kind.Blocking) = lit< tt
statement_tag_byte (StatementSort.Assign Kind.NonBlocking) = lit< tt
statement_tag_byte (StatementSort.AssignBit Kind.Blocking) = lit< tt
statement_tag_byte (StatementSort.AssignBit Kind.NonBlocking) = lit< tt
statement_tag_byte StatementSort.If = lit< tt
statement_tag_byte StatementSort.Case = lit< tt

block_tag_byte : tag_of Sort.Block < 256
unfolding tag_of
block_tag_byte = lit< tt

item_tag_byte : tag_of Sort.Item < 256
unfolding tag_of
item_tag_byte = lit< tt

process_tag_byte : tag_of Sort.Process < 256
unfolding tag_of
process_tag_byte = lit< tt

module_tag_byte : tag_of Sort.Module < 256
unfolding tag_of
module_tag_byte = lit< tt

declaration_tag_byte : (d : DeclarationSort) → tag_of (Sort.Declaration d) < 256
unfolding tag_of
declaration_tag_byte DeclarationSort.Input = lit< tt
declaration_tag_byte DeclarationSort.Register = lit< tt

-- a constant, of an expression or of an item
constant_bytes_lem : (w v : ℕ) → w < 256 → AllBytes (field_bytes (tag_of (Sort.Expression ExpressionSort.Constant)) (w ∷ four_bytes v))
constant_bytes_lem w v h = field_bytes_lem _ (w ∷ four_bytes v) (expression_tag_byte ExpressionSort.Constant) (bytes_cons w (four_bytes v) h (four_bytes_lem v))

pub expression_bytes_lem : (e : Expression) → FitsExpression e → AllBytes (expression_bytes e)
unfolding FitsExpression expression_bytes
expression_bytes_lem (constant w v) fits = constant_bytes_lem w v fits.0
expression_bytes_lem (variable v) fits = field_bytes_lem _ (v ∷ []) (expression_tag_byte ExpressionSort.Variable) (bytes_cons v [] fits bytes_none)
expression_bytes_lem (fixed_bit v k) fits =
    field_bytes_lem _ (v ∷ k ∷ []) (expression_tag_byte ExpressionSort.FixedBit) (bytes_cons v (k ∷ []) fits.0 (bytes_cons k [] fits.1 bytes_none))
expression_bytes_lem (chosen_bit v e) fits =
    field_bytes_lem _ (v ∷ expression_bytes e) (expression_tag_byte ExpressionSort.ChosenBit) (bytes_cons v (expression_bytes e) fits.0 (expression_bytes_lem e fits.1))
expression_bytes_lem (one op a) fits = field_bytes_lem _ (expression_bytes a) (expression_tag_byte (ExpressionSort.One op)) (expression_bytes_lem a fits)
expression_bytes_lem (two op a b) fits =
    field_bytes_lem _ (expression_bytes a ++ expression_bytes b) (expression_tag_byte (ExpressionSort.Two op))
    (bytes_append (expression_bytes a) (expression_bytes b) (expression_bytes_lem a fits.0) (expression_bytes_lem b fits.1))

block_field : (b : Block) → AllBytes (block_payload b) → AllBytes (field_bytes (tag_of Sort.Block) (block_payload b))
block_field b h = field_bytes_lem _ (block_payload b) block_tag_byte h

mutual
  unfolding FitsStatement statement_bytes

  pub statement_bytes_lem : (s : Statement) → FitsStatement s → AllBytes (statement_bytes s)
  statement_bytes_lem (assign kind v e) fits =
      field_bytes_lem _ (v ∷ expression_bytes e) (statement_tag_byte (StatementSort.Assign kind)) (bytes_cons v (expression_bytes e) fits.0 (expression_bytes_lem e fits.1))
  statement_bytes_lem (assign_bit kind v k e) fits =
      field_bytes_lem _ (v ∷ k ∷ expression_bytes e) (statement_tag_byte (StatementSort.AssignBit kind))
      (bytes_cons v (k ∷ expression_bytes e) fits.0 (bytes_cons k (expression_bytes e) fits.1 (expression_bytes_lem e fits.2)))
  statement_bytes_lem (if_else c a b) fits =
      let first = field_bytes (tag_of Sort.Block) (block_payload a) in
      let second = field_bytes (tag_of Sort.Block) (block_payload b) in
      field_bytes_lem _ (expression_bytes c ++ first ++ second) (statement_tag_byte StatementSort.If)
      (bytes_append (expression_bytes c ++ first) second (bytes_append (expression_bytes c) first (expression_bytes_lem c fits.0) (block_field a (block_bytes_lem a fits.1)))
      (block_field b (block_bytes_lem b fits.2)))
  statement_bytes_lem (case e items) fits =
      field_bytes_lem _ (expression_bytes e ++ items_bytes items) (statement_tag_byte StatementSort.Case)
      (bytes_append (expression_bytes e) (items_bytes items) (expression_bytes_lem e fits.0) (items_bytes_lem items fits.1))

  pub block_bytes_lem : (b : Block) → FitsBlock b → AllBytes (block_payload b)
  block_bytes_lem end fits = bytes_none
  block_bytes_lem (s then b) fits = bytes_append (statement_bytes s) (block_payload b) (statement_bytes_lem s fits.0) (block_bytes_lem b fits.1)

  pub items_bytes_lem : (items : Items) → FitsItems items → AllBytes (items_bytes items)
  items_bytes_lem (default b) fits = block_field b (block_bytes_lem b fits)
  items_bytes_lem (item w v b items) fits =
      let first = field_bytes (tag_of (Sort.Expression ExpressionSort.Constant)) (w ∷ four_bytes v) in
      let second = field_bytes (tag_of Sort.Block) (block_payload b) in
      bytes_append (field_bytes (tag_of Sort.Item) (first ++ second)) (items_bytes items)
      (field_bytes_lem _ (first ++ second) item_tag_byte (bytes_append first second (constant_bytes_lem w v fits.0) (block_field b (block_bytes_lem b fits.2))))
      (items_bytes_lem items fits.3)

declaration_bytes_lem : (d : Declaration) → FitsDeclaration d → AllBytes (declaration_bytes d)
unfolding FitsDeclaration declaration_bytes
declaration_bytes_lem (input w name) fits = field_bytes_lem _ (w ∷ name) (declaration_tag_byte DeclarationSort.Input) (bytes_cons w name fits.0 fits.2)
declaration_bytes_lem (register w v name) fits =
    field_bytes_lem _ (w ∷ four_bytes v ++ name) (declaration_tag_byte DeclarationSort.Register)
    (bytes_append (w ∷ four_bytes v) name (bytes_cons w (four_bytes v) fits.0 (four_bytes_lem v)) fits.2)

process_bytes_lem : (b : Block) → FitsBlock b → AllBytes (process_bytes b)
unfolding process_bytes
process_bytes_lem b fits = field_bytes_lem _ (block_payload b) process_tag_byte (block_bytes_lem b fits)

-- the encoding of a module within the limits is bytes
pub written_bytes : (m : Module) → FitsModule m → AllBytes (module_bytes m)
unfolding module_bytes module_payload
written_bytes m fits =
    field_bytes_lem (tag_of Sort.Module) (module_payload m) module_tag_byte
    (bytes_append (all_bytes_of declaration_bytes m.declarations) (all_bytes_of process_bytes m.processes)
    (all_bytes declaration_bytes m.declarations (λ d i. declaration_bytes_lem d (all_member FitsDeclaration d fits.declarations i)))
    (all_bytes process_bytes m.processes (λ b i. process_bytes_lem b (all_member FitsBlock b fits.processes i))))
