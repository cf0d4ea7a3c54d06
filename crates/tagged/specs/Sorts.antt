-- The table of tags: what sort of field each tag begins, and back.
use Rattle.std.specs.Prelude.{ℕ, Bool, true, false, cond, eqb}
use Rattle.tagged.specs.Choice.{in_range}
use Rattle.words.specs.declared.OneOperand.TheVariants as one
use Rattle.words.specs.declared.TwoOperand.TheVariants as two
use Rattle.tagged.specs.declared.sorts.DeclarationSort.{DeclarationSort}
use Rattle.tagged.specs.declared.sorts.Kind.{Kind}
use Rattle.tagged.specs.declared.sorts.StatementSort.{StatementSort}
use Rattle.tagged.specs.declared.sorts.ExpressionSort.{ExpressionSort}
use Rattle.tagged.specs.declared.sorts.CellSort.{CellSort}
use Rattle.tagged.specs.declared.sorts.Sort.{Sort}

-- which declaration, within 02 and 03
unfoldable pub declaration_sort : ℕ → DeclarationSort
declaration_sort t = cond (eqb t 0x02) DeclarationSort.Input DeclarationSort.Register

-- which statement, within 10 to 15
unfoldable pub statement_sort : ℕ → StatementSort
statement_sort t =
    cond (eqb t 0x10) (StatementSort.Assign Kind.Blocking)
    (cond (eqb t 0x11) (StatementSort.Assign Kind.NonBlocking)
    (cond (eqb t 0x12) (StatementSort.AssignBit Kind.Blocking)
    (cond (eqb t 0x13) (StatementSort.AssignBit Kind.NonBlocking)
    (cond (eqb t 0x14) StatementSort.If StatementSort.Case))))

-- which expression, within 20 to 2A
unfoldable pub expression_sort : ℕ → ExpressionSort
expression_sort t =
    cond (eqb t 0x20) ExpressionSort.Constant
    (cond (eqb t 0x21) ExpressionSort.Variable
    (cond (eqb t 0x22) ExpressionSort.FixedBit
    (cond (eqb t 0x23) ExpressionSort.ChosenBit
    (cond (eqb t 0x24) (ExpressionSort.One one.Not)
    (cond (eqb t 0x25) (ExpressionSort.Two two.And)
    (cond (eqb t 0x26) (ExpressionSort.Two two.Or)
    (cond (eqb t 0x27) (ExpressionSort.Two two.Xor)
    (cond (eqb t 0x28) (ExpressionSort.Two two.Add)
    (cond (eqb t 0x29) (ExpressionSort.Two two.Equal) (ExpressionSort.One one.Parity))))))))))

-- which cell, within 30 to 3A
unfoldable pub cell_sort : ℕ → CellSort
cell_sort t =
    cond (eqb t 0x30) (CellSort.One one.Not)
    (cond (eqb t 0x31) (CellSort.Two two.And)
    (cond (eqb t 0x32) (CellSort.Two two.Or)
    (cond (eqb t 0x33) (CellSort.Two two.Xor)
    (cond (eqb t 0x34) (CellSort.Two two.Add)
    (cond (eqb t 0x35) (CellSort.Two two.Equal)
    (cond (eqb t 0x36) CellSort.Mux
    (cond (eqb t 0x37) CellSort.Put
    (cond (eqb t 0x38) CellSort.FixedBit
    (cond (eqb t 0x39) CellSort.ChosenBit (CellSort.One one.Parity))))))))))

-- the sort of field that a tag begins; every tag that the table does not have is unknown
unfoldable pub sort_of : ℕ → Sort
sort_of t =
    cond (in_range 0x01 0x01 t) Sort.Module
    (cond (in_range 0x02 0x03 t) (Sort.Declaration (declaration_sort t))
    (cond (in_range 0x04 0x04 t) Sort.Process
    (cond (in_range 0x10 0x15 t) (Sort.Statement (statement_sort t))
    (cond (in_range 0x16 0x16 t) Sort.Item
    (cond (in_range 0x17 0x17 t) Sort.Block
    (cond (in_range 0x20 0x2A t) (Sort.Expression (expression_sort t))
    (cond (in_range 0x30 0x3A t) (Sort.Cell (cell_sort t))
    (cond (in_range 0x40 0x40 t) Sort.Drive
    (cond (in_range 0x81 0x81 t) Sort.Netlist Sort.Unknown)))))))))

-- the tag of a declaration
abbrev pub declaration_tag : DeclarationSort → ℕ
declaration_tag DeclarationSort.Input = 0x02
declaration_tag DeclarationSort.Register = 0x03

-- the tag of a statement
abbrev pub statement_tag : StatementSort → ℕ
statement_tag (StatementSort.Assign Kind.Blocking) = 0x10
statement_tag (StatementSort.Assign Kind.NonBlocking) = 0x11
statement_tag (StatementSort.AssignBit Kind.Blocking) = 0x12
statement_tag (StatementSort.AssignBit Kind.NonBlocking) = 0x13
statement_tag StatementSort.If = 0x14
statement_tag StatementSort.Case = 0x15

-- the tag of an expression
abbrev pub expression_tag : ExpressionSort → ℕ
expression_tag ExpressionSort.Constant = 0x20
expression_tag ExpressionSort.Variable = 0x21
expression_tag ExpressionSort.FixedBit = 0x22
expression_tag ExpressionSort.ChosenBit = 0x23
expression_tag (ExpressionSort.One one.Not) = 0x24
expression_tag (ExpressionSort.One one.Parity) = 0x2A
expression_tag (ExpressionSort.Two two.And) = 0x25
expression_tag (ExpressionSort.Two two.Or) = 0x26
expression_tag (ExpressionSort.Two two.Xor) = 0x27
expression_tag (ExpressionSort.Two two.Add) = 0x28
expression_tag (ExpressionSort.Two two.Equal) = 0x29

-- the tag of a cell
abbrev pub cell_tag : CellSort → ℕ
cell_tag (CellSort.One one.Not) = 0x30
cell_tag (CellSort.One one.Parity) = 0x3A
cell_tag (CellSort.Two two.And) = 0x31
cell_tag (CellSort.Two two.Or) = 0x32
cell_tag (CellSort.Two two.Xor) = 0x33
cell_tag (CellSort.Two two.Add) = 0x34
cell_tag (CellSort.Two two.Equal) = 0x35
cell_tag CellSort.Mux = 0x36
cell_tag CellSort.Put = 0x37
cell_tag CellSort.FixedBit = 0x38
cell_tag CellSort.ChosenBit = 0x39

-- the tag of a sort; 0, which begins no field, for unknown
unfoldable pub tag_of : Sort → ℕ
tag_of Sort.Module = 0x01
tag_of (Sort.Declaration d) = declaration_tag d
tag_of Sort.Process = 0x04
tag_of (Sort.Statement s) = statement_tag s
tag_of Sort.Item = 0x16
tag_of Sort.Block = 0x17
tag_of (Sort.Expression e) = expression_tag e
tag_of (Sort.Cell c) = cell_tag c
tag_of Sort.Drive = 0x40
tag_of Sort.Netlist = 0x81
tag_of Sort.Unknown = 0x00

-- f of the declaration's sort, or the other value for a field of another sort
abbrev pub on_declaration {ℓ} : {A : Type ℓ} → Sort → (DeclarationSort → A) → A → A
on_declaration (Sort.Declaration d) f other = f d
on_declaration Sort.Module f other = other
on_declaration Sort.Process f other = other
on_declaration (Sort.Statement s) f other = other
on_declaration Sort.Item f other = other
on_declaration Sort.Block f other = other
on_declaration (Sort.Expression e) f other = other
on_declaration (Sort.Cell c) f other = other
on_declaration Sort.Drive f other = other
on_declaration Sort.Netlist f other = other
on_declaration Sort.Unknown f other = other

-- the field is a declaration
abbrev pub is_declaration : Sort → Bool
is_declaration s = on_declaration s (λ d. true) false

-- f of the statement's sort, or the other value for a field of another sort
abbrev pub on_statement {ℓ} : {A : Type ℓ} → Sort → (StatementSort → A) → A → A
on_statement (Sort.Statement s) f other = f s
on_statement Sort.Module f other = other
on_statement (Sort.Declaration d) f other = other
on_statement Sort.Process f other = other
on_statement Sort.Item f other = other
on_statement Sort.Block f other = other
on_statement (Sort.Expression e) f other = other
on_statement (Sort.Cell c) f other = other
on_statement Sort.Drive f other = other
on_statement Sort.Netlist f other = other
on_statement Sort.Unknown f other = other

-- the field is a statement
abbrev pub is_statement : Sort → Bool
is_statement s = on_statement s (λ x. true) false

-- f of the expression's sort, or the other value for a field of another sort
abbrev pub on_expression {ℓ} : {A : Type ℓ} → Sort → (ExpressionSort → A) → A → A
on_expression (Sort.Expression e) f other = f e
on_expression Sort.Module f other = other
on_expression (Sort.Declaration d) f other = other
on_expression Sort.Process f other = other
on_expression (Sort.Statement s) f other = other
on_expression Sort.Item f other = other
on_expression Sort.Block f other = other
on_expression (Sort.Cell c) f other = other
on_expression Sort.Drive f other = other
on_expression Sort.Netlist f other = other
on_expression Sort.Unknown f other = other

-- the field is an expression
abbrev pub is_expression : Sort → Bool
is_expression s = on_expression s (λ x. true) false

-- f of the cell's sort, or the other value for a field of another sort
abbrev pub on_cell {ℓ} : {A : Type ℓ} → Sort → (CellSort → A) → A → A
on_cell (Sort.Cell c) f other = f c
on_cell Sort.Module f other = other
on_cell (Sort.Declaration d) f other = other
on_cell Sort.Process f other = other
on_cell (Sort.Statement s) f other = other
on_cell Sort.Item f other = other
on_cell Sort.Block f other = other
on_cell (Sort.Expression e) f other = other
on_cell Sort.Drive f other = other
on_cell Sort.Netlist f other = other
on_cell Sort.Unknown f other = other

-- the field is a cell
abbrev pub is_cell : Sort → Bool
is_cell s = on_cell s (λ x. true) false

-- the two sorts are the same, by their tags
abbrev pub is_sort : Sort → Sort → Bool
is_sort a b = eqb (tag_of a) (tag_of b)
