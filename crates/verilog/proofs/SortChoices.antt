-- Laws of choosing by a sort: the sort that a test names, and that every sort that is asked for has a tag.
use Rattle.std.specs.Prelude.{Err}
use mathlib.Core.Path.{◌≡◌, refl, sym}
use mathlib.Core.Bool.{true≢false}
use Prim.Native.Nat.{ℕ}
use native.Mathlib.Omega.{arith}
use Rattle.words.specs.declared.OneOperand.TheVariants as one
use Rattle.words.specs.declared.TwoOperand.TheVariants as two
use Rattle.tagged.specs.declared.answers.Fault.{Fault}
use Rattle.tagged.specs.Sorts.{tag_of, expression_tag, statement_tag, on_expression, on_statement, is_expression, is_statement, is_sort}
use Rattle.tagged.specs.declared.sorts.Kind.TheVariants as Kind
use Rattle.tagged.specs.declared.sorts.StatementSort.{StatementSort}
use Rattle.tagged.specs.declared.sorts.ExpressionSort.{ExpressionSort}
use Rattle.tagged.specs.declared.sorts.Sort.{Sort}
use Rattle.tagged.specs.Fields.{faultless, Judged}
use Rattle.tagged.proofs.RunLaws.{Known, sort_known}

-- one sort
pub item_known : Known (is_sort Sort.Item)
unfolding tag_of
item_known = sort_known Sort.Item (λ e. omega arith)

pub block_known : Known (is_sort Sort.Block)
unfolding tag_of
block_known = sort_known Sort.Block (λ e. omega arith)

pub process_known : Known (is_sort Sort.Process)
unfolding tag_of
process_known = sort_known Sort.Process (λ e. omega arith)

pub constant_known : Known (is_sort (Sort.Expression ExpressionSort.Constant))
unfolding tag_of
constant_known = sort_known (Sort.Expression ExpressionSort.Constant) (λ e. omega arith)

-- expressions
expression_tag_lem : (e : ExpressionSort) → expression_tag e ≡ 0 → ⊥
expression_tag_lem ExpressionSort.Constant z = omega arith
expression_tag_lem ExpressionSort.Variable z = omega arith
expression_tag_lem ExpressionSort.FixedBit z = omega arith
expression_tag_lem ExpressionSort.ChosenBit z = omega arith
expression_tag_lem (ExpressionSort.One one.Not) z = omega arith
expression_tag_lem (ExpressionSort.One one.Parity) z = omega arith
expression_tag_lem (ExpressionSort.Two two.And) z = omega arith
expression_tag_lem (ExpressionSort.Two two.Or) z = omega arith
expression_tag_lem (ExpressionSort.Two two.Xor) z = omega arith
expression_tag_lem (ExpressionSort.Two two.Add) z = omega arith
expression_tag_lem (ExpressionSort.Two two.Equal) z = omega arith

pub expression_known : Known is_expression
unfolding tag_of
expression_known Sort.Module is z = true≢false (sym is)
expression_known (Sort.Declaration d) is z = true≢false (sym is)
expression_known Sort.Process is z = true≢false (sym is)
expression_known (Sort.Statement s) is z = true≢false (sym is)
expression_known Sort.Item is z = true≢false (sym is)
expression_known Sort.Block is z = true≢false (sym is)
expression_known (Sort.Expression e) is z = expression_tag_lem e z
expression_known (Sort.Cell c) is z = true≢false (sym is)
expression_known Sort.Drive is z = true≢false (sym is)
expression_known Sort.Netlist is z = true≢false (sym is)
expression_known Sort.Unknown is z = true≢false (sym is)

-- a judge of expressions that finds no fault was given one
pub expression_fine : (s : Sort) (f : ExpressionSort → Judged) (x : Fault) → on_expression s f (Err x) ≡ faultless →
    (e : ExpressionSort) × (s ≡ Sort.Expression e) × (f e ≡ faultless)
expression_fine Sort.Module f x h = absurd (let z : ◌≡◌ {A = ℕ} 0 1 = cc in omega arith)
expression_fine (Sort.Declaration d) f x h = absurd (let z : ◌≡◌ {A = ℕ} 0 1 = cc in omega arith)
expression_fine Sort.Process f x h = absurd (let z : ◌≡◌ {A = ℕ} 0 1 = cc in omega arith)
expression_fine (Sort.Statement s) f x h = absurd (let z : ◌≡◌ {A = ℕ} 0 1 = cc in omega arith)
expression_fine Sort.Item f x h = absurd (let z : ◌≡◌ {A = ℕ} 0 1 = cc in omega arith)
expression_fine Sort.Block f x h = absurd (let z : ◌≡◌ {A = ℕ} 0 1 = cc in omega arith)
expression_fine (Sort.Expression e) f x h = (e, refl, h)
expression_fine (Sort.Cell c) f x h = absurd (let z : ◌≡◌ {A = ℕ} 0 1 = cc in omega arith)
expression_fine Sort.Drive f x h = absurd (let z : ◌≡◌ {A = ℕ} 0 1 = cc in omega arith)
expression_fine Sort.Netlist f x h = absurd (let z : ◌≡◌ {A = ℕ} 0 1 = cc in omega arith)
expression_fine Sort.Unknown f x h = absurd (let z : ◌≡◌ {A = ℕ} 0 1 = cc in omega arith)

-- statements
statement_tag_lem : (s : StatementSort) → statement_tag s ≡ 0 → ⊥
statement_tag_lem (StatementSort.Assign Kind.Blocking) z = omega arith
statement_tag_lem (StatementSort.Assign Kind.NonBlocking) z = omega arith
statement_tag_lem (StatementSort.AssignBit Kind.Blocking) z = omega arith
statement_tag_lem (StatementSort.AssignBit Kind.NonBlocking) z = omega arith
statement_tag_lem StatementSort.If z = omega arith
statement_tag_lem StatementSort.Case z = omega arith

pub statement_known : Known is_statement
unfolding tag_of
statement_known Sort.Module is z = true≢false (sym is)
statement_known (Sort.Declaration d) is z = true≢false (sym is)
statement_known Sort.Process is z = true≢false (sym is)
statement_known (Sort.Statement s) is z = statement_tag_lem s z
statement_known Sort.Item is z = true≢false (sym is)
statement_known Sort.Block is z = true≢false (sym is)
statement_known (Sort.Expression e) is z = true≢false (sym is)
statement_known (Sort.Cell c) is z = true≢false (sym is)
statement_known Sort.Drive is z = true≢false (sym is)
statement_known Sort.Netlist is z = true≢false (sym is)
statement_known Sort.Unknown is z = true≢false (sym is)

-- a judge of statements that finds no fault was given one
pub statement_fine : (s : Sort) (f : StatementSort → Judged) (x : Fault) → on_statement s f (Err x) ≡ faultless →
    (e : StatementSort) × (s ≡ Sort.Statement e) × (f e ≡ faultless)
statement_fine Sort.Module f x h = absurd (let z : ◌≡◌ {A = ℕ} 0 1 = cc in omega arith)
statement_fine (Sort.Declaration d) f x h = absurd (let z : ◌≡◌ {A = ℕ} 0 1 = cc in omega arith)
statement_fine Sort.Process f x h = absurd (let z : ◌≡◌ {A = ℕ} 0 1 = cc in omega arith)
statement_fine (Sort.Statement e) f x h = (e, refl, h)
statement_fine Sort.Item f x h = absurd (let z : ◌≡◌ {A = ℕ} 0 1 = cc in omega arith)
statement_fine Sort.Block f x h = absurd (let z : ◌≡◌ {A = ℕ} 0 1 = cc in omega arith)
statement_fine (Sort.Expression e) f x h = absurd (let z : ◌≡◌ {A = ℕ} 0 1 = cc in omega arith)
statement_fine (Sort.Cell c) f x h = absurd (let z : ◌≡◌ {A = ℕ} 0 1 = cc in omega arith)
statement_fine Sort.Drive f x h = absurd (let z : ◌≡◌ {A = ℕ} 0 1 = cc in omega arith)
statement_fine Sort.Netlist f x h = absurd (let z : ◌≡◌ {A = ℕ} 0 1 = cc in omega arith)
statement_fine Sort.Unknown f x h = absurd (let z : ◌≡◌ {A = ℕ} 0 1 = cc in omega arith)
