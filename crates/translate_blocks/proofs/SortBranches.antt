-- What holds of each branch of a choice by a sort, or by a test, holds of the branch that is taken. By cases.
use mathlib.Core.Bool.{Bool, true, false, cond}
use Rattle.tagged.specs.Sorts.{on_statement, on_expression}
use Rattle.tagged.specs.declared.sorts.StatementSort.{StatementSort}
use Rattle.tagged.specs.declared.sorts.ExpressionSort.{ExpressionSort}
use Rattle.tagged.specs.declared.sorts.Sort.{Sort}
use Rattle.verilog.specs.Reading.{by_branch}

-- by a test
pub test_holds : {A : Type 0} (P : A → Type 0) (t : Bool) {a b : A} → P a → P b → P (cond t a b)
test_holds P true p q = p
test_holds P false p q = q

-- by what stands next in a case, of two choices by the same sort
pub branch_related : {A B : Type 0} (R : A → B → Type 0) (s : Sort) {a b c : A} {x y z : B} → R a x → R b y → R c z → R (by_branch s a b c) (by_branch s x y z)
branch_related R Sort.Item p q r = p
branch_related R Sort.Block p q r = q
branch_related R (Sort.Expression e) p q r = r
branch_related R Sort.Module p q r = r
branch_related R (Sort.Declaration d) p q r = r
branch_related R Sort.Process p q r = r
branch_related R (Sort.Statement s) p q r = r
branch_related R (Sort.Cell c) p q r = r
branch_related R Sort.Drive p q r = r
branch_related R Sort.Netlist p q r = r
branch_related R Sort.Unknown p q r = r

pub branch_holds : {A : Type 0} (P : A → Type 0) (s : Sort) {a b c : A} → P a → P b → P c → P (by_branch s a b c)
branch_holds P s {a} {b} {c} p q r = branch_related (λ x y. P x) s {x = a} {y = b} {z = c} p q r

-- by a statement's sort
pub statement_holds : {A : Type 0} (P : A → Type 0) (s : Sort) {f : StatementSort → A} {other : A} → ((t : StatementSort) → P (f t)) → P other → P (on_statement s f other)
statement_holds P (Sort.Statement s) p q = p s
statement_holds P Sort.Module p q = q
statement_holds P (Sort.Declaration d) p q = q
statement_holds P Sort.Process p q = q
statement_holds P Sort.Item p q = q
statement_holds P Sort.Block p q = q
statement_holds P (Sort.Expression e) p q = q
statement_holds P (Sort.Cell c) p q = q
statement_holds P Sort.Drive p q = q
statement_holds P Sort.Netlist p q = q
statement_holds P Sort.Unknown p q = q

-- by an expression's sort
pub expression_holds : {A : Type 0} (P : A → Type 0) (s : Sort) {f : ExpressionSort → A} {other : A} → ((e : ExpressionSort) → P (f e)) → P other → P (on_expression s f other)
expression_holds P (Sort.Expression e) p q = p e
expression_holds P Sort.Module p q = q
expression_holds P (Sort.Declaration d) p q = q
expression_holds P Sort.Process p q = q
expression_holds P (Sort.Statement s) p q = q
expression_holds P Sort.Item p q = q
expression_holds P Sort.Block p q = q
expression_holds P (Sort.Cell c) p q = q
expression_holds P Sort.Drive p q = q
expression_holds P Sort.Netlist p q = q
expression_holds P Sort.Unknown p q = q
