-- Laws of refusal 2, in the form in which code asks them: each chain of equations ends in a definition of specs/Form.
use Rattle.tagged.specs.Answers.{fault_at}
use Rattle.std.specs.Prelude.{Err}
use mathlib.Core.Path.{◌≡◌, refl, sym, ap, ◌∙◌}
use mathlib.Core.Bool.{false}
use mathlib.Core.List.{List}
use Prim.Native.Nat.{ℕ, zero, suc, ◌-◌, ◌≤◌, ◌<◌}
use native.Mathlib.Numerals.{sub-one}
use native.Mathlib.Omega.{arith}
use borrow.Author.Tests.{ne_eqb}
use Rattle.tagged.specs.Sorts.{sort_of, on_expression, on_statement, is_sort}
use Rattle.tagged.specs.Fields.{field_by}
use Rattle.tagged.specs.declared.sorts.ExpressionSort.{ExpressionSort}
use Rattle.tagged.specs.declared.sorts.StatementSort.{StatementSort}
use Rattle.tagged.specs.declared.sorts.Sort.{Sort}
use Rattle.tagged.proofs.SortLaws.{sort_back}
use Rattle.verilog.specs.Form.{expression_of, expression_body, constant_of, constant_body, statement_of, statement_body, block_of, block_body, item_of, item_body, process_of, process_body, module_of, module_body}
use Rattle.verilog.specs.Reading.{by_branch}

-- an arm that takes what the arms before it leave: each argument says of one variant that the sort is not it
pub not_branch : {A : Type 0} (s : Sort) (item block other : A) → (s ≡ Sort.Item → ⊥) → (s ≡ Sort.Block → ⊥) →
    by_branch s item block other ≡ other
not_branch Sort.Module item block other no-item no-block = refl
not_branch (Sort.Declaration d) item block other no-item no-block = refl
not_branch Sort.Process item block other no-item no-block = refl
not_branch (Sort.Statement s) item block other no-item no-block = refl
not_branch Sort.Item item block other no-item no-block = absurd (no-item refl)
not_branch Sort.Block item block other no-item no-block = absurd (no-block refl)
not_branch (Sort.Expression e) item block other no-item no-block = refl
not_branch (Sort.Cell c) item block other no-item no-block = refl
not_branch Sort.Drive item block other no-item no-block = refl
not_branch Sort.Netlist item block other no-item no-block = refl
not_branch Sort.Unknown item block other no-item no-block = refl

-- a match that found another sort
pub not_expression : {A : Type 0} (s : Sort) (f : ExpressionSort → A) (other : A) → ((e : ExpressionSort) → s ≡ Sort.Expression e → ⊥) →
    other ≡ on_expression s f other
not_expression Sort.Module f other k = refl
not_expression (Sort.Declaration d) f other k = refl
not_expression Sort.Process f other k = refl
not_expression (Sort.Statement s) f other k = refl
not_expression Sort.Item f other k = refl
not_expression Sort.Block f other k = refl
not_expression (Sort.Expression e) f other k = absurd (k e refl)
not_expression (Sort.Cell c) f other k = refl
not_expression Sort.Drive f other k = refl
not_expression Sort.Netlist f other k = refl
not_expression Sort.Unknown f other k = refl

pub not_statement : {A : Type 0} (s : Sort) (f : StatementSort → A) (other : A) → ((t : StatementSort) → s ≡ Sort.Statement t → ⊥) →
    other ≡ on_statement s f other
not_statement Sort.Module f other k = refl
not_statement (Sort.Declaration d) f other k = refl
not_statement Sort.Process f other k = refl
not_statement (Sort.Statement s) f other k = absurd (k s refl)
not_statement Sort.Item f other k = refl
not_statement Sort.Block f other k = refl
not_statement (Sort.Expression e) f other k = refl
not_statement (Sort.Cell c) f other k = refl
not_statement Sort.Drive f other k = refl
not_statement Sort.Netlist f other k = refl
not_statement Sort.Unknown f other k = refl

-- a test that names one sort, of another
module _ (a s : Sort) where
  pub is_missed : (s ≡ a → ⊥) → is_sort a s ≡ false
  is_missed e = ne_eqb _ _ (λ z. e (sym (sort_back s) ∙ ap sort_of (sym z) ∙ sort_back a))

-- each payload: no level is left, or one less for what it holds
pub expression_deep : (d at : ℕ) (s : Sort) (l : List ℕ) → d ≤ 0 → expression_body d at s l ≡ Err (fault_at at)
unfolding expression_body
expression_deep zero at s l h = refl
expression_deep (suc d) at s l h = absurd (omega arith)

pub expression_open : (d at : ℕ) (s : Sort) (l : List ℕ) → 0 < d → expression_body d at s l ≡ expression_of (field_by (expression_body (d - 1))) at s l
unfolding expression_body
expression_open zero at s l h = absurd (omega arith)
expression_open (suc d) at s l h = rw sub-one

pub constant_deep : (d at : ℕ) (s : Sort) (l : List ℕ) → d ≤ 0 → constant_body d at s l ≡ Err (fault_at at)
unfolding constant_body
constant_deep zero at s l h = refl
constant_deep (suc d) at s l h = absurd (omega arith)

pub constant_open : (d at : ℕ) (s : Sort) (l : List ℕ) → 0 < d → constant_body d at s l ≡ constant_of at s l
unfolding constant_body
constant_open zero at s l h = absurd (omega arith)
constant_open (suc d) at s l h = refl

pub statement_deep : (d at : ℕ) (s : Sort) (l : List ℕ) → d ≤ 0 → statement_body d at s l ≡ Err (fault_at at)
unfolding statement_body
statement_deep zero at s l h = refl
statement_deep (suc d) at s l h = absurd (omega arith)

pub statement_open : (d at : ℕ) (s : Sort) (l : List ℕ) → 0 < d → statement_body d at s l ≡ statement_of (field_by (expression_body (d - 1))) (field_by (block_body (d - 1))) (field_by (item_body (d - 1))) at s l
unfolding statement_body
statement_open zero at s l h = absurd (omega arith)
statement_open (suc d) at s l h = rw sub-one

pub block_deep : (d at : ℕ) (s : Sort) (l : List ℕ) → d ≤ 0 → block_body d at s l ≡ Err (fault_at at)
unfolding block_body
block_deep zero at s l h = refl
block_deep (suc d) at s l h = absurd (omega arith)

pub block_open : (d at : ℕ) (s : Sort) (l : List ℕ) → 0 < d → block_body d at s l ≡ block_of (field_by (statement_body (d - 1))) at s l
unfolding block_body
block_open zero at s l h = absurd (omega arith)
block_open (suc d) at s l h = rw sub-one

pub item_deep : (d at : ℕ) (s : Sort) (l : List ℕ) → d ≤ 0 → item_body d at s l ≡ Err (fault_at at)
unfolding item_body
item_deep zero at s l h = refl
item_deep (suc d) at s l h = absurd (omega arith)

pub item_open : (d at : ℕ) (s : Sort) (l : List ℕ) → 0 < d → item_body d at s l ≡ item_of (field_by (constant_body (d - 1))) (field_by (block_body (d - 1))) at s l
unfolding item_body
item_open zero at s l h = absurd (omega arith)
item_open (suc d) at s l h = rw sub-one

pub process_deep : (d at : ℕ) (s : Sort) (l : List ℕ) → d ≤ 0 → process_body d at s l ≡ Err (fault_at at)
process_deep zero at s l h = refl
process_deep (suc d) at s l h = absurd (omega arith)

pub process_open : (d at : ℕ) (s : Sort) (l : List ℕ) → 0 < d → process_body d at s l ≡ process_of (field_by (statement_body (d - 1))) at s l
process_open zero at s l h = absurd (omega arith)
process_open (suc d) at s l h = rw sub-one

pub module_deep : (d at : ℕ) (s : Sort) (l : List ℕ) → d ≤ 0 → module_body d at s l ≡ Err (fault_at at)
module_deep zero at s l h = refl
module_deep (suc d) at s l h = absurd (omega arith)

pub module_open : (d at : ℕ) (s : Sort) (l : List ℕ) → 0 < d → module_body d at s l ≡ module_of (field_by (process_body (d - 1))) at s l
module_open zero at s l h = absurd (omega arith)
module_open (suc d) at s l h = rw sub-one

-- so while a level is left, a field of another sort than the wanted one is refused at its own place
some_left : (d : ℕ) → (d ≡ 0 → ⊥) → 0 < d
some_left zero h = absurd (h refl)
some_left (suc d) h = omega arith

module _ (d : ℕ) (h : d ≡ 0 → ⊥) (at : ℕ) (s : Sort) (l : List ℕ) where
  pub expression_other : ((e : ExpressionSort) → s ≡ Sort.Expression e → ⊥) → Err (fault_at at) ≡ expression_body d at s l
  expression_other k = not_expression s _ _ k ∙ sym (expression_open d at s l (some_left d h))

  pub constant_other : ((e : ExpressionSort) → s ≡ Sort.Expression e → ⊥) → Err (fault_at at) ≡ constant_body d at s l
  constant_other k = rw (constant_open d at s l (some_left d h), is_missed (Sort.Expression ExpressionSort.Constant) s (k ExpressionSort.Constant))

  pub statement_other : ((t : StatementSort) → s ≡ Sort.Statement t → ⊥) → Err (fault_at at) ≡ statement_body d at s l
  statement_other k = not_statement s _ _ k ∙ sym (statement_open d at s l (some_left d h))

  pub block_other : (s ≡ Sort.Block → ⊥) → Err (fault_at at) ≡ block_body d at s l
  block_other k = rw (block_open d at s l (some_left d h), is_missed Sort.Block s k)

  pub item_other : (s ≡ Sort.Item → ⊥) → Err (fault_at at) ≡ item_body d at s l
  item_other k = rw (item_open d at s l (some_left d h), is_missed Sort.Item s k)

  pub process_other : (s ≡ Sort.Process → ⊥) → Err (fault_at at) ≡ process_body d at s l
  process_other k = rw (process_open d at s l (some_left d h), is_missed Sort.Process s k)

  pub module_other : (s ≡ Sort.Module → ⊥) → Err (fault_at at) ≡ module_body d at s l
  module_other k = rw (module_open d at s l (some_left d h), is_missed Sort.Module s k)

-- and an item's constant of another sort of expression at its own place
pub constant_wrong : (at : ℕ) (e : ExpressionSort) (l : List ℕ) → (e ≡ ExpressionSort.Constant → ⊥) → Err (fault_at at) ≡ constant_of at (Sort.Expression e) l
constant_wrong at e l k = rw (is_missed (Sort.Expression ExpressionSort.Constant) (Sort.Expression e) other)
  where
    other : Sort.Expression e ≡ Sort.Expression ExpressionSort.Constant → ⊥
    other z = let same : e ≡ ExpressionSort.Constant = cc in k same
