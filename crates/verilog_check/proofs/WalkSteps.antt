-- The steps of the walk, each chain of equations in the form in which the code has it: a turn of a loop over fields, and a field by the levels left and its sort.
use mathlib.Core.Path.{◌≡◌, refl}
use mathlib.Core.List.{List, []}
use Prim.Native.Nat.{ℕ, zero, suc, ◌+◌, ◌-◌, ◌≤◌, ◌<◌}
use native.Mathlib.Numerals.{sub-one}
use native.Mathlib.Omega.{arith}
use lib.ListN.{length, drop, drop_of_length-le}
use Rattle.tagged.specs.Sorts.{on_expression, on_statement}
use Rattle.tagged.specs.Fields.{open_of, fields_at}
use Rattle.tagged.specs.Refusals.{lower_refusal}
use Rattle.tagged.specs.declared.sorts.ExpressionSort.{ExpressionSort}
use Rattle.tagged.specs.declared.sorts.Sort.{Sort}
use Rattle.tagged.specs.Answers.{acceptance}
use Rattle.tagged.proofs.FieldLists.{fields_none}
use Rattle.verilog.specs.Tree.{Expression}
use Rattle.verilog.specs.Nodes.{expression, statement}
use Rattle.verilog.specs.Reading.{expression_with, expression_in}
use Rattle.verilog_check.specs.Walk.{Judge, Walker, walk_all, before_operands, before_parts, walk_expression, statement_of, by_part, selector_width, walk_statement, walk_part, walk_item}

-- nothing stands behind so many fixed bytes
pub nothing_behind : (walk : Walker) (base before : ℕ) (l : List ℕ) → length l < before → walk_all walk (fields_at base (drop before l)) ≡ acceptance
unfolding walk_all open_of
nothing_behind walk base before l h =
    let gone : drop before l ≡ [] = drop_of_length-le l {i = before} (omega arith) in
    rw (gone, fields_none base [] _ refl)

-- an expression, where no level is left, or one less for what it holds
pub expression_deep : (judge : Judge) (d at : ℕ) (s : Sort) (l : List ℕ) → d ≤ 0 → walk_expression judge d at s l ≡ acceptance
unfolding walk_expression
expression_deep judge zero at s l h = refl
expression_deep judge (suc d) at s l h = absurd (omega arith)

pub expression_open : (judge : Judge) (d at : ℕ) (s : Sort) (l : List ℕ) → 0 < d → walk_expression judge d at s l ≡
    on_expression s
    (λ e. lower_refusal (judge (expression (expression_with (expression_in (d - 1)) e l)) at)
    (walk_all (walk_expression judge (d - 1)) (fields_at (at + 3 + before_operands e) (drop (before_operands e) l))))
    acceptance
unfolding walk_expression
expression_open judge zero at s l h = absurd (omega arith)
expression_open judge (suc d) at s l h = rw sub-one

-- a statement
pub statement_deep : (judge : Judge) (width : Expression → ℕ) (d at : ℕ) (s : Sort) (l : List ℕ) → d ≤ 0 → walk_statement judge width d at s l ≡ acceptance
unfolding walk_statement
statement_deep judge width zero at s l h = refl
statement_deep judge width (suc d) at s l h = absurd (omega arith)

pub statement_open : (judge : Judge) (width : Expression → ℕ) (d at : ℕ) (s : Sort) (l : List ℕ) → 0 < d → walk_statement judge width d at s l ≡
    on_statement s
    (λ t. lower_refusal (judge (statement (statement_of (d - 1) t l)) at)
    (walk_all (walk_part judge width (d - 1) (selector_width width (d - 1) l)) (fields_at (at + 3 + before_parts t) (drop (before_parts t) l))))
    acceptance
unfolding walk_statement
statement_open judge width zero at s l h = absurd (omega arith)
statement_open judge width (suc d) at s l h = rw sub-one

-- a part of a statement
pub part_deep : (judge : Judge) (width : Expression → ℕ) (d w at : ℕ) (s : Sort) (l : List ℕ) → d ≤ 0 → walk_part judge width d w at s l ≡ acceptance
unfolding walk_part
part_deep judge width zero w at s l h = refl
part_deep judge width (suc d) w at s l h = absurd (omega arith)

pub part_open : (judge : Judge) (width : Expression → ℕ) (d w at : ℕ) (s : Sort) (l : List ℕ) → 0 < d → walk_part judge width d w at s l ≡
    by_part s (walk_expression judge d at s l) (walk_item judge width (d - 1) w at l) (walk_all (walk_statement judge width (d - 1)) (fields_at (at + 3) l))
unfolding walk_part
part_open judge width zero w at s l h = absurd (omega arith)
part_open judge width (suc d) w at s l h = rw sub-one

-- an expression there is walked by itself
pub part_expression : (judge : Judge) (width : Expression → ℕ) (d w at : ℕ) (e : ExpressionSort) (l : List ℕ) →
    walk_part judge width d w at (Sort.Expression e) l ≡ walk_expression judge d at (Sort.Expression e) l
unfolding walk_part walk_expression
part_expression judge width zero w at e l = refl
part_expression judge width (suc d) w at e l = refl
