-- `tagged::sorts::sort_of` meets its contract: each arm cites the law of its range. Assumes nothing.
use mathlib.Core.Path.{◌≡◌, sym, ap, ◌∙◌}
use native.Mathlib.Omega.{arith}
use Rattle.tagged.specs.Sorts.{sort_of}
use Rattle.tagged.specs.declared.sorts.Sort.TheVariants as Sort
use Rattle.tagged.proofs.SortLaws.{sort_declaration, sort_statement, sort_expression, sort_cell, unknown_05, unknown_18, unknown_2B, unknown_high}
use Rattle.tagged.proofs.sorts.sort_of.Goals as goal

pub returns-in-1 : goal.returns-in-1
unfolding sort_of
returns-in-1 c = rw c.in-1.is

pub returns-in-4 : goal.returns-in-4
unfolding sort_of
returns-in-4 c = rw c.in-4.is

pub returns-in-22 : goal.returns-in-22
unfolding sort_of
returns-in-22 c = rw c.in-22.is

pub returns-in-23 : goal.returns-in-23
unfolding sort_of
returns-in-23 c = rw c.in-23.is

pub returns-in-64 : goal.returns-in-64
unfolding sort_of
returns-in-64 c = rw c.in-64.is

pub returns-in-129 : goal.returns-in-129
unfolding sort_of
returns-in-129 c = rw c.in-129.is

pub returns-in-2-to-3 : goal.returns-in-2-to-3
returns-in-2-to-3 c = ap (λ s. Sort.Declaration s) c.declaration_sort.ensures ∙ sym (sort_declaration _ (omega arith) (omega arith))

pub returns-in-16-to-21 : goal.returns-in-16-to-21
returns-in-16-to-21 c = ap (λ s. Sort.Statement s) c.statement_sort.ensures ∙ sym (sort_statement _ (omega arith) (omega arith))

pub returns-in-32-to-42 : goal.returns-in-32-to-42
returns-in-32-to-42 c = ap (λ s. Sort.Expression s) c.expression_sort.ensures ∙ sym (sort_expression _ (omega arith) (omega arith))

pub returns-in-48-to-58 : goal.returns-in-48-to-58
returns-in-48-to-58 c = ap (λ s. Sort.Cell s) c.cell_sort.ensures ∙ sym (sort_cell _ (omega arith) (omega arith))

pub returns-in_default : goal.returns-in_default
unfolding sort_of
returns-in_default c =
    let zero : c.args.tag ≡ 0 = omega arith in
    rw zero

pub returns-in_default-2 : goal.returns-in_default-2
returns-in_default-2 c = sym (unknown_05 _ (omega arith) (omega arith))

pub returns-in_default-3 : goal.returns-in_default-3
returns-in_default-3 c = sym (unknown_18 _ (omega arith) (omega arith))

pub returns-in_default-4 : goal.returns-in_default-4
returns-in_default-4 c = sym (unknown_2B _ (omega arith) (omega arith))

pub returns-in_default-5 : goal.returns-in_default-5
returns-in_default-5 c = sym (unknown_high _ (omega arith) (λ e. omega arith) (λ e. omega arith))
