-- What is read at the front of a part, by what opening the part gives, in the form in which code asks it: each chain of equations ends in a
-- definition of crate verilog's Reading. It speaks of that crate's definitions alone.
use Rattle.std.specs.Prelude.{Ok, Err}
use mathlib.Core.Path.{◌≡◌, refl}
use mathlib.Core.List.{List}
use Prim.Native.Nat.{ℕ, zero, suc, ◌+◌, ◌-◌}
use native.Mathlib.Nat.{add-sub_cancel}
use native.Mathlib.Numerals.{sub-one}
use lib.ListN.{take, drop}
use Rattle.tagged.specs.declared.answers.Fault.{Fault}
use Rattle.tagged.specs.Sorts.{on_expression}
use Rattle.tagged.specs.Fields.{open_of, Opened}
use Rattle.tagged.specs.declared.sorts.ExpressionSort.{ExpressionSort}
use Rattle.tagged.specs.declared.sorts.Sort.{Sort}
use Rattle.verilog.specs.Tree.{Expression}
use Rattle.verilog.specs.Reading.{no_expression, front_by, expression_with, expression_in}
use Rattle.verilog.proofs.FormLaws.{not_expression}

-- the field at the front, its payload as the code has it
module _ (l : List ℕ) (o : Opened) (opened : o ≡ open_of 0 0 l) {A : Type 0} (read : Sort → List ℕ → A) (none : A) where
  pub front_field : (s : Sort) (n : ℕ) → o ≡ Ok (s, n) → read s (take (n + 3 - 3) (drop 3 l)) ≡ front_by read none l
  front_field s n e = rw (add-sub_cancel n 3, ← opened, e)

  pub front_none : (x : Fault) → o ≡ Err x → none ≡ front_by read none l
  front_none x e = rw (← opened, e)

-- no level may be opened
pub no_level : (d : ℕ) → d ≡ 0 → (l : List ℕ) → no_expression ≡ expression_in d l
unfolding expression_in
no_level d e l = rw e

-- the expression of a field, by its sort and payload; `inner` reads inside it
abbrev by_expression : (List ℕ → Expression) → Sort → List ℕ → Expression
by_expression inner s p = on_expression s (λ e. expression_with inner e p) no_expression

-- a level may be opened, and inside there is one fewer
one_level : (d : ℕ) → (d ≡ 0 → ⊥) → (l : List ℕ) → front_by (by_expression (expression_in (d - 1))) no_expression l ≡ expression_in d l
unfolding expression_in
one_level zero h l = absurd (h refl)
one_level (suc d) h l = rw sub-one

-- the expression at the front: of an expression's field, of another field, and where no whole field stands
module _ (d : ℕ) (h : d ≡ 0 → ⊥) (l : List ℕ) (o : Opened) (opened : o ≡ open_of 0 0 l) where
  pub read_expression : (s : Sort) (n : ℕ) → o ≡ Ok (s, n) → (e : ExpressionSort) → s ≡ Sort.Expression e →
      expression_with (expression_in (d - 1)) e (take (n + 3 - 3) (drop 3 l)) ≡ expression_in d l
  read_expression s n q e is = rw (← one_level d h l, ← opened, q, is, add-sub_cancel n 3)

  pub read_other : (s : Sort) (n : ℕ) → o ≡ Ok (s, n) → ((e : ExpressionSort) → s ≡ Sort.Expression e → ⊥) → no_expression ≡ expression_in d l
  read_other s n q k = rw (← one_level d h l, ← opened, q) (not_expression s _ _ k)

  pub read_none : (x : Fault) → o ≡ Err x → no_expression ≡ expression_in d l
  read_none x q = rw (← one_level d h l, ← opened, q)
