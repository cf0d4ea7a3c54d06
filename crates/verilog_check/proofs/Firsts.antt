-- The first assignment to a variable among some fields, in the form in which the code's table has it.
use Rattle.std.specs.Prelude.{Option, Some, None, is_none}
use mathlib.Core.Path.{◌≡◌, refl, ap}
use mathlib.Core.Bool.{true, false, cond, true≢false, false≢true}
use mathlib.Core.List.{List, [], ◌∷◌}
use Prim.Native.Nat.{ℕ, ◌+◌}
use lib.Dec.{eqb}
use Rattle.verilog.specs.Tree.{Statement, assign, assign_bit, if_else, case}
use Rattle.verilog.specs.Nodes.{What, declaration, process, expression, statement, item_of, Node}
use Rattle.verilog_check.specs.declared.assignments.First.{First}
use Rattle.verilog_check.specs.Tables.{first_by}

-- a statement in process number p as an assignment to variable v; none where it is none
abbrev pub statement_as_first : ℕ → ℕ → Statement → Option First
statement_as_first v p (assign kind u e) = cond (eqb u v) (Some (first_by (p + 1) kind)) None
statement_as_first v p (assign_bit kind u k e) = cond (eqb u v) (Some (first_by (p + 1) kind)) None
statement_as_first v p (if_else c a b) = None
statement_as_first v p (case e items) = None

abbrev pub what_as_first : ℕ → ℕ → What → Option First
what_as_first v p (declaration d) = None
what_as_first v p process = None
what_as_first v p (expression e) = None
what_as_first v p (statement s) = statement_as_first v p s
what_as_first v p (item_of e w) = None

abbrev pub as_first : ℕ → Node → Option First
as_first v n = what_as_first v n.in_process n.what

-- the first that is one
unfoldable pub first_in : ℕ → List Node → Option First
first_in v [] = None
first_in v (n ∷ l) = cond (is_none (as_first v n)) (first_in v l) (as_first v n)

-- there is none, or one
pub none_true : {A : Type 0} (o : Option A) → is_none o ≡ true → o ≡ None
none_true None e = refl
none_true (Some x) e = absurd (false≢true e)

pub none_false : {A : Type 0} (o : Option A) → is_none o ≡ false → o ≡ None → ⊥
none_false None e h = true≢false e
none_false (Some x) e h = false≢true (ap is_none h)

pub not_none : {A : Type 0} (o : Option A) → (o ≡ None → ⊥) → is_none o ≡ false
not_none None k = absurd (k refl)
not_none (Some x) k = refl
