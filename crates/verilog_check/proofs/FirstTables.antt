-- A table into which the assignments of some fields are put, one after the other, tells the first assignment to each variable among them.
-- By induction on the fields: where the table had an assignment it keeps it.
use Rattle.std.specs.Prelude.{Option, Some, None, is_none}
use mathlib.Core.Path.{◌≡◌, refl, sym, ap, ◌∙◌}
use mathlib.Core.Bool.{Bool, true, false, cond}
use mathlib.Core.List.{List, [], ◌∷◌, ◌++◌}
use Prim.Native.Nat.{ℕ, ◌+◌, ◌<◌}
use lib.Dec.{eqb}
use lib.ListN.{length, get_or, set}
use lib.Seq.{get_or-set_same, get_or-set_other}
use borrow.Author.Tests.{eqb-true, eqb-false}
use Rattle.tagged.specs.Fields.{Placed, unplaced}
use Rattle.verilog.specs.Tree.{Statement, assign, assign_bit, if_else, case}
use Rattle.verilog.specs.Nodes.{What, declaration, process, expression, statement, item_of, Node}
use Rattle.verilog_check.specs.declared.assignments.First.{First}
use Rattle.verilog_check.specs.Tables.{first_by, with_first}
use Rattle.verilog_check.proofs.Firsts.{statement_as_first, what_as_first, as_first, first_in}
use Rattle.verilog_check.proofs.SurveySteps.{first_length}

-- the table with a statement in process number p, if it is an assignment
abbrev pub with_statement : List (Option First) → ℕ → Statement → List (Option First)
with_statement firsts p (assign kind v e) = with_first firsts v (first_by (p + 1) kind)
with_statement firsts p (assign_bit kind v k e) = with_first firsts v (first_by (p + 1) kind)
with_statement firsts p (if_else c a b) = firsts
with_statement firsts p (case e items) = firsts

abbrev pub with_what : List (Option First) → ℕ → What → List (Option First)
with_what firsts p (declaration d) = firsts
with_what firsts p process = firsts
with_what firsts p (expression e) = firsts
with_what firsts p (statement s) = with_statement firsts p s
with_what firsts p (item_of e w) = firsts

-- the table with some fields
unfoldable pub with_nodes : List (Option First) → List (Placed Node) → List (Option First)
with_nodes firsts [] = firsts
with_nodes firsts (n ∷ l) = with_nodes (with_what firsts n.what.in_process n.what.what) l

pub nodes_append : (firsts : List (Option First)) (a b : List (Placed Node)) → with_nodes firsts (a ++ b) ≡ with_nodes (with_nodes firsts a) b
unfolding with_nodes
nodes_append firsts [] b = refl
nodes_append firsts (n ∷ a) b = nodes_append (with_what firsts n.what.in_process n.what.what) a b

-- an assignment in front of others: the first that is one
abbrev or_else : Option First → Option First → Option First
or_else first later = cond (is_none first) later first

-- what stands in front stays in front
or_else_assoc : (a b c : Option First) → or_else (or_else a b) c ≡ or_else a (or_else b c)
or_else_assoc None b c = refl
or_else_assoc (Some a) b c = refl

or_else_none : (a : Option First) → a ≡ or_else a None
or_else_none None = refl
or_else_none (Some a) = refl

module _ (firsts : List (Option First)) (v : ℕ) (within : v < length firsts) where
  -- what the table tells with an assignment to variable u
  first_told : (u : ℕ) (first : First) → get_or (with_first firsts u first) v None ≡ or_else (get_or firsts v None) (cond (eqb u v) (Some first) None)
  unfolding with_first
  first_told u first = go (eqb u v) refl
    where
      same : (t : Bool) → get_or (cond t (set firsts v (Some first)) firsts) v None ≡ cond t (Some first) (get_or firsts v None)
      same true = get_or-set_same firsts v (Some first) None within
      same false = refl

      other : (v ≡ u → ⊥) → (t : Bool) → get_or (cond t (set firsts u (Some first)) firsts) v None ≡ get_or firsts v None
      other n true = get_or-set_other firsts u v (Some first) None n
      other n false = refl

      go : (t : Bool) → eqb u v ≡ t → get_or (with_first firsts u first) v None ≡ or_else (get_or firsts v None) (cond t (Some first) None)
      go true e =
          ap (λ (x : ℕ). get_or (with_first firsts x first) v None) (eqb-true u v e) ∙ same (is_none (get_or firsts v None))
      go false e = other (λ z. eqb-false u v e (sym z)) (is_none (get_or firsts u None)) ∙ or_else_none (get_or firsts v None)

  statement_told : (p : ℕ) (s : Statement) → get_or (with_statement firsts p s) v None ≡ or_else (get_or firsts v None) (statement_as_first v p s)
  statement_told p (assign kind u e) = first_told u (first_by (p + 1) kind)
  statement_told p (assign_bit kind u k e) = first_told u (first_by (p + 1) kind)
  statement_told p (if_else c a b) = or_else_none (get_or firsts v None)
  statement_told p (case e items) = or_else_none (get_or firsts v None)

  what_told : (p : ℕ) (w : What) → get_or (with_what firsts p w) v None ≡ or_else (get_or firsts v None) (what_as_first v p w)
  what_told p (declaration d) = or_else_none (get_or firsts v None)
  what_told p process = or_else_none (get_or firsts v None)
  what_told p (expression e) = or_else_none (get_or firsts v None)
  what_told p (statement s) = statement_told p s
  what_told p (item_of e w) = or_else_none (get_or firsts v None)

statement_length : (firsts : List (Option First)) (p : ℕ) (s : Statement) → length (with_statement firsts p s) ≡ length firsts
statement_length firsts p (assign kind v e) = first_length firsts v (first_by (p + 1) kind)
statement_length firsts p (assign_bit kind v k e) = first_length firsts v (first_by (p + 1) kind)
statement_length firsts p (if_else c a b) = refl
statement_length firsts p (case e items) = refl

what_length : (firsts : List (Option First)) (p : ℕ) (w : What) → length (with_what firsts p w) ≡ length firsts
what_length firsts p (declaration d) = refl
what_length firsts p process = refl
what_length firsts p (expression e) = refl
what_length firsts p (statement s) = statement_length firsts p s
what_length firsts p (item_of e w) = refl

-- what the table tells with some fields: what it told, else the first among the fields
nodes_told : (firsts : List (Option First)) (v : ℕ) → v < length firsts → (l : List (Placed Node)) →
    get_or (with_nodes firsts l) v None ≡ or_else (get_or firsts v None) (first_in v (unplaced l))
unfolding with_nodes first_in
nodes_told firsts v h [] = or_else_none (get_or firsts v None)
nodes_told firsts v h (n ∷ l) =
    let node = n.what in
    let table : List (Option First) = with_what firsts node.in_process node.what in
    let h' : v < length table = rw (what_length firsts node.in_process node.what) h in
    nodes_told table v h' l
    ∙ ap (λ (x : Option First). or_else x (first_in v (unplaced l))) (what_told firsts v h node.in_process node.what)
    ∙ or_else_assoc (get_or firsts v None) (as_first v node) (first_in v (unplaced l))

-- a table without assignments tells the first among the fields
pub table_told : (firsts : List (Option First)) (v : ℕ) → get_or firsts v None ≡ None → v < length firsts → (l : List (Placed Node)) →
    get_or (with_nodes firsts l) v None ≡ first_in v (unplaced l)
table_told firsts v none h l = nodes_told firsts v h l ∙ ap (λ (x : Option First). or_else x (first_in v (unplaced l))) none
