-- A first assignment (its kind, and its process counted from 1) tells all that rules 9 to 11 ask of it: a test of assignments to a variable is a test of these.
-- By what the field is.
use Rattle.std.specs.Prelude.{Option, Some, None}
use mathlib.Core.Path.{◌≡◌, refl, sym, ap, ◌∙◌}
use mathlib.Core.Bool.{Bool, true, false, cond}
use Prim.Native.Nat.{ℕ, ◌+◌}
use lib.Dec.{eqb}
use borrow.Author.Tests.{eqb-true, eq-eqb}
use Rattle.std.proofs.lemmas.Option.{none-some}
use Rattle.tagged.specs.declared.sorts.Kind.{Kind}
use Rattle.verilog.specs.Tree.{assign, assign_bit, if_else, case}
use Rattle.verilog.specs.Nodes.{What, declaration, process, expression, statement, item_of, Node}
use Rattle.verilog.specs.Rules.{is_assignment}
use Rattle.verilog_check.specs.declared.assignments.First.{First}
use Rattle.verilog_check.specs.Tables.{first_by}
use Rattle.verilog_check.proofs.Firsts.{as_first}

-- a field is an assignment to one variable, or none to any
data Seen (n : Node) : Type 0 where
  no_assignment : ((v : ℕ) → as_first v n ≡ None) → ((test : Kind → ℕ → Bool) → is_assignment test n ≡ false) → Seen n
  an_assignment : (kind : Kind) (u : ℕ) → ((v : ℕ) → as_first v n ≡ cond (eqb u v) (Some (first_by (n.in_process + 1) kind)) None) →
      ((test : Kind → ℕ → Bool) → is_assignment test n ≡ test kind u) → Seen n

seen : (n : Node) → Seen n
seen n = go n.what
  where
    go : (w : What) → Seen (record { in_process = n.in_process; what = w })
    go (declaration d) = no_assignment (λ v. refl) (λ t. refl)
    go process = no_assignment (λ v. refl) (λ t. refl)
    go (expression e) = no_assignment (λ v. refl) (λ t. refl)
    go (statement (assign kind u e)) = an_assignment kind u (λ v. refl) (λ t. refl)
    go (statement (assign_bit kind u k e)) = an_assignment kind u (λ v. refl) (λ t. refl)
    go (statement (if_else c a b)) = no_assignment (λ v. refl) (λ t. refl)
    go (statement (case e items)) = no_assignment (λ v. refl) (λ t. refl)
    go (item_of e w) = no_assignment (λ v. refl) (λ t. refl)

-- is the field an assignment that passes a test of its variable and of what it is as a first assignment?
abbrev pub by_first : (ℕ → Option First → Bool) → Node → Bool
by_first test n = is_assignment (λ kind v. test v (Some (first_by (n.in_process + 1) kind))) n

module _ (n : Node) where
  -- two tests that agree on it
  pub by_first_same : (f g : ℕ → Option First → Bool) → ((v : ℕ) → (as_first v n ≡ None → ⊥) → f v (as_first v n) ≡ g v (as_first v n)) → by_first f n ≡ by_first g n
  by_first_same f g h = go (seen n)
    where
      go : Seen n → by_first f n ≡ by_first g n
      go (no_assignment none is) = is _ ∙ sym (is _)
      go (an_assignment kind u firsts is) =
          let own : as_first u n ≡ Some (first_by (n.in_process + 1) kind) = firsts u ∙ rw (eq-eqb u u refl) in
          let agree = h u (λ e. none-some _ (sym e ∙ own)) in
          is _ ∙ (rw own at agree) ∙ sym (is _)

  -- a test that it fails
  pub by_first_fails : (f : ℕ → Option First → Bool) → by_first f n ≡ false → (v : ℕ) → (as_first v n ≡ None → ⊥) → f v (as_first v n) ≡ false
  by_first_fails f e v some = go (seen n)
    where
      go : Seen n → f v (as_first v n) ≡ false
      go (no_assignment none is) = absurd (some (none v))
      go (an_assignment kind u firsts is) = at_target (eqb u v) refl
        where
          at_target : (t : Bool) → eqb u v ≡ t → f v (as_first v n) ≡ false
          at_target true same =
              let own : as_first v n ≡ Some (first_by (n.in_process + 1) kind) = firsts v ∙ rw same in
              rw (own, ← eqb-true u v same) (sym (is (λ kind v. f v (Some (first_by (n.in_process + 1) kind)))) ∙ e)
          at_target false other = absurd (some (firsts v ∙ rw other))

  -- a test of assignments to one variable is one of first assignments
  pub assignment_first : (v : ℕ) (asks : Option First → Bool) → asks None ≡ false → (test : Kind → ℕ → Bool) → ((kind : Kind) → test kind v ≡ asks (Some (first_by (n.in_process + 1) kind))) →
      ((kind : Kind) (u : ℕ) → eqb u v ≡ false → test kind u ≡ false) → is_assignment test n ≡ asks (as_first v n)
  assignment_first v asks none-fails test here elsewhere = go (seen n)
    where
      go : Seen n → is_assignment test n ≡ asks (as_first v n)
      go (no_assignment none is) = is test ∙ rw (none v, none-fails)
      go (an_assignment kind u firsts is) = at_target (eqb u v) refl
        where
          at_target : (t : Bool) → eqb u v ≡ t → is_assignment test n ≡ asks (as_first v n)
          at_target true same = is test ∙ ap (test kind) (eqb-true u v same) ∙ here kind ∙ ap asks (sym (firsts v ∙ rw same))
          at_target false other = is test ∙ elsewhere kind u other ∙ sym (ap asks (firsts v ∙ rw other) ∙ none-fails)
