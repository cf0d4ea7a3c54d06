-- All rules by one walk: what each of two parts is refused for gives what both are, by the refusal with the lower number. By cases, and by induction on the rules.
use Rattle.tagged.specs.Answers.{acceptance, refused, number_of, Answer, Found}
use Rattle.std.specs.Prelude.{Ok, Err, Some, None}
use mathlib.Core.Path.{◌≡◌, refl, sym, ap, ◌∙◌}
use mathlib.Core.Bool.{Bool, true, false, cond}
use mathlib.Core.List.{List, [], ◌∷◌, ◌++◌}
use Prim.Native.Nat.{ℕ, suc, ◌≤◌}
use native.Mathlib.Omega.{arith}
use lib.Dec.{ltb}
use borrow.Author.Tests.{ltb-true, ltb-false, lt-ltb, le-ltb}
use Rattle.tagged.specs.Choice.{choose}
use Rattle.tagged.specs.Fields.{Placed}
use Rattle.tagged.specs.Refusals.{first_broken, or_else, found_if, refused_at, first_refusal, lower_refusal}
use Rattle.tagged.specs.declared.answers.Rule.{Rule}
use Rattle.tagged.proofs.RefusalLaws.{Rising, done, rise, FirstRule, here, later, refused_first}

-- acceptance, on either side, changes nothing
pub lower_accepted : (a : Answer) → lower_refusal a acceptance ≡ a
lower_accepted (Ok _) = refl
lower_accepted (Err e) = refl

-- three answers, joined from either side
pub lower_joined : (a b c : Answer) → lower_refusal (lower_refusal a b) c ≡ lower_refusal a (lower_refusal b c)
lower_joined (Ok _) b c = refl
lower_joined (Err e) (Ok _) c = refl
lower_joined (Err e) (Err d) (Ok _) = lower_accepted (cond (ltb (number_of d.rule) (number_of e.rule)) (Err d) (Err e))
lower_joined (Err e) (Err d) (Err f) = go (ltb (number_of d.rule) (number_of e.rule)) (ltb (number_of f.rule) (number_of d.rule)) refl refl
  where
    go : (sr ts : Bool) → ltb (number_of d.rule) (number_of e.rule) ≡ sr → ltb (number_of f.rule) (number_of d.rule) ≡ ts →
        lower_refusal (lower_refusal (Err e) (Err d)) (Err f)
        ≡ lower_refusal (Err e) (lower_refusal (Err d) (Err f))
    go true true less lesser =
        let least : ltb (number_of f.rule) (number_of e.rule) ≡ true = lt-ltb (number_of f.rule) (number_of e.rule) (omega (arith, ltb-true (number_of d.rule) (number_of e.rule) less, ltb-true (number_of f.rule) (number_of d.rule) lesser)) in
        rw (less, lesser, least)
    go true false less not = rw (less, not, less)
    go false true not less = rw (not, less)
    go false false not nor =
        let least : ltb (number_of f.rule) (number_of e.rule) ≡ false = le-ltb (number_of f.rule) (number_of e.rule) (omega (arith, ltb-false (number_of d.rule) (number_of e.rule) not, ltb-false (number_of f.rule) (number_of d.rule) nor)) in
        rw (not, nor, least, not)

-- the first rule of a rising list that has a place is not below the first of the list
first_above : {broken : Rule → Found} {from : ℕ} {rules : List Rule} {k : Rule} {p : ℕ} → Rising from rules → FirstRule broken k p rules → from ≤ number_of k
first_above (rise low r) (here same h) = omega (arith, low, ap number_of same)
first_above (rise low r) (later h f) = omega (arith, low, first_above r f)
first_above {broken = broken} {k = k} {p = p} (done {from = from}) x4 = elim x4 [ ]

-- a rule that is looked for earlier, against the answer of later ones
module _ {rule : Rule} {rules : List Rule} (r : Rising (suc (number_of rule)) rules) (broken : Rule → Found) (place : ℕ) where
  stands_before : lower_refusal (Err (refused rule place)) (first_refusal broken rules) ≡ Err (refused rule place)
  stands_before = go (first_refusal broken rules) refl
    where
      go : (a : Answer) → first_refusal broken rules ≡ a → lower_refusal (Err (refused rule place)) a ≡ Err (refused rule place)
      go (Ok _) e = refl
      go (Err other) e =
          let above : ltb (number_of other.rule) (number_of rule) ≡ false = le-ltb (number_of other.rule) (number_of rule) (omega (arith, first_above r (refused_first broken rules e))) in
          rw above

  stands_after : lower_refusal (first_refusal broken rules) (Err (refused rule place)) ≡ Err (refused rule place)
  stands_after = go (first_refusal broken rules) refl
    where
      go : (a : Answer) → first_refusal broken rules ≡ a → lower_refusal a (Err (refused rule place)) ≡ Err (refused rule place)
      go (Ok _) e = refl
      go (Err other) e =
          let below : ltb (number_of rule) (number_of other.rule) ≡ true = lt-ltb (number_of rule) (number_of other.rule) (omega (arith, first_above r (refused_first broken rules e))) in
          rw below

-- a rule's first place among two parts is that of the first, or else of the second: so for the answers
pub refusal_both : (a b : Rule → Found) {from : ℕ} {rules : List Rule} → Rising from rules →
    first_refusal (λ rule. or_else (a rule) (b rule)) rules ≡ lower_refusal (first_refusal a rules) (first_refusal b rules)
unfolding first_refusal
refusal_both a b done = refl
refusal_both a b (rise {r = rule} {rules} low r) = go (a rule) (b rule) (refusal_both a b r)
  where
    go : (x y : Found) → first_refusal (λ rule. or_else (a rule) (b rule)) rules ≡ lower_refusal (first_refusal a rules) (first_refusal b rules) →
        refused_at rule (or_else x y) (first_refusal (λ rule. or_else (a rule) (b rule)) rules)
        ≡ lower_refusal (refused_at rule x (first_refusal a rules)) (refused_at rule y (first_refusal b rules))
    go (Some p) (Some q) others =
        let itself : ltb (number_of rule) (number_of rule) ≡ false = le-ltb (number_of rule) (number_of rule) (omega arith) in
        rw itself
    go (Some p) None others = sym (stands_before r b p)
    go None (Some q) others = sym (stands_after r a q)
    go None None others = others

-- two ways to look for the places that agree on every rule
pub refusal_same : (a b : Rule → Found) → ((rule : Rule) → a rule ≡ b rule) → (rules : List Rule) → first_refusal a rules ≡ first_refusal b rules
unfolding first_refusal
refusal_same a b same [] = refl
refusal_same a b same (rule ∷ rules) = rw (same rule, refusal_same a b same rules)

-- no rule has a place
pub refusal_nowhere : (rules : List Rule) → first_refusal (λ rule. None) rules ≡ acceptance
unfolding first_refusal
refusal_nowhere [] = refl
refusal_nowhere (rule ∷ rules) = refusal_nowhere rules

-- the first place of a list is its first element's, or else that of the others
module _ {A : Type 0} where
  pub broken_front : (breaks : List A → A → Bool) (earlier : List A) (x : Placed A) (l : List (Placed A)) →
      first_broken breaks earlier (x ∷ l) ≡ or_else (found_if (breaks earlier x.what) x.place) (first_broken breaks (earlier ++ (x.what ∷ [])) l)
  unfolding first_broken
  broken_front breaks earlier x l = go (breaks earlier x.what)
    where
      later_found : Found
      later_found = first_broken breaks (earlier ++ (x.what ∷ [])) l

      go : (t : Bool) → choose t (λ _. Some x.place) (λ _. later_found) ≡ or_else (found_if t x.place) later_found
      go true = refl
      go false = refl

  -- so for the answers by all rules
  pub answer_front : (breaks : Rule → List A → A → Bool) (earlier : List A) (x : Placed A) (l : List (Placed A)) {from : ℕ} {rules : List Rule} → Rising from rules →
      first_refusal (λ rule. first_broken (breaks rule) earlier (x ∷ l)) rules
      ≡ lower_refusal (first_refusal (λ rule. found_if (breaks rule earlier x.what) x.place) rules)
      (first_refusal (λ rule. first_broken (breaks rule) (earlier ++ (x.what ∷ [])) l) rules)
  answer_front breaks earlier x l {rules = rules} r =
      refusal_same _ _ (λ rule. broken_front (breaks rule) earlier x l) rules
      ∙ refusal_both (λ rule. found_if (breaks rule earlier x.what) x.place) (λ rule. first_broken (breaks rule) (earlier ++ (x.what ∷ [])) l) r
