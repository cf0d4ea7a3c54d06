-- The first assignment that is unlike some earlier one to its variable is the first that is unlike the first one to its variable, in whatever part of it is asked:
-- as long as none was found, every assignment passed is like the first to its variable. By induction on the list.
use Rattle.std.specs.Prelude.{Option, Some, None, is_none}
use mathlib.Core.Path.{◌≡◌, refl, sym, ap, ◌∙◌}
use mathlib.Core.Bool.{Bool, true, false, cond, ◌&&◌, not, true≢false}
use mathlib.Core.List.{List, [], ◌∷◌, ◌++◌, append_assoc, append-nil}
use Prim.Native.Nat.{ℕ}
use borrow.Author.Tests.{not-false}
use Rattle.tagged.specs.Choice.{choose}
use Rattle.tagged.specs.Fields.{Placed, unplaced}
use Rattle.tagged.specs.Refusals.{first_broken}
use Rattle.tagged.specs.Answers.{Found}
use Rattle.tagged.proofs.TestLaws.{neither, not_not_so}
use Rattle.tagged.proofs.RefusalLaws.{front_passes}
use Rattle.verilog.specs.Nodes.{Node}
use Rattle.verilog.specs.Rules.{some_node}
use Rattle.verilog_check.specs.declared.assignments.First.{First}
use Rattle.verilog_check.proofs.Firsts.{as_first, first_in, none_true, none_false}
use Rattle.verilog_check.proofs.AssignedFirsts.{by_first, by_first_same, by_first_fails}
use Rattle.verilog_check.proofs.SomeField.{some_append}

-- what a rule asks of two assignments: a part of each, and whether the two are the same
pub record Asked : Type 1 where
  pub Part : Type 0
  pub part : Option First → Part
  pub same : Part → Part → Bool
  pub same_true : (a b : Part) → same a b ≡ true → a ≡ b
  pub same_equal : (a b : Part) → a ≡ b → same a b ≡ true

module _ (asked : Asked) where
  abbrev part : Option First → asked.Part
  part = asked.part

  abbrev alike_parts : asked.Part → asked.Part → Bool
  alike_parts = asked.same

  -- an assignment of which that is not t
  abbrev pub unlike : asked.Part → Option First → Bool
  unlike t assigned = not (is_none assigned) && not (alike_parts (part assigned) t)

  -- some earlier assignment to the same variable is unlike this one
  abbrev pub unlike_earlier : List Node → Node → Bool
  unlike_earlier earlier n = by_first (λ v assigned. some_node (λ k. unlike (part assigned) (as_first v k)) earlier) n

  -- the first assignment to the same variable is, where `first` gives it
  abbrev pub unlike_first : (ℕ → Option First) → Node → Bool
  unlike_first first n = by_first (λ v assigned. not (alike_parts (part (first v)) (part assigned))) n

  -- after fields of which none is unlike this assignment, the first is like it
  first_like : (v : ℕ) (t : asked.Part) (earlier : List Node) (n : Node) (rest : List Node) → some_node (λ k. unlike t (as_first v k)) earlier ≡ false →
      (as_first v n ≡ None → ⊥) → part (as_first v n) ≡ t → part (first_in v (earlier ++ (n ∷ rest))) ≡ t
  unfolding first_in
  first_like v t [] n rest e some same = go (is_none (as_first v n)) refl
    where
      go : (b : Bool) → is_none (as_first v n) ≡ b → part (cond b (first_in v rest) (as_first v n)) ≡ t
      go true none = absurd (some (none_true (as_first v n) none))
      go false h = same
  first_like v t (k ∷ earlier) n rest e some same =
      let passed = neither (unlike t (as_first v k)) (some_node (λ k. unlike t (as_first v k)) earlier) e in
      go (is_none (as_first v k)) passed.0 (first_like v t earlier n rest passed.1 some same)
    where
      go : (b : Bool) → (not b && not (alike_parts (part (as_first v k)) t)) ≡ false → part (first_in v (earlier ++ (n ∷ rest))) ≡ t →
          part (cond b (first_in v (earlier ++ (n ∷ rest))) (as_first v k)) ≡ t
      go true h later = later
      go false h later = asked.same_true (part (as_first v k)) t (not-false (alike_parts (part (as_first v k)) t) h)

  module _ (first : ℕ → Option First) where
    -- every assignment is like the first one to its variable
    abbrev pub Alike : List Node → Type 0
    Alike l = (v : ℕ) → some_node (λ k. unlike (part (first v)) (as_first v k)) l ≡ false

    -- after such fields the two tests agree
    tests_agree : (earlier : List Node) (n : Node) (rest : List Node) → ((v : ℕ) → first v ≡ first_in v (earlier ++ (n ∷ rest))) → Alike earlier →
        unlike_earlier earlier n ≡ unlike_first first n
    tests_agree earlier n rest firsts alike =
        by_first_same n (λ v assigned. some_node (λ k. unlike (part assigned) (as_first v k)) earlier) (λ v assigned. not (alike_parts (part (first v)) (part assigned)))
        (λ v some. go v some (some_node (λ k. unlike (part (as_first v n)) (as_first v k)) earlier) refl)
      where
        go : (v : ℕ) → (as_first v n ≡ None → ⊥) → (t : Bool) → some_node (λ k. unlike (part (as_first v n)) (as_first v k)) earlier ≡ t →
            t ≡ not (alike_parts (part (first v)) (part (as_first v n)))
        go v some false none =
            let like : part (first v) ≡ part (as_first v n) = ap part (firsts v) ∙ first_like v (part (as_first v n)) earlier n rest none some refl in
            rw (asked.same_equal (part (first v)) (part (as_first v n)) like)
        go v some true found = other (alike_parts (part (first v)) (part (as_first v n))) refl
          where
            other : (t : Bool) → alike_parts (part (first v)) (part (as_first v n)) ≡ t → true ≡ not t
            other false e = refl
            other true e =
                let like : part (first v) ≡ part (as_first v n) = asked.same_true (part (first v)) (part (as_first v n)) e in
                absurd (true≢false (sym found ∙ rw like at (alike v)))

    -- one more that is like the first
    alike_more : (earlier : List Node) (n : Node) → Alike earlier → unlike_first first n ≡ false → Alike (earlier ++ (n ∷ []))
    alike_more earlier n alike e v =
        some_append (λ k. unlike (part (first v)) (as_first v k)) earlier (n ∷ []) ∙ rw (alike v, here (is_none (as_first v n)) refl)
      where
        here : (t : Bool) → is_none (as_first v n) ≡ t → (not t && not (alike_parts (part (as_first v n)) (part (first v)))) ≡ false
        here true none = refl
        here false some =
            let like = by_first_fails n (λ v assigned. not (alike_parts (part (first v)) (part assigned))) e v (none_false (as_first v n) some) in
            let same = asked.same_true (part (first v)) (part (as_first v n)) (not-false (alike_parts (part (first v)) (part (as_first v n))) like) in
            not_not_so (asked.same_equal (part (as_first v n)) (part (first v)) (sym same))

    -- the first place is the same
    pub first_unlike : (earlier : List Node) (l : List (Placed Node)) → ((v : ℕ) → first v ≡ first_in v (earlier ++ unplaced l)) → Alike earlier → (after : List Node) →
        first_broken unlike_earlier earlier l ≡ first_broken (λ passed n. unlike_first first n) after l
    unfolding first_broken
    first_unlike earlier [] firsts alike after = refl
    first_unlike earlier (x ∷ l) firsts alike after =
        let test : unlike_earlier earlier x.what ≡ unlike_first first x.what = tests_agree earlier x.what (unplaced l) firsts alike in
        rw test (go (unlike_first first x.what) refl
        (λ e. first_unlike (earlier ++ (x.what ∷ [])) l (λ v. firsts v ∙ rw append_assoc) (alike_more earlier x.what alike e) (after ++ (x.what ∷ []))))
      where
        before' : Found
        before' = first_broken unlike_earlier (earlier ++ (x.what ∷ [])) l

        after' : Found
        after' = first_broken (λ passed n. unlike_first first n) (after ++ (x.what ∷ [])) l

        go : (t : Bool) → unlike_first first x.what ≡ t → (unlike_first first x.what ≡ false → before' ≡ after') →
            choose t (λ _. Some x.place) (λ _. before') ≡ choose t (λ _. Some x.place) (λ _. after')
        go true e later = refl
        go false e later = later e

    -- where there is none, all are alike
    pub nowhere_alike : (earlier : List Node) (l : List (Placed Node)) (after : List Node) → Alike earlier →
        first_broken (λ passed n. unlike_first first n) after l ≡ None → Alike (earlier ++ unplaced l)
    nowhere_alike earlier [] after alike e = rw append-nil alike
    nowhere_alike earlier (x ∷ l) after alike e =
        let passed = front_passes (λ passed n. unlike_first first n) after x l e in
        rw append_assoc at
        (nowhere_alike (earlier ++ (x.what ∷ [])) l (after ++ (x.what ∷ [])) (alike_more earlier x.what alike passed.0) passed.1)
