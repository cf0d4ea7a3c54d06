-- Does some field of a list pass a test? In lists joined, and of each member; and for a test of assignments to one variable that are all alike, by the first of them.
-- By induction on the list.
use Rattle.std.specs.Prelude.{Option, None, is_none}
use mathlib.Core.Path.{◌≡◌, refl, sym, ap, ◌∙◌}
use mathlib.Core.Bool.{Bool, true, false, cond, ◌||◌, or_assoc}
use mathlib.Core.List.{List, [], ◌∷◌, ◌++◌, Memᴰ}
use Prim.Native.Nat.{ℕ}
use Rattle.tagged.specs.Fields.{Placed, unplaced}
use Rattle.tagged.proofs.TestLaws.{neither}
use Rattle.tagged.proofs.FoundLaws.{unplaced_append}
use Rattle.verilog.specs.Nodes.{Node}
use Rattle.verilog.specs.Rules.{some_node}
use Rattle.verilog_check.specs.declared.assignments.First.{First}
use Rattle.verilog_check.proofs.Firsts.{as_first, first_in, none_true, none_false}
use Rattle.verilog_check.proofs.EachField.{Each, no_field, one_more_lem}

module _ (test : Node → Bool) where
  pub some_append : (a b : List Node) → some_node test (a ++ b) ≡ (some_node test a || some_node test b)
  some_append [] b = refl
  some_append (n ∷ a) b = ap (λ (t : Bool). test n || t) (some_append a b) ∙ sym (or_assoc (test n) (some_node test a) (some_node test b))

  -- the same of lists with places
  pub some_joined : (a b : List (Placed Node)) → some_node test (unplaced (a ++ b)) ≡ (some_node test (unplaced a) || some_node test (unplaced b))
  some_joined a b = ap (some_node test) (unplaced_append a b) ∙ some_append (unplaced a) (unplaced b)

  pub each_none : {l : List (Placed Node)} → Each (λ n. test n ≡ false) l → some_node test (unplaced l) ≡ false
  each_none no_field = refl
  each_none (one_more_lem e r) = rw e (each_none r)

  -- where none passes, no member does
  pub none_member : (l : List Node) → some_node test l ≡ false → (n : Node) → Memᴰ n l → test n ≡ false
  none_member (k ∷ l) e n (Memᴰ.head same) = rw same (neither (test k) (some_node test l) e).0
  none_member (k ∷ l) e n (Memᴰ.tail m) = none_member l (neither (test k) (some_node test l) e).1 n m
  none_member [] e n x'' = elim x'' [ ]

either_way : (t r : Bool) {s : Bool} → s ≡ cond t false r → (r || s) ≡ r
either_way t true h = refl
either_way true false h = h
either_way false false h = h

-- where each assignment to variable v gives the test the same result, some assignment passes if there is one and the result is true
module _ (v : ℕ) (asks : Option First → Bool) (none-fails : asks None ≡ false) (result : Bool) where
  some_alike : (l : List Node) → ((n : Node) → Memᴰ n l → (as_first v n ≡ None → ⊥) → asks (as_first v n) ≡ result) →
      some_node (λ n. asks (as_first v n)) l ≡ cond (is_none (first_in v l)) false result
  unfolding first_in
  some_alike [] alike = refl
  some_alike (n ∷ l) alike = go (is_none (as_first v n)) refl (some_alike l (λ k m. alike k (Memᴰ.tail m)))
    where
      go : (t : Bool) → is_none (as_first v n) ≡ t → some_node (λ n. asks (as_first v n)) l ≡ cond (is_none (first_in v l)) false result →
          (asks (as_first v n) || some_node (λ n. asks (as_first v n)) l) ≡ cond (is_none (cond t (first_in v l) (as_first v n))) false result
      go true none h = rw (none_true (as_first v n) none, none-fails) h
      go false some h = rw (some, alike n (Memᴰ.head refl) (none_false (as_first v n) some)) (either_way (is_none (first_in v l)) result h)

-- so where that result is the first one's, the first decides
pub first_decides : (v : ℕ) (asks : Option First → Bool) → asks None ≡ false → (l : List Node) →
    ((n : Node) → Memᴰ n l → (as_first v n ≡ None → ⊥) → asks (as_first v n) ≡ asks (first_in v l)) → some_node (λ n. asks (as_first v n)) l ≡ asks (first_in v l)
first_decides v asks none-fails l alike = some_alike v asks none-fails (asks (first_in v l)) l alike ∙ go (is_none (first_in v l)) refl
  where
    go : (t : Bool) → is_none (first_in v l) ≡ t → cond t false (asks (first_in v l)) ≡ asks (first_in v l)
    go true none = rw (none_true (first_in v l) none, none-fails)
    go false some = refl
