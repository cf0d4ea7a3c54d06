-- In a list with the places that its bytes have, places rise: the first place that breaks a rule is the least; and each element stands somewhere.
-- By induction on the list.
use Rattle.std.specs.Prelude.{Some, None}
use mathlib.Core.Path.{◌≡◌, refl, sym, ap, ◌∙◌}
use mathlib.Core.Bool.{Bool, true, false, true≢false}
use mathlib.Core.List.{List, [], ◌∷◌, Memᴰ}
use Prim.Native.Nat.{ℕ, zero, suc, ◌+◌, ◌≤◌, ◌<◌}
use native.Mathlib.Omega.{arith}
use lib.Dec.{ltb}
use lib.ListN.{length, length-append}
use borrow.Author.Tests.{ltb-true, ltb-false}
use Rattle.tagged.specs.Fields.{Placed, placed_by, all_bytes_of}
use Rattle.tagged.specs.Refusals.{first_broken}
use Rattle.tagged.specs.Answers.{Found}
use Rattle.tagged.specs.Stands.{Stands, first, next}
use Rattle.tagged.proofs.RefusalLaws.{nowhere_passes, passes_nowhere, FirstBreak, at_first}

-- some element that stands at p breaks a rule, given those before it
pub data BrokenAt {A : Type 0} (breaks : List A → A → Bool) (l : List (Placed A)) (p : ℕ) : Type 0 where
  broken_at : {before : List A} {x : A} → Stands l before p x → breaks before x ≡ true → BrokenAt breaks l p

module _ {A : Type 0} (breaks : List A → A → Bool) (l : List (Placed A)) where
  -- nowhere: none is broken
  pub nowhere_none : first_broken breaks [] l ≡ None → (p : ℕ) → BrokenAt breaks l p → ⊥
  nowhere_none e p (broken_at s b) = true≢false (sym b ∙ nowhere_passes breaks [] s e)

  pub none_nowhere : ((p : ℕ) → BrokenAt breaks l p → ⊥) → first_broken breaks [] l ≡ None
  none_nowhere n = passes_nowhere breaks [] l (λ before p x s. go before p x s (breaks before x) refl)
    where
      go : (before : List A) (p : ℕ) (x : A) → Stands l before p x → (t : Bool) → breaks before x ≡ t → breaks before x ≡ false
      go before p x s true e = absurd (n p (broken_at s e))
      go before p x s false e = e

-- the places of a list whose elements have bytes
module _ {A : Type 0} (bytes : A → List ℕ) (some : (a : A) → 0 < length (bytes a)) where
  pub place_from : (base : ℕ) (l : List A) {before : List A} {p : ℕ} {x : A} → Stands (placed_by bytes base l) before p x → base ≤ p
  unfolding placed_by
  place_from base [] s = elim s [ ]
  place_from base (a ∷ l) (first i j) = omega arith
  place_from base (a ∷ l) (next s) = omega (arith, place_from (base + length (bytes a)) l s)

  pub place_below : (base : ℕ) (l : List A) {before : List A} {p : ℕ} {x : A} → Stands (placed_by bytes base l) before p x → p < base + length (all_bytes_of bytes l)
  unfolding placed_by all_bytes_of
  place_below base [] s = elim s [ ]
  place_below base (a ∷ l) (first i j) = rw length-append (omega (arith, some a))
  place_below base (a ∷ l) (next s) = rw length-append (omega (arith, place_below (base + length (bytes a)) l s))

  pub places_rise : (base : ℕ) (l : List A) {b c : List A} {p q : ℕ} {x y : A} → Stands (placed_by bytes base l) b p x → Stands (placed_by bytes base l) c q y →
      length b ≤ length c → p ≤ q
  unfolding placed_by
  places_rise base [] s t less = elim s [ ]
  places_rise base (a ∷ l) (first i j) (first k m) less = omega arith
  places_rise base (a ∷ l) (first i j) (next t) less = omega (arith, place_from (base + length (bytes a)) l t)
  places_rise base (a ∷ l) (next s) (first k m) less = absurd (omega arith)
  places_rise base (a ∷ l) (next s) (next t) less = places_rise (base + length (bytes a)) l s t (omega arith)

  module _ (breaks : List A → A → Bool) (base : ℕ) (l : List A) where
    pub broken_from : {p : ℕ} → BrokenAt breaks (placed_by bytes base l) p → base ≤ p
    broken_from (broken_at s b) = place_from base l s

    pub broken_below : {p : ℕ} → BrokenAt breaks (placed_by bytes base l) p → p < base + length (all_bytes_of bytes l)
    broken_below (broken_at s b) = place_below base l s

    -- a place: the least of those that are broken
    pub at_broken : (p : ℕ) → first_broken breaks [] (placed_by bytes base l) ≡ Some p → BrokenAt breaks (placed_by bytes base l) p
    at_broken p e = let f = at_first breaks [] (placed_by bytes base l) p e in broken_at f.stands f.broken

    pub at_least : (p : ℕ) → first_broken breaks [] (placed_by bytes base l) ≡ Some p → (q : ℕ) → BrokenAt breaks (placed_by bytes base l) q → p ≤ q
    at_least p e q (broken_at {before} {x} s b) = go (ltb (length before) (length f.before)) refl
      where
        f : FirstBreak breaks [] (placed_by bytes base l) p
        f = at_first breaks [] (placed_by bytes base l) p e

        go : (t : Bool) → ltb (length before) (length f.before) ≡ t → p ≤ q
        go true h = absurd (true≢false (sym b ∙ f.others before q x s (ltb-true (length before) _ h)))
        go false h = places_rise base l f.stands s (ltb-false (length before) _ h)

    pub least_at : (p : ℕ) → BrokenAt breaks (placed_by bytes base l) p → ((q : ℕ) → BrokenAt breaks (placed_by bytes base l) q → p ≤ q) →
        first_broken breaks [] (placed_by bytes base l) ≡ Some p
    least_at p b least = go (first_broken breaks [] (placed_by bytes base l)) refl
      where
        go : (f : Found) → first_broken breaks [] (placed_by bytes base l) ≡ f → f ≡ Some p
        go (Some r) e = let same : r ≡ p = omega (arith, at_least r e p b, least r (at_broken r e)) in rw same
        go None e = absurd (nowhere_none breaks (placed_by bytes base l) e p b)

-- each element of a list stands somewhere, and at each index one
module _ {A : Type 0} (bytes : A → List ℕ) where
  pub record Somewhere (base : ℕ) (l : List A) (x : A) : Type 0 where
    pub before : List A
    pub place : ℕ
    pub stands : Stands (placed_by bytes base l) before place x
    pub within : length before < length l

  pub member_stands : {x : A} (base : ℕ) {l : List A} → Memᴰ x l → Somewhere base l x
  unfolding placed_by
  member_stands base (Memᴰ.head e) = record { before = []; place = base; stands = first refl (sym e); within = omega arith }
  member_stands base {l = a ∷ l} (Memᴰ.tail m) =
      let s = member_stands (base + length (bytes a)) m in
      record { before = a ∷ s.before; place = s.place; stands = next s.stands; within = omega (arith, s.within) }

  pub record AtIndex (base : ℕ) (l : List A) (i : ℕ) : Type 0 where
    pub before : List A
    pub place : ℕ
    pub what : A
    pub stands : Stands (placed_by bytes base l) before place what
    pub index : length before ≡ i
    pub among : Memᴰ what l

  pub index_stands : (base : ℕ) (l : List A) (i : ℕ) → i < length l → AtIndex base l i
  unfolding placed_by
  index_stands base [] i h = absurd (omega arith)
  index_stands base (a ∷ l) zero h = record { before = []; place = base; what = a; stands = first refl refl; index = refl; among = Memᴰ.head refl }
  index_stands base (a ∷ l) (suc i) h =
      let s = index_stands (base + length (bytes a)) l i (omega arith) in
      record { before = a ∷ s.before; place = s.place; what = s.what; stands = next s.stands; index = ap suc s.index; among = Memᴰ.tail s.among }

-- each element of a list with places stands at its place
pub placed_stands : {A : Type 0} (l : List (Placed A)) {x : Placed A} → Memᴰ x l → (before : List A) × Stands l before x.place x.what
placed_stands (y ∷ l) (Memᴰ.head e) = ([], first (ap (λ z. z.place) (sym e)) (ap (λ z. z.what) (sym e)))
placed_stands (y ∷ l) (Memᴰ.tail m) = let s = placed_stands l m in (y.what ∷ s.0, next s.1)
placed_stands {A = A} [] x3 = elim x3 [ ]
