-- Lists whose elements pass a test, each after those before it, joined and split: such a list has no place that breaks the rule, and the other way round.
-- What no place says of each element, and of how many there are. By induction on the list, and by where the elements stand (RefusalLaws, PlaceLaws).
use Rattle.std.specs.Prelude.{None}
use mathlib.Core.Path.{◌≡◌, refl}
use mathlib.Core.Bool.{Bool, true, false}
use mathlib.Core.List.{List, [], ◌∷◌, ◌++◌, append-nil, append_assoc, Memᴰ}
use Prim.Native.Nat.{ℕ, ◌+◌, ◌≤◌, ◌<◌}
use native.Mathlib.Omega.{arith}
use lib.Dec.{ltb}
use lib.ListN.{length}
use borrow.Author.Tests.{ltb-true, ltb-false}
use Rattle.tagged.specs.Fields.{placed_by}
use Rattle.tagged.specs.Refusals.{first_broken}
use Rattle.tagged.proofs.RefusalLaws.{nowhere_passes}
use Rattle.tagged.proofs.PlaceLaws.{member_stands, index_stands}

-- each element of the second list passes, after the first list and those before it in the second
pub data EachAfter {A : Type 0} (Pass : List A → A → Type 0) : List A → List A → Type 0 where
  none_after : {earlier : List A} → EachAfter Pass earlier []
  more_after : {earlier : List A} {a : A} {l : List A} → Pass earlier a → EachAfter Pass (earlier ++ (a ∷ [])) l → EachAfter Pass earlier (a ∷ l)

module _ {A : Type 0} {Pass : List A → A → Type 0} where
  pub one_after : {earlier : List A} {a : A} → Pass earlier a → EachAfter Pass earlier (a ∷ [])
  one_after p = more_after p none_after

  pub each_append : {earlier a b : List A} → EachAfter Pass earlier a → EachAfter Pass (earlier ++ a) b → EachAfter Pass earlier (a ++ b)
  each_append none_after h = rw append-nil at h
  each_append {b} (more_after p r) h = more_after p (each_append {b = b} r (rw append_assoc h))

module _ {A : Type 0} (breaks : List A → A → Bool) (bytes : A → List ℕ) where
  -- none breaks the rule, so it has no place
  pub each_nowhere : {Pass : List A → A → Type 0} → ((earlier : List A) (a : A) → Pass earlier a → breaks earlier a ≡ false) →
      {earlier l : List A} (base : ℕ) → EachAfter Pass earlier l → first_broken breaks earlier (placed_by bytes base l) ≡ None
  unfolding first_broken placed_by
  each_nowhere passes base none_after = refl
  each_nowhere passes {earlier} base (more_after {a = a} p r) = rw (passes earlier a p) (each_nowhere passes (base + length (bytes a)) r)

  -- no place: every element passes after some that are fewer than all
  pub record PassesAfter (l : List A) (a : A) : Type 0 where
    pub before : List A
    pub fewer : length before < length l
    pub passes : breaks before a ≡ false

  pub nowhere_member : (base : ℕ) {l : List A} → first_broken breaks [] (placed_by bytes base l) ≡ None → {a : A} → Memᴰ a l → PassesAfter l a
  nowhere_member base e m =
      let s = member_stands bytes base m in
      record { before = s.before; fewer = s.within; passes = nowhere_passes breaks [] s.stands e }

  -- a rule that only an element with fewer than `most` before it passes bounds the list
  pub nowhere_length : (most : ℕ) → ((before : List A) (a : A) → breaks before a ≡ false → length before < most) → (base : ℕ) (l : List A) →
      first_broken breaks [] (placed_by bytes base l) ≡ None → length l ≤ most
  nowhere_length most has base l e = go (ltb most (length l)) refl
    where
      go : (t : Bool) → ltb most (length l) ≡ t → length l ≤ most
      go true h =
          let s = index_stands bytes base l most (ltb-true most (length l) h) in
          absurd (omega (arith, s.index, has s.before s.what (nowhere_passes breaks [] s.stands e)))
      go false h = ltb-false most (length l) h
