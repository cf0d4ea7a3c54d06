-- The first place that breaks a rule: in two lists joined, and by two tests that agree on each element where it stands. By induction on the list.
use Rattle.std.specs.Prelude.{Some, None}
use mathlib.Core.Path.{◌≡◌, refl, ap, ◌∙◌}
use mathlib.Core.Bool.{Bool, true, false}
use mathlib.Core.List.{List, [], ◌∷◌, ◌++◌, append_assoc, append-nil}
use Prim.Native.Nat.{ℕ}
use Rattle.tagged.specs.Choice.{choose}
use Rattle.tagged.specs.Fields.{Placed, unplaced}
use Rattle.tagged.specs.Stands.{Stands, first, next}
use Rattle.tagged.specs.Refusals.{first_broken, or_else}
use Rattle.tagged.specs.Answers.{Found}

-- a place, or else none
pub or_nowhere : (f : Found) → or_else f None ≡ f
or_nowhere (Some place) = refl
or_nowhere None = refl

-- what two lists hold, without places
pub unplaced_append : {A : Type 0} (a b : List (Placed A)) → unplaced (a ++ b) ≡ unplaced a ++ unplaced b
unplaced_append [] b = refl
unplaced_append (x ∷ a) b = ap (λ l. x.what ∷ l) (unplaced_append a b)

-- the first place in the first list, or else in the second, whose elements stand after all of the first
pub found_append : {A : Type 0} (breaks : List A → A → Bool) (earlier : List A) (a b : List (Placed A)) →
    first_broken breaks earlier (a ++ b) ≡ or_else (first_broken breaks earlier a) (first_broken breaks (earlier ++ unplaced a) b)
unfolding first_broken
found_append breaks earlier [] b = rw append-nil
found_append {A} breaks earlier (x ∷ a) b = go (breaks earlier x.what) (found_append breaks (earlier ++ (x.what ∷ [])) a b)
  where
    later : List (Placed A) → Found
    later l = first_broken breaks (earlier ++ (x.what ∷ [])) l

    go : (t : Bool) → later (a ++ b) ≡ or_else (later a) (first_broken breaks ((earlier ++ (x.what ∷ [])) ++ unplaced a) b) →
        choose t (λ _. Some x.place) (λ _. later (a ++ b))
        ≡ or_else (choose t (λ _. Some x.place) (λ _. later a)) (first_broken breaks (earlier ++ (x.what ∷ unplaced a)) b)
    go true h = refl
    go false h = h ∙ rw append_assoc

-- two tests, each with its own elements before the list
pub found_same : {A : Type 0} (f g : List A → A → Bool) (before after : List A) (l : List (Placed A)) →
    ((passed : List A) (p : ℕ) (x : A) → Stands l passed p x → f (before ++ passed) x ≡ g (after ++ passed) x) →
    first_broken f before l ≡ first_broken g after l
unfolding first_broken
found_same f g before after [] same = refl
found_same f g before after (y ∷ l) same =
    let here : f before y.what ≡ g after y.what = simp append-nil at (same [] y.place y.what (first refl refl)) in
    let later = found_same f g (before ++ (y.what ∷ [])) (after ++ (y.what ∷ [])) l (λ passed p x s. simp append_assoc (same (y.what ∷ passed) p x (next s))) in
    rw (here, later)
