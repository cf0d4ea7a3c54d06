-- Where an element of a list with places stands, and after which others. Generic over the elements.
use Rattle.std.specs.Prelude.{◌≡◌, List, [], ◌∷◌, ℕ}
use Rattle.tagged.specs.Fields.{Placed}

-- x stands in the list at place p, after those of `before`
pub data Stands {A : Type 0} : List (Placed A) → List A → ℕ → A → Type 0 where
  first : {y : Placed A} {l : List (Placed A)} {p : ℕ} {x : A} → y.place ≡ p → y.what ≡ x → Stands (y ∷ l) [] p x
  next : {y : Placed A} {l : List (Placed A)} {before : List A} {p : ℕ} {x : A} → Stands l before p x → Stands (y ∷ l) (y.what ∷ before) p x
