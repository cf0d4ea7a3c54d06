-- All elements of a list have a property just where each member has it. By induction on the list.
use mathlib.Core.Path.{refl}
use mathlib.Core.List.{List, [], ◌∷◌, Memᴰ}
use Rattle.verilog.specs.Fits.{All}

module _ {A : Type 0} (P : A → Type 0) where
  pub all_member : (a : A) {l : List A} → All P l → Memᴰ a l → P a
  unfolding All
  all_member a h (Memᴰ.head e) = rw e h.0
  all_member a h (Memᴰ.tail m) = all_member a h.1 m

  pub member_all : (l : List A) → ((a : A) → Memᴰ a l → P a) → All P l
  unfolding All
  member_all [] h = tt
  member_all (a ∷ l) h = (h a (Memᴰ.head refl), member_all l (λ b m. h b (Memᴰ.tail m)))
