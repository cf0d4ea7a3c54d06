-- Every element of a list has a property just where each member has it; of bytes, just where the list is one of bytes. By induction on the list.
use mathlib.Core.Path.{refl}
use mathlib.Core.List.{List, [], ◌∷◌, Memᴰ}
use Prim.Native.Nat.{ℕ, suc}
use Rattle.tagged.specs.Bytes.{AllBytes}
use Rattle.tagged.proofs.AllBytesLaws.{bytes_none, bytes_cons}
use Rattle.netlist.specs.Fits.{Every, FitsByte}

module _ {A : Type 0} (P : A → Type 0) where
  pub every_member : (a : A) {l : List A} → Every P l → Memᴰ a l → P a
  every_member a {l = []} h m = elim m [ ]
  every_member a {l = x ∷ l} h (Memᴰ.head e) = rw e h.0
  every_member a {l = x ∷ l} h (Memᴰ.tail m) = every_member a h.1 m

  pub member_every : (l : List A) → ((a : A) → Memᴰ a l → P a) → Every P l
  member_every [] h = tt
  member_every (a ∷ l) h = (h a (Memᴰ.head refl), member_every l (λ b m. h b (Memᴰ.tail m)))

pub every_bytes : (l : List ℕ) → Every FitsByte l → AllBytes l
every_bytes [] h = bytes_none
every_bytes (x ∷ l) h = bytes_cons x l h.0 (every_bytes l h.1)

pub bytes_every : (l : List ℕ) → AllBytes l → Every FitsByte l
bytes_every [] h = tt
bytes_every (x ∷ l) h = (h 0, bytes_every l (λ i. h (suc i)))
