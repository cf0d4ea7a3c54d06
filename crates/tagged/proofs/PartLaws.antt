-- What is left of a list after so many elements; and the bytes that declarations take.
use Rattle.std.specs.Prelude.{Ok, Err}
use mathlib.Core.Path.{◌≡◌, refl, sym, ap}
use mathlib.Core.List.{List, ◌∷◌}
use Prim.Native.Nat.{ℕ, zero, suc, ◌+◌, ◌-◌, ◌≤◌}
use native.Mathlib.Omega.{arith}
use lib.ListN.{length, drop}
use Rattle.tagged.specs.Fields.{Placed, passed_bytes, size_of, Step}
use Rattle.tagged.specs.Declarations.{Declaration, name_of, declarations_at, declarations_step}
use Rattle.tagged.specs.Parts.{name_in, first_name}
use Rattle.tagged.proofs.DeclarationBytes.{declarations_within}

module _ {A : Type 0} where
  pub drop_one : (k : ℕ) (x : A) (l : List A) → (k ≡ 0 → ⊥) → drop k (x ∷ l) ≡ drop (k - 1) l
  drop_one zero x l h = absurd (h refl)
  drop_one (suc k) x l h = let e : suc k - 1 ≡ k = omega arith in ap (λ (n : ℕ). drop n l) (sym e)

-- the name of a declaration that stands at a place, in the bytes that start at `base`
pub name_here : (base number : ℕ) (l : List ℕ) (d : Placed Declaration) (after : List (Placed Declaration)) → drop number (declarations_at base l) ≡ d ∷ after →
    (size : ℕ) → size ≡ size_of (drop (d.place - base) l) → (name : List ℕ) → name ≡ name_of d.what →
    record { start = d.place + 3 + size - length name; end = d.place + 3 + size } ≡ name_in base number l
unfolding name_in first_name
name_here base number l d after first size s name own = rw (first, s, own)

-- the bytes that the declarations take lie within the list
pub declared_within : (l : List ℕ) → passed_bytes (declarations_step 0 0 l) ≤ length l
declared_within l = go (declarations_step 0 0 l) refl
  where
    go : (r : Step) → r ≡ declarations_step 0 0 l → passed_bytes r ≤ length l
    go (Ok m) e = declarations_within 0 0 l (Ok m) m e refl
    go (Err place) e = omega arith
