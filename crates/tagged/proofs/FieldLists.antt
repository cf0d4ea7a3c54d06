-- The fields of a list of bytes: by what stands at its front, read by a wanted sort, and of bytes that were written.
use Rattle.std.specs.Prelude.{Ok, Err}
use mathlib.Core.Path.{◌≡◌, refl, ◌∙◌}
use mathlib.Core.List.{List, [], ◌∷◌, ◌++◌}
use Prim.Native.Nat.{ℕ, zero, suc, ◌+◌, ◌≤◌, ◌<◌}
use native.Mathlib.Omega.{arith}
use lib.ListN.{length, take, drop, length-drop}
use Rattle.tagged.specs.declared.answers.Fault.{Fault}
use mathlib.Core.Bool.{Bool, true, false}
use Rattle.tagged.specs.Choice.{choose}
use Rattle.tagged.specs.Sorts.{sort_of}
use Rattle.tagged.specs.declared.sorts.Sort.{Sort}
use Rattle.tagged.specs.Fields.{Opened, field_bytes, open_of, any_sort, Placed, Field, fields_at, read_placed}
use Rattle.tagged.proofs.FieldLaws.{Whole, open_whole, open_none}
use Rattle.tagged.proofs.ListLaws.{read_end, read_stop, read_more}
use Rattle.tagged.proofs.ListBytes.{field_whole, field_payload, field_after}

abbrev pub field_at : ℕ → Sort → List ℕ → Placed Field
field_at place s p = record { place = place; what = record { sort = s; payload = p } }

-- what stands at the front
pub fields_none : (base : ℕ) (l : List ℕ) (x : Fault) → open_of 0 0 l ≡ Err x → fields_at base l ≡ []
unfolding fields_at
fields_none base l x e = read_end any_sort _ base l x e

pub fields_more : (base : ℕ) (l : List ℕ) {s : Sort} {n : ℕ} → Whole l s n → fields_at base l ≡ field_at base s (take n (drop 3 l)) ∷ fields_at (base + (n + 3)) (drop (n + 3) l)
unfolding fields_at
fields_more base l w = read_more any_sort _ base l w refl

-- the fields of a wanted sort as `read` gives them, up to the first that is not wanted
abbrev pub reading : {A : Type 0} → (Sort → Bool) → (Sort → List ℕ → A) → List (Placed Field) → List (Placed A)
reading wanted read [] = []
reading wanted read (x ∷ l) = choose (wanted x.what.sort) (λ _. record { place = x.place; what = read x.what.sort x.what.payload } ∷ reading wanted read l) (λ _. [])

-- a list read by a wanted sort is its fields read so
module _ {A : Type 0} (wanted : Sort → Bool) (read : Sort → List ℕ → A) where
  Agree : ℕ → List ℕ → Type 0
  Agree base l = read_placed wanted read base l ≡ reading wanted read (fields_at base l)

  kept : (base : ℕ) (l : List ℕ) (s : Sort) (n : ℕ) → Whole l s n → (t : Bool) → wanted s ≡ t → Agree (base + (n + 3)) (drop (n + 3) l) → Agree base l
  unfolding Agree
  kept base l s n w false off later = read_stop wanted read base l w off ∙ rw (fields_more base l w, off)
  kept base l s n w true on later = read_more wanted read base l w on ∙ rw later (rw (fields_more base l w, on))

  step_agrees : (most base : ℕ) (l : List ℕ) → length l ≤ suc most → ((base : ℕ) (l : List ℕ) → length l ≤ most → Agree base l) →
      (o : Opened) → open_of 0 0 l ≡ o → Agree base l
  unfolding Agree
  step_agrees most base l h shorter (Err x) e = read_end wanted read base l x e ∙ rw (fields_none base l x e)
  step_agrees most base l h shorter (Ok (s, n)) e =
      let w = open_whole 0 0 l e in
      kept base l s n w (wanted s) refl (shorter (base + (n + 3)) (drop (n + 3) l) (omega (arith, h, w.within, length-drop (n + 3) l)))

  empty_agrees : (base : ℕ) (l : List ℕ) → length l ≤ 0 → Agree base l
  unfolding Agree
  empty_agrees base l h =
      let none = open_none 0 0 l (omega (arith, h)) in
      read_end wanted read base l _ none ∙ rw (fields_none base l _ none)

  up_to_agrees : (most base : ℕ) (l : List ℕ) → length l ≤ most → Agree base l
  up_to_agrees zero base l h = empty_agrees base l h
  up_to_agrees (suc most) base l h = step_agrees most base l h (λ b m k. up_to_agrees most b m k) (open_of 0 0 l) refl

  pub read_fields : (base : ℕ) (l : List ℕ) → read_placed wanted read base l ≡ reading wanted read (fields_at base l)
  unfolding Agree
  read_fields base l = up_to_agrees (length l) base l (omega arith)

-- a field that was written, and what follows it
pub fields_written : (base tag : ℕ) (p after : List ℕ) → length p < 65536 →
    fields_at base (field_bytes tag p ++ after) ≡ field_at base (sort_of tag) p ∷ fields_at (base + (length p + 3)) after
fields_written base tag p after short =
    fields_more base (field_bytes tag p ++ after) (field_whole tag p after short) ∙ rw (field_payload tag p after, field_after tag p after)
