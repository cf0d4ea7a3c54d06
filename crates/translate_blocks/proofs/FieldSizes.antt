-- How many bytes fields take: the one at the front and what follows it lie within a payload, and so do all fields of a list.
use Rattle.std.specs.Prelude.{Ok, Err}
use mathlib.Core.Path.{◌≡◌, refl, subst}
use mathlib.Core.List.{List, [], ◌∷◌}
use Prim.Native.Nat.{ℕ, zero, suc, ◌+◌, ◌-◌, ◌≤◌}
use native.Mathlib.Omega.{arith}
use lib.ListN.{length, take, drop, length-take, length-drop}
use Rattle.tagged.specs.Answers.{fault_at}
use Rattle.tagged.specs.Fields.{open_of, on_field, fields_at, Placed, Field, Opened}
use Rattle.tagged.specs.declared.sorts.Sort.{Sort}
use Rattle.tagged.proofs.FieldLaws.{Whole, open_none, open_whole}
use Rattle.tagged.proofs.FieldLists.{fields_none, fields_more}
use Rattle.verilog.specs.Reading.{front_by, after_front}

-- the bytes of the fields of a list, each with its header
unfoldable pub fields_size : List (Placed Field) → ℕ
fields_size [] = 0
fields_size (f ∷ l) = length f.what.payload + 3 + fields_size l

-- the bytes of the field at the front, its header counted
abbrev pub front_size : List ℕ → ℕ
front_size l = on_field (open_of 0 0 l) (λ s n. n + 3) 0

pub front_within : (l : List ℕ) → front_size l + length (after_front l) ≤ length l
front_within l = go (open_of 0 0 l) refl
  where
    go : (o : Opened) → open_of 0 0 l ≡ o → on_field o (λ s n. n + 3) 0 + length (on_field o (λ s n. drop (n + 3) l) []) ≤ length l
    go (Ok (s, n)) e = omega (arith, length-drop (n + 3) l, (open_whole 0 0 l e).within)
    go (Err x) e = omega arith

-- what holds of every payload's reading, by its field's bytes, and of none by no byte, holds of what stands at the front
pub front_sized : {A : Type 0} (P : ℕ → A → Type 0) (read : Sort → List ℕ → A) (none : A) (l : List ℕ) → ((s : Sort) (p : List ℕ) → P (length p + 3) (read s p)) →
    P 0 none → P (front_size l) (front_by read none l)
front_sized P read none l holds nothing = go (open_of 0 0 l) refl
  where
    go : (o : Opened) → open_of 0 0 l ≡ o → P (on_field o (λ s n. n + 3) 0) (on_field o (λ s n. read s (take n (drop 3 l))) none)
    go (Ok (s, n)) e =
        let size : length (take n (drop 3 l)) ≡ n = omega (arith, length-take n (drop 3 l), length-drop 3 l, (open_whole 0 0 l e).within) in
        subst (λ (k : ℕ). P (k + 3) (read s (take n (drop 3 l)))) size (holds s (take n (drop 3 l)))
    go (Err x) e = nothing

-- the fields of a list, of which each is at least a header
fields_within_most : (most base : ℕ) (l : List ℕ) → length l ≤ most → fields_size (fields_at base l) ≤ length l
unfolding fields_size
fields_within_most zero base l short =
    let none : fields_at base l ≡ [] = fields_none base l (fault_at 0) (open_none 0 0 l (omega arith)) in
    rw none (omega arith)
fields_within_most (suc most) base l short = go (open_of 0 0 l) refl (λ n h. fields_within_most most (base + (n + 3)) (drop (n + 3) l) h)
  where
    go : (o : Opened) → open_of 0 0 l ≡ o → ((n : ℕ) → length (drop (n + 3) l) ≤ most → fields_size (fields_at (base + (n + 3)) (drop (n + 3) l)) ≤ length (drop (n + 3) l)) →
        fields_size (fields_at base l) ≤ length l
    go (Ok (s, n)) e later =
        let whole : Whole l s n = open_whole 0 0 l e in
        let left : length (drop (n + 3) l) ≡ length l - (n + 3) = length-drop (n + 3) l in
        let size : length (take n (drop 3 l)) ≤ n = omega (arith, length-take n (drop 3 l)) in
        rw (fields_more base l whole) (omega (arith, later n (omega (arith, left)), left, size, whole.within))
    go (Err x) e later = rw (fields_none base l x e) (omega arith)

pub fields_within : (base : ℕ) (l : List ℕ) → fields_size (fields_at base l) ≤ length l
fields_within base l = fields_within_most (length l) base l (omega arith)
