-- Laws of lists of fields: one turn of a walk over them, and that lists and their bytes give each other back, both ways.
use Rattle.std.specs.Prelude.{Ok, Err}
use mathlib.Core.Path.{◌≡◌, refl, sym, ap, ◌∙◌}
use mathlib.Core.Bool.{Bool, true, false}
use mathlib.Core.List.{List, [], ◌∷◌}
use Prim.Native.Nat.{ℕ, zero, suc, ◌+◌, ◌-◌, ◌≤◌, ◌<◌}
use native.Mathlib.Nat.{add-zero, zero-add, add_assoc}
use native.Mathlib.Numerals.{sub-one, one-add}
use native.Mathlib.Omega.{arith}
use lib.ListN.{length, get_or, take, drop, length-drop}
use lib.Seq.{drop-drop}
use Rattle.tagged.specs.declared.answers.Fault.{Fault}
use Rattle.tagged.specs.Choice.{choose}
use Rattle.tagged.specs.Sorts.{sort_of}
use Rattle.tagged.specs.declared.sorts.Sort.{Sort}
use Rattle.tagged.specs.Fields.{Opened, Step, open_of, Stepper, further, many_from, many, Placed, on_field, read_from, read_placed, unplaced}
use Rattle.tagged.proofs.ByteLaws.{rest}
use Rattle.tagged.proofs.FieldLaws.{Whole, whole_open}

-- steps add up
pub further_zero : (s : Step) → further 0 s ≡ s
further_zero (Ok m) = rw zero-add
further_zero (Err x) = refl

pub further-further : (a b : ℕ) (s : Step) → further a (further b s) ≡ further (a + b) s
further-further a b (Ok m) = rw add_assoc
further-further a b (Err x) = refl

pub further_past : (a : ℕ) (s : Step) (m : ℕ) → further a s ≡ Ok m → (k : ℕ) × (s ≡ Ok k) × (a + k ≡ m)
further_past a (Ok k) m e = (k, refl, cc)
further_past a (Err x) m e = absurd (let z : ◌≡◌ {A = ℕ} 0 1 = cc in omega arith)

-- what a list of fields is, by what stands at its front
module _ (wanted : Sort → Bool) (one : Stepper) where
  pub many_skip : (n base owner : ℕ) (l : List ℕ) → n ≤ length l → many_from wanted one n base owner l ≡ further n (many wanted one (base + n) owner (drop n l))
  unfolding many_from
  many_skip zero base owner [] h = refl
  many_skip (suc n) base owner [] h = absurd (omega arith)
  many_skip zero base owner (x ∷ l) h =
      sym (further_zero (many wanted one base owner (x ∷ l))) ∙ ap (λ (b : ℕ). further 0 (many wanted one b owner (x ∷ l))) (sym (add-zero base))
  many_skip (suc n) base owner (x ∷ l) h =
      let next : base + 1 + n ≡ base + suc n = omega arith in
      let h' : n ≤ length l = omega arith in
      ap (further 1) (many_skip n (base + 1) owner l h') ∙ rw (further-further, one-add, next)

  pub many_none : (base owner : ℕ) (l : List ℕ) → length l ≡ 0 → many wanted one base owner l ≡ Ok 0
  unfolding many_from
  many_none base owner [] h = refl
  many_none base owner (x ∷ l) h = absurd (omega arith)

  pub many_stop : (base owner : ℕ) (l : List ℕ) → (length l ≡ 0 → ⊥) → wanted (sort_of (get_or l 0 0)) ≡ false → many wanted one base owner l ≡ Ok 0
  unfolding many_from
  many_stop base owner [] some h = absurd (some refl)
  many_stop base owner (x ∷ l) some h = rw h

  pub many_refused : (base owner : ℕ) (l : List ℕ) → (length l ≡ 0 → ⊥) → wanted (sort_of (get_or l 0 0)) ≡ true →
      (x : Fault) → one base owner l ≡ Err x → many wanted one base owner l ≡ Err x
  unfolding many_from
  many_refused base owner [] some h y e = absurd (some refl)
  many_refused base owner (x ∷ l) some h y e = rw (h, e)

  pub many_past : (base owner : ℕ) (l : List ℕ) → (length l ≡ 0 → ⊥) → wanted (sort_of (get_or l 0 0)) ≡ true →
      (m : ℕ) → one base owner l ≡ Ok m → 1 ≤ m → m ≤ length l → many wanted one base owner l ≡ further m (many wanted one (base + m) owner (drop m l))
  unfolding many_from
  many_past base owner [] some h m e low high = absurd (some refl)
  many_past base owner (x ∷ l) some h zero e low high = absurd (omega arith)
  many_past base owner (x ∷ l) some h (suc m) e low high =
      let next : base + 1 + m ≡ base + suc m = omega arith in
      let high' : m ≤ length l = omega arith in
      rw (h, e, sub-one) (ap (further 1) (many_skip m (base + 1) owner l high') ∙ rw (further-further, one-add, next))

  -- one turn of a loop that has come to the index `at` of the list
  module _ (base owner : ℕ) (l : List ℕ) (at : ℕ) (going : many wanted one base owner l ≡ further at (many wanted one (base + at) owner (drop at l))) where
    pub turn_done : length l ≤ at → Ok at ≡ many wanted one base owner l
    turn_done h =
        let none : length (drop at l) ≡ 0 = rw length-drop (omega arith) in
        rw (going, many_none (base + at) owner (drop at l) none, add-zero)

    module _ (h : at < length l) where
      some : length (drop at l) ≡ 0 → ⊥
      some = rw length-drop (λ e. omega arith)

      pub turn_stop : wanted (sort_of (get_or (drop at l) 0 0)) ≡ false → Ok at ≡ many wanted one base owner l
      turn_stop w = rw (going, many_stop (base + at) owner (drop at l) some w, add-zero)

      module _ (w : wanted (sort_of (get_or (drop at l) 0 0)) ≡ true) (s : Step) (so : s ≡ one (base + at) owner (take (length l - at) (drop at l))) where
        here : one (base + at) owner (drop at l) ≡ s
        here = sym (rw rest at so)

        pub turn_refused : (x : Fault) → s ≡ Err x → Err x ≡ many wanted one base owner l
        turn_refused x e = rw (going, many_refused (base + at) owner (drop at l) some w x (here ∙ e))

        pub turn_past : (m : ℕ) → s ≡ Ok m → (3 ≤ m) × (m ≤ length (take (length l - at) (drop at l))) →
            many wanted one base owner l ≡ further (at + m) (many wanted one (base + (at + m)) owner (drop (at + m) l))
        turn_past m e b =
            let b' : m ≤ length (drop at l) = rw rest at b.1 in
            going ∙ ap (further at) (many_past (base + at) owner (drop at l) some w m (here ∙ e) (omega (arith, b.0)) b')
            ∙ further-further at m (many wanted one (base + at + m) owner (drop m (drop at l))) ∙ rw (drop-drop, add_assoc)

-- what is read of a list of fields, by what stands at its front
module _ {A : Type 0} (wanted : Sort → Bool) (read : Sort → List ℕ → A) where
  pub read_skip : (n base : ℕ) (l : List ℕ) → read_from wanted read n base l ≡ read_placed wanted read (base + n) (drop n l)
  unfolding read_from
  read_skip zero base [] = refl
  read_skip (suc n) base [] = refl
  read_skip zero base (x ∷ l) = ap (λ (b : ℕ). read_placed wanted read b (x ∷ l)) (sym (add-zero base))
  read_skip (suc n) base (x ∷ l) =
      let next : base + 1 + n ≡ base + suc n = omega arith in
      read_skip n (base + 1) l ∙ rw next

  pub read_end : (base : ℕ) (l : List ℕ) (x : Fault) → open_of 0 0 l ≡ Err x → read_placed wanted read base l ≡ []
  unfolding read_from
  read_end base [] x e = refl
  read_end base (y ∷ l) x e = rw e

  pub read_stop : (base : ℕ) (l : List ℕ) {s : Sort} {n : ℕ} → Whole l s n → wanted s ≡ false → read_placed wanted read base l ≡ []
  unfolding read_from
  read_stop base [] w h = refl
  read_stop base (x ∷ l) w h = rw (whole_open 0 0 (x ∷ l) w, h)

  pub read_more : (base : ℕ) (l : List ℕ) {s : Sort} {n : ℕ} → Whole l s n → wanted s ≡ true →
      read_placed wanted read base l ≡ record { place = base; what = read s (take n (drop 3 l)) } ∷ read_placed wanted read (base + (n + 3)) (drop (n + 3) l)
  unfolding read_from
  read_more base [] w h = absurd (omega (arith, w.within))
  read_more base (x ∷ l) {s} {n} w h =
      let size : n + 3 ≡ suc (n + 2) = omega arith in
      let next : base + 1 + (n + 2) ≡ base + suc (n + 2) = omega arith in
      rw (whole_open 0 0 (x ∷ l) w, h, size, read_skip (n + 2) (base + 1) l, next)

  -- what is read does not depend on where it stands
  pub read_anywhere : (skip a b : ℕ) (l : List ℕ) → unplaced (read_from wanted read skip a l) ≡ unplaced (read_from wanted read skip b l)
  unfolding read_from
  read_anywhere zero a b [] = refl
  read_anywhere (suc n) a b [] = refl
  read_anywhere (suc n) a b (x ∷ l) = read_anywhere n (a + 1) (b + 1) l
  read_anywhere zero a b (x ∷ l) = go (open_of 0 0 (x ∷ l)) (λ n. read_anywhere n (a + 1) (b + 1) l)
    where
      here : ℕ → Bool → Sort → ℕ → List (Placed A)
      here base t s n = choose t (λ _. record { place = base; what = read s (take n (drop 3 (x ∷ l))) } ∷ read_from wanted read (n + 2) (base + 1) l) (λ _. [])

      side : (t : Bool) (s : Sort) (n : ℕ) → unplaced (read_from wanted read (n + 2) (a + 1) l) ≡ unplaced (read_from wanted read (n + 2) (b + 1) l) → unplaced (here a t s n) ≡ unplaced (here b t s n)
      side true s n later = ap (λ y. read s (take n (drop 3 (x ∷ l))) ∷ y) later
      side false s n later = refl

      go : (o : Opened) → ((n : ℕ) → unplaced (read_from wanted read n (a + 1) l) ≡ unplaced (read_from wanted read n (b + 1) l)) →
          unplaced (on_field o (λ s n. here a (wanted s) s n) []) ≡ unplaced (on_field o (λ s n. here b (wanted s) s n) [])
      go (Ok (s, n)) later = side (wanted s) s n (later (n + 2))
      go (Err y) later = refl
