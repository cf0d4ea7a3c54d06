-- Laws of fields, in the form in which code asks them: each chain of equations ends in a definition of specs/Fields.
use Rattle.tagged.specs.declared.answers.Fault.{Fault}
use Rattle.tagged.specs.Answers.{fault_at}
use Rattle.std.specs.Prelude.{Ok, Err}
use mathlib.Core.Path.{◌≡◌, refl, sym, ap, ◌∙◌}
use mathlib.Core.Bool.{Bool, true, false, cond}
use mathlib.Core.List.{List}
use Prim.Native.Nat.{ℕ, ◌+◌, ◌-◌, ◌≤◌, ◌<◌}
use native.Mathlib.Nat.{add-sub_cancel}
use native.Mathlib.Omega.{arith}
use lib.Dec.{ltb, leb, eqb}
use lib.ListN.{length, get_or, take, drop}
use borrow.Author.Tests.{leb-true, ltb-false, eq-eqb, ne_eqb, le-leb, lt-leb, lt-ltb, le-ltb}
use Rattle.tagged.specs.Sorts.{sort_of}
use Rattle.tagged.specs.declared.sorts.Sort.{Sort}
use Rattle.tagged.specs.Fields.{faultless, Opened, Judged, Step, size_of, open_of, Judge, Stepper, Body, passing, after_opening, field_by, then_by, fixed_then, ended}
use Rattle.tagged.proofs.ByteLaws.{rest}

-- one field has one sort and one size
abbrev sort_in : Opened → Sort
sort_in (Ok (s, n)) = s
sort_in (Err x) = Sort.Unknown

abbrev size_in : Opened → ℕ
size_in (Ok (s, n)) = n
size_in (Err x) = 0

pub one_sort : {s t : Sort} {n m : ℕ} → ◌≡◌ {A = Opened} (Ok (s, n)) (Ok (t, m)) → s ≡ t
one_sort e = ap sort_in e

pub one_size : {s t : Sort} {n m : ℕ} → ◌≡◌ {A = Opened} (Ok (s, n)) (Ok (t, m)) → n ≡ m
one_size e = ap size_in e

-- a whole field stands at the front of l: its sort, and its payload's length
pub record Whole (l : List ℕ) (s : Sort) (n : ℕ) : Type 0 where
  pub sort : s ≡ sort_of (get_or l 0 0)
  pub size : n ≡ size_of l
  pub within : n + 3 ≤ length l

module _ (base owner : ℕ) (l : List ℕ) where
  -- opening says that a whole field is there, and only then
  pub whole_open : {s : Sort} {n : ℕ} → Whole l s n → open_of base owner l ≡ Ok (s, n)
  unfolding open_of
  whole_open {s} {n} w =
      let some : length l ≡ 0 → ⊥ = λ e. omega arith in
      let long : 3 ≤ length l = omega arith in
      let room : size_of l ≤ length l - 3 = omega (arith, w.size) in
      rw (w.sort, w.size, ne_eqb _ _ some, le-ltb _ _ long, le-leb _ _ room)

  pub open_none : length l ≡ 0 → open_of base owner l ≡ Err (fault_at owner)
  unfolding open_of
  open_none h = rw (eq-eqb _ _ h)

  pub open_cut : (length l ≡ 0 → ⊥) → length l < 3 → open_of base owner l ≡ Err (fault_at base)
  unfolding open_of
  open_cut some h = rw (ne_eqb _ _ some, lt-ltb _ _ h)

  pub open_beyond : {n : ℕ} → n ≡ size_of l → 3 ≤ length l → length l < n + 3 → open_of base owner l ≡ Err (fault_at base)
  unfolding open_of
  open_beyond {n} e h k =
      let some : length l ≡ 0 → ⊥ = λ z. omega arith in
      let over : length l - 3 < size_of l = omega (arith, e) in
      rw (ne_eqb _ _ some, le-ltb _ _ h, lt-leb _ _ over)

  pub open_whole : {s : Sort} {n : ℕ} → open_of base owner l ≡ Ok (s, n) → Whole l s n
  unfolding open_of
  open_whole {s} {n} e = go (eqb (length l) 0) (ltb (length l) 3) (leb (size_of l) (length l - 3)) refl refl e
    where
      go : (none cut room : Bool) → ltb (length l) 3 ≡ cut → leb (size_of l) (length l - 3) ≡ room →
          cond none (Err (fault_at owner)) (cond cut (Err (fault_at base)) (cond {A = Opened} room (Ok (sort_of (get_or l 0 0), size_of l)) (Err (fault_at base)))) ≡ Ok (s, n)
          → Whole l s n
      go true cut room p q e = absurd (let z : ◌≡◌ {A = ℕ} 0 1 = cc in omega arith)
      go false true room p q e = absurd (let z : ◌≡◌ {A = ℕ} 0 1 = cc in omega arith)
      go false false false p q e = absurd (let z : ◌≡◌ {A = ℕ} 0 1 = cc in omega arith)
      go false false true p q e =
          let size : size_of l ≡ n = one_size e in
          record {
            sort = sym (one_sort e);
            size = sym size;
            within = omega (arith, leb-true (size_of l) (length l - 3) q, ltb-false (length l) 3 p);
          }

  -- one field
  module _ (o : Opened) (ol : o ≡ open_of base owner l) (body : Body) where
    pub field_refused : (x : Fault) → o ≡ Err x → Err x ≡ field_by body base owner l
    unfolding field_by
    field_refused x e = rw (← ol, e)

    pub field_past : (s : Sort) (n : ℕ) → o ≡ Ok (s, n) → (w : Judged) → w ≡ body base s (take (n + 3 - 3) (drop 3 l)) →
        (r : Step) → r ≡ passing w (n + 3) → r ≡ field_by body base owner l
    unfolding field_by
    field_past s n e w wb r rw' = rw' ∙ rw (← ol, e, ← add-sub_cancel n 3, ← wb)

-- a field that was passed: whole, its payload fine, and so many bytes long
pub record Passed (body : Body) (base : ℕ) (l : List ℕ) (m : ℕ) : Type 0 where
  pub sort : Sort
  pub size : ℕ
  pub whole : Whole l sort size
  pub fine : body base sort (take size (drop 3 l)) ≡ faultless
  pub bytes : m ≡ size + 3

pub field_passed : (body : Body) (base owner : ℕ) (l : List ℕ) (m : ℕ) → field_by body base owner l ≡ Ok m → Passed body base l m
unfolding field_by
field_passed body base owner l m e = go (open_of base owner l) refl e
  where
    judged : (s : Sort) (n : ℕ) → Whole l s n → (w : Judged) → body base s (take n (drop 3 l)) ≡ w → passing w (n + 3) ≡ Ok m → Passed body base l m
    judged s n whole (Ok _) p q = let z : n + 3 ≡ m = cc in record { sort = s; size = n; whole = whole; fine = p; bytes = sym z }
    judged s n whole (Err x) p q = absurd (let z : ◌≡◌ {A = ℕ} 0 1 = cc in omega arith)

    go : (o : Opened) → open_of base owner l ≡ o → after_opening o (λ s n. passing (body base s (take n (drop 3 l))) (n + 3)) ≡ Ok m → Passed body base l m
    go (Ok (s, n)) p q = judged s n (open_whole base owner l p) (body base s (take n (drop 3 l))) refl q
    go (Err x) p q = absurd (let z : ◌≡◌ {A = ℕ} 0 1 = cc in omega arith)

-- and back: such a field is passed
pub passed_field : (body : Body) (base owner : ℕ) (l : List ℕ) (m : ℕ) → Passed body base l m → field_by body base owner l ≡ Ok m
unfolding field_by
passed_field body base owner l m p = rw (whole_open base owner l p.whole, p.fine, p.bytes)

-- a field that is passed is at least a header, and lies within the list
pub past_within : (body : Body) (base owner : ℕ) (l : List ℕ) (r : Step) (m : ℕ) → r ≡ field_by body base owner l → r ≡ Ok m → (3 ≤ m) × (m ≤ length l)
past_within body base owner l r m p q =
    let f = field_passed body base owner l m (sym p ∙ q) in
    let b = f.bytes in
    let w = f.whole.within in
    (omega arith, omega arith)

-- one field and then more
module _ (first : Stepper) (next : Judge) (base owner : ℕ) (l : List ℕ) (s : Step) (sf : s ≡ first base owner l) where
  pub then_refused : (x : Fault) → s ≡ Err x → Err x ≡ then_by first next base owner l
  unfolding then_by
  then_refused x e = rw (← sf, e)

  pub then_past : (m : ℕ) → s ≡ Ok m → (w : Judged) → w ≡ next (base + m) owner (take (length l - m) (drop m l)) → w ≡ then_by first next base owner l
  unfolding then_by
  then_past m e w wn = wn ∙ rw (← sf, e, rest)

-- fixed bytes and then more
module _ (n : ℕ) (next : Judge) (base owner : ℕ) (l : List ℕ) where
  pub fixed_short : length l < n → Err (fault_at owner) ≡ fixed_then n next base owner l
  unfolding fixed_then
  fixed_short h = rw (lt-ltb _ _ h)

  pub fixed_then_lem : n ≤ length l → (w : Judged) → w ≡ next (base + n) owner (take (length l - n) (drop n l)) → w ≡ fixed_then n next base owner l
  unfolding fixed_then
  fixed_then_lem h w wn = wn ∙ rw (le-ltb _ _ h, rest)

-- nothing left, or something
pub ended_fine : (base owner : ℕ) (l : List ℕ) → length l ≡ 0 → faultless ≡ ended base owner l
unfolding ended
ended_fine base owner l e = rw (eq-eqb _ _ e)

pub ended_over : (base owner : ℕ) (l : List ℕ) → (length l ≡ 0 → ⊥) → Err (fault_at owner) ≡ ended base owner l
unfolding ended
ended_over base owner l n = rw (ne_eqb _ _ n)
