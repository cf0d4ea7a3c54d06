-- Laws of a list of fields that was passed: by which sorts, what is read of it and what each element read has; where such a list stops;
-- and that a list that is written is passed and read as it was. By induction on the fields that it was passed by, or on the list.
use Rattle.std.specs.Prelude.{Ok, Err}
use mathlib.Core.Path.{◌≡◌, refl, sym, ap, ◌∙◌}
use mathlib.Core.Bool.{Bool, true, false, true≢false}
use mathlib.Core.List.{List, [], ◌∷◌, ◌++◌, append-nil, Memᴰ}
use Prim.Native.Nat.{ℕ, ◌+◌, ◌≤◌, ◌<◌}
use native.Mathlib.Omega.{arith}
use lib.ListN.{length, get_or, take, drop, length-take, length-drop}
use borrow.Author.Tests.{eqb-true}
use Rattle.tagged.specs.Bytes.{AllBytes}
use Rattle.tagged.specs.Sorts.{tag_of, is_sort}
use Rattle.tagged.specs.declared.sorts.Sort.{Sort}
use Rattle.tagged.specs.Fields.{faultless, Opened, Step, field_bytes, all_bytes_of, open_of, Body, field_by, ended, many, any_sort, until_end, read_placed, unplaced, placed_by}
use Rattle.tagged.proofs.ByteLaws.{bytes_drop, bytes_take, two_lt}
use Rattle.tagged.proofs.FieldLaws.{Whole, open_whole}
use Rattle.tagged.proofs.ListLaws.{read_end, read_stop, read_more, read_anywhere}
use Rattle.tagged.proofs.SortLaws.{sort_back}
use Rattle.tagged.proofs.ListBytes.{Run, stop, more, many_run, Stops, Stands, Each, none, run_read, list_many, list_read, placed_unplaced}
use Rattle.tagged.proofs.JudgeLaws.{then_tells, ended_tells, last_written}

-- fields that are passed lie within the list
run_within : {wanted : Sort → Bool} {body : Body} {base : ℕ} {l : List ℕ} {m : ℕ} → Run wanted body base l m → m ≤ length l
run_within (stop off) = omega arith
run_within {l = l} (more {m = j} p is tail) = omega (arith, run_within tail, length-drop j l, p.bytes, p.whole.within)

pub many_within : (wanted : Sort → Bool) (body : Body) (base owner : ℕ) (l : List ℕ) (r : Step) (m : ℕ) →
    r ≡ many wanted (field_by body) base owner l → r ≡ Ok m → m ≤ length l
many_within wanted body base owner l r m p q = run_within (many_run wanted body (length l) base owner l m (omega arith) (sym p ∙ q))

-- a run over all fields is one over the wanted ones, where every other has a fault
pub only_wanted : (wanted : Sort → Bool) (body : Body) → ((base : ℕ) (s : Sort) (l : List ℕ) → AllBytes l → body base s l ≡ faultless → wanted s ≡ true) →
    {base m : ℕ} {l : List ℕ} → AllBytes l → Run any_sort body base l m → Run wanted body base l m
only_wanted wanted body only h (stop off) = stop (λ s n w. absurd (true≢false (off s n w)))
only_wanted wanted body only {base} {l = l} h (more {m = j} p is tail) =
    more p (only base p.sort (take p.size (drop 3 l)) (bytes_take p.size (drop 3 l) (bytes_drop 3 l h)) p.fine)
    (only_wanted wanted body only (bytes_drop j l h) tail)

-- fields until the end: where every other has a fault, the wanted ones take the whole list
pub until_run : (wanted : Sort → Bool) (body : Body) → ((base : ℕ) (s : Sort) (l : List ℕ) → AllBytes l → body base s l ≡ faultless → wanted s ≡ true) →
    (base owner : ℕ) (l : List ℕ) → AllBytes l → until_end (field_by body) base owner l ≡ faultless → (m : ℕ) × Run wanted body base l m × (length l ≤ m)
until_run wanted body only base owner l h e =
    let t = then_tells (many any_sort (field_by body)) ended base owner l e in
    let over = ended_tells (base + t.size) owner (drop t.size l) t.rest in
    let run = many_run any_sort body (length l) base owner l t.size (omega arith) t.passed in
    (t.size, only_wanted wanted body only h run, omega (arith, length-drop t.size l))

-- what every payload without a fault gives, every element of the list read has
module _ {A : Type 0} (wanted : Sort → Bool) (body : Body) (read : Sort → List ℕ → A) (P : A → Type 0)
    (has : (at : ℕ) (s : Sort) (l : List ℕ) → AllBytes l → length l < 65536 → wanted s ≡ true → body at s l ≡ faultless → P (read s l)) where
  of_none : (a : A) → Memᴰ a [] → P a
  of_none a m = elim m [ ]

  of_more : {x : A} {l : List A} → P x → ((a : A) → Memᴰ a l → P a) → (a : A) → Memᴰ a (x ∷ l) → P a
  of_more p h a (Memᴰ.head e) = rw e p
  of_more p h a (Memᴰ.tail m) = h a m

  none_read : (base : ℕ) (l : List ℕ) → ((s : Sort) (n : ℕ) → Whole l s n → wanted s ≡ false) → (a : A) → Memᴰ a (unplaced (read_placed wanted read base l)) → P a
  none_read base l off = go (open_of 0 0 l) refl
    where
      go : (o : Opened) → open_of 0 0 l ≡ o → (a : A) → Memᴰ a (unplaced (read_placed wanted read base l)) → P a
      go (Ok (s, n)) p = let w = open_whole 0 0 l p in rw (read_stop wanted read base l w (off s n w)) of_none
      go (Err y) p = rw (read_end wanted read base l y p) of_none

  pub run_has : {base : ℕ} {l : List ℕ} {m : ℕ} → AllBytes l → Run wanted body base l m → (a : A) → Memᴰ a (unplaced (read_placed wanted read base l)) → P a
  run_has {base} {l} h (stop off) = none_read base l off
  run_has {base} {l} h (more {m = j} f is tail) =
      let payload = take f.size (drop 3 l) in
      let short : length payload < 65536 = omega (arith, length-take f.size (drop 3 l), f.whole.size, two_lt (get_or l 1 0) (get_or l 2 0) (h 1) (h 2)) in
      let first = has base f.sort payload (bytes_take f.size (drop 3 l) (bytes_drop 3 l h)) short is f.fine in
      let size : j ≡ f.size + 3 = f.bytes in
      rw (read_more wanted read base l f.whole is, ← size) (of_more first (run_has (bytes_drop j l h) tail))

-- a wanted sort has a tag
abbrev pub Known : (Sort → Bool) → Type 0
Known wanted = (s : Sort) → wanted s ≡ true → tag_of s ≡ 0 → ⊥

pub sort_known : (a : Sort) → (tag_of a ≡ 0 → ⊥) → Known (is_sort a)
sort_known a some s is e = some (eqb-true _ _ is ∙ e)

-- what is read of a list that was passed, with places and without
pub record Listed {A : Type 0} (wanted : Sort → Bool) (read : Sort → List ℕ → A) (bytes : A → List ℕ) (base : ℕ) (l : List ℕ) (m : ℕ) : Type 0 where
  pub places : read_placed wanted read base l ≡ placed_by bytes base (unplaced (read_placed wanted read 0 l))
  pub written : take m l ≡ all_bytes_of bytes (unplaced (read_placed wanted read 0 l))
  pub within : m ≤ length l

pub run_listed : {A : Type 0} (wanted : Sort → Bool) (body : Body) (read : Sort → List ℕ → A) (bytes : A → List ℕ)
    (known : Known wanted)
    (back : (base : ℕ) (s : Sort) (payload : List ℕ) → AllBytes payload → wanted s ≡ true → body base s payload ≡ faultless
    → bytes (read s payload) ≡ field_bytes (tag_of s) payload)
    {base : ℕ} {l : List ℕ} {m : ℕ} → AllBytes l → Run wanted body base l m → Listed wanted read bytes base l m
run_listed wanted body read bytes known back {base} {l} {m} h run =
    let r = run_read wanted body read bytes known back h run in
    let items : r.items ≡ unplaced (read_placed wanted read 0 l) =
    sym (ap unplaced r.reads ∙ placed_unplaced bytes base r.items) ∙ read_anywhere wanted read 0 base 0 l in
    record {
      places = r.reads ∙ ap (placed_by bytes base) items;
      written = r.written ∙ ap (all_bytes_of bytes) items;
      within = r.within;
    }

-- a list each of whose elements stands as a field
pub each_stands : {A : Type 0} (wanted : Sort → Bool) (body : Body) (read : Sort → List ℕ → A) (bytes : A → List ℕ) (l : List A)
    → ((a : A) → Memᴰ a l → Stands wanted body read bytes a) → Each wanted body read bytes l
each_stands wanted body read bytes [] h = Each.none
each_stands wanted body read bytes (a ∷ l) h = Each.more (h a (Memᴰ.head refl)) (each_stands wanted body read bytes l (λ b m. h b (Memᴰ.tail m)))

-- where a list that is wanted stops: at no field, or at a field that is not wanted
pub stops_none : (wanted : Sort → Bool) → Stops wanted []
unfolding Stops
stops_none wanted some = absurd (some refl)

pub stops_field : (wanted : Sort → Bool) (s : Sort) (payload after : List ℕ) → wanted s ≡ false → Stops wanted (field_bytes (tag_of s) payload ++ after)
unfolding Stops field_bytes
stops_field wanted s payload after off some = ap wanted (sort_back s) ∙ off

-- a written list is passed and read as it was
module _ {A : Type 0} (wanted : Sort → Bool) (body : Body) (read : Sort → List ℕ → A) (bytes : A → List ℕ) where
  -- what is read of a list, without places
  abbrev pub list_in : List ℕ → List A
  list_in l = unplaced (read_placed wanted read 0 l)

  any_each : {l : List A} → Each wanted body read bytes l → Each any_sort body read bytes l
  any_each none = Each.none
  any_each (more x each) = Each.more (record { sort = x.sort; payload = x.payload; field = x.field; short = x.short; is = refl; fine = x.fine; back = x.back })
      (any_each each)

  pub until_stands : {l : List A} (base owner : ℕ) → Each wanted body read bytes l → until_end (field_by body) base owner (all_bytes_of bytes l) ≡ faultless
  until_stands {l} base owner each =
      last_written (many any_sort (field_by body)) base owner (all_bytes_of bytes l)
      (list_many any_sort body read bytes base owner [] (any_each each) (stops_none any_sort))

  pub list_back : {l : List A} (after : List ℕ) → Each wanted body read bytes l → Stops wanted after → list_in (all_bytes_of bytes l ++ after) ≡ l
  list_back {l} after each stops = ap unplaced (list_read wanted body read bytes 0 after each stops) ∙ placed_unplaced bytes 0 l

  pub until_back : {l : List A} → Each wanted body read bytes l → list_in (all_bytes_of bytes l) ≡ l
  until_back {l} each = ap list_in (sym (append-nil (all_bytes_of bytes l))) ∙ list_back [] each (stops_none wanted)
