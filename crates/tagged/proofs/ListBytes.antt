-- Lists of fields and their bytes give each other back: what is read without a fault is written as it stood, and what is written is read as it was.
use Rattle.std.specs.Prelude.{Ok, Err}
use mathlib.Core.Path.{◌≡◌, refl, sym, ap, ap₂, ◌∙◌, subst}
use mathlib.Core.Bool.{Bool, true, false}
use mathlib.Core.List.{List, [], ◌∷◌, ◌++◌, append_assoc}
use Prim.Native.Nat.{ℕ, zero, suc, ◌+◌, ◌≤◌, ◌<◌}
use native.Mathlib.Omega.{arith}
use lib.ListN.{length, get_or, take, drop, length-append, length-take, length-drop}
use lib.Seq.{take-add, take_at, drop_at}
use Rattle.tagged.specs.Bytes.{AllBytes, two_bytes, number_of_two}
use Rattle.tagged.specs.Sorts.{sort_of, tag_of}
use Rattle.tagged.specs.declared.sorts.Sort.{Sort}
use Rattle.tagged.specs.Fields.{faultless, Opened, Step, field_bytes, all_bytes_of, open_of, Body, further, field_by, many, read_placed, unplaced, placed_by}
use Rattle.tagged.proofs.ByteLaws.{bytes_two, bytes_drop, bytes_take, two_back}
use Rattle.tagged.proofs.SortLaws.{sort_back, tag_back}
use Rattle.tagged.proofs.FieldLaws.{Whole, open_whole, Passed, field_passed, passed_field}
use Rattle.tagged.proofs.ListLaws.{many_none, many_stop, many_refused, many_past, read_end, read_stop, read_more, further_past}

-- a whole field at the front is its tag, its length and its payload
pub whole_bytes : (l : List ℕ) {s : Sort} {n : ℕ} → AllBytes l → Whole l s n → take (n + 3) l ≡ field_bytes (get_or l 0 0) (take n (drop 3 l))
unfolding field_bytes
whole_bytes [] h w = absurd (omega (arith, w.within))
whole_bytes (a ∷ []) h w = absurd (omega (arith, w.within))
whole_bytes (a ∷ b ∷ []) h w = absurd (omega (arith, w.within))
whole_bytes (a ∷ b ∷ c ∷ l) {s} {n} h w =
    let three : n + 3 ≡ suc (suc (suc n)) = omega arith in
    let size : length (take n l) ≡ number_of_two b c = length-take n l ∙ omega (arith, w.within, w.size) in
    rw (three, size, bytes_two b c (h 1) (h 2))

-- a field that is written stands whole in front of whatever follows
pub field_whole : (tag : ℕ) (payload after : List ℕ) → length payload < 65536 → Whole (field_bytes tag payload ++ after) (sort_of tag) (length payload)
unfolding field_bytes two_bytes
field_whole tag payload after h = record {
  sort = refl;
  size = sym (two_back (length payload) h);
  within = omega (arith, length-append payload after);
}

pub field_payload : (tag : ℕ) (payload after : List ℕ) → take (length payload) (drop 3 (field_bytes tag payload ++ after)) ≡ payload
unfolding field_bytes two_bytes
field_payload tag payload after = take_at payload after (length payload) refl

pub field_after : (tag : ℕ) (payload after : List ℕ) → drop (length payload + 3) (field_bytes tag payload ++ after) ≡ after
unfolding field_bytes two_bytes
field_after tag payload after =
    let three : length payload + 3 ≡ suc (suc (suc (length payload))) = omega arith in
    rw three (drop_at payload after (length payload) refl)

pub field_length : (tag : ℕ) (payload : List ℕ) → length (field_bytes tag payload) ≡ length payload + 3
unfolding field_bytes two_bytes
field_length tag payload = omega arith

pub placed_unplaced : {A : Type 0} (bytes : A → List ℕ) (base : ℕ) (l : List A) → unplaced (placed_by bytes base l) ≡ l
unfolding placed_by
placed_unplaced bytes base [] = refl
placed_unplaced bytes base (a ∷ l) = ap (λ x. a ∷ x) (placed_unplaced bytes (base + length (bytes a)) l)

-- the fields that a list was passed by, one after the other, up to its end or to a field that is not wanted
pub data Run (wanted : Sort → Bool) (body : Body) : ℕ → List ℕ → ℕ → Type 0 where
  stop : {base : ℕ} {l : List ℕ} → ((s : Sort) (n : ℕ) → Whole l s n → wanted s ≡ false) → Run wanted body base l 0
  more : {base : ℕ} {l : List ℕ} {m k : ℕ} (p : Passed body base l m) → wanted p.sort ≡ true → Run wanted body (base + m) (drop m l) k → Run wanted body base l (m + k)

module _ (wanted : Sort → Bool) (body : Body) where
  nothing : (base owner m : ℕ) → many wanted (field_by body) base owner [] ≡ Ok m → Run wanted body base [] m
  nothing base owner m e =
      let z : 0 ≡ m = cc (many_none wanted (field_by body) base owner [] refl) in
      subst (λ (m : ℕ). Run wanted body base [] m) z (stop (λ s n w. absurd (omega (arith, w.within))))

  -- a list that was passed has such fields; `fuel` bounds its length
  pub many_run : (fuel base owner : ℕ) (l : List ℕ) (m : ℕ) → length l ≤ fuel → many wanted (field_by body) base owner l ≡ Ok m → Run wanted body base l m
  many_run zero base owner [] m h e = nothing base owner m e
  many_run zero base owner (x ∷ l) m h e = absurd (omega arith)
  many_run (suc fuel) base owner [] m h e = nothing base owner m e
  many_run (suc fuel) base owner (x ∷ l) m h e = first (wanted (sort_of x)) refl (field_by body base owner (x ∷ l)) refl (λ b l' k f e'. many_run fuel b owner l' k f e')
    where
      some : length (x ∷ l) ≡ 0 → ⊥
      some e = omega arith

      first : (b : Bool) → wanted (sort_of x) ≡ b → (r : Step) → field_by body base owner (x ∷ l) ≡ r
          → ((b : ℕ) (l' : List ℕ) (k : ℕ) → length l' ≤ fuel → many wanted (field_by body) b owner l' ≡ Ok k → Run wanted body b l' k) → Run wanted body base (x ∷ l) m
      first false off r p shorter =
          let z : 0 ≡ m = cc (many_stop wanted (field_by body) base owner (x ∷ l) some off) in
          subst (λ (m : ℕ). Run wanted body base (x ∷ l) m) z (stop (λ s n w. ap wanted w.sort ∙ off))
      first true is (Ok j) p shorter =
          let f = field_passed body base owner (x ∷ l) j p in
          let whole = many_past wanted (field_by body) base owner (x ∷ l) some is j p (omega (arith, f.bytes)) (omega (arith, f.bytes, f.whole.within)) in
          let after = further_past j (many wanted (field_by body) (base + j) owner (drop j (x ∷ l))) m (sym whole ∙ e) in
          let short : length (drop j (x ∷ l)) ≤ fuel = omega (arith, length-drop j (x ∷ l), f.bytes) in
          subst (λ (m : ℕ). Run wanted body base (x ∷ l) m) after.2
          (more f (ap wanted f.whole.sort ∙ is) (shorter (base + j) (drop j (x ∷ l)) after.0 short after.1))
      first true is (Err y) p shorter =
          absurd (let g = many_refused wanted (field_by body) base owner (x ∷ l) some is y p in let z : ◌≡◌ {A = ℕ} 0 1 = cc in omega arith)

-- what follows begins no field that is wanted
unfoldable pub Stops : (Sort → Bool) → List ℕ → Type 0
Stops wanted after = (length after ≡ 0 → ⊥) → wanted (sort_of (get_or after 0 0)) ≡ false

module _ {A : Type 0} (wanted : Sort → Bool) (body : Body) (read : Sort → List ℕ → A) (bytes : A → List ℕ) where
  -- from bytes: what is read of a list that was passed is written as it stood, and its places are those of its bytes
  pub record ManyRead (base : ℕ) (l : List ℕ) (m : ℕ) : Type 0 where
    pub items : List A
    pub reads : read_placed wanted read base l ≡ placed_by bytes base items
    pub written : take m l ≡ all_bytes_of bytes items
    pub within : m ≤ length l

  -- nothing that is wanted stands there
  none_read : (base : ℕ) (l : List ℕ) → ((s : Sort) (n : ℕ) → Whole l s n → wanted s ≡ false) → read_placed wanted read base l ≡ []
  none_read base l off = go (open_of 0 0 l) refl
    where
      go : (o : Opened) → open_of 0 0 l ≡ o → read_placed wanted read base l ≡ []
      go (Ok (s, n)) p = let w = open_whole 0 0 l p in read_stop wanted read base l w (off s n w)
      go (Err y) p = read_end wanted read base l y p

  module _ (known : (s : Sort) → wanted s ≡ true → tag_of s ≡ 0 → ⊥)
      (back : (base : ℕ) (s : Sort) (payload : List ℕ) → AllBytes payload → wanted s ≡ true → body base s payload ≡ faultless → bytes (read s payload) ≡ field_bytes (tag_of s) payload) where
    -- the element at the front, as it stood
    front_written : (base : ℕ) (l : List ℕ) {s : Sort} {n : ℕ} → AllBytes l → Whole l s n → wanted s ≡ true → body base s (take n (drop 3 l)) ≡ faultless
        → bytes (read s (take n (drop 3 l))) ≡ take (n + 3) l
    front_written base l {s} {n} h w is fine =
        let tag : tag_of s ≡ get_or l 0 0 = ap tag_of w.sort ∙ tag_back (get_or l 0 0) (λ e. known s is (ap tag_of w.sort ∙ e)) in
        back base s (take n (drop 3 l)) (bytes_take n (drop 3 l) (bytes_drop 3 l h)) is fine
        ∙ ap (λ (t : ℕ). field_bytes t (take n (drop 3 l))) tag ∙ sym (whole_bytes l h w)

    pub run_read : {base : ℕ} {l : List ℕ} {m : ℕ} → AllBytes l → Run wanted body base l m → ManyRead base l m
    unfolding placed_by all_bytes_of
    run_read {base} {l} h (stop off) = record { items = []; reads = none_read base l off; written = refl; within = omega arith }
    run_read {base} {l} h (more {m = j} {k = k} f is tail) =
        let item = read f.sort (take f.size (drop 3 l)) in
        let first : bytes item ≡ take j l = front_written base l h f.whole is f.fine ∙ ap (λ (n : ℕ). take n l) (sym f.bytes) in
        let long : length (bytes item) ≡ j = ap length first ∙ length-take j l ∙ omega (arith, f.bytes, f.whole.within) in
        let r = run_read (bytes_drop j l h) tail in
        record {
          items = item ∷ r.items;
          reads = read_more wanted read base l f.whole is
              ∙ ap (λ (n : ℕ). record { place = base; what = item } ∷ read_placed wanted read (base + n) (drop n l)) (sym f.bytes)
              ∙ ap (λ y. record { place = base; what = item } ∷ y) (r.reads ∙ ap (λ (n : ℕ). placed_by bytes (base + n) r.items) (sym long));
          written = take-add j k l ∙ ap₂ (λ (a b : List ℕ). a ++ b) (sym first) r.written;
          within = omega (arith, r.within, length-drop j l, f.bytes, f.whole.within);
        }

  -- from a list: each element is written as a field that its sort, its judge and its reader know
  pub record Stands (a : A) : Type 0 where
    pub sort : Sort
    pub payload : List ℕ
    pub field : bytes a ≡ field_bytes (tag_of sort) payload
    pub short : length payload < 65536
    pub is : wanted sort ≡ true
    pub fine : (base : ℕ) → body base sort payload ≡ faultless
    pub back : read sort payload ≡ a

  pub data Each : List A → Type 0 where
    none : Each []
    more : {a : A} {l : List A} → Stands a → Each l → Each (a ∷ l)

  module _ {a : A} (x : Stands a) (after : List ℕ) where
    stands_whole : Whole (bytes a ++ after) x.sort (length x.payload)
    stands_whole =
        subst (λ (l : List ℕ). Whole (l ++ after) x.sort (length x.payload)) (sym x.field)
        (subst (λ (s : Sort). Whole (field_bytes (tag_of x.sort) x.payload ++ after) s (length x.payload)) (sort_back x.sort) (field_whole (tag_of x.sort) x.payload after x.short))

    stands_payload : take (length x.payload) (drop 3 (bytes a ++ after)) ≡ x.payload
    stands_payload = rw x.field (field_payload (tag_of x.sort) x.payload after)

    stands_after : drop (length x.payload + 3) (bytes a ++ after) ≡ after
    stands_after = rw x.field (field_after (tag_of x.sort) x.payload after)

    stands_length : length (bytes a) ≡ length x.payload + 3
    stands_length = rw x.field (field_length (tag_of x.sort) x.payload)

  pub list_many : {l : List A} (base owner : ℕ) (after : List ℕ) → Each l → Stops wanted after → many wanted (field_by body) base owner (all_bytes_of bytes l ++ after) ≡ Ok
      (length (all_bytes_of bytes l))
  unfolding all_bytes_of Stops
  list_many base owner [] none stops = many_none wanted (field_by body) base owner [] refl
  list_many base owner (y ∷ after) none stops = many_stop wanted (field_by body) base owner (y ∷ after) (λ e. omega arith) (stops (λ e. omega arith))
  list_many {l = a ∷ l} base owner after (more x each) stops =
      let all = all_bytes_of bytes l ++ after in
      let m = length x.payload + 3 in
      let whole = stands_whole x all in
      let p : field_by body base owner (bytes a ++ all) ≡ Ok m = passed_field body base owner (bytes a ++ all) m (record { sort = x.sort; size = length x.payload; whole = whole; fine = rw (stands_payload x all) (x.fine base); bytes = refl }) in
      let long : length (bytes a ++ all) ≡ length (bytes a) + length all = length-append (bytes a) all in
      let is : wanted (sort_of (get_or (bytes a ++ all) 0 0)) ≡ true = ap wanted (sym whole.sort) ∙ x.is in
      let turn = many_past wanted (field_by body) base owner (bytes a ++ all) (λ e. omega (arith, whole.within)) is m p (omega arith) whole.within in
      rw append_assoc (turn ∙ ap (λ (r : List ℕ). further m (many wanted (field_by body) (base + m) owner r)) (stands_after x all)
      ∙ ap (further m) (list_many (base + m) owner after each stops) ∙ ap Ok (omega (arith, length-append (bytes a) (all_bytes_of bytes l), stands_length x all)))

  pub list_read : {l : List A} (base : ℕ) (after : List ℕ) → Each l → Stops wanted after → read_placed wanted read base (all_bytes_of bytes l ++ after) ≡ placed_by bytes base l
  unfolding all_bytes_of placed_by Stops
  list_read base [] none stops = none_read base [] (λ s n w. absurd (omega (arith, w.within)))
  list_read base (y ∷ after) none stops = none_read base (y ∷ after) (λ s n w. ap wanted w.sort ∙ stops (λ e. omega arith))
  list_read {l = a ∷ l} base after (more x each) stops =
      let all = all_bytes_of bytes l ++ after in
      let m = length x.payload + 3 in
      let item : read x.sort (take (length x.payload) (drop 3 (bytes a ++ all))) ≡ a = ap (read x.sort) (stands_payload x all) ∙ x.back in
      rw append_assoc (read_more wanted read base (bytes a ++ all) (stands_whole x all) x.is
      ∙ ap₂ (λ (i : A) (r : List ℕ). record { place = base; what = i } ∷ read_placed wanted read (base + m) r) item (stands_after x all)
      ∙ ap (λ y. record { place = base; what = a } ∷ y) (list_read (base + m) after each stops ∙ ap (λ (n : ℕ). placed_by bytes (base + n) l) (sym (stands_length x all))))
