-- Laws of the field at the front of a payload, for readers that go with a judge: what a fine payload tells, and how a written one is judged and read.
use Rattle.std.specs.Prelude.{Ok}
use mathlib.Core.Path.{◌≡◌, refl, sym, ap, ap₂, ◌∙◌, subst}
use mathlib.Core.Bool.{Bool, true}
use mathlib.Core.List.{List, [], ◌++◌, append-nil}
use Prim.Native.Nat.{ℕ, ◌+◌}
use native.Mathlib.Omega.{arith}
use lib.ListN.{length, get_or, take, drop, length-drop, take-append-drop}
use lib.Seq.{drop_at, take_all}
use Rattle.tagged.specs.Bytes.{AllBytes}
use Rattle.tagged.specs.Sorts.{tag_of}
use Rattle.tagged.specs.declared.sorts.Sort.{Sort}
use Rattle.tagged.specs.Fields.{faultless, field_bytes, Judge, Body, field_by, then_by, ended}
use Rattle.tagged.proofs.ByteLaws.{bytes_drop, bytes_take}
use Rattle.tagged.proofs.SortLaws.{sort_back, tag_back}
use Rattle.tagged.proofs.FieldLaws.{Whole, whole_open, field_passed, passed_field}
use Rattle.tagged.proofs.RunLaws.{Known}
use Rattle.tagged.proofs.JudgeLaws.{then_tells, ended_tells, then_written, last_written}
use Rattle.tagged.proofs.ListBytes.{whole_bytes, field_whole, field_payload, field_length, Stands}
use Rattle.verilog.specs.Reading.{front_by, after_front}

-- what follows a field that was passed
pub after_passed : (body : Body) (base owner : ℕ) (l : List ℕ) (m : ℕ) → field_by body base owner l ≡ Ok m → after_front l ≡ drop m l
after_passed body base owner l m e =
    let p = field_passed body base owner l m e in
    rw (whole_open 0 0 l p.whole, ← p.bytes)

-- from bytes: a judge, a reader by sort and payload, and a writer
module _ {A : Type 0} (wanted : Sort → Bool) (body : Body) (read : Sort → List ℕ → A) (bytes : A → List ℕ) where
  -- what is read of a payload is written as it stood
  pub record Returned (s : Sort) (payload : List ℕ) : Type 0 where
    pub is : wanted s ≡ true
    pub written : bytes (read s payload) ≡ field_bytes (tag_of s) payload

  -- so for every payload without a fault
  abbrev pub Returns : Type 0
  Returns = (base : ℕ) (s : Sort) (payload : List ℕ) → AllBytes payload → body base s payload ≡ faultless → Returned s payload

  module _ (known : Known wanted) (returns : Returns) (none : A) (base owner : ℕ) (l : List ℕ) (h : AllBytes l) where
    pub front_written : (m : ℕ) → field_by body base owner l ≡ Ok m → take m l ≡ bytes (front_by read none l)
    front_written m e =
        let p = field_passed body base owner l m e in
        let part = take p.size (drop 3 l) in
        let r = returns base p.sort part (bytes_take p.size (drop 3 l) (bytes_drop 3 l h)) p.fine in
        let here = p.whole.sort in
        let tag : tag_of p.sort ≡ get_or l 0 0 = ap tag_of here ∙ tag_back (get_or l 0 0) (λ z. known p.sort r.is (ap tag_of here ∙ z)) in
        let opened : front_by read none l ≡ read p.sort part = rw (whole_open 0 0 l p.whole) in
        ap (λ (n : ℕ). take n l) p.bytes ∙ whole_bytes l h p.whole ∙ ap (λ (t : ℕ). field_bytes t part) (sym tag) ∙ sym r.written ∙ ap bytes (sym opened)

    -- the field at the front and what follows it
    pub record Fronts (next : Judge) : Type 0 where
      pub place : ℕ
      pub rest : next place owner (after_front l) ≡ faultless
      pub left : AllBytes (after_front l)
      pub written : bytes (front_by read none l) ++ after_front l ≡ l

    pub next_returns : (next : Judge) → then_by (field_by body) next base owner l ≡ faultless → Fronts next
    next_returns next e =
        let t = then_tells (field_by body) next base owner l e in
        let after = after_passed body base owner l t.size t.passed in
        record {
          place = base + t.size;
          rest = rw after t.rest;
          left = rw after (bytes_drop t.size l h);
          written = ap₂ (λ (a b : List ℕ). a ++ b) (sym (front_written t.size t.passed)) after ∙ take-append-drop t.size l;
        }

    -- nothing follows it
    pub last_returns : then_by (field_by body) ended base owner l ≡ faultless → bytes (front_by read none l) ≡ l
    last_returns e =
        let t = then_tells (field_by body) ended base owner l e in
        let over = ended_tells (base + t.size) owner (drop t.size l) t.rest in
        sym (front_written t.size t.passed) ∙ take_all t.size l (omega (arith, length-drop t.size l))

-- to bytes: how a written payload is judged and read

module _ {A : Type 0} {wanted : Sort → Bool} {body : Body} {read : Sort → List ℕ → A} {bytes : A → List ℕ} {a : A} (x : Stands wanted body read bytes a)
    (after : List ℕ) where
  whole : Whole (bytes a ++ after) x.sort (length x.payload)
  whole =
      subst (λ (l : List ℕ). Whole (l ++ after) x.sort (length x.payload)) (sym x.field)
      (subst (λ (s : Sort). Whole (field_bytes (tag_of x.sort) x.payload ++ after) s (length x.payload)) (sort_back x.sort)
      (field_whole (tag_of x.sort) x.payload after x.short))

  inside : take (length x.payload) (drop 3 (bytes a ++ after)) ≡ x.payload
  inside = rw x.field (field_payload (tag_of x.sort) x.payload after)

  pub stands_passed : (base owner : ℕ) → field_by body base owner (bytes a ++ after) ≡ Ok (length (bytes a))
  stands_passed base owner =
      passed_field body base owner (bytes a ++ after) (length (bytes a))
      (record {
        sort = x.sort;
        size = length x.payload;
        whole = whole;
        fine = rw inside (x.fine base);
        bytes = rw x.field
            (field_length (tag_of x.sort) x.payload);
      })

  pub stands_front : (none : A) → front_by read none (bytes a ++ after) ≡ a
  stands_front none = rw (whole_open 0 0 (bytes a ++ after) whole, inside) x.back

  pub stands_after : after_front (bytes a ++ after) ≡ after
  stands_after = after_passed body 0 0 (bytes a ++ after) (length (bytes a)) (stands_passed 0 0) ∙ drop_at (bytes a) after (length (bytes a)) refl

  pub next_stands : (next : Judge) (base owner : ℕ) → next (base + length (bytes a)) owner after ≡ faultless →
      then_by (field_by body) next base owner (bytes a ++ after) ≡ faultless
  next_stands next base owner q = then_written (field_by body) next base owner (bytes a) after (stands_passed base owner) q

-- where nothing follows
module _ {A : Type 0} {wanted : Sort → Bool} {body : Body} {read : Sort → List ℕ → A} {bytes : A → List ℕ} {a : A} (x : Stands wanted body read bytes a) where
  pub last_stands : (base owner : ℕ) → then_by (field_by body) ended base owner (bytes a) ≡ faultless
  last_stands base owner = last_written (field_by body) base owner (bytes a) (stands_passed x [] base owner)

  pub last_front : (none : A) → front_by read none (bytes a) ≡ a
  last_front none = ap (λ (l : List ℕ). front_by read none l) (sym (append-nil (bytes a))) ∙ stands_front x [] none
