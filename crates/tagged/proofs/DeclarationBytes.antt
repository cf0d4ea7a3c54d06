-- Declarations and their bytes give each other back: what is read without a fault is written as it stood, at its places,
-- wherever they stand, and a list whose numbers fit their bytes is read as it was.
use Rattle.std.specs.Prelude.{Ok, Err}
use mathlib.Core.Path.{◌≡◌, refl, sym, ap, ap₂, ◌∙◌, subst}
use mathlib.Core.Bool.{Bool, true, false}
use mathlib.Core.List.{List, [], ◌∷◌, ◌++◌}
use Prim.Native.Nat.{ℕ, ◌+◌, ◌^◌, ◌≤◌, ◌<◌}
use native.Mathlib.Omega.{arith}
use lib.Dec.{ltb}
use lib.ListN.{length, take, drop}
use borrow.Author.Tests.{ltb-true, ltb-false}
use Rattle.tagged.specs.Answers.{fault_at}
use Rattle.tagged.specs.Bytes.{AllBytes, four_bytes, four_of}
use Rattle.tagged.specs.Sorts.{tag_of, is_declaration}
use Rattle.tagged.specs.Fields.{faultless, field_bytes, all_bytes_of, placed_by, field_by, fixed_then, any_bytes, passed_bytes, Judged, Step}
use Rattle.tagged.specs.Declarations.{Declaration, input, register, declaration_payload, declaration_bytes, fixed_bytes, declaration_body, declarations_step, declaration_in, declaration_read, declarations_at, declarations_in, after_declarations, initial_of}
use Rattle.tagged.specs.declared.sorts.DeclarationSort.{DeclarationSort}
use Rattle.tagged.specs.declared.sorts.Sort.{Sort}
use Rattle.tagged.proofs.ByteLaws.{bytes_four, four_back}
use Rattle.tagged.proofs.ListBytes.{Stops, Each, Stands, many_run, list_many, list_read}
use Rattle.tagged.proofs.RunLaws.{run_listed, many_within}
use Rattle.tagged.proofs.AnyPlace.{AnywhereBody, field_anywhere, fixed_anywhere, many_anywhere}
use Rattle.tagged.proofs.DeclarationLaws.{declaration_sort_lem, sort_in, body_short, body_fine, other_sort}

known : (s : Sort) → is_declaration s ≡ true → tag_of s ≡ 0 → ⊥
unfolding tag_of
known s is e = go (declaration_sort_lem s is).0 (sym (ap tag_of (declaration_sort_lem s is).1) ∙ e)
  where
    go : (d : DeclarationSort) → tag_of (Sort.Declaration d) ≡ 0 → ⊥
    go DeclarationSort.Input e = omega arith
    go DeclarationSort.Register e = omega arith

-- a payload with its fixed bytes is the payload of what it declares
payload_back : (d : DeclarationSort) (l : List ℕ) → AllBytes l → fixed_bytes d ≤ length l → declaration_payload (declaration_in d l) ≡ l
unfolding four_of
payload_back DeclarationSort.Input [] h long = absurd (omega arith)
payload_back DeclarationSort.Input (w ∷ l) h long = refl
payload_back DeclarationSort.Register [] h long = absurd (omega arith)
payload_back DeclarationSort.Register (w ∷ []) h long = absurd (omega arith)
payload_back DeclarationSort.Register (w ∷ a ∷ []) h long = absurd (omega arith)
payload_back DeclarationSort.Register (w ∷ a ∷ b ∷ []) h long = absurd (omega arith)
payload_back DeclarationSort.Register (w ∷ a ∷ b ∷ c ∷ []) h long = absurd (omega arith)
payload_back DeclarationSort.Register (w ∷ a ∷ b ∷ c ∷ d ∷ l) h long =
    ap (λ (bs : List ℕ). w ∷ bs ++ l) (bytes_four a b c d (h 1) (h 2) (h 3) (h 4))

-- a payload without a fault has its fixed bytes
fixed_there : (at : ℕ) (d : DeclarationSort) (l : List ℕ) → declaration_body at (Sort.Declaration d) l ≡ faultless → fixed_bytes d ≤ length l
fixed_there at d l fine = go (ltb (length l) (fixed_bytes d)) refl
  where
    go : (t : Bool) → ltb (length l) (fixed_bytes d) ≡ t → fixed_bytes d ≤ length l
    go true e = absurd (let short = body_short at d l (ltb-true _ _ e) in let z : ◌≡◌ {A = ℕ} 0 1 = cc in omega arith)
    go false e = ltb-false _ _ e

of_sort : (at : ℕ) (d : DeclarationSort) (l : List ℕ) → AllBytes l → declaration_body at (Sort.Declaration d) l ≡ faultless → declaration_bytes
    (declaration_read (Sort.Declaration d) l) ≡ field_bytes (tag_of (Sort.Declaration d)) l
unfolding declaration_bytes declaration_read
of_sort at d l h fine =
    ap₂ (λ (t : DeclarationSort) (p : List ℕ). field_bytes (tag_of (Sort.Declaration t)) p) (sort_in d l) (payload_back d l h (fixed_there at d l fine))

back : (at : ℕ) (s : Sort) (l : List ℕ) → AllBytes l → is_declaration s ≡ true → declaration_body at s l ≡ faultless → declaration_bytes (declaration_read s l) ≡ field_bytes (tag_of s) l
back at s l h is fine =
    let f = declaration_sort_lem s is in
    subst (λ (s : Sort). declaration_bytes (declaration_read s l) ≡ field_bytes (tag_of s) l) (sym f.1) (of_sort at f.0 l h (ap (λ (s : Sort). declaration_body at s l) (sym f.1) ∙ fine))

-- what the declarations at the front of a list of bytes are, where none has a fault
pub record Declared (base : ℕ) (l : List ℕ) (m : ℕ) : Type 0 where
  pub places : declarations_at base l ≡ placed_by declaration_bytes base (declarations_in l)
  pub written : take m l ≡ all_bytes_of declaration_bytes (declarations_in l)
  pub within : m ≤ length l

pub declarations_read : (base owner : ℕ) (l : List ℕ) (m : ℕ) → AllBytes l → declarations_step base owner l ≡ Ok m → Declared base l m
unfolding declarations_step declarations_at
declarations_read base owner l m h e =
    let run = many_run is_declaration declaration_body (length l) base owner l m (omega arith) e in
    let r = run_listed is_declaration declaration_body declaration_read declaration_bytes known back h run in
    record { places = r.places; written = r.written; within = r.within }

-- declarations have a fault or not wherever they stand
pub declaration_anywhere : AnywhereBody declaration_body
unfolding declaration_body
declaration_anywhere a b s l fine = go (is_declaration s) refl
  where
    judge : ℕ → DeclarationSort → Judged
    judge at d = fixed_then (fixed_bytes d) any_bytes (at + 3) at l

    go : (t : Bool) → is_declaration s ≡ t → declaration_body b s l ≡ faultless
    go true is =
        let f = declaration_sort_lem s is in
        let here : judge a f.0 ≡ faultless = subst (λ (s : Sort). declaration_body a s l ≡ faultless) f.1 fine in
        rw f.1 (fixed_anywhere (fixed_bytes f.0) any_bytes (λ a o b p l e. refl) (a + 3) a (b + 3) b l here)
    go false off = absurd (let q = other_sort s (judge a) (Err (fault_at a)) off in let z : ◌≡◌ {A = ℕ} 0 1 = cc in omega arith)

-- a step over declarations counts the same bytes anywhere
pub declarations_anywhere : (base owner : ℕ) (l : List ℕ) (m : ℕ) → declarations_step base owner l ≡ Ok m → declarations_step 0 0 l ≡ Ok m
unfolding declarations_step
declarations_anywhere base owner l m e =
    many_anywhere is_declaration (field_by declaration_body) (field_anywhere declaration_body declaration_anywhere) base owner 0 0 l m e

-- what follows the declarations that were passed
pub after_declared_lem : (base owner : ℕ) (l : List ℕ) (m : ℕ) → declarations_step base owner l ≡ Ok m → after_declarations l ≡ drop m l
after_declared_lem base owner l m e = ap (λ (s : Step). drop (passed_bytes s) l) (declarations_anywhere base owner l m e)

-- a declaration whose numbers fit their bytes
unfoldable pub Writable : Declaration → Type 0
Writable d = (initial_of d < 2 ^ 32) × (length (declaration_payload d) < 65536)

five : (w v : ℕ) (name : List ℕ) → 5 ≤ length (w ∷ four_bytes v ++ name)
unfolding four_bytes
five w v name = omega arith

register_back : (w v : ℕ) (name : List ℕ) → v < 2 ^ 32 → declaration_in DeclarationSort.Register (w ∷ four_bytes v ++ name) ≡ register w v name
unfolding four_of four_bytes
register_back w v name h = ap (λ (n : ℕ). register w n name) (four_back v h)

pub writable_stands : (d : Declaration) → Writable d → Stands is_declaration declaration_body declaration_read declaration_bytes d
unfolding Writable declaration_bytes declaration_read
writable_stands (input w name) h = record {
  sort = Sort.Declaration DeclarationSort.Input;
  payload = w ∷ name;
  field = refl;
  short = h.1;
  is = refl;
  fine = λ base. body_fine base DeclarationSort.Input (w ∷ name) (omega arith);
  back = refl;
}
writable_stands (register w v name) h = record {
  sort = Sort.Declaration DeclarationSort.Register;
  payload = w ∷ four_bytes v ++ name;
  field = refl;
  short = h.1;
  is = refl;
  fine = λ base. body_fine base DeclarationSort.Register (w ∷ four_bytes v ++ name) (five w v name);
  back = register_back w v name h.0;
}

-- a list of such declarations, in front of bytes that begin none, has no fault and is read as it was, at the places of its bytes
module _ {l : List Declaration} (base owner : ℕ) (after : List ℕ) (each : Each is_declaration declaration_body declaration_read declaration_bytes l)
    (stops : Stops is_declaration after) where
  pub declarations_pass : declarations_step base owner (all_bytes_of declaration_bytes l ++ after) ≡ Ok (length (all_bytes_of declaration_bytes l))
  unfolding declarations_step
  declarations_pass = list_many is_declaration declaration_body declaration_read declaration_bytes base owner after each stops

  pub declarations_placed : declarations_at base (all_bytes_of declaration_bytes l ++ after) ≡ placed_by declaration_bytes base l
  unfolding declarations_at
  declarations_placed = list_read is_declaration declaration_body declaration_read declaration_bytes base after each stops

-- the declarations that are passed lie within the list
pub declarations_within : (base owner : ℕ) (l : List ℕ) (r : Step) (m : ℕ) → r ≡ declarations_step base owner l → r ≡ Ok m → m ≤ length l
unfolding declarations_step
declarations_within base owner l r m p q = many_within is_declaration declaration_body base owner l r m p q
