-- Whether a payload has a fault does not depend on where it stands: a judge that passes at one place passes at every place.
-- By what each judge tells of its parts, and by induction on the list.
use Rattle.std.specs.Prelude.{Ok, Err}
use mathlib.Core.Path.{◌≡◌, refl, sym}
use mathlib.Core.Bool.{Bool, true, false}
use mathlib.Core.List.{List, [], ◌∷◌}
use Prim.Native.Nat.{ℕ, zero, suc, ◌+◌, ◌-◌}
use native.Mathlib.Omega.{arith}
use lib.ListN.{drop}
use Rattle.tagged.specs.Choice.{choose}
use Rattle.tagged.specs.Sorts.{sort_of}
use Rattle.tagged.specs.declared.sorts.Sort.{Sort}
use Rattle.tagged.specs.Fields.{faultless, Step, Judge, Stepper, Body, further, field_by, then_by, fixed_then, ended, next_field, many_from, many, any_sort, until_end}
use Rattle.tagged.proofs.FieldLaws.{field_passed, passed_field, ended_fine}
use Rattle.tagged.proofs.ListLaws.{further_past}
use Rattle.tagged.proofs.JudgeLaws.{then_tells, fixed_tells, ended_tells, fixed_written}

abbrev pub AnywhereBody : Body → Type 0
AnywhereBody body = (a b : ℕ) (s : Sort) (l : List ℕ) → body a s l ≡ faultless → body b s l ≡ faultless

abbrev pub AnywhereJudge : Judge → Type 0
AnywhereJudge judge = (a o b p : ℕ) (l : List ℕ) → judge a o l ≡ faultless → judge b p l ≡ faultless

abbrev pub AnywhereStep : Stepper → Type 0
AnywhereStep step = (a o b p : ℕ) (l : List ℕ) (m : ℕ) → step a o l ≡ Ok m → step b p l ≡ Ok m

pub field_anywhere : (body : Body) → AnywhereBody body → AnywhereStep (field_by body)
field_anywhere body any a o b p l m e =
    let f = field_passed body a o l m e in
    passed_field body b p l m (record { sort = f.sort; size = f.size; whole = f.whole; fine = any a b f.sort _ f.fine; bytes = f.bytes })

pub then_anywhere : (first : Stepper) (next : Judge) → AnywhereStep first → AnywhereJudge next → AnywhereJudge (then_by first next)
unfolding then_by
then_anywhere first next one rest a o b p l e =
    let t = then_tells first next a o l e in
    rw (one a o b p l t.size t.passed) (rest (a + t.size) o (b + t.size) p (drop t.size l) t.rest)

pub fixed_anywhere : (n : ℕ) (next : Judge) → AnywhereJudge next → AnywhereJudge (fixed_then n next)
fixed_anywhere n next rest a o b p l e =
    let f = fixed_tells n next a o l e in
    fixed_written n next b p l f.0 (rest (a + n) o (b + n) p (drop n l) f.1)

pub ended_anywhere : AnywhereJudge ended
ended_anywhere a o b p l e = sym (ended_fine b p l (ended_tells a o l e))

module _ (wanted : Sort → Bool) (one : Stepper) (any : AnywhereStep one) where
  from_anywhere : (skip a o b p : ℕ) (l : List ℕ) (m : ℕ) → many_from wanted one skip a o l ≡ Ok m → many_from wanted one skip b p l ≡ Ok m
  unfolding many_from
  from_anywhere zero a o b p [] m e = e
  from_anywhere (suc n) a o b p [] m e = e
  from_anywhere (suc n) a o b p (x ∷ l) m e =
      let f = further_past 1 (many_from wanted one n (a + 1) o l) m e in
      rw (from_anywhere n (a + 1) o (b + 1) p l f.0 f.1, f.2)
  from_anywhere zero a o b p (x ∷ l) m e = go (wanted (sort_of x)) (one a o (x ∷ l)) refl e (λ n k q. from_anywhere n (a + 1) o (b + 1) p l k q)
    where
      turn : (t : Bool) → Step → ℕ → ℕ → Step
      turn t s place owner = choose t (λ _. next_field s (λ j. further 1 (many_from wanted one (j - 1) (place + 1) owner l))) (λ _. Ok 0)

      go : (t : Bool) (s : Step) → one a o (x ∷ l) ≡ s → turn t s a o ≡ Ok m
          → ((n k : ℕ) → many_from wanted one n (a + 1) o l ≡ Ok k → many_from wanted one n (b + 1) p l ≡ Ok k) → turn t (one b p (x ∷ l)) b p ≡ Ok m
      go false s here q later = q
      go true (Err y) here q later = absurd (let z : ◌≡◌ {A = ℕ} 0 1 = cc in omega arith)
      go true (Ok j) here q later =
          let f = further_past 1 (many_from wanted one (j - 1) (a + 1) o l) m q in
          rw (any a o b p (x ∷ l) j here, later (j - 1) f.0 f.1, f.2)

  pub many_anywhere : AnywhereStep (many wanted one)
  many_anywhere a o b p l m e = from_anywhere 0 a o b p l m e

pub until_anywhere : (one : Stepper) → AnywhereStep one → AnywhereJudge (until_end one)
until_anywhere one any = then_anywhere (many any_sort one) ended (many_anywhere any_sort one any) ended_anywhere
