-- What a payload without a fault tells of its parts, for the judges that other judges are made of; and how a payload that is written is judged.
-- By cases on the first step or on the length.
use Rattle.tagged.specs.declared.answers.Fault.{Fault}
use Rattle.tagged.specs.Answers.{fault_at}
use Rattle.std.specs.Prelude.{Ok, Err}
use mathlib.Core.Path.{◌≡◌, refl, ◌∙◌, subst}
use mathlib.Core.Bool.{Bool, true, false, cond}
use mathlib.Core.List.{List, [], ◌++◌, append-nil}
use Prim.Native.Nat.{ℕ, ◌+◌, ◌≤◌}
use native.Mathlib.Omega.{arith}
use lib.Dec.{ltb, eqb}
use lib.ListN.{length, drop, length-drop}
use lib.Seq.{drop_at}
use borrow.Author.Tests.{eqb-true, ltb-false, eq-eqb, le-ltb}
use Rattle.tagged.specs.Sorts.{is_sort}
use Rattle.tagged.specs.declared.sorts.Sort.{Sort}
use Rattle.tagged.specs.Fields.{faultless, Judged, Step, Judge, Stepper, after_step, then_by, fixed_then, ended}

-- what a fine payload tells

pub record Thens (first : Stepper) (next : Judge) (base owner : ℕ) (l : List ℕ) : Type 0 where
  pub size : ℕ
  pub passed : first base owner l ≡ Ok size
  pub rest : next (base + size) owner (drop size l) ≡ faultless

pub then_tells : (first : Stepper) (next : Judge) (base owner : ℕ) (l : List ℕ) → then_by first next base owner l ≡ faultless → Thens first next base owner l
unfolding then_by
then_tells first next base owner l e = go (first base owner l) refl e
  where
    go : (s : Step) → first base owner l ≡ s → after_step s (λ m. next (base + m) owner (drop m l)) ≡ faultless → Thens first next base owner l
    go (Ok m) p q = record { size = m; passed = p; rest = q }
    go (Err x) p q = absurd (let z : ◌≡◌ {A = ℕ} 0 1 = cc in omega arith)

pub fixed_tells : (n : ℕ) (next : Judge) (base owner : ℕ) (l : List ℕ) → fixed_then n next base owner l ≡ faultless →
    (n ≤ length l) × (next (base + n) owner (drop n l) ≡ faultless)
unfolding fixed_then
fixed_tells n next base owner l e = go (ltb (length l) n) refl e
  where
    go : (t : Bool) → ltb (length l) n ≡ t → cond t (Err (fault_at owner)) (next (base + n) owner (drop n l)) ≡ faultless →
        (n ≤ length l) × (next (base + n) owner (drop n l) ≡ faultless)
    go true p q = absurd (let z : ◌≡◌ {A = ℕ} 0 1 = cc in omega arith)
    go false p q = (ltb-false _ _ p, q)

pub ended_tells : (base owner : ℕ) (l : List ℕ) → ended base owner l ≡ faultless → length l ≡ 0
unfolding ended
ended_tells base owner l e = go (eqb (length l) 0) refl e
  where
    go : (t : Bool) → eqb (length l) 0 ≡ t → cond t faultless (Err (fault_at owner)) ≡ faultless → length l ≡ 0
    go true p q = eqb-true _ _ p
    go false p q = absurd (let z : ◌≡◌ {A = ℕ} 0 1 = cc in omega arith)

-- so many fixed bytes and nothing else
pub fixed_only_lem : (n base owner : ℕ) (l : List ℕ) → fixed_then n ended base owner l ≡ faultless → length l ≡ n
fixed_only_lem n base owner l e =
    let f = fixed_tells n ended base owner l e in
    let none = ended_tells (base + n) owner (drop n l) f.1 in
    omega (arith, length-drop n l, f.0)

-- a judge of one sort that finds no fault was given that sort
pub sort_fine : (a s : Sort) (w : Judged) (x : Fault) → cond (is_sort a s) w (Err x) ≡ faultless → (is_sort a s ≡ true) × (w ≡ faultless)
sort_fine a s w x h = go (is_sort a s) refl h
  where
    go : (t : Bool) → is_sort a s ≡ t → cond t w (Err x) ≡ faultless → (is_sort a s ≡ true) × (w ≡ faultless)
    go true e h = (e, h)
    go false e h = absurd (let z : ◌≡◌ {A = ℕ} 0 1 = cc in omega arith)

-- and what makes it fine: what is passed and then fine, also for what is written

pub then_passed : (first : Stepper) (next : Judge) (base owner : ℕ) (l : List ℕ) (m : ℕ) → first base owner l ≡ Ok m →
    next (base + m) owner (drop m l) ≡ faultless → then_by first next base owner l ≡ faultless
unfolding then_by
then_passed first next base owner l m e f = rw e f

pub then_written : (first : Stepper) (next : Judge) (base owner : ℕ) (part after : List ℕ) → first base owner (part ++ after) ≡ Ok (length part) →
    next (base + length part) owner after ≡ faultless → then_by first next base owner (part ++ after) ≡ faultless
then_written first next base owner part after p q = then_passed first next base owner (part ++ after) (length part) p (rw (drop_at part after (length part) refl, q))

pub nothing_left : (base owner : ℕ) → ended base owner [] ≡ faultless
unfolding ended
nothing_left base owner = refl

pub last_written : (first : Stepper) (base owner : ℕ) (part : List ℕ) → first base owner (part ++ []) ≡ Ok (length part) →
    then_by first ended base owner part ≡ faultless
last_written first base owner part p =
    subst (λ (l : List ℕ). then_by first ended base owner l ≡ faultless) (append-nil part)
    (then_written first ended base owner part [] p (nothing_left (base + length part) owner))

pub fixed_written : (n : ℕ) (next : Judge) (base owner : ℕ) (l : List ℕ) → n ≤ length l → next (base + n) owner (drop n l) ≡ faultless →
    fixed_then n next base owner l ≡ faultless
unfolding fixed_then
fixed_written n next base owner l h q = rw (le-ltb _ _ h, q)

pub only_fixed : (n base owner : ℕ) (l : List ℕ) → length l ≡ n → fixed_then n ended base owner l ≡ faultless
unfolding ended
only_fixed n base owner l e =
    let none : length (drop n l) ≡ 0 = length-drop n l ∙ omega arith in
    fixed_written n ended base owner l (omega arith) (rw (eq-eqb _ _ none))
