-- What the first place that breaks a rule, and the first rule that has a place, say of the elements and of the rules. By induction on the list.
use Rattle.tagged.specs.Answers.{acceptance, refused, number_of, Answer, Found}
use Rattle.std.specs.Prelude.{Ok, Err, Some, None}
use mathlib.Core.Path.{◌≡◌, refl, sym, ap}
use mathlib.Core.Bool.{Bool, true, false, ◌&&◌, and-eq-true_iff}
use mathlib.Core.List.{List, [], ◌∷◌, ◌++◌, append_assoc, append-nil, Memᴰ}
use Prim.Native.Nat.{ℕ, suc, ◌≤◌, ◌<◌}
use native.Mathlib.Omega.{arith}
use lib.Dec.{leb}
use lib.ListN.{length}
use borrow.Author.Tests.{leb-true}
use Rattle.tagged.specs.Choice.{choose}
use Rattle.tagged.specs.Fields.{Placed}
use Rattle.tagged.specs.Refusals.{first_broken, or_else, refused_at, first_refusal, after_answer}
use Rattle.tagged.specs.declared.answers.Rule.{Rule}
use Rattle.tagged.specs.Stands.{Stands, first, next}

-- a place is not nowhere, and a refusal is not acceptance
pub at_not_nowhere : {B : Type 0} {p : ℕ} → Some p ≡ None → B
at_not_nowhere e = absurd (let z : ◌≡◌ {A = ℕ} 0 1 = cc in omega arith)

pub refused_not_accepted : {B : Type 0} {k : Rule} {p : ℕ} → Err (refused k p) ≡ acceptance → B
refused_not_accepted e = absurd (let z : ◌≡◌ {A = ℕ} 0 1 = cc in omega arith)

-- one refusal has one rule and one place
abbrev rule_in : Rule → Answer → Rule
rule_in other (Ok _) = other
rule_in other (Err e) = e.rule

abbrev place_in : Answer → ℕ
place_in (Ok _) = 0
place_in (Err e) = e.place

pub one_rule : {k r : Rule} {p q : ℕ} → ◌≡◌ {A = Answer} (Err (refused k p)) (Err (refused r q)) → k ≡ r
one_rule {k} e = ap (rule_in k) e

pub one_place : {k r : Rule} {p q : ℕ} → ◌≡◌ {A = Answer} (Err (refused k p)) (Err (refused r q)) → p ≡ q
one_place e = ap place_in e

-- the first place or else the second: nowhere if both are, and a place from the first or, that being nowhere, from the second
pub nowhere_both : (a b : Found) → or_else a b ≡ None → (a ≡ None) × (b ≡ None)
nowhere_both (Some p) b e = at_not_nowhere e
nowhere_both None b e = (refl, e)

pub data OneOf (a b : Found) (p : ℕ) : Type 0 where
  one : a ≡ Some p → OneOf a b p
  other : a ≡ None → b ≡ Some p → OneOf a b p

pub at_one : (a b : Found) {p : ℕ} → or_else a b ≡ Some p → OneOf a b p
at_one (Some q) b e = one e
at_one None b e = other refl e

pub one_at : {a b : Found} {p : ℕ} → OneOf a b p → or_else a b ≡ Some p
one_at (one e) = rw e
one_at (other e f) = rw (e, f)

-- the elements
module _ {A : Type 0} (breaks : List A → A → Bool) where
  -- by what stands at the front
  pub front_passes : (earlier : List A) (x : Placed A) (l : List (Placed A)) → first_broken breaks earlier (x ∷ l) ≡ None →
      (breaks earlier x.what ≡ false) × (first_broken breaks (earlier ++ (x.what ∷ [])) l ≡ None)
  unfolding first_broken
  front_passes earlier x l e = go (breaks earlier x.what) refl e
    where
      later : Found
      later = first_broken breaks (earlier ++ (x.what ∷ [])) l

      go : (t : Bool) → breaks earlier x.what ≡ t → choose t (λ _. Some x.place) (λ _. later) ≡ None →
          (breaks earlier x.what ≡ false) × (later ≡ None)
      go true h e = at_not_nowhere e
      go false h e = (h, e)

  -- nowhere: each element, given those before it, passes
  pub nowhere_passes : (earlier : List A) {l : List (Placed A)} {before : List A} {p : ℕ} {x : A} → Stands l before p x →
      first_broken breaks earlier l ≡ None → breaks (earlier ++ before) x ≡ false
  nowhere_passes earlier (first {y} {l} i j) e = rw (append-nil, ← j) (front_passes earlier y l e).0
  nowhere_passes earlier (next {y} {l} {before} s) e =
      rw append_assoc at (nowhere_passes (earlier ++ (y.what ∷ [])) s (front_passes earlier y l e).1)

  pub passes_nowhere : (earlier : List A) (l : List (Placed A)) →
      ((before : List A) (p : ℕ) (x : A) → Stands l before p x → breaks (earlier ++ before) x ≡ false) → first_broken breaks earlier l ≡ None
  unfolding first_broken
  passes_nowhere earlier [] h = refl
  passes_nowhere earlier (y ∷ l) h =
      let here : breaks earlier y.what ≡ false = rw append-nil at (h [] y.place y.what (first refl refl)) in
      rw here (passes_nowhere (earlier ++ (y.what ∷ [])) l (λ before p x s. rw append_assoc (h (y.what ∷ before) p x (next s))))

  -- a place: the first element that breaks, given those before it, stands there
  pub record FirstBreak (earlier : List A) (l : List (Placed A)) (p : ℕ) : Type 0 where
    pub before : List A
    pub what : A
    pub stands : Stands l before p what
    pub broken : breaks (earlier ++ before) what ≡ true
    pub others : (b : List A) (q : ℕ) (y : A) → Stands l b q y → length b < length before → breaks (earlier ++ b) y ≡ false

  pub at_first : (earlier : List A) (l : List (Placed A)) (p : ℕ) → first_broken breaks earlier l ≡ Some p → FirstBreak earlier l p
  unfolding first_broken
  at_first earlier [] p e = at_not_nowhere (sym e)
  at_first earlier (y ∷ l) p e = go (breaks earlier y.what) refl e (at_first (earlier ++ (y.what ∷ [])) l p)
    where
      later : Found
      later = first_broken breaks (earlier ++ (y.what ∷ [])) l

      sooner : (n : ℕ) {b : List A} {q : ℕ} {z : A} → breaks earlier y.what ≡ false →
          ((b : List A) (q : ℕ) (z : A) → Stands l b q z → length b < n → breaks ((earlier ++ (y.what ∷ [])) ++ b) z ≡ false) →
          Stands (y ∷ l) b q z → length b < suc n → breaks (earlier ++ b) z ≡ false
      sooner n h o (first i j) less = rw (append-nil, ← j) h
      sooner n h o (next {before = b} s) less = rw append_assoc at (o b _ _ s (omega arith))

      go : (t : Bool) → breaks earlier y.what ≡ t → choose t (λ _. Some y.place) (λ _. later) ≡ Some p →
          (later ≡ Some p → FirstBreak (earlier ++ (y.what ∷ [])) l p) → FirstBreak earlier (y ∷ l) p
      go true h e ih = record {
        before = [];
        what = y.what;
        stands = first {y = y} {p = p} (cc) refl;
        broken = rw append-nil h;
        others = λ b q z s less. absurd (omega arith);
      }
      go false h e ih =
          let f = ih e in
          record {
            before = y.what ∷ f.before;
            what = f.what;
            stands = next f.stands;
            broken = rw append_assoc at f.broken;
            others = λ b q z s less. sooner (length f.before) h f.others s less;
          }

  pub first_at : (earlier : List A) {l : List (Placed A)} {before : List A} {p : ℕ} {x : A} → Stands l before p x → breaks (earlier ++ before) x ≡ true →
      ((b : List A) (q : ℕ) (y : A) → Stands l b q y → length b < length before → breaks (earlier ++ b) y ≡ false) → first_broken breaks earlier l ≡ Some p
  unfolding first_broken
  first_at earlier (first {y} i j) e others =
      let here : breaks earlier y.what ≡ true = rw j (rw append-nil at e) in
      rw (here, i)
  first_at earlier (next {y} {l} {before} s) e others =
      let here : breaks earlier y.what ≡ false = rw append-nil at (others [] y.place y.what (first refl refl) (omega arith)) in
      rw here (first_at (earlier ++ (y.what ∷ [])) s (rw append_assoc e)
      (λ b q z t less. rw append_assoc (others (y.what ∷ b) q z (next t) (omega arith))))

-- rules in rising order of their numbers, the first not below `from`
pub data Rising : ℕ → List Rule → Type 0 where
  done : {from : ℕ} → Rising from []
  rise : {from : ℕ} {r : Rule} {rules : List Rule} → from ≤ number_of r → Rising (suc (number_of r)) rules → Rising from (r ∷ rules)

-- the same by a test
abbrev pub in_order : ℕ → List Rule → Bool
in_order from [] = true
in_order from (r ∷ rules) = leb from (number_of r) && in_order (suc (number_of r)) rules

pub order_rising : (from : ℕ) (rules : List Rule) → in_order from rules ≡ true → Rising from rules
order_rising from [] e = done
order_rising from (r ∷ rules) e =
    let h = (and-eq-true_iff (leb from (number_of r)) (in_order (suc (number_of r)) rules)).0 e in
    rise (leb-true from (number_of r) h.0) (order_rising (suc (number_of r)) rules h.1)

pub rising_above : {from : ℕ} {rules : List Rule} {k : Rule} → Rising from rules → Memᴰ k rules → from ≤ number_of k
rising_above (rise l r) (Memᴰ.head e) = rw e l
rising_above (rise l r) (Memᴰ.tail m) = omega (arith, rising_above r m)
rising_above {k = k} (done {from = from}) x4 = elim x4 [ ]

first_least : {r j : Rule} {rules : List Rule} → Rising (suc (number_of r)) rules → Memᴰ j (r ∷ rules) → number_of r ≤ number_of j
first_least r (Memᴰ.head e) = omega (arith, ap number_of e)
first_least r (Memᴰ.tail m) = omega (arith, rising_above r m)

-- the rules: acceptance where none has a place, else the first that has one
module _ (broken : Rule → Found) where
  -- every rule of the list is broken nowhere
  pub data NoneBroken : List Rule → Type 0 where
    none : NoneBroken []
    more : {r : Rule} {rules : List Rule} → broken r ≡ None → NoneBroken rules → NoneBroken (r ∷ rules)

  -- of the list's rules, k is the first with a place, and that is p
  pub data FirstRule (k : Rule) (p : ℕ) : List Rule → Type 0 where
    here : {r : Rule} {rules : List Rule} → k ≡ r → broken k ≡ Some p → FirstRule k p (r ∷ rules)
    later : {r : Rule} {rules : List Rule} → broken r ≡ None → FirstRule k p rules → FirstRule k p (r ∷ rules)

  pub accepted_none : (rules : List Rule) → first_refusal broken rules ≡ acceptance → NoneBroken rules
  unfolding first_refusal
  accepted_none [] e = none
  accepted_none (r ∷ rules) e = go (broken r) refl e (accepted_none rules)
    where
      go : (f : Found) → broken r ≡ f → refused_at r f (first_refusal broken rules) ≡ acceptance →
          (first_refusal broken rules ≡ acceptance → NoneBroken rules) → NoneBroken (r ∷ rules)
      go (Some p) h e ih = refused_not_accepted e
      go None h e ih = more h (ih e)

  pub none_accepted : {rules : List Rule} → NoneBroken rules → first_refusal broken rules ≡ acceptance
  unfolding first_refusal
  none_accepted none = refl
  none_accepted (more h u) = rw h (none_accepted u)

  pub refused_first : (rules : List Rule) {k : Rule} {p : ℕ} → first_refusal broken rules ≡ Err (refused k p) → FirstRule k p rules
  unfolding first_refusal
  refused_first [] e = refused_not_accepted (sym e)
  refused_first (r ∷ rules) {k} {p} e = go (broken r) refl e (refused_first rules)
    where
      go : (f : Found) → broken r ≡ f → refused_at r f (first_refusal broken rules) ≡ Err (refused k p) →
          (first_refusal broken rules ≡ Err (refused k p) → FirstRule k p rules) → FirstRule k p (r ∷ rules)
      go (Some q) h e ih =
          let same : k ≡ r = sym (one_rule e) in
          let place : q ≡ p = one_place e in
          here same (rw (same, h, place))
      go None h e ih = later h (ih e)

  pub first_refused : {k : Rule} {p : ℕ} {rules : List Rule} → FirstRule k p rules → first_refusal broken rules ≡ Err (refused k p)
  unfolding first_refusal
  first_refused (here same h) = rw (← same, h)
  first_refused (later h f) = rw h (first_refused f)

  -- the same by membership
  pub none_each : {rules : List Rule} → NoneBroken rules → (k : Rule) → Memᴰ k rules → broken k ≡ None
  none_each (more h u) k (Memᴰ.head e) = rw e h
  none_each (more h u) k (Memᴰ.tail m) = none_each u k m
  none_each none k x3 = elim x3 [ ]

  pub each_none : (rules : List Rule) → ((k : Rule) → Memᴰ k rules → broken k ≡ None) → NoneBroken rules
  each_none [] h = none
  each_none (r ∷ rules) h = more (h r (Memᴰ.head refl)) (each_none rules (λ k m. h k (Memᴰ.tail m)))

  -- the same by the rules' numbers, where the list has them in rising order
  pub first_lower : {k : Rule} {p from : ℕ} {rules : List Rule} → Rising from rules → FirstRule k p rules →
      (j : Rule) → Memᴰ j rules → number_of j < number_of k → broken j ≡ None
  first_lower (rise l r) (here same h) j m less = absurd (omega (arith, ap number_of same, first_least r m))
  first_lower (rise l r) (later h f) j (Memᴰ.head e) less = rw e h
  first_lower (rise l r) (later h f) j (Memᴰ.tail m) less = first_lower r f j m less
  first_lower {k = k} {p = p} (done {from = from}) x10 j m less = elim x10 [ ]

  pub lower_first : {k : Rule} {p from : ℕ} {rules : List Rule} → Rising from rules → Memᴰ k rules → broken k ≡ Some p →
      ((j : Rule) → Memᴰ j rules → number_of j < number_of k → broken j ≡ None) → FirstRule k p rules
  lower_first (rise l r) (Memᴰ.head e) h n = here e h
  lower_first {rules = q ∷ rules} (rise l r) (Memᴰ.tail m) h n =
      later (n q (Memᴰ.head refl) (rising_above r m)) (lower_first r m h (λ j i less. n j (Memᴰ.tail i) less))
  lower_first {k = k} {p = p} (done {from = from}) x10 h n = elim x10 [ ]

  -- the rule is in the list, and has the place
  pub first_broken_lem : {k : Rule} {p : ℕ} {rules : List Rule} → FirstRule k p rules → broken k ≡ Some p
  first_broken_lem (here same h) = h
  first_broken_lem (later h f) = first_broken_lem f

-- two ways to look for the place of a rule that agree, one rule after the other, as long as nothing was found
pub data Agrees (a b : Rule → Found) : List Rule → Type 0 where
  agree_none : Agrees a b []
  agree_more : {rule : Rule} {l : List Rule} → a rule ≡ b rule → (a rule ≡ None → Agrees a b l) → Agrees a b (rule ∷ l)

pub same_refusal : {a b : Rule → Found} {rules : List Rule} → Agrees a b rules → first_refusal a rules ≡ first_refusal b rules
unfolding first_refusal
same_refusal agree_none = refl
same_refusal {a} {b} (agree_more {rule} {l} same others) = go (a rule) refl (λ e. same_refusal (others e))
  where
    go : (found : Found) → a rule ≡ found → (a rule ≡ None → first_refusal a l ≡ first_refusal b l) →
        refused_at rule (a rule) (first_refusal a l) ≡ refused_at rule (b rule) (first_refusal b l)
    go (Some place) e rest = rw (← same, e)
    go None e rest = rw (← same, e) (rest e)

-- rules in two lists, one after the other
pub refusal_append : (broken : Rule → Found) (a b : List Rule) → first_refusal broken (a ++ b) ≡ after_answer (first_refusal broken a) (first_refusal broken b)
unfolding first_refusal
refusal_append broken [] b = refl
refusal_append broken (rule ∷ a) b = go (broken rule) (refusal_append broken a b)
  where
    go : (found : Found) → first_refusal broken (a ++ b) ≡ after_answer (first_refusal broken a) (first_refusal broken b) →
        refused_at rule found (first_refusal broken (a ++ b)) ≡ after_answer (refused_at rule found (first_refusal broken a)) (first_refusal broken b)
    go (Some place) rest = refl
    go None rest = rest
