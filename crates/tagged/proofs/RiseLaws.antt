-- Where the elements of a list with places stand: those of `before` stand earlier, and where places rise, earlier is at a smaller place. By induction on the list.
use mathlib.Core.Path.{◌≡◌, refl, sym, ◌∙◌}
use mathlib.Core.Bool.{Bool, true, false}
use mathlib.Core.List.{List, [], ◌∷◌, ◌++◌, Memᴰ}
use Prim.Native.Nat.{ℕ, suc, ◌≤◌, ◌<◌}
use native.Mathlib.Omega.{arith}
use lib.Dec.{ltb}
use lib.ListN.{length}
use borrow.Author.Tests.{ltb-true, ltb-false}
use Rattle.tagged.specs.Fields.{Placed, unplaced}
use Rattle.tagged.specs.Stands.{Stands, first, next}

-- the places rise from element to element, from `low` on and below `high`
pub data Rise {A : Type 0} : ℕ → List (Placed A) → ℕ → Type 0 where
  none : {low high : ℕ} → low ≤ high → Rise low [] high
  more : {low high : ℕ} {y : Placed A} {l : List (Placed A)} → low ≤ y.place → Rise (suc y.place) l high → Rise low (y ∷ l) high

module _ {A : Type 0} where
  pub rise_from : {a b low : ℕ} {l : List (Placed A)} → a ≤ low → Rise low l b → Rise a l b
  rise_from {a} {b} h (none k) = let n : a ≤ b = omega arith in none n
  rise_from {a} h (more {y = y} k r) = let n : a ≤ y.place = omega arith in more n r

  pub rise_to : {a b high : ℕ} {l : List (Placed A)} → high ≤ b → Rise a l high → Rise a l b
  rise_to {a} {b} h (none k) = let n : a ≤ b = omega arith in none n
  rise_to h (more k r) = more k (rise_to h r)

  pub rise_append : {a b c : ℕ} {l k : List (Placed A)} → Rise a l b → Rise b k c → Rise a (l ++ k) c
  rise_append (none h) s = rise_from h s
  rise_append (more h r) s = more h (rise_append r s)

  pub rise_least : {low high q : ℕ} {l : List (Placed A)} {b : List A} {y : A} → Rise low l high → Stands l b q y → low ≤ q
  rise_least (more h r) (first i j) = omega arith
  rise_least (more h r) (next s) = let k = rise_least r s in omega arith
  rise_least {q = q} {b = b} {y = y} (none {low = low} {high = high} _) x6 = elim x6 [ ]

  -- where places rise, what stands earlier stands at a smaller place
  pub earlier_smaller : {low high p q : ℕ} {l : List (Placed A)} {b c : List A} {x y : A} → Rise low l high →
      Stands l b q y → Stands l c p x → length b < length c → q < p
  earlier_smaller (more h r) (first i j) (first e f) less = absurd (omega arith)
  earlier_smaller (more h r) (first i j) (next s) less = let k = rise_least r s in omega arith
  earlier_smaller (more h r) (next s) (first e f) less = absurd (omega arith)
  earlier_smaller (more h r) (next s) (next t) less = earlier_smaller r s t (omega arith)
  earlier_smaller {p = p} {q = q} {b = b} {c = c} {y = y} (none {low = low} {high = high} _) x19 _ less = elim x19 [ ]

  -- what stands after as many stands at the same place
  pub same_place : {p q : ℕ} {l : List (Placed A)} {b c : List A} {x y : A} → Stands l b q y → Stands l c p x → length b ≡ length c → q ≡ p
  same_place (first i j) (first e f) same = sym i ∙ e
  same_place (first i j) (next s) same = absurd (omega arith)
  same_place (next s) (first e f) same = absurd (omega arith)
  same_place (next s) (next t) same = same_place s t (omega arith)

  -- where places rise, what stands at a smaller place stands earlier
  pub smaller_earlier : {low high p q : ℕ} {l : List (Placed A)} {b c : List A} {x y : A} → Rise low l high →
      Stands l b q y → Stands l c p x → q < p → length b < length c
  smaller_earlier {p = p} {q = q} {b = b} {c = c} r s t less = go (ltb (length b) (length c)) refl (ltb (length c) (length b)) refl
    where
      go : (u : Bool) → ltb (length b) (length c) ≡ u → (v : Bool) → ltb (length c) (length b) ≡ v → length b < length c
      go true e v f = ltb-true (length b) (length c) e
      go false e true f = let k : p < q = earlier_smaller r t s (ltb-true (length c) (length b) f) in absurd (omega arith)
      go false e false f =
          let k : q ≡ p = same_place s t (omega (arith, ltb-false (length b) (length c) e, ltb-false (length c) (length b) f)) in
          absurd (omega arith)

  -- y stands in the list, after fewer than n others
  pub record Earlier (l : List (Placed A)) (n : ℕ) (y : A) : Type 0 where
    pub before : List A
    pub place : ℕ
    pub stands : Stands l before place y
    pub fewer : length before < n

  -- those of `before` stand earlier, and no others
  pub before_earlier : {l : List (Placed A)} {c : List A} {p : ℕ} {x y : A} → Stands l c p x → Memᴰ y c → Earlier l (length c) y
  before_earlier (next {y = z} s) (Memᴰ.head e) =
      record { before = []; place = z.place; stands = first {y = z} refl (sym e); fewer = omega arith }
  before_earlier (next {y = z} s) (Memᴰ.tail m) =
      let f = before_earlier s m in
      record { before = z.what ∷ f.before; place = f.place; stands = next f.stands; fewer = omega arith }
  before_earlier (first {y = y} {l = l} {p = p} _ _) x14 = elim x14 [ ]

  pub earlier_before : {p q : ℕ} {l : List (Placed A)} {b c : List A} {x y : A} → Stands l b q y → Stands l c p x → length b < length c → Memᴰ y c
  earlier_before (first i j) (first e f) less = absurd (omega arith)
  earlier_before (first i j) (next s) less = Memᴰ.head (sym j)
  earlier_before (next s) (first e f) less = absurd (omega arith)
  earlier_before (next s) (next t) less = Memᴰ.tail (earlier_before s t (omega arith))

  -- what stands somewhere is an element, and each element stands somewhere
  pub stands_in : {q : ℕ} {l : List (Placed A)} {b : List A} {y : A} → Stands l b q y → Memᴰ y (unplaced l)
  stands_in (first i j) = Memᴰ.head (sym j)
  stands_in (next s) = Memᴰ.tail (stands_in s)

  pub in_stands : (l : List (Placed A)) {y : A} → Memᴰ y (unplaced l) → (b : List A) × (q : ℕ) × Stands l b q y
  in_stands (z ∷ l) (Memᴰ.head e) = ([], z.place, first {y = z} refl (sym e))
  in_stands (z ∷ l) (Memᴰ.tail m) = let f = in_stands l m in (z.what ∷ f.0, f.1, next f.2)
  in_stands [] {y = y} x' = elim x' [ ]
