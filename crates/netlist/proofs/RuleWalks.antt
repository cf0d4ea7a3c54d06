-- What a loop over the cells or the drives of a list keeps from turn to turn: how many were passed, and the table of their widths.
use mathlib.Core.Path.{◌≡◌, refl, sym, ap, ap₂, ◌∙◌}
use mathlib.Core.List.{List, [], ◌∷◌, ◌++◌, map}
use Prim.Native.Nat.{ℕ, zero, suc, ◌+◌, ◌≤◌, ◌<◌}
use native.Mathlib.Omega.{arith}
use lib.ListN.{length, take, drop, set, replicate, length-drop, length-map, length-set, length-replicate}
use lib.Seq.{drop-drop, take-add, length-take-le, take-suc-set}
use Rattle.std.proofs.lemmas.List.{map-append, take-map}
use Rattle.tagged.specs.Fields.{Placed, unplaced}
use Rattle.tagged.specs.Declarations.{table_of}

-- so many of a list have been passed, and the others are ahead
pub record Walked {A : Type 0} (items : List A) (count : ℕ) (ahead : List (Placed A)) : Type 0 where
  pub rest : drop count items ≡ unplaced ahead
  pub counted : count ≤ length items

pub walked_start : {A : Type 0} {items : List A} {ahead : List (Placed A)} → items ≡ unplaced ahead → Walked items 0 ahead
walked_start e = record { rest = e; counted = omega arith }

module _ {A : Type 0} {items : List A} {count : ℕ} {ahead : List (Placed A)} (walked : Walked items count ahead) where
  -- none is ahead: they were all counted
  pub walked_all : ahead ≡ [] → count ≡ length items
  walked_all none = omega (arith, ap length (walked.rest ∙ ap unplaced none), length-drop count items, walked.counted)

  pub walked_earlier : length (take count items) ≡ count
  walked_earlier = length-take-le count items walked.counted

  module _ {a : Placed A} {after : List (Placed A)} (next : ahead ≡ a ∷ after) where
    walked_fewer : count < length items
    walked_fewer = omega (arith, ap length (walked.rest ∙ ap unplaced next), length-drop count items)

    pub walked_more : Walked items (count + 1) after
    walked_more = record {
      rest = sym (drop-drop 1 count items) ∙ ap (drop 1) (walked.rest ∙ ap unplaced next);
      counted = omega (arith, walked_fewer);
    }

    -- those before the next one are those before this one, and this one
    pub walked_before : take (count + 1) items ≡ take count items ++ (a.what ∷ [])
    walked_before = take-add count 1 items ∙ ap (λ (y : List A). take count items ++ take 1 y) (walked.rest ∙ ap unplaced next)

-- a table with room for so many numbers, which holds those of the elements passed
pub record Tabled {A : Type 0} (f : A → ℕ) (room : ℕ) (items : List A) (count : ℕ) (table : List ℕ) : Type 0 where
  pub long : length table ≡ room
  pub held : map f (take count items) ≡ take count table

pub tabled_start : {A : Type 0} (f : A → ℕ) (room : ℕ) (items : List A) → Tabled f room items 0 (replicate room 0)
tabled_start f room items = record { long = length-replicate room 0; held = refl }

module _ {A : Type 0} {f : A → ℕ} {room : ℕ} {items : List A} {ahead : List (Placed A)} {count : ℕ} {table : List ℕ} (walked : Walked items count ahead)
    (tabled : Tabled f room items count table) (few : length items ≤ room) where
  module _ {a : Placed A} {after : List (Placed A)} (next : ahead ≡ a ∷ after) where
    pub tabled_room : count < room
    tabled_room = omega (arith, walked_fewer walked next, few)

    pub tabled_more : {number : ℕ} → number ≡ f a.what → Tabled f room items (count + 1) (set table count number)
    tabled_more {number} own =
        let one : suc count ≡ count + 1 = omega arith in
        record {
          long = length-set table count number ∙ tabled.long;
          held =
              ap (map f) (walked_before walked next) ∙ map-append f (take count items) (a.what ∷ []) ∙ ap₂ (λ (l : List ℕ) (x : ℕ). l ++ (x ∷ [])) tabled.held (sym own)
              ∙ sym (rw one at (take-suc-set table count number (omega (arith, tabled_room, tabled.long))));
        }

-- the first of a list stand in the front of its table
table_cut : {B : Type 0} (none : B) (n : ℕ) (l : List B) → take (length l) (table_of none n l) ≡ take n l
unfolding table_of
table_cut none zero [] = refl
table_cut none zero (x ∷ l) = refl
table_cut none (suc n) [] = refl
table_cut {B} none (suc n) (x ∷ l) = ap (λ (y : List B). x ∷ y) (table_cut none n l)

pub front_known : {A B : Type 0} (none : B) (f : A → B) (room : ℕ) (items : List A) {count : ℕ} {table : List B} →
    count ≡ length items → table ≡ table_of none room (map f items) → map f (take room items) ≡ take count table
front_known none f room items all held =
    sym (take-map f room items) ∙ sym (ap₂ take (all ∙ sym (length-map items f)) held ∙ table_cut none room (map f items))
