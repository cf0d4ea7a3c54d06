-- The table that the translation begins with: one turn of writing the variables, and the two halves of the table. By the first width that is left.
use mathlib.Core.Path.{◌≡◌, refl, sym, ap, ap₂, ◌∙◌}
use mathlib.Core.List.{List, [], ◌∷◌, ◌++◌, append-nil}
use Prim.Native.Nat.{ℕ, suc, ◌+◌, ◌*◌, ◌≤◌, ◌<◌}
use native.Mathlib.Numerals.{add-one}
use native.Mathlib.Nat.{add-zero}
use native.Mathlib.Omega.{arith}
use lib.ListN.{length, get_or, set, drop, length-append, drop_of_length-le}
use lib.Seq.{sets, sets-eq, drop-cons}
use Rattle.netlist.specs.declared.Operand.{Operand}
use Rattle.translate_blocks.specs.Ends.{start_from, start_table}

-- two runs of operands, one after the other, are one run
sets_append : (table : List Operand) (at : ℕ) (a b : List Operand) → sets (sets table at a) (at + length a) b ≡ sets table at (a ++ b)
sets_append table at [] b = ap (λ (k : ℕ). sets table k b) (add-zero at)
sets_append table at (x ∷ a) b = ap (λ (k : ℕ). sets (sets (set table at x) (suc at) a) k b) (omega arith) ∙ sets_append (set table at x) (suc at) a b

-- operands that take all the room
sets_all : (table a : List Operand) → length a ≡ length table → sets table 0 a ≡ a
sets_all table a e =
    let room : 0 + length a ≤ length table = omega arith in
    let past : length table ≤ 0 + length a = omega arith in
    sets-eq a table 0 room ∙ rw (drop_of_length-le table past) (append-nil a)

-- the loop: the operands still to be put make up the whole
module _ (widths : List ℕ) (table₀ : List Operand) (at : ℕ) where
  abbrev pub StartGoing : ℕ → List Operand → Type 0
  StartGoing v table = sets table (at + v) (start_from v (drop v widths)) ≡ sets table₀ at (start_from 0 widths)

  pub start_begun : StartGoing 0 table₀
  start_begun = ap (λ (k : ℕ). sets table₀ k (start_from 0 widths)) (add-zero at)

  pub start_turn : (v : ℕ) (table : List Operand) {table' : List Operand} {operand : Operand} → v < length widths → StartGoing v table →
      operand ≡ (Operand.Variable (get_or widths v 0) v) → table' ≡ set table (at + v) operand → StartGoing (v + 1) table'
  unfolding start_from
  start_turn v table h going w t =
      let rest : List Operand = start_from (v + 1) (drop (v + 1) widths) in
      let next : at + (v + 1) ≡ suc (at + v) = omega arith in
      let left : start_from v (drop v widths) ≡ Operand.Variable (get_or widths v 0) v ∷ rest = rw (drop-cons widths v 0 h, add-one v) in
      ap₂ (λ (k : ℕ) (l : List Operand). sets l k rest) next t ∙ ap (λ (x : Operand). sets table (at + v) (x ∷ rest)) w
      ∙ ap (sets table (at + v)) (sym left) ∙ going

  pub start_done : {v : ℕ} {table : List Operand} → length widths ≤ v → StartGoing v table → table ≡ sets table₀ at (start_from 0 widths)
  unfolding start_from
  start_done h going = rw (drop_of_length-le widths h) at going

-- as many operands as widths
pub start_count : (v : ℕ) (widths : List ℕ) → length (start_from v widths) ≡ length widths
unfolding start_from
start_count v [] = refl
start_count v (w ∷ widths) = ap suc (start_count (v + 1) widths)

-- both halves, one after the other, take all the room
pub start_both : (widths : List ℕ) (table₀ : List Operand) {table₁ table₂ : List Operand} → length table₀ ≡ 2 * length widths →
    table₁ ≡ sets table₀ 0 (start_from 0 widths) → table₂ ≡ sets table₁ (length widths) (start_from 0 widths) → table₂ ≡ start_table widths
start_both widths table₀ long first second =
    let half : List Operand = start_from 0 widths in
    let count : length half ≡ length widths = start_count 0 widths in
    let behind : length widths ≡ 0 + length half = omega (arith, count) in
    second ∙ ap₂ (λ (l : List Operand) (k : ℕ). sets l k half) first behind ∙ sets_append table₀ 0 half half
    ∙ sets_all table₀ (half ++ half) (omega (arith, length-append half half, count, long))
