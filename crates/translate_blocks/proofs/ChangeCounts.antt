-- In how many entries tables differ: in no more than there are, none from itself, one after an assignment, no more in two steps than in both together, and no
-- more after a merge than on both of its sides together. By induction on the tables.
use mathlib.Core.Path.{◌≡◌, refl, ap, ◌∙◌, sym}
use mathlib.Core.Bool.{Bool, true, false, cond}
use mathlib.Core.Logic.{◌⊎◌, inl, inr}
use mathlib.Core.List.{List, [], ◌∷◌}
use Prim.Native.Nat.{ℕ, zero, suc, ◌+◌, ◌≤◌}
use native.Mathlib.Omega.{arith}
use lib.ListN.{length, set}
use Rattle.netlist.specs.declared.Operand.{Operand}
use Rattle.translate.specs.Tables.{operand_at, same_operand, Merged, kept, muxed, merge}
use Rattle.translate.proofs.CellBounds.{merge_few}
use Rattle.translate.proofs.FittingTables.{merge_count}
use Rattle.translate.proofs.Merging.{same_operand_lem}
use Rattle.translate_blocks.specs.Log.{unlike, changes}
use Rattle.translate_blocks.proofs.SameOperands.{operands_same, operands_other}

-- one entry

unlike_one : (x y : Operand) → unlike x y ≤ 1
unlike_one x y = go (same_operand x y)
  where
    go : (t : Bool) → cond t 0 1 ≤ 1
    go true = omega arith
    go false = omega arith

-- unless they differ they are the same
unlike_same : (x y : Operand) → (unlike x y ≡ 1) ⊎ (x ≡ y)
unlike_same x y = go (same_operand x y) refl
  where
    go : (t : Bool) → same_operand x y ≡ t → (◌≡◌ {A = ℕ} (cond t 0 1) 1) ⊎ (x ≡ y)
    go true e = inr (same_operand_lem x y e)
    go false e = inl refl

unlike_twice : (x y z : Operand) → unlike x z ≤ unlike x y + unlike y z
unlike_twice x y z = go (unlike_same x y)
  where
    go : (unlike x y ≡ 1) ⊎ (x ≡ y) → unlike x z ≤ unlike x y + unlike y z
    go (inl e) = omega (arith, e, unlike_one x z)
    go (inr e) = omega (arith, ap (λ (w : Operand). unlike w z) e)

-- an entry cannot be the same as two that differ
unlike_either : (x y z : Operand) → same_operand y z ≡ false → 1 ≤ unlike x y + unlike x z
unlike_either x y z differ = go (unlike_same x y) (unlike_same x z)
  where
    go : (unlike x y ≡ 1) ⊎ (x ≡ y) → (unlike x z ≡ 1) ⊎ (x ≡ z) → 1 ≤ unlike x y + unlike x z
    go (inl e) q = omega (arith, e)
    go (inr e) (inl i) = omega (arith, i)
    go (inr e) (inr i) = absurd (operands_other y z differ (sym e ∙ i))

-- whole tables

pub changes_none : (a : List Operand) → changes a a ≡ 0
unfolding changes
changes_none [] = refl
changes_none (x ∷ a) = rw (operands_same x x refl) (omega (arith, changes_none a))

pub changes_most : (a b : List Operand) → changes a b ≤ length a
unfolding changes
changes_most [] b = omega arith
changes_most (x ∷ a) [] = omega arith
changes_most (x ∷ a) (y ∷ b) = omega (arith, unlike_one x y, changes_most a b)

pub changes-set : (a : List Operand) (slot : ℕ) (operand : Operand) → changes a (set a slot operand) ≤ 1
unfolding changes
changes-set [] slot operand = omega arith
changes-set (x ∷ a) zero operand = omega (arith, unlike_one x operand, changes_none a)
changes-set (x ∷ a) (suc slot) operand = rw (operands_same x x refl) (omega (arith, changes-set a slot operand))

pub changes_twice : (a b c : List Operand) → length b ≡ length a → changes a c ≤ changes a b + changes b c
unfolding changes
changes_twice [] b c h = omega arith
changes_twice (x ∷ a) [] c h = absurd (omega arith)
changes_twice (x ∷ a) (y ∷ b) [] h = omega arith
changes_twice (x ∷ a) (y ∷ b) (z ∷ c) h = omega (arith, unlike_twice x y z, changes_twice a b c (omega arith))

-- a merge

module _ (condition : Operand) where
  pub merged_length : (n : ℕ) (a b : List Operand) → length b ≡ length a → length (merge condition n a b).operands ≡ length a
  merged_length n a b h = merge_count condition n a b (sym h)

  -- a cell for each entry at most
  pub merged_few : (n : ℕ) (a b : List Operand) → length (merge condition n a b).cells ≤ length a
  merged_few n a b = (merge_few condition n a b).cells

  pub merged_changes : (n : ℕ) (entry a b : List Operand) → length a ≡ length entry → length b ≡ length entry →
      changes entry (merge condition n a b).operands ≤ changes entry a + changes entry b
  unfolding merge changes
  merged_changes n [] a b h i = omega arith
  merged_changes n (x ∷ entry) [] b h i = absurd (omega arith)
  merged_changes n (x ∷ entry) (y ∷ a) [] h i = absurd (omega arith)
  merged_changes n (x ∷ entry) (y ∷ a) (z ∷ b) h i =
      go (same_operand y z) refl (merged_changes n entry a b (omega arith) (omega arith)) (merged_changes (n + 1) entry a b (omega arith) (omega arith))
    where
      go : (t : Bool) → same_operand y z ≡ t → changes entry (merge condition n a b).operands ≤ changes entry a + changes entry b →
          changes entry (merge condition (n + 1) a b).operands ≤ changes entry a + changes entry b →
          changes (x ∷ entry) (cond t (kept y (merge condition n a b)) (muxed condition n y z (merge condition (n + 1) a b))).operands ≤
          (unlike x y + changes entry a) + (unlike x z + changes entry b)
      go true e same other = omega (arith, same)
      go false e same other =
          let m : Merged = muxed condition n y z (merge condition (n + 1) a b) in
          omega (arith, other, unlike_either x y z e, unlike_one x (operand_at m.operands 0))
