-- A list of bytes has no more fields than bytes. By induction on the list.
use Rattle.std.specs.Prelude.{Ok, Err}
use mathlib.Core.Bool.{true}
use mathlib.Core.List.{List, [], ◌∷◌}
use Prim.Native.Nat.{ℕ, zero, suc, ◌+◌, ◌≤◌}
use native.Mathlib.Omega.{arith}
use lib.ListN.{length, take, drop}
use Rattle.tagged.specs.Choice.{choose}
use Rattle.tagged.specs.Fields.{Opened, Placed, Field, open_of, on_field, any_sort, read_from, fields_at}
use Rattle.tagged.specs.declared.sorts.Sort.{Sort}

abbrev as_field : Sort → List ℕ → Field
as_field s p = record { sort = s; payload = p }

few_from : (skip base : ℕ) (l : List ℕ) → length (read_from any_sort as_field skip base l) ≤ length l
unfolding read_from
few_from zero base [] = omega arith
few_from (suc n) base [] = omega arith
few_from zero base (x ∷ l) = go (λ n. few_from (n + 2) (base + 1) l) (open_of 0 0 (x ∷ l))
  where
    go : ((n : ℕ) → length (read_from any_sort as_field (n + 2) (base + 1) l) ≤ length l) → (o : Opened) → length (on_field {A = List (Placed Field)} o (λ s n.
        choose true (λ _. record { place = base; what = as_field s (take n (drop 3 (x ∷ l))) } ∷ read_from any_sort as_field (n + 2) (base + 1) l) (λ _. [])) []) ≤ suc (length l)
    go few (Ok (s, n)) = let rest = few n in omega arith
    go few (Err fault) = omega arith
few_from (suc n) base (x ∷ l) = let rest = few_from n (base + 1) l in omega arith

pub fields_few : (base : ℕ) (l : List ℕ) → length (fields_at base l) ≤ length l
unfolding fields_at
fields_few base l = few_from 0 base l
