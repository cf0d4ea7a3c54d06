-- A list whose front is replaced, item by item, while the rest is as it was: what stands at the seam, one item more, and the end. From the laws of lists.
use mathlib.Core.Path.{◌≡◌, sym, ap, ◌∙◌}
use mathlib.Core.List.{List, [], ◌∷◌, ◌++◌, append-nil}
use Prim.Native.Nat.{ℕ, suc, ◌+◌, ◌≤◌, ◌<◌}
use native.Mathlib.Numerals.{add-one}
use lib.ListN.{length, drop, get_or, set, drop_of_length-le}
use lib.Seq.{drop-cons, get_or-append_seam, set-append_seam, append_snoc}

module _ {A : Type 0} (front l : List A) (index : ℕ) (long : length front ≡ index) where
  module _ (inside : index < length l) (other : A) where
    opened : front ++ drop index l ≡ front ++ get_or l index other ∷ drop (suc index) l
    opened = ap (λ (r : List A). front ++ r) (drop-cons l index other inside)

    pub front_here : get_or (front ++ drop index l) index other ≡ get_or l index other
    front_here =
        ap (λ (r : List A). get_or r index other) opened ∙ ap (λ (k : ℕ). get_or (front ++ get_or l index other ∷ drop (suc index) l) k other) (sym long)
        ∙ get_or-append_seam front (get_or l index other) (drop (suc index) l) other

    pub front_set : (x : A) → set (front ++ drop index l) index x ≡ (front ++ (x ∷ [])) ++ drop (index + 1) l
    front_set x =
        ap (λ (r : List A). set r index x) opened ∙ ap (λ (k : ℕ). set (front ++ get_or l index other ∷ drop (suc index) l) k x) (sym long)
        ∙ set-append_seam front (get_or l index other) (drop (suc index) l) x ∙ sym (append_snoc front x (drop (suc index) l))
        ∙ ap (λ (k : ℕ). (front ++ (x ∷ [])) ++ drop k l) (sym (add-one index))

  pub front_all : length l ≤ index → front ++ drop index l ≡ front
  front_all h = ap (λ (r : List A). front ++ r) (drop_of_length-le l h) ∙ append-nil front
