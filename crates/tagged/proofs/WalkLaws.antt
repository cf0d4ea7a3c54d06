-- What stands at the front of a list, opened as the walk over its fields does it.
use Rattle.std.specs.Prelude.{Ok, Err}
use mathlib.Core.Path.{◌≡◌, sym, ◌∙◌}
use mathlib.Core.List.{List, [], ◌∷◌}
use Prim.Native.Nat.{ℕ, ◌+◌, ◌-◌, ◌≤◌}
use native.Mathlib.Nat.{add-sub_cancel}
use native.Mathlib.Omega.{arith}
use lib.ListN.{length, take, drop}
use Rattle.tagged.specs.declared.answers.Fault.{Fault}
use Rattle.tagged.specs.declared.sorts.Sort.{Sort}
use Rattle.tagged.specs.Fields.{Opened, open_of, fields_at}
use Rattle.tagged.proofs.ByteLaws.{rest}
use Rattle.tagged.proofs.FieldLaws.{open_whole}
use Rattle.tagged.proofs.FieldLists.{field_at, fields_none, fields_more}

module _ (l : List ℕ) (opened : Opened) (found : opened ≡ open_of 0 0 l) where
  pub front_within : (s : Sort) (n : ℕ) → opened ≡ Ok (s, n) → n + 3 ≤ length l
  front_within s n e = (open_whole 0 0 l (sym found ∙ e)).within

  pub front_more : (base : ℕ) (s : Sort) (n : ℕ) → opened ≡ Ok (s, n) →
      fields_at base l ≡ field_at base s (take (n + 3 - 3) (drop 3 l)) ∷ fields_at (base + n + 3) (take (length l - (n + 3)) (drop (n + 3) l))
  front_more base s n e =
      let sum : base + (n + 3) ≡ base + n + 3 = omega arith in
      fields_more base l (open_whole 0 0 l (sym found ∙ e)) ∙ rw (add-sub_cancel, rest l (n + 3), sum)

  pub front_none : (base : ℕ) (x : Fault) → opened ≡ Err x → fields_at base l ≡ []
  front_none base x e = fields_none base l x (sym found ∙ e)
