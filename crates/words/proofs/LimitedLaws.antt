-- A number within limits is told by the number inside, so that a contract that equates those numbers leaves no choice. By cases.
use Rattle.std.specs.Prelude.{Option, Some, None}
use Rattle.std.proofs.lemmas.Option.{none-some}
use mathlib.Core.Path.{◌≡◌, refl, sym, ap}
use Prim.Native.Nat.{ℕ}
use Rattle.words.specs.Limited.{number_in}
use Rattle.words.specs.declared.limits.Limited.{Limited}

-- the number inside, 0 where there is none
abbrev inside : Option ℕ → ℕ
inside None = 0
inside (Some n) = n

pub told_by_number : {least most : ℕ} (a b : Option (Limited least most)) → number_in a ≡ number_in b → a ≡ b
told_by_number None None e = refl
told_by_number None (Some y) e = absurd (none-some _ e)
told_by_number (Some x) None e = absurd (none-some _ (sym e))
told_by_number (Some x) (Some y) e = ap (λ (n : ℕ). Some (record { number = n })) (ap inside e)
