-- What is asked of a closure that judges payloads, and what it tells; by the predicates of its calls.
use Rattle.std.specs.Prelude.{◌≡◌, Bool, List, ℕ, ◌+◌, ◌^◌, ◌≤◌, length}
use Rattle.std.specs.Borrow.{Bor}
use Rattle.tagged.specs.Fields.{Body, Judged}
use Rattle.tagged.specs.declared.sorts.Sort.{Sort}

-- it may be called at every payload of a file
abbrev pub TakesPayloads : (Sort → Bor (List ℕ) → ℕ → Type 0) → Type 0
TakesPayloads pre = (s : Sort) (p : Bor (List ℕ)) (at : ℕ) → at + 3 + length p.now ≤ 2 ^ 40 → pre s p at

-- its calls answer what `judged` does
abbrev pub Judges : (Sort → Bor (List ℕ) → ℕ → Judged → Type 0) → Body → Type 0
Judges post judged = (s : Sort) (p : Bor (List ℕ)) (at : ℕ) (r : Judged) → post s p at r → r ≡ judged at s p.now

-- its calls answer what `wanted` does
abbrev pub Chooses : (Sort → Bool → Type 0) → (Sort → Bool) → Type 0
Chooses post wanted = (s : Sort) (r : Bool) → post s r → r ≡ wanted s
