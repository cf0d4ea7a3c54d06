-- What is left of a field's payload, as the definitions take it.
use Rattle.std.specs.Prelude.{List, ℕ}
use Rattle.tagged.specs.declared.payload.Payload.{Payload}

-- what a judge or a stepper says of it
abbrev pub over : {A : Type 0} → (ℕ → ℕ → List ℕ → A) → Payload → A
over judge part = judge part.base part.owner part.bytes.now
