-- The public call of this crate determines its result: any two translations of one file into one buffer coincide, with every byte of the buffer.
use mathlib.Core.Path.{◌≡◌}
use mathlib.Core.List.{List}
use Prim.Native.Nat.{ℕ}
use Rattle.tagged.specs.Answers.{Translation}
use Rattle.tagged.proofs.AnswerLaws.{coincide}
use Rattle.translator.specs.Calls.{TranslateCall}

pub translate_once : (file buffer : List ℕ) {a b : Translation} {left held : List ℕ} → TranslateCall file buffer a left → TranslateCall file buffer b held → (a ≡ b) × (left ≡ held)
translate_once file buffer p q = coincide p q
