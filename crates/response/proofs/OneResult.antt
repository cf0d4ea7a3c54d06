-- What the program writes is determined: any two responses to one file into one buffer coincide, with every byte of the buffer.
use mathlib.Core.Path.{◌≡◌}
use mathlib.Core.List.{List}
use Prim.Native.Nat.{ℕ}
use lib.ListN.{length}
use Rattle.tagged.specs.Answers.{Promise}
use Rattle.tagged.proofs.AnswerLaws.{coincide}
use Rattle.response.specs.Text.{program_text, program_buffer}

pub respond_once : (file out : List ℕ) {a b : ℕ} {left held : List ℕ} → Promise (length (program_text file)) (program_buffer file out) a left →
    Promise (length (program_text file)) (program_buffer file out) b held → (a ≡ b) × (left ≡ held)
respond_once file out p q = coincide p q
