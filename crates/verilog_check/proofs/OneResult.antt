-- The public call of this crate determines its result: any two answers to one file coincide.
use mathlib.Core.Path.{◌≡◌}
use mathlib.Core.List.{List}
use Prim.Native.Nat.{ℕ}
use Rattle.tagged.specs.Answers.{Answer}
use Rattle.tagged.proofs.AnswerLaws.{one_answer_lem}
use Rattle.verilog.specs.Answer.{module_answer}

pub check_once : (file : List ℕ) {a b : Answer} → a ≡ module_answer file → b ≡ module_answer file → a ≡ b
check_once file p q = one_answer_lem p q
