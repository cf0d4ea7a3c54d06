-- The public call of this crate determines its result: any two runs of one file from one row coincide, with every byte of the row that is written.
use mathlib.Core.Path.{◌≡◌}
use mathlib.Core.List.{List}
use Prim.Native.Nat.{ℕ}
use lib.ListN.{length}
use Rattle.tagged.specs.Answers.{Promise, Answer}
use Rattle.tagged.proofs.AnswerLaws.{coincide}
use Rattle.verilog.specs.Run.{run_answer, run_leaves}

pub run_once : (file row next : List ℕ) {a b : Answer} {left held : List ℕ} → Promise (run_answer file row (length next)) (run_leaves file row next) a left →
    Promise (run_answer file row (length next)) (run_leaves file row next) b held → (a ≡ b) × (left ≡ held)
run_once file row next p q = coincide p q
