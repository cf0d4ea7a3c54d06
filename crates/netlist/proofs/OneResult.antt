-- Each public call of this crate determines its result: any two answers to one file coincide, and so do any two runs, with every byte of the row.
use mathlib.Core.Path.{◌≡◌}
use mathlib.Core.List.{List}
use Prim.Native.Nat.{ℕ}
use lib.ListN.{length}
use Rattle.tagged.specs.Answers.{Promise, Answer}
use Rattle.tagged.proofs.AnswerLaws.{one_answer_lem, coincide}
use Rattle.netlist.specs.Answer.{netlist_answer}
use Rattle.netlist.specs.Run.{run_answer, run_leaves}

pub read_once : (file : List ℕ) {a b : Answer} → a ≡ netlist_answer file → b ≡ netlist_answer file → a ≡ b
read_once file p q = one_answer_lem p q

pub run_once : (file row next : List ℕ) {a b : Answer} {left held : List ℕ} → Promise (run_answer file row (length next)) (run_leaves file row next) a left →
    Promise (run_answer file row (length next)) (run_leaves file row next) b held → (a ≡ b) × (left ≡ held)
run_once file row next p q = coincide p q
