-- Each of the four C calls determines its result: any two results coincide, with every byte lent; and the struct that C gets gives back the answer of the
-- definitions, number and values.
use mathlib.Core.Path.{◌≡◌, ap, ◌∙◌}
use mathlib.Core.List.{List}
use Prim.Native.Nat.{ℕ}
use lib.ListN.{length}
use Rattle.tagged.specs.Answers.{reply_of, translation_reply, answer_of, translation_of, Promise}
use Rattle.tagged.specs.declared.answers.Reply.{Reply}
use Rattle.tagged.proofs.AnswerLaws.{answer_back, translation_back, one_answer_lem, coincide}
use Rattle.netlist.specs.Run as netlist_run
use Rattle.verilog.specs.Answer.{module_answer}
use Rattle.verilog.specs.Run as module_run
use Rattle.translate.specs.Answer.{translate_answer, translate_buffer}

-- what the contract of each call admits
abbrev pub CheckCall : List ℕ → Reply → Type 0
CheckCall file r = r ≡ reply_of (module_answer file)

abbrev pub TranslateCall : (file out : List ℕ) → Reply → List ℕ → Type 0
TranslateCall file out r left = Promise (translation_reply (translate_answer file (length out))) (translate_buffer file out) r left

abbrev pub ModuleCall : (file row next : List ℕ) → Reply → List ℕ → Type 0
ModuleCall file row next r left = Promise (reply_of (module_run.run_answer file row (length next))) (module_run.run_leaves file row next) r left

abbrev pub NetlistCall : (file row next : List ℕ) → Reply → List ℕ → Type 0
NetlistCall file row next r left = Promise (reply_of (netlist_run.run_answer file row (length next))) (netlist_run.run_leaves file row next) r left

-- two results of one call
pub check_once : (file : List ℕ) {a b : Reply} → CheckCall file a → CheckCall file b → a ≡ b
check_once file p q = one_answer_lem p q

pub translate_once : (file out : List ℕ) {a b : Reply} {left held : List ℕ} → TranslateCall file out a left → TranslateCall file out b held → (a ≡ b) × (left ≡ held)
translate_once file out p q = coincide p q

pub module_once : (file row next : List ℕ) {a b : Reply} {left held : List ℕ} → ModuleCall file row next a left → ModuleCall file row next b held →
    (a ≡ b) × (left ≡ held)
module_once file row next p q = coincide p q

pub netlist_once : (file row next : List ℕ) {a b : Reply} {left held : List ℕ} → NetlistCall file row next a left → NetlistCall file row next b held →
    (a ≡ b) × (left ≡ held)
netlist_once file row next p q = coincide p q

-- what C gets, read back
pub check_back : (file : List ℕ) {r : Reply} → CheckCall file r → answer_of r ≡ module_answer file
check_back file p = ap answer_of p ∙ answer_back (module_answer file)

pub translate_back : (file out : List ℕ) {r : Reply} {left : List ℕ} → TranslateCall file out r left → translation_of r ≡ translate_answer file (length out)
translate_back file out p = ap translation_of p.answered ∙ translation_back (translate_answer file (length out))

pub module_back : (file row next : List ℕ) {r : Reply} {left : List ℕ} → ModuleCall file row next r left →
    answer_of r ≡ module_run.run_answer file row (length next)
module_back file row next p = ap answer_of p.answered ∙ answer_back (module_run.run_answer file row (length next))

pub netlist_back : (file row next : List ℕ) {r : Reply} {left : List ℕ} → NetlistCall file row next r left →
    answer_of r ≡ netlist_run.run_answer file row (length next)
netlist_back file row next p = ap answer_of p.answered ∙ answer_back (netlist_run.run_answer file row (length next))
