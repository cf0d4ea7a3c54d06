-- Calling a run cycle after cycle: what a caller may see, by the run's contract alone. Before each call the caller puts that cycle's inputs into the row that
-- the last call left.
use Rattle.std.specs.Prelude.{◌≡◌, List, [], ◌∷◌, ℕ, ◌*◌, length}
use Rattle.tagged.specs.Answers.{Promise, Answer, Translation}
use Rattle.tagged.specs.Declarations.{Declaration}
use Rattle.tagged.specs.Rows.{row_bytes, row_numbers}
use Rattle.tagged.specs.Cycles.{with_inputs}
use Rattle.netlist.specs.Run as netlist_run
use Rattle.verilog.specs.Run as module_run
use Rattle.translate.specs.Answer.{translate_answer, translate_buffer}

-- what the contract of `translate` admits: a file, the buffer lent, the answer, and what the buffer holds then
abbrev pub TranslateCall : (file buffer : List ℕ) → Translation → List ℕ → Type 0
TranslateCall file buffer answer left = Promise (translate_answer file (length buffer)) (translate_buffer file buffer) answer left

-- what the contract of a run admits: the row that is read, the row that is lent, the answer, and what the lent row holds then
abbrev pub RunCall : Type 1
RunCall = (row next : List ℕ) → Answer → List ℕ → Type 0

-- a module's run, and a netlist's
abbrev pub module_call : List ℕ → RunCall
module_call file row next answer left = Promise (module_run.run_answer file row (length next)) (module_run.run_leaves file row next) answer left

abbrev pub netlist_call : List ℕ → RunCall
netlist_call file row next answer left = Promise (netlist_run.run_answer file row (length next)) (netlist_run.run_leaves file row next) answer left

-- one call for each input row: the answers, and the bytes that each call left in a row that was lent with any bytes in it
pub data Calls (run : RunCall) (ds : List Declaration) : (row : List ℕ) → (inputs : List (List ℕ)) → List Answer → List (List ℕ) → Type 0 where
  no_call : {row : List ℕ} → Calls run ds row [] [] []
  call : {row now : List ℕ} {later : List (List ℕ)} {answer : Answer} {left : List ℕ} {answers : List Answer} {lefts : List (List ℕ)} (next : List ℕ) →
      length next ≡ 4 * length ds → run (row_bytes (with_inputs ds now row)) next answer left →
      Calls run ds (row_numbers (length ds) left) later answers lefts → Calls run ds row (now ∷ later) (answer ∷ answers) (left ∷ lefts)
