-- Running a netlist uses refusals 1 to 8, 12 and 14. It reads one row and writes another; a refusal leaves the row that is written as it was.
use Rattle.std.specs.Prelude.{List, map, ℕ, length}
use Rattle.words.specs.Values.{Outcome}
use Rattle.tagged.specs.Declarations.{width_of}
use Rattle.tagged.specs.Rows.{row_numbers}
use Rattle.tagged.specs.Runs.{run_answer_of, row_left}
use Rattle.tagged.specs.Answers.{Answer}
use Rattle.netlist.specs.Reading.{netlist_in}
use Rattle.netlist.specs.Answer.{netlist_answer}
use Rattle.netlist.specs.Cycle.{netlist_cycle}

-- the widths of a file's variables
abbrev pub file_widths : List ℕ → List ℕ
file_widths file = map width_of (netlist_in file).declarations

-- the answer of a run on a file, a row that is read, and the length of the row that is written
unfoldable pub run_answer : List ℕ → List ℕ → ℕ → Answer
run_answer file row room = run_answer_of (netlist_answer file) (file_widths file) row room

-- what a cycle gives from the numbers of a row
abbrev pub cycle_of : List ℕ → List ℕ → Outcome (List ℕ)
cycle_of file row = netlist_cycle (netlist_in file) (row_numbers (length (file_widths file)) row)

-- what the row that is written then holds; an accepted run never stops (proofs/NeverStops)
unfoldable pub run_leaves : List ℕ → List ℕ → List ℕ → List ℕ
run_leaves file row next = row_left (run_answer file row (length next)) (cycle_of file row) next
