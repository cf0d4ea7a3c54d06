-- A run, of a module or of a netlist: refusal 14 comes after every refusal of the file; it reads one row and writes another, and a refusal leaves that as it was.
use Rattle.std.specs.Prelude.{Ok, Err, List, ℕ}
use Rattle.words.specs.Values.{Outcome, stopped, got}
use Rattle.tagged.specs.Refusals.{after_answer}
use Rattle.tagged.specs.Rows.{row_bytes, row_answer}
use Rattle.tagged.specs.Answers.{Answer}

-- the answer of a run, from that of its file, the widths of its variables, the row that is read and the length of the one that is written
unfoldable pub run_answer_of : Answer → List ℕ → List ℕ → ℕ → Answer
run_answer_of answer widths row room = after_answer answer (row_answer widths row room)

-- what the row that is written then holds, from the run's answer and what the cycle gives; an accepted run never stops, so the second line is never reached
abbrev pub row_left : Answer → Outcome (List ℕ) → List ℕ → List ℕ
row_left (Ok _) (got after) next = row_bytes after
row_left (Ok _) stopped next = next
row_left (Err e) outcome next = next
