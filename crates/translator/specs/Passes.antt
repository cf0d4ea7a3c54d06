-- A pass over the parts of a module: the bytes of its declarations as they stand (declared) and of its processes (list), the widths of its variables,
-- which of them are registers, and the first assignments to them.
use Rattle.std.specs.Prelude.{◌≡◌, List, ◌∷◌, ◌++◌, ℕ, ◌-◌, ◌*◌, ◌≤◌, length}
use Rattle.tagged.specs.Limits.{longest_module}
use Rattle.tagged.specs.Bytes.{two_bytes, Wrote}
use Rattle.tagged.specs.Sorts.{tag_of}
use Rattle.tagged.specs.Fields.{all_bytes_of}
use Rattle.tagged.specs.Answers.{acceptance, Translation}
use Rattle.tagged.specs.declared.sorts.Sort.TheVariants as Sort
use Rattle.netlist.specs.Form.{cell_bytes, drive_bytes}
use Rattle.netlist.specs.declared.Cell.{Cell}
use Rattle.translate.specs.Answer.{after_check, buffer_after}
use Rattle.translate_blocks.specs.declared.case_log.Entry.{Entry}
use Rattle.translate_blocks.specs.Writing.{Written, write_processes}
use Rattle.translate_blocks.specs.Ends.{start_table, drives_by}
use Rattle.translator.specs.declared.parts.Parts.{Parts}

-- the cells of the processes, and the table after them, from the table in which each variable is itself
abbrev pub passed : Parts → Written
passed p = write_processes (length p.widths.now) p.list.now (start_table p.widths.now) 0

abbrev pub passed_cells : Parts → List Cell
passed_cells p = (passed p).cells

-- the bytes of the cells, then of the drives
unfoldable pub rest_of : Parts → List ℕ
rest_of p = all_bytes_of cell_bytes (passed_cells p) ++ all_bytes_of drive_bytes (drives_by p.marks.now p.firsts.now (passed p).operands)

-- the header for a payload of so many bytes, the declarations, and the rest
unfoldable pub whole_of : (size : ℕ) → Parts → List ℕ
whole_of size p = (tag_of Sort.Netlist ∷ two_bytes size) ++ (p.declared.now ++ rest_of p)

-- what a pass does to a buffer and to the count of cells
pub record Passed (out : List ℕ) (at : ℕ) (bytes : List ℕ) (cells : List Cell) (out' : List ℕ) (at' count : ℕ) : Type 0 where
  pub wrote : Wrote out at bytes out' at'
  pub counted : count ≡ length cells

-- the log of a case has an entry for every third byte of a list of processes
pub record LogRoom (list : List ℕ) (log : List Entry) : Type 0 where
  pub enough : length list ≤ 3 * length log
  pub short : length log ≤ longest_module

-- how long the whole is, whatever stands in its header
abbrev pub length_of : Parts → ℕ
length_of p = length (whole_of 0 p)

-- refusal 12, then 13, else the length and the count
unfoldable pub pass_answer : Parts → ℕ → Translation
pass_answer p room = after_check acceptance (length (passed_cells p)) (length_of p) room

-- the whole with its own length in the header, if nothing was refused
unfoldable pub pass_buffer : Parts → List ℕ → List ℕ
pass_buffer p out = buffer_after (pass_answer p (length out)) (whole_of (length_of p - 3) p) out
