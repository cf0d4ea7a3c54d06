-- Translating uses refusals 1 to 13; on acceptance it returns length and cell count, and writes that many bytes.
use Rattle.tagged.specs.Answers.{written, refused, Answer, Translation}
use Rattle.std.specs.Prelude.{Ok, Err, cond, List, ◌++◌, ℕ, ltb, length, drop}
use Rattle.tagged.specs.Limits.{most_cells}
use Rattle.tagged.specs.declared.answers.Rule.TheVariants as Rule
use Rattle.netlist.specs.Lists.{Netlist}
use Rattle.netlist.specs.Form.{netlist_bytes}
use Rattle.verilog.specs.Reading.{module_in}
use Rattle.verilog.specs.Answer.{module_answer}
use Rattle.translate.specs.Translation.{netlist_of}

-- the netlist of a file, and its bytes
abbrev pub netlist_of_file : List ℕ → Netlist
netlist_of_file file = netlist_of (module_in file)

abbrev pub translated_bytes : List ℕ → List ℕ
translated_bytes file = netlist_bytes (netlist_of_file file)

-- how many cells the rules give
abbrev pub cell_count : List ℕ → ℕ
cell_count file = length (netlist_of_file file).cells

-- after refusals 1 to 11: 12, over 1,024 cells; then 13, the output buffer shorter than the netlist; both at place 0
abbrev pub after_check : Answer → ℕ → ℕ → ℕ → Translation
after_check (Err e) cells size room = Err e
after_check (Ok _) cells size room =
    cond (ltb most_cells cells) (Err (refused Rule.Cells 0))
    (cond (ltb room size) (Err (refused Rule.Buffer 0)) (Ok (written size cells)))

-- what translating a file into a buffer of `room` bytes answers
unfoldable pub translate_answer : List ℕ → ℕ → Translation
translate_answer file room = after_check (module_answer file) (cell_count file) (length (translated_bytes file)) room

-- what the buffer holds then: on acceptance the netlist, and beyond it the bytes that were there; on refusal what was there
abbrev pub buffer_after : Translation → List ℕ → List ℕ → List ℕ
buffer_after (Ok e) bytes buffer = bytes ++ drop e.length buffer
buffer_after (Err e) bytes buffer = buffer

unfoldable pub translate_buffer : List ℕ → List ℕ → List ℕ
translate_buffer file buffer = buffer_after (translate_answer file (length buffer)) (translated_bytes file) buffer

-- no netlist of an accepted module within 1,024 cells is longer: 3 + 64·32 + 1,024·22 + 64·10
abbrev pub largest_netlist : ℕ
largest_netlist = 25219
