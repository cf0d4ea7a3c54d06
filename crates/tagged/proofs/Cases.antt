-- Cases on either side of each line of the tagged form: one table, under one theorem, which antt computes. Assumes nothing.
use Rattle.std.specs.Prelude.{Ok, Err, Some, None}
use mathlib.Core.Path.{◌≡◌, refl}
use mathlib.Core.Bool.{true}
use mathlib.Core.List.{List, [], ◌∷◌, ◌++◌}
use Prim.Native.Nat.{ℕ, zero, suc, ◌+◌, ◌*◌, ◌/◌, ◌%◌}
use lib.ListN.{length, get_or, replicate}
use Rattle.words.specs.Values.{Outcome, stopped, got}
use Rattle.tagged.specs.Cycles.{with_inputs, cycles_by}
use Rattle.words.proofs.Cases.{Case, case, flag, passes}
use Rattle.tagged.specs.Limits.{longest_module, longest_netlist}
use Rattle.tagged.specs.Bytes.{two_bytes, number_of_two, four_bytes, number_of_four, four_of}
use Rattle.tagged.specs.Sorts.{sort_of, tag_of, declaration_sort, statement_sort, expression_sort, cell_sort}
use Rattle.tagged.specs.Fields.{open_of, field_by, fixed_then, many_from, read_from, Opened, Step}
use Rattle.tagged.specs.Answers.{number_of, Answer, Found}
use Rattle.tagged.specs.Files.{file_answer, outer_answer}
use Rattle.tagged.specs.Names.{is_name, is_name_byte, all_name_bytes, same_name}
use Rattle.tagged.specs.Refusals.{first_broken}
use Rattle.tagged.specs.Declarations.{declaration_body, declarations_step, declaration_read, declarations_at, declarations_in, value_broken, name_taken, name_broken, count_broken, declaration_breaks}
use Rattle.tagged.specs.Rows.{row_numbers, all_fit, rows_fit, row_answer}
use Rattle.tagged.specs.declared.answers.Rule.{Rule}

-- answers as numbers: a place as it is, all else from 1,000,000 on

abbrev opening : Opened → ℕ
opening (Ok (s, n)) = 1_000_000 * (tag_of s + 1) + n
opening (Err fault) = fault.place

abbrev stepping : Step → ℕ
stepping (Ok m) = 1_000_000 + m
stepping (Err fault) = fault.place

abbrev finding : Found → ℕ
finding None = 1_000_000
finding (Some place) = place

-- a refusal as its number in thousands, and its place; for the tables of the crates above too
abbrev pub answering : Answer → ℕ
answering (Ok _) = 0
answering (Err e) = number_of e.rule * 1000 + e.place

-- input en (1 bit) and register n (4 bits, 0), of "One case whole"
abbrev en : List ℕ
en = 0x02 ∷ 0 ∷ 3 ∷ 1 ∷ 0x65 ∷ 0x6E ∷ []

abbrev n : List ℕ
n = 0x03 ∷ 0 ∷ 6 ∷ 4 ∷ 0 ∷ 0 ∷ 0 ∷ 0 ∷ 0x6E ∷ []

-- k inputs of 1 bit with names of two letters
inputs : ℕ → List ℕ
inputs zero = []
inputs (suc k) = inputs k ++ (0x02 ∷ 0 ∷ 3 ∷ 1 ∷ (0x61 + k / 26) ∷ (0x61 + k % 26) ∷ [])

-- a cycle that counts, and the rows that it leaves, as one number
counter : List ℕ → Outcome (List ℕ)
counter row = got ((get_or row 0 0 + 1) ∷ [])

abbrev rows_code : ℕ → List (List ℕ) → ℕ
rows_code k [] = k
rows_code k (row ∷ rows) = rows_code (k * 1000 + get_or row 0 0) rows

abbrev counting : Outcome (List (List ℕ)) → ℕ
counting stopped = 0
counting (got rows) = rows_code 0 rows

broken : Rule → List ℕ → ℕ
broken rule l = finding (first_broken (declaration_breaks rule) [] (declarations_at 3 l))

pub table : List Case
table =
    -- opening: nothing, one byte, two, a payload past the end, a length of 65,535
    case (opening (open_of 7 5 [])) 5
    ∷ case (opening (open_of 7 5 (0x21 ∷ []))) 7
    ∷ case (opening (open_of 7 5 (0x21 ∷ 0 ∷ []))) 7
    ∷ case (opening (open_of 7 5 (0x21 ∷ 0 ∷ 1 ∷ []))) 7
    ∷ case (opening (open_of 7 5 (0x21 ∷ 255 ∷ 255 ∷ 1 ∷ []))) 7
    ∷ case (opening (open_of 7 5 (0x21 ∷ 0 ∷ 1 ∷ 9 ∷ []))) 34_000_001
    ∷ case (opening (open_of 7 5 (0x99 ∷ 0 ∷ 0 ∷ []))) 1_000_000
    -- refusal 1: shorter than 3, the outer length not the rest; the limits are too long to compute here, and the program lines runs them
    ∷ case (answering (file_answer longest_module [])) 1000
    ∷ case (answering (file_answer longest_module (0x01 ∷ 0 ∷ []))) 1000
    ∷ case (answering (file_answer longest_module (0x01 ∷ 0 ∷ 0 ∷ []))) 0
    ∷ case (answering (file_answer longest_module (0x01 ∷ 0 ∷ 1 ∷ []))) 1000
    ∷ case (answering (file_answer longest_netlist (0x81 ∷ 0 ∷ 0 ∷ []))) 0
    ∷ case (answering (file_answer longest_netlist (0x81 ∷ 0 ∷ 0 ∷ 0 ∷ []))) 1000
    -- names: letters, digits, underscore, none first; 0, 24 and 25 bytes; bytes of 128 and more
    ∷ case (flag (is_name [])) 0
    ∷ case (flag (is_name (0x61 ∷ 0x5F ∷ 0x39 ∷ []))) 1
    ∷ case (flag (is_name (0x39 ∷ 0x61 ∷ []))) 0
    ∷ case (flag (is_name (0x5F ∷ []))) 1
    ∷ case (flag (is_name (0x24 ∷ []))) 0
    ∷ case (flag (is_name (0xE9 ∷ []))) 0
    ∷ case (flag (is_name (replicate 24 0x7A))) 1
    ∷ case (flag (is_name (replicate 25 0x7A))) 0
    ∷ case (flag (same_name (0x41 ∷ []) (0x61 ∷ []))) 0
    -- declarations: refusal 2 at their places
    ∷ case (stepping (declarations_step 3 0 (en ++ n))) 1_000_015
    ∷ case (stepping (declarations_step 3 0 (en ++ (0x04 ∷ 0 ∷ 0 ∷ [])))) 1_000_006
    ∷ case (stepping (declarations_step 3 0 (en ++ (0x02 ∷ 0 ∷ 0 ∷ [])))) 9
    ∷ case (stepping (declarations_step 3 0 (en ++ (0x03 ∷ 0 ∷ 4 ∷ 4 ∷ 0 ∷ 0 ∷ 0 ∷ [])))) 9
    ∷ case (stepping (declarations_step 3 0 (en ++ (0x03 ∷ 0 ∷ [])))) 9
    ∷ case (length (declarations_in (en ++ n))) 2
    -- refusals 3 to 5 at their places: 15 and 16 in 4 bits, widths 0 and 33, an empty name, a name twice, the 65th
    ∷ case (broken Rule.Value (en ++ n)) 1_000_000
    ∷ case (broken Rule.Value (en ++ (0x03 ∷ 0 ∷ 6 ∷ 4 ∷ 0 ∷ 0 ∷ 0 ∷ 15 ∷ 0x6E ∷ []))) 1_000_000
    ∷ case (broken Rule.Value (en ++ (0x03 ∷ 0 ∷ 6 ∷ 4 ∷ 0 ∷ 0 ∷ 0 ∷ 16 ∷ 0x6E ∷ []))) 9
    ∷ case (broken Rule.Value (en ++ (0x02 ∷ 0 ∷ 2 ∷ 0 ∷ 0x6E ∷ []))) 9
    ∷ case (broken Rule.Value (en ++ (0x02 ∷ 0 ∷ 2 ∷ 33 ∷ 0x6E ∷ []))) 9
    ∷ case (broken Rule.Name (en ++ n)) 1_000_000
    ∷ case (broken Rule.Name (en ++ (0x02 ∷ 0 ∷ 1 ∷ 1 ∷ []))) 9
    ∷ case (broken Rule.Name (en ++ n ++ en)) 18
    ∷ case (broken Rule.Count (inputs 64)) 1_000_000
    ∷ case (broken Rule.Count (inputs 65)) 387
    ∷ case (broken Rule.Name (inputs 65)) 1_000_000
    -- rows: one byte short and long, a number that fits and one that does not, no variables
    ∷ case (answering (row_answer (1 ∷ 4 ∷ []) (0 ∷ 0 ∷ 0 ∷ 1 ∷ 0 ∷ 0 ∷ 0 ∷ 15 ∷ []) 8)) 0
    ∷ case (answering (row_answer (1 ∷ 4 ∷ []) (0 ∷ 0 ∷ 0 ∷ 1 ∷ 0 ∷ 0 ∷ 0 ∷ 16 ∷ []) 8)) 14_000
    ∷ case (answering (row_answer (1 ∷ 4 ∷ []) (0 ∷ 0 ∷ 0 ∷ 1 ∷ 0 ∷ 0 ∷ 0 ∷ []) 8)) 14_000
    ∷ case (answering (row_answer (1 ∷ 4 ∷ []) (0 ∷ 0 ∷ 0 ∷ 1 ∷ 0 ∷ 0 ∷ 0 ∷ 15 ∷ 0 ∷ []) 8)) 14_000
    ∷ case (answering (row_answer (1 ∷ 4 ∷ []) (0 ∷ 0 ∷ 0 ∷ 1 ∷ 0 ∷ 0 ∷ 0 ∷ 15 ∷ []) 7)) 14_000
    ∷ case (answering (row_answer [] [] 0)) 0
    ∷ case (answering (row_answer [] (0 ∷ []) 0)) 14_000
    -- cycles: each from the register left by the last; a counter from 4, three cycles without inputs
    ∷ case (counting (cycles_by counter (declarations_in n) (4 ∷ []) ([] ∷ [] ∷ [] ∷ []))) 5_006_007
    -- numbers: high byte first
    ∷ case (number_of_two 1 2) 258
    ∷ case (four_of (0 ∷ 1 ∷ 0 ∷ 2 ∷ [])) 65538
    ∷ case (four_of (four_bytes 0xffff_ffff)) 0xffff_ffff
    ∷ []

pub cases : passes table ≡ true
unfolding table open_of sort_of tag_of declaration_sort statement_sort expression_sort cell_sort number_of number_of_two number_of_four four_of four_bytes two_bytes file_answer outer_answer is_name is_name_byte all_name_bytes same_name inputs broken counter with_inputs cycles_by declarations_step declaration_body field_by fixed_then many_from read_from declarations_at declaration_read first_broken declaration_breaks value_broken name_broken name_taken count_broken row_answer rows_fit all_fit row_numbers
cases = refl
