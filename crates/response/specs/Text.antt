-- A program reads a module from standard input and writes the netlist, or "refused N at P" in decimal and a newline.
use Rattle.std.specs.Prelude.{Ok, Err, cond, List, [], ◌∷◌, ◌++◌, ℕ, zero, suc, ◌+◌, ◌/◌, ◌%◌, ltb, length, drop}
use Rattle.tagged.specs.Answers.{number_of, Translation}
use Rattle.translate.specs.Answer.{translated_bytes, translate_answer, largest_netlist}

-- a number in decimal, of at most so many digits: the digits of a tenth of it, then its last one
unfoldable pub decimal_by : ℕ → ℕ → List ℕ
decimal_by zero n = []
decimal_by (suc digits) n = cond (ltb n 10) ((48 + n) ∷ []) (decimal_by digits (n / 10) ++ ((48 + n % 10) ∷ []))

-- 20 digits are enough for every number of 64 bits
abbrev pub decimal : ℕ → List ℕ
decimal = decimal_by 20

-- the letters of "refused " and of " at "
abbrev pub refused_word : List ℕ
refused_word = 0x72 ∷ 0x65 ∷ 0x66 ∷ 0x75 ∷ 0x73 ∷ 0x65 ∷ 0x64 ∷ 0x20 ∷ []

abbrev pub at_word : List ℕ
at_word = 0x20 ∷ 0x61 ∷ 0x74 ∷ 0x20 ∷ []

-- the text of a refusal
unfoldable pub refusal_text : (number place : ℕ) → List ℕ
refusal_text number place = refused_word ++ (decimal number ++ (at_word ++ (decimal place ++ (0x0A ∷ []))))

-- what is written for an answer
abbrev pub text_of : Translation → List ℕ → List ℕ
text_of (Ok e) bytes = bytes
text_of (Err e) bytes = refusal_text (number_of e.rule) e.place

-- what the program writes, from what it reads; with room for the largest netlist, refusal 13 is never given
unfoldable pub program_text : List ℕ → List ℕ
program_text file = text_of (translate_answer file largest_netlist) (translated_bytes file)

-- a buffer that holds it at the front, and beyond it what was there
abbrev pub program_buffer : (file out : List ℕ) → List ℕ
program_buffer file out = program_text file ++ drop (length (program_text file)) out
