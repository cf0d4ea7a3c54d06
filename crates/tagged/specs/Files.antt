-- Refusal 1: a file's length, and its outer field's.
use Rattle.tagged.specs.Answers.{acceptance, refused, Answer}
use Rattle.std.specs.Prelude.{Err, Bool, cond, ◌&&◌, List, ℕ, ◌+◌, leb, eqb, length}
use Rattle.tagged.specs.Limits.{shortest_file}
use Rattle.tagged.specs.Fields.{size_of}
use Rattle.tagged.specs.declared.answers.Rule.TheVariants as Rule

-- a file of 3 bytes to the longest
abbrev pub length_fits : ℕ → List ℕ → Bool
length_fits longest file = leb shortest_file (length file) && leb (length file) longest

-- the outer length is the rest of the file
abbrev pub outer_fits : List ℕ → Bool
outer_fits file = eqb (size_of file + 3) (length file)

-- refusal 1 has place 0
unfoldable pub outer_answer : List ℕ → Answer
outer_answer file = cond (outer_fits file) acceptance (Err (refused Rule.FileLength 0))

unfoldable pub file_answer : ℕ → List ℕ → Answer
file_answer longest file = cond (length_fits longest file) (outer_answer file) (Err (refused Rule.FileLength 0))
