-- Rows: four bytes for each variable, high byte first, in variable order; and refusal 14.
use Rattle.tagged.specs.Answers.{acceptance, refused, Answer}
use Rattle.std.specs.Prelude.{Err, Bool, true, false, cond, ◌&&◌, List, [], ◌∷◌, ℕ, zero, suc, ◌*◌, eqb, length, drop}
use Rattle.words.specs.Widths.{fits_width}
use Rattle.tagged.specs.Bytes.{four_bytes, four_of}
use Rattle.tagged.specs.Fields.{all_bytes_of}
use Rattle.tagged.specs.declared.answers.Rule.TheVariants as Rule

-- a row's bytes
abbrev pub row_bytes : List ℕ → List ℕ
row_bytes = all_bytes_of four_bytes

-- the first n numbers of a row
unfoldable pub row_numbers : ℕ → List ℕ → List ℕ
row_numbers zero row = []
row_numbers (suc n) row = four_of row ∷ row_numbers n (drop 4 row)

-- each number is below 2 to its width; there are as many widths
unfoldable pub all_fit : List ℕ → List ℕ → Bool
all_fit [] [] = true
all_fit [] (v ∷ row) = false
all_fit (w ∷ widths) [] = false
all_fit (w ∷ widths) (v ∷ row) = fits_width w v && all_fit widths row

-- the rows of a run: both have one number per variable, and those of the row read fit their widths
unfoldable pub rows_fit : List ℕ → List ℕ → ℕ → Bool
rows_fit widths row next_length =
    eqb (length row) (4 * length widths) && eqb next_length (4 * length widths) && all_fit widths (row_numbers (length widths) row)

-- refusal 14 has place 0
unfoldable pub row_answer : List ℕ → List ℕ → ℕ → Answer
row_answer widths row next_length = cond (rows_fit widths row next_length) acceptance (Err (refused Rule.Row 0))
