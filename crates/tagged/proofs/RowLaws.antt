-- Rows: what is written is read back and what is read is written back; a row that fits has a number below its bound for each width;
-- and one turn of each loop over a row. By induction on the row. Assumes nothing.
use Rattle.tagged.specs.Answers.{acceptance, refused}
use Rattle.std.specs.Prelude.{Err}
use mathlib.Core.Path.{◌≡◌, refl, ap, ap₂}
use mathlib.Core.Bool.{Bool, true, false, cond, ◌&&◌, false≢true, and-false, and-eq-true_iff}
use mathlib.Core.List.{List, [], ◌∷◌, ◌++◌, append_assoc, append-nil}
use Prim.Native.Nat.{ℕ, zero, suc, ◌+◌, ◌-◌, ◌*◌, ◌^◌, ◌≤◌, ◌<◌}
use native.Mathlib.Nat.{sub-zero}
use native.Mathlib.Numerals.{add-one}
use native.Mathlib.Omega.{arith}
use lib.Dec.{eqb}
use lib.ListN.{length, get_or, take, drop, set, drop_of_length-le}
use lib.Seq.{take_all, take-suc, take-suc-set, drop-cons, drop-drop}
use borrow.Author.Tests.{ltb-true, eqb-true, eq-eqb, ne_eqb}
use Rattle.words.specs.Widths.{fits_width}
use Rattle.tagged.specs.Bytes.{AllBytes, four_bytes, four_of, Wrote}
use Rattle.tagged.specs.Fields.{all_bytes_of}
use Rattle.tagged.specs.Rows.{row_bytes, row_numbers, all_fit, rows_fit, row_answer}
use Rattle.tagged.specs.declared.answers.Rule.TheVariants as Rule
use Rattle.tagged.proofs.ByteLaws.{bytes_four, four_front, bytes_drop}
use Rattle.tagged.proofs.WriteLaws.{wrote_then}
use Rattle.tagged.proofs.AllBytesLaws.{bytes_joined}

-- lengths
pub numbers_length : (n : ℕ) (row : List ℕ) → length (row_numbers n row) ≡ n
unfolding row_numbers
numbers_length zero row = refl
numbers_length (suc n) row = ap suc (numbers_length n (drop 4 row))

pub bytes_length : (values : List ℕ) → length (row_bytes values) ≡ 4 * length values
unfolding all_bytes_of four_bytes
bytes_length [] = refl
bytes_length (v ∷ values) = omega (arith, bytes_length values)

-- the first numbers of more
pub numbers_front : (n m : ℕ) (row : List ℕ) → n ≤ m → take n (row_numbers m row) ≡ row_numbers n row
unfolding row_numbers
numbers_front zero m row h = refl
numbers_front (suc n) zero row h = absurd (omega arith)
numbers_front (suc n) (suc m) row h = ap (λ (l : List ℕ). four_of row ∷ l) (numbers_front n m (drop 4 row) (omega arith))

-- what is written is read back
pub row_back : (values after : List ℕ) → ((i : ℕ) → get_or values i 0 < 2 ^ 32) → row_numbers (length values) (row_bytes values ++ after) ≡ values
unfolding row_numbers all_bytes_of four_bytes
row_back [] after h = refl
row_back (v ∷ values) after h = ap₂ (λ x l. x ∷ l) (four_front v (row_bytes values ++ after) (h 0)) (row_back values after (λ i. h (suc i)))

-- what is read is written back
pub row_bytes_lem : (n : ℕ) (row : List ℕ) → AllBytes row → length row ≡ 4 * n → row_bytes (row_numbers n row) ≡ row
unfolding row_numbers all_bytes_of four_of
row_bytes_lem zero [] h e = refl
row_bytes_lem zero (a ∷ row) h e = absurd (omega arith)
row_bytes_lem (suc n) [] h e = absurd (omega arith)
row_bytes_lem (suc n) (a ∷ []) h e = absurd (omega arith)
row_bytes_lem (suc n) (a ∷ b ∷ []) h e = absurd (omega arith)
row_bytes_lem (suc n) (a ∷ b ∷ c ∷ []) h e = absurd (omega arith)
row_bytes_lem (suc n) (a ∷ b ∷ c ∷ d ∷ row) h e =
    let less : length row ≡ 4 * n = omega arith in
    ap₂ ◌++◌ (bytes_four a b c d (h 0) (h 1) (h 2) (h 3)) (row_bytes_lem n row (bytes_drop 4 (a ∷ b ∷ c ∷ d ∷ row) h) less)

-- a row that fits
pub fits_length : (widths row : List ℕ) → all_fit widths row ≡ true → length row ≡ length widths
unfolding all_fit
fits_length [] [] e = refl
fits_length [] (v ∷ row) e = absurd (false≢true e)
fits_length (w ∷ widths) [] e = absurd (false≢true e)
fits_length (w ∷ widths) (v ∷ row) e = ap suc (fits_length widths row ((and-eq-true_iff (fits_width w v) (all_fit widths row)).0 e).1)

pub fits_at : (widths row : List ℕ) (i : ℕ) → all_fit widths row ≡ true → i < length widths → get_or row i 0 < 2 ^ get_or widths i 0
unfolding all_fit
fits_at [] row i e h = absurd (omega arith)
fits_at (w ∷ widths) [] i e h = absurd (false≢true e)
fits_at (w ∷ widths) (v ∷ row) zero e h = ltb-true v (2 ^ w) ((and-eq-true_iff (fits_width w v) (all_fit widths row)).0 e).0
fits_at (w ∷ widths) (v ∷ row) (suc i) e h = fits_at widths row i ((and-eq-true_iff (fits_width w v) (all_fit widths row)).0 e).1 (omega arith)

-- the number at an index of a row of n, as the code reads it
module _ (row : List ℕ) (n at : ℕ) (part : List ℕ) (number : ℕ) (from : part ≡ drop (4 * at) row) (of : number ≡ four_of part) (h : at < n) where
  pub number_next : row_numbers (n - at) (drop (4 * at) row) ≡ number ∷ row_numbers (n - (at + 1)) (drop (4 * (at + 1)) row)
  unfolding row_numbers
  number_next =
      let more : n - at ≡ suc (n - (at + 1)) = omega arith in
      let past : 4 * at + 4 ≡ 4 * (at + 1) = omega arith in
      rw (more, drop-drop 4 (4 * at) row, past, of, from)

  -- reading: the numbers read so far and those still in the row are the row's
  pub read_turn : (values : List ℕ) → length values ≡ n → take at values ++ row_numbers (n - at) (drop (4 * at) row) ≡ row_numbers n row →
      take (at + 1) (set values at number) ++ row_numbers (n - (at + 1)) (drop (4 * (at + 1)) row) ≡ row_numbers n row
  read_turn values e going =
      let h' : at < length values = omega arith in
      rw (add-one, take-suc-set values at number h', append_assoc) (rw (number_next, add-one) at going)

pub read_done : (row values : List ℕ) (n at : ℕ) → length values ≡ n → n ≤ at →
    take at values ++ row_numbers (n - at) (drop (4 * at) row) ≡ row_numbers n row → values ≡ row_numbers n row
unfolding row_numbers
read_done row values n at e h going =
    let none : n - at ≡ 0 = omega arith in
    let all : length values ≤ at = omega arith in
    rw (none, take_all at values all, append-nil) at going

-- writing: the values written so far, and one more
pub write_turn : {o o₁ o₂ : List ℕ} {i i₁ i₂ : ℕ} (values : List ℕ) (at : ℕ) → at < length values →
    Wrote o i (row_bytes (take at values)) o₁ i₁ → Wrote o₁ i₁ (four_bytes (get_or values at 0)) o₂ i₂ → Wrote o i (row_bytes (take (at + 1) values)) o₂ i₂
unfolding all_bytes_of
write_turn values at h w v = rw (add-one, take-suc values at 0 h, bytes_joined four_bytes, append-nil) (wrote_then w v)

-- accepted rows: their lengths, and numbers that fit
pub record RowAccepted (widths row : List ℕ) (next_length : ℕ) : Type 0 where
  pub long : length row ≡ 4 * length widths
  pub next : next_length ≡ 4 * length widths
  pub fits : all_fit widths (row_numbers (length widths) row) ≡ true

pub row_accepted : (widths row : List ℕ) (next_length : ℕ) → row_answer widths row next_length ≡ acceptance → RowAccepted widths row next_length
unfolding row_answer rows_fit
row_accepted widths row next_length e = go (rows_fit widths row next_length) refl e
  where
    go : (t : Bool) → rows_fit widths row next_length ≡ t → cond t acceptance (Err (refused Rule.Row 0)) ≡ acceptance → RowAccepted widths row next_length
    go false p q = absurd (let z : ◌≡◌ {A = ℕ} 0 1 = cc in omega arith)
    go true p q =
        let both = (and-eq-true_iff (eqb (length row) (4 * length widths) && eqb next_length (4 * length widths)) _).0 p in
        let each = (and-eq-true_iff (eqb (length row) (4 * length widths)) _).0 both.0 in
        record { long = eqb-true _ _ each.0; next = eqb-true _ _ each.1; fits = both.1 }

-- testing: both lengths
pub fits_start : (widths row : List ℕ) (next_length : ℕ) → length row ≡ 4 * length widths → next_length ≡ 4 * length widths →
    all_fit widths (row_numbers (length widths - 0) row) ≡ rows_fit widths row next_length
unfolding rows_fit
fits_start widths row next_length e f = rw (sub-zero, eq-eqb _ _ e, eq-eqb _ _ f)

pub row_length_off : (widths row : List ℕ) (next_length : ℕ) → (length row ≡ 4 * length widths → ⊥) → false ≡ rows_fit widths row next_length
unfolding rows_fit
row_length_off widths row next_length ne = rw (ne_eqb _ _ ne)

pub next_length_off : (widths row : List ℕ) (next_length : ℕ) → (next_length ≡ 4 * length widths → ⊥) → false ≡ rows_fit widths row next_length
unfolding rows_fit
next_length_off widths row next_length ne = rw (ne_eqb _ _ ne, and-false)

-- testing: the numbers still to be tested decide
module _ (widths row : List ℕ) (whole : Bool) (at : ℕ) (going : all_fit (drop at widths) (row_numbers (length widths - at) (drop (4 * at) row)) ≡ whole) where
  pub fits_done : length widths ≤ at → true ≡ whole
  unfolding row_numbers all_fit
  fits_done h =
      let none : length widths - at ≡ 0 = omega arith in
      rw (none, drop_of_length-le widths h) at going

  module _ (part : List ℕ) (number : ℕ) (from : part ≡ drop (4 * at) row) (of : number ≡ four_of part) (h : at < length widths) (fits : Bool) (so : fits ≡ fits_width (get_or widths at 0) number) where
    pub fits_next : fits && all_fit (drop (at + 1) widths) (row_numbers (length widths - (at + 1)) (drop (4 * (at + 1)) row)) ≡ whole
    unfolding all_fit
    fits_next = rw (so, add-one) (rw (number_next row (length widths) at part number from of h, drop-cons widths at 0 h, add-one) at going)

    pub fits_turn : fits ≡ true → all_fit (drop (at + 1) widths) (row_numbers (length widths - (at + 1)) (drop (4 * (at + 1)) row)) ≡ whole
    fits_turn e = rw e at fits_next

    pub fits_stop : fits ≡ false → false ≡ whole
    fits_stop e = rw e at fits_next
