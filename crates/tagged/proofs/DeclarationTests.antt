-- The tests of rules 3 to 5 on declarations find exactly what document 01's phrases name. By cases on the phrases, and on the rules.
-- It speaks of declarations alone, of a module's or a netlist's.
use mathlib.Core.Path.{◌≡◌, refl}
use mathlib.Core.Bool.{true, false, ◌&&◌, not, false≢true, true≢false}
use mathlib.Core.List.{List, [], ◌∷◌, Memᴰ}
use Prim.Native.Nat.{ℕ, ◌^◌, ◌≤◌}
use native.Mathlib.Omega.{arith}
use lib.Dec.{leb}
use lib.ListN.{length, get_or}
use borrow.Author.Tests.{leb-true, leb-false, le-leb, lt-leb, ltb-false, le-ltb, not-true, not-false}
use Rattle.words.specs.Limits.{greatest_width}
use Rattle.words.specs.Widths.{is_width, fits_width}
use Rattle.tagged.specs.Limits.{longest_name, most_variables}
use Rattle.tagged.specs.Names.{is_digit, is_name_byte, all_name_bytes, is_name_length, is_name, same_name}
use Rattle.tagged.specs.Declarations.{Declaration, input, register, name_of, value_broken, name_taken, name_broken, count_broken, declaration_breaks}
use Rattle.tagged.specs.declared.answers.Rule.{Rule}
use Rattle.tagged.proofs.NameLaws.{same_refl, same_equal}
use Rattle.tagged.specs.DeclarationPhrases.{NoWidth, zero_wide, too_wide, NoName, no_byte, too_long, other_byte, digit_first, DeclarationPhrase, declared_width, initial_value, no_name, earlier_name, many_variables}
use Rattle.tagged.proofs.TestLaws.{or_left, or_right, or_cases, not_first, not_second, not_both, not_so, not_not_so}

-- width 0 or over 32
pub no_width : {w : ℕ} → NoWidth w → not (is_width w) ≡ true
no_width (zero_wide e) = rw e
no_width {w} (too_wide h) = not_so (not_second (leb 1 w) (lt-leb w greatest_width h))

pub width_no : (w : ℕ) → not (is_width w) ≡ true → NoWidth w
width_no w e = not_both (leb 1 w) (leb w greatest_width) (not-true _ e) (λ h. zero_wide (omega (arith, leb-false 1 w h))) (λ h. too_wide (leb-false w greatest_width h))

-- a value not below 2 to its width
pub not_fits : (w v : ℕ) → 2 ^ w ≤ v → not (fits_width w v) ≡ true
not_fits w v h = not_so (le-ltb v (2 ^ w) h)

pub fits_not : (w v : ℕ) → not (fits_width w v) ≡ true → 2 ^ w ≤ v
fits_not w v e = ltb-false v (2 ^ w) (not-true _ e)

-- what may not be a name
other_byte_lem : {b : ℕ} {l : List ℕ} → Memᴰ b l → is_name_byte b ≡ false → all_name_bytes l ≡ false
unfolding all_name_bytes
other_byte_lem {l = a ∷ l} (Memᴰ.head same) h = not_first (is_name_byte a) _ (rw same at h)
other_byte_lem {l = a ∷ l} (Memᴰ.tail m) h = not_second (is_name_byte a) (other_byte_lem m h)
other_byte_lem {b = b} {l = []} x5 h = elim x5 [ ]

byte_other : (name l : List ℕ) → ((b : ℕ) → Memᴰ b l → Memᴰ b name) → all_name_bytes l ≡ false → NoName name
unfolding all_name_bytes
byte_other name [] among e = absurd (true≢false e)
byte_other name (b ∷ l) among e = not_both (is_name_byte b) (all_name_bytes l) e
    (λ h. other_byte (among b (Memᴰ.head refl)) h)
    (λ h. byte_other name l (λ c m. among c (Memᴰ.tail m)) h)

name_no : (l : List ℕ) → is_name l ≡ false → NoName l
unfolding is_name
name_no [] e = no_byte refl
name_no (b ∷ l) e = not_both (is_name_length (length (b ∷ l)) && not (is_digit b)) (all_name_bytes (b ∷ l)) e
    (λ k. not_both (is_name_length (length (b ∷ l))) (not (is_digit b)) k
    (λ j. not_both (leb 1 (length (b ∷ l))) (leb (length (b ∷ l)) longest_name) j
    (λ h. no_byte (omega (arith, leb-false 1 (length (b ∷ l)) h)))
    (λ h. too_long (leb-false (length (b ∷ l)) longest_name h)))
    (λ h. digit_first refl (not-false (is_digit b) h)))
    (λ h. byte_other (b ∷ l) (b ∷ l) (λ c m. m) h)

no_name_lem : {l : List ℕ} → NoName l → is_name l ≡ false
unfolding is_name
no_name_lem {l} (no_byte e) =
    let long : is_name_length (length l) ≡ false = not_first (leb 1 (length l)) _ (rw e) in
    not_first (is_name_length (length l) && not (is_digit (get_or l 0 0))) _ (not_first (is_name_length (length l)) _ long)
no_name_lem {l} (too_long h) =
    let long : is_name_length (length l) ≡ false = not_second (leb 1 (length l)) (lt-leb (length l) longest_name h) in
    not_first (is_name_length (length l) && not (is_digit (get_or l 0 0))) _ (not_first (is_name_length (length l)) _ long)
no_name_lem {l} (other_byte m h) = not_second (is_name_length (length l) && not (is_digit (get_or l 0 0))) (other_byte_lem m h)
no_name_lem {l} (digit_first {b} e h) =
    let digit : is_digit (get_or l 0 0) ≡ true = rw e h in
    not_first (is_name_length (length l) && not (is_digit (get_or l 0 0))) _ (not_second (is_name_length (length l)) (not_not_so digit))

-- a name taken
taken : (name : List ℕ) {e : Declaration} {earlier : List Declaration} → Memᴰ e earlier → name_of e ≡ name → name_taken name earlier ≡ true
unfolding name_taken
taken name {earlier = d ∷ earlier} (Memᴰ.head same) h = or_left (same_name (name_of d) name) _ (rw (← h, same) (same_refl (name_of d)))
taken name {earlier = d ∷ earlier} (Memᴰ.tail m) h = or_right (same_name (name_of d) name) (taken name m h)
taken name {e = e} {earlier = []} x5 h = elim x5 [ ]

record Taken (name : List ℕ) (earlier : List Declaration) : Type 0 where
  pub by : Declaration
  pub among : Memᴰ by earlier
  pub equal : name_of by ≡ name

taken_by : (name : List ℕ) (earlier : List Declaration) → name_taken name earlier ≡ true → Taken name earlier
unfolding name_taken
taken_by name [] e = absurd (false≢true e)
taken_by name (d ∷ earlier) e = or_cases (same_name (name_of d) name) (name_taken name earlier) e
    (λ h. record { by = d; among = Memᴰ.head refl; equal = same_equal (name_of d) name h })
    (λ h. let t = taken_by name earlier h in record { by = t.by; among = Memᴰ.tail t.among; equal = t.equal })

-- from the phrase to the test
pub phrase_tested : {rule : Rule} {earlier : List Declaration} {d : Declaration} → DeclarationPhrase earlier d rule → declaration_breaks rule earlier d ≡ true
unfolding declaration_breaks value_broken name_broken count_broken
phrase_tested (declared_width {d = input w name} h) = no_width h
phrase_tested (declared_width {d = register w v name} h) = or_left (not (is_width w)) _ (no_width h)
phrase_tested (initial_value {w} {v} h) = or_right (not (is_width w)) (not_fits w v h)
phrase_tested (no_name {d} h) = or_left (not (is_name (name_of d))) _ (not_so (no_name_lem h))
phrase_tested (earlier_name {d} m h) = or_right (not (is_name (name_of d))) (taken (name_of d) m h)
phrase_tested {earlier = earlier} (many_variables h) = le-leb most_variables (length earlier) h

-- from the test to the phrase
pub tested_phrase : (rule : Rule) (earlier : List Declaration) (d : Declaration) → declaration_breaks rule earlier d ≡ true → DeclarationPhrase earlier d rule
unfolding declaration_breaks value_broken name_broken count_broken
tested_phrase Rule.Value earlier (input w name) e = declared_width (width_no w e)
tested_phrase Rule.Value earlier (register w v name) e =
    or_cases (not (is_width w)) (not (fits_width w v)) e (λ h. declared_width (width_no w h)) (λ h. initial_value (fits_not w v h))
tested_phrase Rule.Name earlier d e = or_cases (not (is_name (name_of d))) (name_taken (name_of d) earlier) e
    (λ h. no_name (name_no (name_of d) (not-true (is_name (name_of d)) h)))
    (λ h. let t = taken_by (name_of d) earlier h in earlier_name t.among t.equal)
tested_phrase Rule.Count earlier d e = many_variables (leb-true most_variables (length earlier) e)
tested_phrase Rule.FileLength earlier d e = absurd (false≢true e)
tested_phrase Rule.Form earlier d e = absurd (false≢true e)
tested_phrase Rule.Reference earlier d e = absurd (false≢true e)
tested_phrase Rule.Widths earlier d e = absurd (false≢true e)
tested_phrase Rule.BitNumber earlier d e = absurd (false≢true e)
tested_phrase Rule.BothKinds earlier d e = absurd (false≢true e)
tested_phrase Rule.TwoProcesses earlier d e = absurd (false≢true e)
tested_phrase Rule.ReadElsewhere earlier d e = absurd (false≢true e)
tested_phrase Rule.Cells earlier d e = absurd (false≢true e)
tested_phrase Rule.Buffer earlier d e = absurd (false≢true e)
tested_phrase Rule.Row earlier d e = absurd (false≢true e)
