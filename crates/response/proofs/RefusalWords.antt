-- The words that a refusal prints, and a newline, are the text of a refusal: this crate's decimal numbers are the library's, by induction on the library's digits.
use mathlib.Core.Path.{◌≡◌, refl, ap}
use mathlib.Core.List.{List, [], ◌∷◌, ◌++◌, append_assoc}
use Prim.Native.Nat.{ℕ, zero, suc, ◌+◌, ◌/◌, ◌%◌, ◌^◌, ◌≤◌, ◌<◌}
use native.Mathlib.Omega.{arith}
use borrow.Author.Tests.{lt-ltb, le-ltb}
use Rattle.std.specs.Fmt.{decimal}
use Rattle.std.proofs.lemmas.Fmt.{decimal_by_steps}
use Rattle.tagged.specs.Answers.{number_of, refusal_words}
use Rattle.tagged.specs.declared.answers.Rule.{Rule}
use Rattle.tagged.specs.declared.answers.Refusal.{Refusal}
use Rattle.response.specs.Text.{decimal_by, refusal_text}

-- these are the digits of n, however many more than enough are allowed
abbrev Digits : ℕ → List ℕ → Type 0
Digits n ds = (more : ℕ) → n < 10 ^ suc more → decimal_by (suc more) n ≡ ds

digits_one : (n : ℕ) → n < 10 → Digits n ((48 + n) ∷ [])
unfolding decimal_by
digits_one n small more h = rw (lt-ltb n 10 small) refl

digits_more : (n : ℕ) (ds : List ℕ) → 10 ≤ n → Digits (n / 10) ds → Digits n (ds ++ ((48 + n % 10) ∷ []))
unfolding decimal_by
digits_more n ds large tenth zero h = absurd (omega arith)
digits_more n ds large tenth (suc more) h = rw (le-ltb n 10 large) (ap (λ (l : List ℕ). l ++ ((48 + n % 10) ∷ [])) (tenth more (omega arith)))

-- a number of 64 bits has the same digits here and in the library
same_decimal : (n : ℕ) → n < 2 ^ 64 → decimal_by 20 n ≡ decimal n
same_decimal n h = decimal_by_steps Digits digits_one digits_more n h 19 (omega arith)

-- every rule has a number of 64 bits
number_small : (r : Rule) → number_of r < 2 ^ 64
unfolding number_of
number_small Rule.FileLength = omega arith
number_small Rule.Form = omega arith
number_small Rule.Value = omega arith
number_small Rule.Name = omega arith
number_small Rule.Count = omega arith
number_small Rule.Reference = omega arith
number_small Rule.Widths = omega arith
number_small Rule.BitNumber = omega arith
number_small Rule.BothKinds = omega arith
number_small Rule.TwoProcesses = omega arith
number_small Rule.ReadElsewhere = omega arith
number_small Rule.Cells = omega arith
number_small Rule.Buffer = omega arith
number_small Rule.Row = omega arith

-- what a refusal prints, and a newline, is its text
pub refusal_line : (e : Refusal) → e.place < 2 ^ 64 → refusal_text (number_of e.rule) e.place ≡ refusal_words e ++ (0x0A ∷ [])
unfolding refusal_text
refusal_line e h = simp append_assoc (rw (same_decimal (number_of e.rule) (number_small e.rule), same_decimal e.place h) refl)
