-- Text written to a buffer: the digits of a number, and what the program answers by what translating did. By the laws of writing bytes and the promise of
-- `translate`.
use Rattle.tagged.specs.Answers.{written, refused, number_of, Promise, Answer, Translation}
use Rattle.std.specs.Prelude.{Ok, Err}
use mathlib.Core.Path.{◌≡◌, refl, sym, ap, ap₂, ◌∙◌, subst}
use mathlib.Core.Bool.{Bool, true, false, cond}
use mathlib.Core.List.{List, [], ◌∷◌, ◌++◌}
use Prim.Native.Nat.{ℕ, zero, suc, ◌+◌, ◌-◌, ◌/◌, ◌%◌, ◌≤◌, ◌<◌}
use native.Mathlib.Nat.{zero-add}
use native.Mathlib.Omega.{arith}
use lib.Dec.{ltb}
use lib.ListN.{length, drop, length-append}
use borrow.Author.Tests.{lt-ltb, le-ltb}
use Rattle.tagged.specs.Bytes.{Wrote}
use Rattle.tagged.specs.Limits.{most_cells}
use Rattle.tagged.specs.declared.answers.Rule.{Rule}
use Rattle.tagged.proofs.WriteLaws.{wrote_then, wrote_none, wrote_roomy}
use Rattle.verilog.specs.Answer.{module_answer}
use Rattle.translate.specs.Answer.{translated_bytes, cell_count, after_check, translate_answer, buffer_after, translate_buffer, largest_netlist}
use Rattle.response.specs.Text.{decimal_by, decimal, refused_word, at_word, refusal_text, text_of, program_text, program_buffer}

-- the digits of a number

pub decimal_none : {out : List ℕ} {at : ℕ} (digits n : ℕ) → digits ≡ 0 → Wrote out at (decimal_by digits n) out at
unfolding decimal_by
decimal_none zero n e = wrote_none
decimal_none (suc digits) n e = absurd (omega arith)

pub decimal_last : {out left : List ℕ} {at past : ℕ} (digits n : ℕ) → (digits ≡ 0 → ⊥) → n < 10 → Wrote out at ((48 + n) ∷ []) left past →
    Wrote out at (decimal_by digits n) left past
unfolding decimal_by
decimal_last zero n some h w = absurd (some refl)
decimal_last (suc digits) n some h w = rw (lt-ltb n 10 h) w

pub decimal_more : {out out₁ left : List ℕ} {at at₁ past : ℕ} (digits n : ℕ) → (digits ≡ 0 → ⊥) → 10 ≤ n → Wrote out at (decimal_by (digits - 1) (n / 10)) out₁ at₁ →
    Wrote out₁ at₁ ((48 + n % 10) ∷ []) left past → Wrote out at (decimal_by digits n) left past
unfolding decimal_by
decimal_more zero n some h w v = absurd (some refl)
decimal_more {out} {out₁} {at = at} {at₁} (suc digits) n some h w v =
    let less : suc digits - 1 ≡ digits = omega arith in
    rw (le-ltb n 10 h) (wrote_then (subst (λ (k : ℕ). Wrote out at (decimal_by k (n / 10)) out₁ at₁) less w) v)

pub decimal_short : (digits n : ℕ) → length (decimal_by digits n) ≤ digits
unfolding decimal_by
decimal_short zero n = omega arith
decimal_short (suc digits) n = go (ltb n 10) (decimal_by digits (n / 10)) (decimal_short digits (n / 10))
  where
    go : (small : Bool) (tenth : List ℕ) → length tenth ≤ digits → length (cond small ((48 + n) ∷ []) (tenth ++ ((48 + n % 10) ∷ []))) ≤ suc digits
    go true tenth h = omega arith
    go false tenth h = omega (arith, length-append tenth ((48 + n % 10) ∷ []))

pub refusal_short : (number place : ℕ) → length (refusal_text number place) ≤ 53
unfolding refusal_text
refusal_short number place = simp length-append (omega (arith, decimal_short 20 number, decimal_short 20 place))

-- the five pieces of a refusal
pub refusal_written : {o o₁ o₂ o₃ o₄ o₅ : List ℕ} {i₁ i₂ i₃ i₄ i₅ number wanted : ℕ} (place : ℕ) → number ≡ wanted → Wrote o 0 refused_word o₁ i₁ →
    Wrote o₁ i₁ (decimal number) o₂ i₂ → Wrote o₂ i₂ at_word o₃ i₃ → Wrote o₃ i₃ (decimal place) o₄ i₄ → Wrote o₄ i₄ (0x0A ∷ []) o₅ i₅ →
    Wrote o 0 (refusal_text wanted place) o₅ i₅
unfolding refusal_text
refusal_written {o₁ = o₁} {o₂} {i₁ = i₁} {i₂} place e a b c d f =
    wrote_then a (wrote_then (subst (λ (n : ℕ). Wrote o₁ i₁ (decimal n) o₂ i₂) e b) (wrote_then c (wrote_then d f)))

-- what the program answers

-- how long what was written is
abbrev length_in : ℕ → Translation → ℕ
length_in other (Ok w) = w.length
length_in other (Err e) = other

-- a netlist that was written has its own length
after_tests : (answer : Answer) (cells size room : ℕ) {long counted : ℕ} → after_check answer cells size room ≡ Ok (written long counted) → long ≡ size
after_tests (Err r) cells size room e = absurd (let z : ◌≡◌ {A = ℕ} 0 1 = cc in omega arith)
after_tests (Ok _) cells size room {long} {counted} e = go (ltb most_cells cells) (ltb room size) e
  where
    go : (many short : Bool) → cond many (Err (refused Rule.Cells 0)) (cond short (Err (refused Rule.Buffer 0)) (Ok (written size cells))) ≡
        Ok (written long counted) → long ≡ size
    go true short p = absurd (let z : ◌≡◌ {A = ℕ} 0 1 = cc in omega arith)
    go false true p = absurd (let z : ◌≡◌ {A = ℕ} 0 1 = cc in omega arith)
    go false false p = sym (ap (length_in size) p)

written_size : (file : List ℕ) (room : ℕ) {size cells : ℕ} → translate_answer file room ≡ Ok (written size cells) → size ≡ length (translated_bytes file)
unfolding translate_answer
written_size file room e = after_tests (module_answer file) (cell_count file) (length (translated_bytes file)) room e

abbrev pub Responds : List ℕ → List ℕ → ℕ → List ℕ → Type 0
Responds file out size left = Promise (length (program_text file)) (program_buffer file out) size left

module _ (file out : List ℕ) (room : length out ≡ largest_netlist) {answer : Translation} {held : List ℕ}
    (translated : Promise (translate_answer file (length out)) (translate_buffer file out) answer held) where
  answered : translate_answer file largest_netlist ≡ answer
  answered = ap (translate_answer file) (sym room) ∙ sym translated.answered

  text_is : program_text file ≡ text_of answer (translated_bytes file)
  unfolding program_text
  text_is = ap (λ (t : Translation). text_of t (translated_bytes file)) answered

  held_is : held ≡ buffer_after answer (translated_bytes file) out
  unfolding translate_buffer
  held_is = translated.leaves ∙ ap (λ (t : Translation). buffer_after t (translated_bytes file) out) (sym translated.answered)

  pub respond_written : (size cells : ℕ) → answer ≡ Ok (written size cells) → Responds file out size held
  respond_written size cells e =
      let bytes : List ℕ = translated_bytes file in
      let text : program_text file ≡ bytes = text_is ∙ ap (λ (t : Translation). text_of t bytes) e in
      let long : size ≡ length bytes = written_size file largest_netlist (answered ∙ e) in
      record {
        answered = long ∙ ap length (sym text);
        leaves = held_is ∙ ap (λ (t : Translation). buffer_after t bytes out) e
            ∙ ap₂ (λ (l : List ℕ) (k : ℕ). l ++ drop k out) (sym text) (long ∙ ap length (sym text));
      }

  pub respond_refused : (rule : Rule) (place : ℕ) → answer ≡ Err (refused rule place) → {left : List ℕ} {past : ℕ} →
      Wrote held 0 (refusal_text (number_of rule) place) left past → Responds file out past left
  respond_refused rule place e {left} {past} w =
      let words : List ℕ = refusal_text (number_of rule) place in
      let text : program_text file ≡ words = text_is ∙ ap (λ (t : Translation). text_of t (translated_bytes file)) e in
      let same : held ≡ out = held_is ∙ ap (λ (t : Translation). buffer_after t (translated_bytes file) out) e in
      let fits : 0 + length words ≤ length held = omega (arith, refusal_short (number_of rule) place, ap length same, room) in
      record {
        answered = w.past ∙ zero-add (length words) ∙ ap length (sym text);
        leaves = wrote_roomy w fits ∙ ap (λ (k : ℕ). words ++ drop k held) (zero-add (length words))
            ∙ ap (λ (l : List ℕ). words ++ drop (length words) l) same ∙ ap (λ (l : List ℕ). l ++ drop (length l) out) (sym text);
      }
