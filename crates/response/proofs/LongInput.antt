-- Input that is longer than every module: its first 16,385 bytes have the answer of the whole, so the program need read no more. By rule 1.
use Rattle.tagged.specs.Answers.{refused}
use Rattle.std.specs.Prelude.{Err}
use mathlib.Core.Path.{◌≡◌, refl, ap}
use mathlib.Core.Bool.{Bool, true, false, and-false}
use mathlib.Core.List.{List}
use Prim.Native.Nat.{ℕ, ◌<◌}
use native.Mathlib.Omega.{arith}
use lib.Dec.{leb}
use lib.ListN.{length, take}
use lib.Seq.{take_all, length-take-le}
use borrow.Author.Tests.{leb-true, leb-false, lt-leb}
use Rattle.tagged.specs.Limits.{longest_module}
use Rattle.tagged.specs.Files.{file_answer}
use Rattle.tagged.specs.declared.answers.Rule.TheVariants as Rule
use Rattle.verilog.specs.Answer.{module_answer}
use Rattle.translate.specs.Answer.{translate_answer}
use Rattle.response.specs.Text.{program_text}

-- a file that is too long is refused 1, and so is what the program writes for it
too_long_lem : (file : List ℕ) → longest_module < length file → (room : ℕ) → translate_answer file room ≡ Err (refused Rule.FileLength 0)
unfolding translate_answer module_answer file_answer
too_long_lem file h room = rw (lt-leb (length file) longest_module h, and-false (leb 3 (length file)))

-- THE LONGER INPUT
pub first_bytes_decide : (file : List ℕ) → program_text (take 16385 file) ≡ program_text file
unfolding program_text
first_bytes_decide file = go (leb (length file) 16385) refl
  where
    go : (short : Bool) → leb (length file) 16385 ≡ short → program_text (take 16385 file) ≡ program_text file
    go true e = ap program_text (take_all 16385 file (leb-true (length file) 16385 e))
    go false e =
        let long : 16385 < length file = leb-false (length file) 16385 e in
        let cut : length (take 16385 file) ≡ 16385 = length-take-le 16385 file (omega arith) in
        rw (too_long_lem (take 16385 file) (omega (arith, cut)) 25219, too_long_lem file (omega arith) 25219)
