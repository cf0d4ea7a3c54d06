-- What acceptance of a file says: of its length, and that its length, its form and its rules all are accepted. By cases on the answers.
use Rattle.tagged.specs.Answers.{acceptance, refused, Answer}
use Rattle.std.specs.Prelude.{Ok, Err}
use mathlib.Core.Path.{◌≡◌, refl, sym, ap, ◌∙◌}
use mathlib.Core.Bool.{Bool, true, false, cond, ◌&&◌}
use mathlib.Core.List.{List}
use Prim.Native.Nat.{ℕ, ◌+◌, ◌≤◌}
use native.Mathlib.Omega.{arith}
use lib.Dec.{leb}
use lib.ListN.{length}
use borrow.Author.Tests.{eqb-true, leb-true, le-leb, eq-eqb}
use Rattle.tagged.specs.Fields.{size_of, Body, field_by, Step}
use Rattle.tagged.specs.Files.{outer_fits, outer_answer, file_answer}
use Rattle.tagged.specs.Refusals.{after_form, after_answer}
use Rattle.tagged.specs.declared.answers.Rule.{Rule}
use Rattle.tagged.proofs.FieldLaws.{field_passed}
use Rattle.tagged.proofs.RefusalLaws.{refused_not_accepted}

-- a file to which refusal 1 does not apply: its length is allowed, and its outer length is the rest of it
pub record FileFits (longest : ℕ) (file : List ℕ) : Type 0 where
  pub header : 3 ≤ length file
  pub short : length file ≤ longest
  pub outer : size_of file + 3 ≡ length file

pub file_fits : (longest : ℕ) (file : List ℕ) → file_answer longest file ≡ acceptance → FileFits longest file
unfolding file_answer outer_answer
file_fits longest file e = go (leb 3 (length file)) refl (leb (length file) longest) refl (outer_fits file) refl e
  where
    go : (a : Bool) → leb 3 (length file) ≡ a → (b : Bool) → leb (length file) longest ≡ b → (c : Bool) → outer_fits file ≡ c →
        cond (a && b) (cond c acceptance (Err (refused Rule.FileLength 0))) (Err (refused Rule.FileLength 0)) ≡ acceptance → FileFits longest file
    go true p true q true r e = record { header = leb-true 3 (length file) p; short = leb-true (length file) longest q; outer = eqb-true (size_of file + 3) (length file) r }
    go true p true q false r e = refused_not_accepted e
    go true p false q c r e = refused_not_accepted e
    go false p b q c r e = refused_not_accepted e

pub fits_file : (longest : ℕ) (file : List ℕ) → FileFits longest file → file_answer longest file ≡ acceptance
unfolding file_answer outer_answer
fits_file longest file f = rw (le-leb 3 (length file) f.header, le-leb (length file) longest f.short, eq-eqb (size_of file + 3) (length file) f.outer)

-- accepted after a form is accepted, and without a fault, and accepted
pub accepted_parts : (a : Answer) (s : Step) (other : Answer) → after_answer a (after_form s other) ≡ acceptance →
    (m : ℕ) × (a ≡ acceptance) × (s ≡ Ok m) × (other ≡ acceptance)
accepted_parts (Ok _) (Ok m) other e = (m, refl, refl, e)
accepted_parts (Ok _) (Err place) other e = refused_not_accepted e
accepted_parts (Err r) s other e = refused_not_accepted e

-- a file whose length was answered: its form, where it has no fault, ends where the file does
module _ (longest : ℕ) (file : List ℕ) (fits : Answer) (lengths : fits ≡ file_answer longest file) where
  pub file_long : fits ≡ acceptance → length file ≤ longest
  file_long e = (file_fits longest file (sym lengths ∙ e)).short

  pub form_whole : fits ≡ acceptance → (body : Body) (m : ℕ) → field_by body 0 0 file ≡ Ok m → field_by body 0 0 file ≡ Ok (length file)
  form_whole e body m form =
      let whole = file_fits longest file (sym lengths ∙ e) in
      let passed = field_passed body 0 0 file m form in
      let all : m ≡ length file = omega (arith, passed.bytes, passed.whole.size, whole.outer) in
      form ∙ ap Ok all
