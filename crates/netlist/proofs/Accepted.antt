-- A netlist without refusal, a predicate on lists, is one whose bytes are accepted; and an accepted file is the bytes of such a netlist.
-- Refusal 1 by the lengths of what is written, refusal 2 by the laws of NetlistBytes; the rules on lists stand on both sides.
use Rattle.std.specs.Prelude.{Ok}
use mathlib.Core.Path.{◌≡◌, sym, ap, ◌∙◌, subst}
use mathlib.Core.List.{List, [], append-nil}
use Prim.Native.Nat.{ℕ, ◌+◌, ◌≤◌}
use native.Mathlib.Omega.{arith}
use lib.ListN.{length}
use Rattle.tagged.specs.Limits.{longest_netlist}
use Rattle.tagged.specs.Bytes.{AllBytes}
use Rattle.tagged.specs.Sorts.{tag_of}
use Rattle.tagged.specs.Fields.{field_bytes, size_of}
use Rattle.tagged.specs.Files.{file_answer}
use Rattle.tagged.specs.declared.sorts.Sort.TheVariants as Sort
use Rattle.tagged.specs.Answers.{acceptance}
use Rattle.tagged.proofs.ListBytes.{field_whole, field_length}
use Rattle.netlist.specs.Lists.{Netlist}
use Rattle.netlist.specs.Form.{netlist_payload, netlist_bytes, netlist_form}
use Rattle.netlist.specs.Reading.{netlist_in}
use Rattle.netlist.specs.Answer.{lists_answer, netlist_answer}
use Rattle.netlist.specs.Fits.{FitsBytes, WithoutRefusal}
use Rattle.tagged.proofs.FileLaws.{FileFits, file_fits, fits_file, accepted_parts}
use Rattle.netlist.proofs.NetlistBytes.{form_written, lists_back, written_read}

-- the parts of an accepted file
pub record AnswerParts (file : List ℕ) : Type 0 where
  pub fits : file_answer longest_netlist file ≡ acceptance
  pub bytes : ℕ
  pub form : netlist_form file ≡ Ok bytes
  pub lists : lists_answer 3 (netlist_in file) ≡ acceptance

pub answer_parts : (file : List ℕ) → netlist_answer file ≡ acceptance → AnswerParts file
unfolding netlist_answer
answer_parts file e =
    let p = accepted_parts (file_answer longest_netlist file) (netlist_form file) (lists_answer 3 (netlist_in file)) e in
    record { fits = p.1; bytes = p.0; form = p.2; lists = p.3 }

pub parts_answer_lem : (file : List ℕ) → AnswerParts file → netlist_answer file ≡ acceptance
unfolding netlist_answer
parts_answer_lem file p = rw (p.fits, p.form) p.lists

-- what is written has the outer length that it states
file_written : (n : Netlist) → FitsBytes n → length (netlist_bytes n) ≤ longest_netlist → FileFits longest_netlist (netlist_bytes n)
unfolding netlist_bytes
file_written n h short =
    let bytes = field_bytes (tag_of Sort.Netlist) (netlist_payload n) in
    let long : length bytes ≡ length (netlist_payload n) + 3 = field_length (tag_of Sort.Netlist) (netlist_payload n) in
    let size : length (netlist_payload n) ≡ size_of bytes =
    (field_whole (tag_of Sort.Netlist) (netlist_payload n) [] h.short).size ∙ ap size_of (append-nil bytes) in
    record { header = omega arith; short = short; outer = ap (λ (k : ℕ). k + 3) (sym size) ∙ sym long }

-- the bytes of a netlist without refusal are accepted
pub accepted_bytes : (n : Netlist) → WithoutRefusal n → netlist_answer (netlist_bytes n) ≡ acceptance
accepted_bytes n w =
    parts_answer_lem (netlist_bytes n)
    (record {
      fits = fits_file longest_netlist (netlist_bytes n) (file_written n w.fits w.short);
      bytes = length (netlist_bytes n);
      form = form_written n w.fits;
      lists = ap (lists_answer 3) (lists_back n w.fits) ∙ w.accepted;
    })

-- and back: lists that fit, whose bytes are accepted, are without refusal
pub bytes_accepted : (n : Netlist) → FitsBytes n → netlist_answer (netlist_bytes n) ≡ acceptance → WithoutRefusal n
bytes_accepted n h e =
    let p = answer_parts (netlist_bytes n) e in
    record { fits = h; short = (file_fits longest_netlist (netlist_bytes n) p.fits).short; accepted = ap (lists_answer 3) (sym (lists_back n h)) ∙ p.lists }

-- an accepted file is the bytes of its lists, which are without refusal
pub accepted_file : (file : List ℕ) → AllBytes file → netlist_answer file ≡ acceptance → (file ≡ netlist_bytes (netlist_in file)) × WithoutRefusal (netlist_in file)
accepted_file file h e =
    let p = answer_parts file e in
    let r = written_read file p.bytes h p.fits p.form in
    let short : length (netlist_bytes (netlist_in file)) ≤ longest_netlist =
    subst (λ (l : List ℕ). length l ≤ longest_netlist) r.written (file_fits longest_netlist file p.fits).short in
    (r.written, record { fits = r.fits; short = short; accepted = p.lists })
