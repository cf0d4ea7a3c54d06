-- What is written for the first 16,385 bytes of an input is what would be written for all of it.
use Rattle.std.proofs.Common.{◌≡◌, ℕ, List, None, Some, OnOk, IfSome, Result, Ok, Err, ◌++◌, length, ap, ◌∙◌, take, subst}
use lib.Seq.{take-append_seam}
use Rattle.std.specs.declared.option.Option.{Option}
use Rattle.std.specs.Io.KnownBytes.{Appends}
use Rattle.response.specs.Text.{program_text}
use Rattle.response.proofs.LongInput.{first_bytes_decide}

-- the text of a file that is the front of known bytes is the text of all of them
pub all_written : {T E : Type 0} (r : Result T E) (known old new : Option (List ℕ)) (text file : List ℕ) → OnOk r (Appends old new text) → text ≡ program_text file →
    IfSome known (λ bytes. file ≡ take 16385 bytes) → OnOk r (IfSome known (λ bytes. Appends old new (program_text bytes)))
all_written (Ok x) None old new text file p q h = h
all_written (Ok x) (Some bytes) old new text file p q h = subst (Appends old new) (q ∙ ap program_text h ∙ first_bytes_decide bytes) p
all_written (Err e) known old new text file p q h = p

-- the front of a buffer that begins with a text, as long as the text
pub front_is_text : (text rest out shown : List ℕ) (size : ℕ) → size ≡ length text → out ≡ text ++ rest →
    shown ≡ take size out → shown ≡ text
front_is_text text rest out shown size p q e = e ∙ ap (λ n. take n out) p ∙ ap (take (length text)) q ∙ take-append_seam text rest
