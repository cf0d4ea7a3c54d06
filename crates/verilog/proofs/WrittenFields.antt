-- A field that was written, at the front of bytes: how it is opened, what follows it, and how the list of fields goes on past it.
-- From the laws of fields in crate tagged. Assumes nothing.
use Rattle.std.specs.Prelude.{Ok}
use mathlib.Core.Path.{◌≡◌, ap, ◌∙◌}
use mathlib.Core.List.{List, ◌∷◌, ◌++◌}
use Prim.Native.Nat.{ℕ, ◌+◌, ◌<◌}
use native.Mathlib.Omega.{arith}
use lib.ListN.{length}
use Rattle.tagged.specs.Bytes.{four_bytes}
use Rattle.tagged.specs.Sorts.{tag_of}
use Rattle.tagged.specs.Fields.{field_bytes, open_of, fields_at}
use Rattle.tagged.specs.declared.sorts.ExpressionSort.TheVariants as ExpressionSort
use Rattle.tagged.specs.declared.sorts.Sort.{Sort}
use Rattle.tagged.proofs.SortLaws.{sort_back}
use Rattle.tagged.proofs.FieldLaws.{whole_open}
use Rattle.tagged.proofs.ListBytes.{field_whole, field_payload, field_after}
use Rattle.tagged.proofs.FieldLists.{field_at, fields_written}
use Rattle.verilog.specs.Form.{expression_field}
use Rattle.verilog.specs.Reading.{front_by, after_front}
use Rattle.verilog.proofs.ExpressionBytes.{four_length}

-- a field of this sort and payload, and what follows it
module _ (s : Sort) (p after : List ℕ) (short : length p < 65536) where
  opened : open_of 0 0 (field_bytes (tag_of s) p ++ after) ≡ Ok (s, (length p))
  opened =
      whole_open 0 0 (field_bytes (tag_of s) p ++ after) (field_whole (tag_of s) p after short) ∙ ap (λ (x : Sort). Ok (x, (length p))) (sort_back s)

  pub front_field : {A : Type 0} (read : Sort → List ℕ → A) (none : A) → front_by read none (field_bytes (tag_of s) p ++ after) ≡ read s p
  front_field read none = rw (opened, field_payload (tag_of s) p after)

  pub after_field : after_front (field_bytes (tag_of s) p ++ after) ≡ after
  after_field = rw (opened, field_after (tag_of s) p after)

  pub fields_field : (base : ℕ) → fields_at base (field_bytes (tag_of s) p ++ after) ≡ field_at base s p ∷ fields_at (base + (length p + 3)) after
  fields_field base = rw (fields_written base (tag_of s) p after short, sort_back s)

-- an item's constant, which its block follows
abbrev pub constant_bytes : ℕ → ℕ → List ℕ
constant_bytes w v = expression_field ExpressionSort.Constant (w ∷ four_bytes v)

module _ (w v : ℕ) (after : List ℕ) where
  constant_short : length (w ∷ four_bytes v) < 65536
  constant_short = omega (arith, four_length v)

  pub front_constant : {A : Type 0} (read : Sort → List ℕ → A) (none : A) →
      front_by read none (constant_bytes w v ++ after) ≡ read (Sort.Expression ExpressionSort.Constant) (w ∷ four_bytes v)
  front_constant read none = front_field (Sort.Expression ExpressionSort.Constant) (w ∷ four_bytes v) after constant_short read none

  pub after_constant : after_front (constant_bytes w v ++ after) ≡ after
  after_constant = after_field (Sort.Expression ExpressionSort.Constant) (w ∷ four_bytes v) after constant_short
