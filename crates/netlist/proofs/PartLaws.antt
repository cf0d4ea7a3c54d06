-- The part of a cell in a file: its cells follow its declarations.
use mathlib.Core.Path.{◌≡◌, ap, ap₂, ◌∙◌}
use mathlib.Core.List.{List}
use Prim.Native.Nat.{ℕ, ◌+◌, ◌^◌, ◌≤◌}
use native.Mathlib.Omega.{arith}
use lib.ListN.{length, drop, length-drop}
use Rattle.tagged.specs.Fields.{passed_bytes}
use Rattle.tagged.specs.Declarations.{after_declarations, declarations_step}
use Rattle.tagged.specs.declared.parts.Part.{Part}
use Rattle.netlist.specs.Parts.{part_in, cell_part}
use Rattle.tagged.proofs.PartLaws.{declared_within}

-- the cells of a file follow its declarations
module _ (file payload : List ℕ) (from : payload ≡ drop 3 file) (short : length file ≤ 2 ^ 40) where
  pub payload_short : length payload ≤ 2 ^ 40
  payload_short = omega (arith, ap length from, length-drop 3 file)

  module _ (bytes : ℕ) (passed : bytes ≡ passed_bytes (declarations_step 0 0 payload)) where
    pub bytes_short : bytes ≤ 2 ^ 40
    bytes_short = omega (arith, payload_short, passed, declared_within payload)

    module _ (cells : List ℕ) (rest : cells ≡ drop bytes payload) where
      pub cells_short : 3 + bytes + length cells ≤ 2 ^ 40
      cells_short = omega (arith, ap length from, length-drop 3 file, passed, declared_within payload, ap length rest, length-drop bytes payload)

      pub part_of_file : (number : ℕ) (part : Part) → part ≡ part_in (3 + bytes) number cells → part ≡ cell_part number file
      unfolding cell_part
      part_of_file number part e =
          let same : bytes ≡ passed_bytes (declarations_step 0 0 (drop 3 file)) = passed ∙ ap (λ (l : List ℕ). passed_bytes (declarations_step 0 0 l)) from in
          let after : cells ≡ after_declarations (drop 3 file) = rest ∙ ap₂ (λ (n : ℕ) (l : List ℕ). drop n l) same from in
          e ∙ ap₂ (λ (n : ℕ) (l : List ℕ). part_in (3 + n) number l) same after
