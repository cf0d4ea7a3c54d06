-- Where an element of a list of fields stands in the file that holds them: those before it end there, its own bytes follow, and its header tells how many.
-- For a declaration, also where its name stands. By induction on the elements before it.
use mathlib.Core.Path.{◌≡◌, refl, sym, ap, ap₂, ◌∙◌}
use mathlib.Core.List.{List, [], ◌∷◌, ◌++◌, append_assoc}
use Prim.Native.Nat.{ℕ, ◌+◌, ◌-◌, ◌<◌}
use native.Mathlib.Omega.{arith}
use lib.ListN.{length, take, drop, length-append, length-drop}
use lib.Seq.{take_at, drop_at, drop-append-add, drop-drop}
use Rattle.tagged.specs.Bytes.{two_bytes, four_bytes}
use Rattle.tagged.specs.Sorts.{tag_of}
use Rattle.tagged.specs.Fields.{field_bytes, all_bytes_of, size_of, placed_by}
use Rattle.tagged.specs.Declarations.{Declaration, input, register, name_of, sort_of_declaration, declaration_payload, declaration_bytes, declarations_at}
use Rattle.tagged.specs.Parts.{first_name, name_in}
use Rattle.tagged.specs.declared.sorts.Sort.TheVariants as Sort
use Rattle.tagged.specs.declared.parts.Part.{Part}
use Rattle.tagged.proofs.ListBytes.{field_whole, field_length}

-- the bytes of a part: those from its start on, up to its end
pub part_bytes_lem : (file own after : List ℕ) (part : Part) → drop part.start file ≡ own ++ after → part.end ≡ part.start + length own →
    take (part.end - part.start) (drop part.start file) ≡ own
part_bytes_lem file own after part there ends =
    let size : length own ≡ part.end - part.start = omega (arith, ends) in
    ap (take (part.end - part.start)) there ∙ take_at own after (part.end - part.start) size

module _ {A : Type 0} (bytes : A → List ℕ) where
  -- in a list with places, an element starts where those before it end
  pub placed_after : (base : ℕ) (earlier : List A) (a : A) (later : List A) →
      drop (length earlier) (placed_by bytes base (earlier ++ (a ∷ later)))
      ≡ placed_by bytes (base + length (all_bytes_of bytes earlier)) (a ∷ later)
  unfolding placed_by all_bytes_of
  placed_after base [] a later =
      let same : base ≡ base + 0 = omega arith in
      ap (λ (n : ℕ). placed_by bytes n (a ∷ later)) same
  placed_after base (b ∷ earlier) a later =
      let long = length-append (bytes b) (all_bytes_of bytes earlier) in
      let same : base + length (bytes b) + length (all_bytes_of bytes earlier) ≡ base + length (bytes b ++ all_bytes_of bytes earlier) = omega arith in
      placed_after (base + length (bytes b)) earlier a later ∙ ap (λ (n : ℕ). placed_by bytes n (a ∷ later)) same

  -- in their bytes, its own follow
  pub bytes_after : (earlier : List A) (a : A) (later : List A) (after : List ℕ) →
      drop (length (all_bytes_of bytes earlier)) (all_bytes_of bytes (earlier ++ (a ∷ later)) ++ after) ≡ bytes a ++ (all_bytes_of bytes later ++ after)
  unfolding all_bytes_of
  bytes_after [] a later after = append_assoc (bytes a) (all_bytes_of bytes later) after
  bytes_after (b ∷ earlier) a later after =
      let all = all_bytes_of bytes (earlier ++ (a ∷ later)) in
      let others = length (all_bytes_of bytes earlier) in
      ap₂ (λ (n : ℕ) (l : List ℕ). drop n l) (length-append (bytes b) (all_bytes_of bytes earlier)) (append_assoc (bytes b) all after)
      ∙ drop-append-add (bytes b) (all ++ after) others ∙ bytes_after earlier a later after

  -- an element in a list of bytes that starts at `base` in the file
  module _ (base : ℕ) (l : List ℕ) (earlier : List A) (a : A) (later : List A) (after : List ℕ)
      (written : l ≡ all_bytes_of bytes (earlier ++ (a ∷ later)) ++ after) where
    -- how many bytes stand before it, and its place
    abbrev skipped : ℕ
    skipped = length (all_bytes_of bytes earlier)

    abbrev place_of : ℕ
    place_of = base + skipped

    element_there : drop skipped l ≡ bytes a ++ (all_bytes_of bytes later ++ after)
    element_there = ap (drop skipped) written ∙ bytes_after earlier a later after

    pub element_in_file : (file : List ℕ) → l ≡ drop base file → drop place_of file ≡ bytes a ++ (all_bytes_of bytes later ++ after)
    element_in_file file e = sym (ap (drop skipped) e ∙ drop-drop skipped base file) ∙ element_there

    -- where its bytes are a field, its header tells its end
    pub element_ends : (tag : ℕ) (payload : List ℕ) → bytes a ≡ field_bytes tag payload → length l < 65536 →
        place_of + 3 + size_of (drop (place_of - base) l) ≡ place_of + length (bytes a)
    element_ends tag payload field short =
        let rest = all_bytes_of bytes later ++ after in
        let from : place_of - base ≡ skipped = omega arith in
        let there : drop (place_of - base) l ≡ field_bytes tag payload ++ rest =
        ap (λ (n : ℕ). drop n l) from ∙ element_there ∙ ap (λ (b : List ℕ). b ++ rest) field in
        let long : length (bytes a) ≡ length payload + 3 = ap length field ∙ field_length tag payload in
        let within : length payload < 65536 =
        omega (arith, ap length there, length-drop (place_of - base) l, length-append (field_bytes tag payload) rest, field_length tag payload) in
        let size : length payload ≡ size_of (drop (place_of - base) l) = (field_whole tag payload rest within).size ∙ ap size_of (sym there) in
        omega arith

-- what stands before a declaration's name: its header and its fixed bytes
abbrev fixed_of : Declaration → List ℕ
fixed_of (input w name) = w ∷ []
fixed_of (register w v name) = w ∷ four_bytes v

abbrev before_name : Declaration → List ℕ
before_name d = tag_of (Sort.Declaration (sort_of_declaration d)) ∷ two_bytes (length (declaration_payload d)) ++ fixed_of d

-- the name is what its field ends with
name_last : (d : Declaration) → declaration_bytes d ≡ before_name d ++ name_of d
unfolding declaration_bytes field_bytes two_bytes four_bytes
name_last (input w name) = refl
name_last (register w v name) = refl

-- the part of a name, in declarations that were read at the places of their bytes, holds just the name
module _ (file : List ℕ) (base : ℕ) (l : List ℕ) (from : l ≡ drop base file) (short : length l < 65536) (earlier : List Declaration) (d : Declaration)
    (later : List Declaration) (after : List ℕ) (placed : declarations_at base l ≡ placed_by declaration_bytes base (earlier ++ (d ∷ later)))
    (written : l ≡ all_bytes_of declaration_bytes (earlier ++ (d ∷ later)) ++ after) where
  place : ℕ
  place = base + length (all_bytes_of declaration_bytes earlier)

  end : ℕ
  end = place + 3 + size_of (drop (place - base) l)

  part_is : name_in base (length earlier) l ≡ record { start = end - length (name_of d); end = end }
  unfolding name_in first_name placed_by place end
  part_is = ap (first_name base l) (ap (drop (length earlier)) placed ∙ placed_after declaration_bytes base earlier d later)

  end_is : end ≡ place + length (declaration_bytes d)
  unfolding place end declaration_bytes
  end_is = element_ends declaration_bytes base l earlier d later after written _ (declaration_payload d) refl short

  declaration_there : drop place file ≡ declaration_bytes d ++ (all_bytes_of declaration_bytes later ++ after)
  unfolding place
  declaration_there = element_in_file declaration_bytes base l earlier d later after written file from

  pub name_in_file : let p : Part = name_in base (length earlier) l in take (p.end - p.start) (drop p.start file) ≡ name_of d
  name_in_file =
      let front = before_name d in
      let name = name_of d in
      let rest = all_bytes_of declaration_bytes later ++ after in
      let long : length (declaration_bytes d) ≡ length front + length name = ap length (name_last d) ∙ length-append front name in
      let start : end - length name ≡ place + length front = omega (arith, end_is) in
      let field : drop place file ≡ front ++ (name ++ rest) =
      declaration_there ∙ ap (λ (b : List ℕ). b ++ rest) (name_last d) ∙ append_assoc front name rest in
      let there : drop (end - length name) file ≡ name ++ rest =
      ap (λ (n : ℕ). drop n file) start ∙ sym (drop-drop (length front) place file) ∙ ap (drop (length front)) field ∙ drop_at front (name ++ rest) (length front) refl in
      rw part_is (part_bytes_lem file name rest (record { start = end - length name; end = end }) there (omega (arith, end_is)))
