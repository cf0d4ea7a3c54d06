-- The declarations of a list as a walk over its fields meets them, and what a loop over them keeps from turn to turn.
use Rattle.std.specs.Prelude.{Some, None}
use mathlib.Core.Path.{◌≡◌, sym, ap, ◌∙◌}
use mathlib.Core.Bool.{Bool, true, false}
use mathlib.Core.List.{List, [], ◌∷◌, ◌++◌}
use Prim.Native.Nat.{ℕ, suc, ◌+◌, ◌-◌, ◌≤◌, ◌<◌}
use native.Mathlib.Omega.{arith}
use lib.ListN.{length, take, drop, length-drop}
use lib.Seq.{drop-drop, take-add, take-nil}
use Rattle.tagged.specs.Sorts.{is_declaration}
use Rattle.tagged.specs.Fields.{Placed, Field, fields_at, unplaced}
use Rattle.tagged.specs.Answers.{Found}
use Rattle.tagged.specs.Names.{same_name}
use Rattle.tagged.specs.Refusals.{first_broken}
use Rattle.tagged.specs.Declarations.{Declaration, name_of, declaration_in, declaration_read, declarations_at, declarations_in, name_taken}
use Rattle.tagged.specs.declared.sorts.DeclarationSort.{DeclarationSort}
use Rattle.tagged.specs.declared.sorts.Sort.{Sort}
use Rattle.tagged.proofs.FieldLists.{reading, read_fields}
use Rattle.tagged.proofs.ListLaws.{read_anywhere}

-- the declarations of the fields at the front
abbrev pub declared : List (Placed Field) → List (Placed Declaration)
declared = reading is_declaration declaration_read

pub declared_fields : (base : ℕ) (l : List ℕ) → declarations_at base l ≡ declared (fields_at base l)
unfolding declarations_at
declared_fields base l = read_fields is_declaration declaration_read base l

pub declared_in : (base : ℕ) (l : List ℕ) → declarations_in l ≡ unplaced (declared (fields_at base l))
unfolding declarations_at
declared_in base l = read_anywhere is_declaration declaration_read 0 0 base l ∙ ap unplaced (read_fields is_declaration declaration_read base l)

-- at a field: a declaration is the first of them, and any other field ends them
module _ {all after : List (Placed Field)} {x : Placed Field} (first : all ≡ x ∷ after) where
  pub declared_here : (d : DeclarationSort) → x.what.sort ≡ Sort.Declaration d →
      declared all ≡ record { place = x.place; what = declaration_in d x.what.payload } ∷ declared after
  unfolding declaration_read
  declared_here d e = rw (first, e)

  pub declared_end : is_declaration x.what.sort ≡ false → declared all ≡ []
  declared_end e = rw (first, e)

pub declared_none : {all : List (Placed Field)} → all ≡ [] → declared all ≡ []
declared_none e = rw e

-- is a name among the first declarations? `left` of those that are ahead are still to be looked at
module _ (name : List ℕ) (whole : Bool) (left : ℕ) (ahead : List (Placed Declaration)) (going : whole ≡ name_taken name (take left (unplaced ahead))) where
  pub taken_done : left ≡ 0 → false ≡ whole
  unfolding name_taken
  taken_done e = sym (going ∙ rw e)

  pub taken_none : ahead ≡ [] → false ≡ whole
  unfolding name_taken
  taken_none e = sym (going ∙ rw (e, take-nil {A = Declaration} left))

  module _ (some : 0 < left) (d : Placed Declaration) (after : List (Placed Declaration)) (more : ahead ≡ d ∷ after) where
    one : left ≡ suc (left - 1)
    one = omega arith

    first : whole ≡ name_taken name (d.what ∷ take (left - 1) (unplaced after))
    first = going ∙ rw more (ap (λ (k : ℕ). name_taken name (take k (d.what ∷ unplaced after))) one)

    pub taken_here : same_name (name_of d.what) name ≡ true → true ≡ whole
    unfolding name_taken
    taken_here e = sym (first ∙ rw e)

    pub taken_later : same_name (name_of d.what) name ≡ false → whole ≡ name_taken name (take (left - 1) (unplaced after))
    unfolding name_taken
    taken_later e = first ∙ rw e

-- so many declarations have been passed, and the others are ahead
pub record Walked (all : List Declaration) (count : ℕ) (ahead : List (Placed Declaration)) : Type 0 where
  pub rest : drop count all ≡ unplaced ahead
  pub counted : count ≤ length all

pub walked_start : {all : List Declaration} {ahead : List (Placed Declaration)} → all ≡ unplaced ahead → Walked all 0 ahead
walked_start e = record { rest = e; counted = omega arith }

module _ {all : List Declaration} {count : ℕ} {ahead after : List (Placed Declaration)} {d : Placed Declaration} (walked : Walked all count ahead)
    (more : ahead ≡ d ∷ after) where
  fewer : count < length all
  fewer = omega (arith, ap length (walked.rest ∙ ap unplaced more), length-drop count all)

  pub walked_more : Walked all (count + 1) after
  walked_more = record {
    rest = sym (drop-drop 1 count all) ∙ ap (drop 1) (walked.rest ∙ ap unplaced more);
    counted = omega (arith, fewer);
  }

  -- those before the next one are those before this one, and this one
  pub walked_before : take (count + 1) all ≡ take count all ++ (d.what ∷ [])
  walked_before = take-add count 1 all ∙ ap (λ (y : List Declaration). take count all ++ take 1 y) (walked.rest ∙ ap unplaced more)

-- the first declaration that breaks a rule
module _ (breaks : List Declaration → Declaration → Bool) (earlier : List Declaration) {whole : Found} (ahead : List (Placed Declaration))
    (going : whole ≡ first_broken breaks earlier ahead) where
  pub broken_none : ahead ≡ [] → None ≡ whole
  unfolding first_broken
  broken_none e = sym (going ∙ rw e)

  module _ {after : List (Placed Declaration)} {d : Placed Declaration} (more : ahead ≡ d ∷ after) where
    pub broken_here : breaks earlier d.what ≡ true → Some d.place ≡ whole
    unfolding first_broken
    broken_here e = sym (going ∙ rw (more, e))

    pub broken_later : breaks earlier d.what ≡ false → whole ≡ first_broken breaks (earlier ++ (d.what ∷ [])) after
    unfolding first_broken
    broken_later e = going ∙ rw (more, e)
