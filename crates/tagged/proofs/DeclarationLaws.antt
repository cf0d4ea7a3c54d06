-- Laws of declarations, in the form in which code asks them: one payload, the next in a list, and one turn of each walk.
use Rattle.tagged.specs.Answers.{fault_at}
use Rattle.std.specs.Prelude.{Err}
use mathlib.Core.Path.{◌≡◌, refl, sym, ap}
use mathlib.Core.Bool.{true, false, true≢false}
use mathlib.Core.List.{List}
use Prim.Native.Nat.{ℕ, ◌≤◌, ◌<◌}
use lib.ListN.{length, get_or, take, drop}
use lib.Dec.{leb}
use lib.Seq.{length-take-le}
use borrow.Author.Tests.{lt-ltb, le-ltb}
use Rattle.tagged.specs.Sorts.{on_declaration, is_declaration}
use Rattle.tagged.specs.Fields.{faultless, fixed_then}
use Rattle.tagged.specs.Limits.{most_variables}
use Rattle.tagged.specs.Declarations.{Declaration, width_of, name_of, sort_of_declaration, fixed_bytes, declaration_body, declaration_in, count_broken, declaration_breaks}
use Rattle.tagged.specs.declared.sorts.DeclarationSort.{DeclarationSort}
use Rattle.tagged.specs.declared.sorts.Sort.{Sort}
use Rattle.tagged.specs.declared.answers.Rule.{Rule}

-- a match that found another sort
pub not_declaration : (s : Sort) → ((d : DeclarationSort) → s ≡ Sort.Declaration d → ⊥) → is_declaration s ≡ false
not_declaration Sort.Module k = refl
not_declaration (Sort.Declaration d) k = absurd (k d refl)
not_declaration Sort.Process k = refl
not_declaration (Sort.Statement s) k = refl
not_declaration Sort.Item k = refl
not_declaration Sort.Block k = refl
not_declaration (Sort.Expression e) k = refl
not_declaration (Sort.Cell c) k = refl
not_declaration Sort.Drive k = refl
not_declaration Sort.Netlist k = refl
not_declaration Sort.Unknown k = refl

pub other_sort {ℓ} : {A : Type ℓ} (s : Sort) (f : DeclarationSort → A) (other : A) → is_declaration s ≡ false → on_declaration s f other ≡ other
other_sort Sort.Module f other e = refl
other_sort (Sort.Declaration d) f other e = absurd (true≢false e)
other_sort Sort.Process f other e = refl
other_sort (Sort.Statement s) f other e = refl
other_sort Sort.Item f other e = refl
other_sort Sort.Block f other e = refl
other_sort (Sort.Expression x) f other e = refl
other_sort (Sort.Cell c) f other e = refl
other_sort Sort.Drive f other e = refl
other_sort Sort.Netlist f other e = refl
other_sort Sort.Unknown f other e = refl

-- a sort that is a declaration's is one
pub declaration_sort_lem : (s : Sort) → is_declaration s ≡ true → (d : DeclarationSort) × (s ≡ Sort.Declaration d)
declaration_sort_lem Sort.Module is = absurd (true≢false (sym is))
declaration_sort_lem (Sort.Declaration d) is = (d, refl)
declaration_sort_lem Sort.Process is = absurd (true≢false (sym is))
declaration_sort_lem (Sort.Statement s) is = absurd (true≢false (sym is))
declaration_sort_lem Sort.Item is = absurd (true≢false (sym is))
declaration_sort_lem Sort.Block is = absurd (true≢false (sym is))
declaration_sort_lem (Sort.Expression e) is = absurd (true≢false (sym is))
declaration_sort_lem (Sort.Cell c) is = absurd (true≢false (sym is))
declaration_sort_lem Sort.Drive is = absurd (true≢false (sym is))
declaration_sort_lem Sort.Netlist is = absurd (true≢false (sym is))
declaration_sort_lem Sort.Unknown is = absurd (true≢false (sym is))

-- what a payload declares
pub name_in_lem : (d : DeclarationSort) (l : List ℕ) → name_of (declaration_in d l) ≡ drop (fixed_bytes d) l
name_in_lem DeclarationSort.Input l = refl
name_in_lem DeclarationSort.Register l = refl

pub width_in : (d : DeclarationSort) (l : List ℕ) → width_of (declaration_in d l) ≡ get_or l 0 0
width_in DeclarationSort.Input l = refl
width_in DeclarationSort.Register l = refl

pub sort_in : (d : DeclarationSort) (l : List ℕ) → sort_of_declaration (declaration_in d l) ≡ d
sort_in DeclarationSort.Input l = refl
sort_in DeclarationSort.Register l = refl

-- refusal 2 on a payload
module _ (at : ℕ) (d : DeclarationSort) (l : List ℕ) where
  pub body_short : length l < fixed_bytes d → declaration_body at (Sort.Declaration d) l ≡ Err (fault_at at)
  unfolding declaration_body fixed_then
  body_short h = rw (lt-ltb _ _ h)

  pub body_fine : fixed_bytes d ≤ length l → declaration_body at (Sort.Declaration d) l ≡ faultless
  unfolding declaration_body fixed_then
  body_fine h = rw (le-ltb _ _ h)

-- refusal 5: those before are as many as were counted
pub count_taken : (l : List Declaration) (count : ℕ) (d : Declaration) → count ≤ length l → count_broken (take count l) d ≡ leb most_variables count
unfolding count_broken
count_taken l count d h = ap (leb most_variables) (length-take-le count l h)

-- a match that found another rule
pub other_rule : (rule : Rule) → (rule ≡ Rule.Value → ⊥) → (rule ≡ Rule.Name → ⊥) → (rule ≡ Rule.Count → ⊥) → (earlier : List Declaration) (d : Declaration) → declaration_breaks rule earlier d ≡ false
unfolding declaration_breaks
other_rule Rule.FileLength v n c earlier d = refl
other_rule Rule.Form v n c earlier d = refl
other_rule Rule.Value v n c earlier d = absurd (v refl)
other_rule Rule.Name v n c earlier d = absurd (n refl)
other_rule Rule.Count v n c earlier d = absurd (c refl)
other_rule Rule.Reference v n c earlier d = refl
other_rule Rule.Widths v n c earlier d = refl
other_rule Rule.BitNumber v n c earlier d = refl
other_rule Rule.BothKinds v n c earlier d = refl
other_rule Rule.TwoProcesses v n c earlier d = refl
other_rule Rule.ReadElsewhere v n c earlier d = refl
other_rule Rule.Cells v n c earlier d = refl
other_rule Rule.Buffer v n c earlier d = refl
other_rule Rule.Row v n c earlier d = refl
