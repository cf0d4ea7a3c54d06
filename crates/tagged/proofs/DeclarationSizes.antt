-- Rules 4 and 5 bound declarations: a name has at most 24 bytes, so a declaration at most 32, and there are at most 64. By the rules' own tests.
use Rattle.std.specs.Prelude.{None}
use mathlib.Core.Path.{◌≡◌}
use mathlib.Core.Bool.{true, false, not, ◌&&◌}
use mathlib.Core.List.{List}
use Prim.Native.Nat.{ℕ, ◌+◌, ◌*◌, ◌≤◌}
use native.Mathlib.Omega.{arith}
use lib.Dec.{leb}
use lib.ListN.{length, get_or}
use borrow.Author.Tests.{leb-true, leb-false, not-false}
use Rattle.tagged.specs.Limits.{longest_name, most_variables}
use Rattle.tagged.specs.Bytes.{four_bytes}
use Rattle.tagged.specs.Sorts.{tag_of}
use Rattle.tagged.specs.Names.{is_digit, all_name_bytes, is_name_length, is_name}
use Rattle.tagged.specs.Fields.{all_bytes_of}
use Rattle.tagged.specs.Declarations.{Declaration, input, register, name_of, sort_of_declaration, declaration_payload, declaration_bytes, name_taken, name_broken, count_broken, declaration_breaks, declaration_broken}
use Rattle.tagged.specs.declared.sorts.Sort.TheVariants as Sort
use Rattle.tagged.specs.declared.answers.Rule.TheVariants as Rule
use Rattle.tagged.proofs.TestLaws.{both, neither}
use Rattle.tagged.proofs.ListBytes.{field_length}
use Rattle.tagged.proofs.AllBytesLaws.{all_length}
use Rattle.tagged.proofs.PassLaws.{nowhere_member, nowhere_length}

-- a name
pub name_length : (l : List ℕ) → is_name l ≡ true → length l ≤ longest_name
unfolding is_name
name_length l e =
    let p = both (is_name_length (length l) && not (is_digit (get_or l 0 0))) (all_name_bytes l) e in
    let q = both (is_name_length (length l)) (not (is_digit (get_or l 0 0))) p.0 in
    leb-true (length l) longest_name (both (leb 1 (length l)) (leb (length l) longest_name) q.0).1

-- a declaration with a name
payload_few : (d : Declaration) → length (name_of d) ≤ longest_name → length (declaration_payload d) ≤ 29
unfolding four_bytes
payload_few (input w name) h = omega arith
payload_few (register w v name) h = omega arith

pub payload_length : (d : Declaration) → is_name (name_of d) ≡ true → length (declaration_payload d) ≤ 29
payload_length d e = payload_few d (name_length (name_of d) e)

pub declaration_length : (d : Declaration) → is_name (name_of d) ≡ true → length (declaration_bytes d) ≤ 32
unfolding declaration_bytes
declaration_length d e =
    let long : length (declaration_bytes d) ≡ length (declaration_payload d) + 3 = field_length (tag_of (Sort.Declaration (sort_of_declaration d))) (declaration_payload d) in
    omega (arith, payload_length d e)

-- what rule 4 passes has a name
pub passed_name : (earlier : List Declaration) (d : Declaration) → declaration_breaks Rule.Name earlier d ≡ false → is_name (name_of d) ≡ true
unfolding declaration_breaks name_broken
passed_name earlier d e = not-false (is_name (name_of d)) (neither (not (is_name (name_of d))) (name_taken (name_of d) earlier) e).0

-- all declarations
module _ (base : ℕ) (ds : List Declaration) where
  pub variables_few : declaration_broken Rule.Count base ds ≡ None → length ds ≤ most_variables
  unfolding declaration_breaks count_broken
  variables_few = nowhere_length (declaration_breaks Rule.Count) declaration_bytes most_variables (λ before d e. leb-false most_variables (length before) e) base ds

  pub declarations_length : declaration_broken Rule.Name base ds ≡ None → length (all_bytes_of declaration_bytes ds) ≤ length ds * 32
  declarations_length e =
      all_length declaration_bytes 32 ds
      (λ d m. let p = nowhere_member (declaration_breaks Rule.Name) declaration_bytes base e m in declaration_length d (passed_name p.before d p.passes))
