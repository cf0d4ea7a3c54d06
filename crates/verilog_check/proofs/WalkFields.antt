-- What the walks over trees have in common: what a list of fields is refused for where none asks for earlier ones, and the walk over fields that were written, one by one.
use mathlib.Core.Path.{◌≡◌, refl, sym, ap, ◌∙◌}
use mathlib.Core.Bool.{Bool}
use mathlib.Core.List.{List, [], ◌∷◌, ◌++◌, append-nil}
use Prim.Native.Nat.{ℕ, ◌+◌, ◌<◌}
use lib.ListN.{length}
use Rattle.tagged.specs.Sorts.{tag_of}
use Rattle.tagged.specs.Fields.{Placed, field_bytes, fields_at, read_from}
use Rattle.tagged.specs.Refusals.{first_broken, found_if, first_refusal, lower_refusal}
use Rattle.tagged.specs.declared.sorts.Sort.{Sort}
use Rattle.tagged.specs.declared.answers.Rule.{Rule}
use Rattle.tagged.specs.Answers.{acceptance, Answer}
use Rattle.tagged.proofs.RefusalLaws.{Rising}
use Rattle.tagged.proofs.FoundLaws.{found_same}
use Rattle.tagged.proofs.LowerLaws.{lower_accepted, lower_joined, refusal_same, refusal_nowhere, answer_front}
use Rattle.tagged.proofs.FieldLists.{fields_written}
use Rattle.tagged.proofs.ListBytes.{field_length}
use Rattle.tagged.proofs.SortLaws.{sort_back}
use Rattle.verilog_check.specs.Walk.{Walker, walk_all}

-- elements that are judged each by itself, at its place
module _ {A : Type 0} (judge : A → ℕ → Answer) where
  abbrev pub lowest_of : List (Placed A) → Answer
  lowest_of [] = acceptance
  lowest_of (x ∷ l) = lower_refusal (judge x.what x.place) (lowest_of l)

  -- one list, and then the other
  pub lowest_append : (l m : List (Placed A)) → lowest_of (l ++ m) ≡ lower_refusal (lowest_of l) (lowest_of m)
  lowest_append [] m = refl
  lowest_append (x ∷ l) m = ap (lower_refusal (judge x.what x.place)) (lowest_append l m) ∙ sym (lower_joined (judge x.what x.place) (lowest_of l) (lowest_of m))

-- where the judge looks for rules in rising order, they all are refused for the first rule that one of them breaks, at the first place
pub lowest_first : {A : Type 0} (test : Rule → A → Bool) {from : ℕ} {rules : List Rule} → Rising from rules → (l : List (Placed A)) →
    lowest_of (λ a at. first_refusal (λ rule. found_if (test rule a) at) rules) l ≡ first_refusal (λ rule. first_broken (λ earlier a. test rule a) [] l) rules
unfolding first_broken
lowest_first test {rules = rules} r [] = sym (refusal_nowhere rules)
lowest_first {A} test {rules = rules} r (x ∷ l) =
    ap (lower_refusal (first_refusal (λ rule. found_if (test rule x.what) x.place) rules)) (lowest_first test r l ∙ refusal_same _ _ any_earlier rules)
    ∙ sym (answer_front (λ rule earlier a. test rule a) [] x l r)
  where
    any_earlier : (rule : Rule) → first_broken (λ earlier a. test rule a) [] l ≡ first_broken (λ earlier a. test rule a) (x.what ∷ []) l
    any_earlier rule = found_same (λ passed a. test rule a) (λ passed a. test rule a) [] (x.what ∷ []) l (λ passed p a s. refl)

-- these bytes are a field, and a walk that comes to it gives this
pub record Walked (walk : Walker) (at : ℕ) (bytes : List ℕ) (answer : Answer) : Type 0 where
  pub sort : Sort
  pub payload : List ℕ
  pub field : bytes ≡ field_bytes (tag_of sort) payload
  pub short : length payload < 65536
  pub gives : walk at sort payload ≡ answer

-- nothing is left
pub walk_none : (walk : Walker) (at : ℕ) → walk_all walk (fields_at at []) ≡ acceptance
unfolding walk_all fields_at read_from
walk_none walk at = refl

module _ {walk : Walker} {at : ℕ} {bytes : List ℕ} {answer : Answer} (w : Walked walk at bytes answer) where
  -- the field, and then what follows it
  walk_then : (after : List ℕ) → walk_all walk (fields_at at (bytes ++ after)) ≡ lower_refusal answer (walk_all walk (fields_at (at + length bytes) after))
  unfolding walk_all
  walk_then after =
      rw (w.field, fields_written at (tag_of w.sort) w.payload after w.short, sort_back w.sort, w.gives, field_length (tag_of w.sort) w.payload)

  -- nothing follows it
  pub walk_last : walk_all walk (fields_at at bytes) ≡ answer
  walk_last =
      ap (λ (l : List ℕ). walk_all walk (fields_at at l)) (sym (append-nil bytes))
      ∙ walk_then [] ∙ ap (lower_refusal answer) (walk_none walk (at + length bytes)) ∙ lower_accepted answer

-- a field, and then what follows it, where each is refused for what some elements are
pub walk_joined : {A : Type 0} (judge : A → ℕ → Answer) (l m : List (Placed A)) {walk : Walker} {at : ℕ} {bytes : List ℕ} → Walked walk at bytes (lowest_of judge l) →
    (after : List ℕ) (next : ℕ) → at + length bytes ≡ next → walk_all walk (fields_at next after) ≡ lowest_of judge m →
    walk_all walk (fields_at at (bytes ++ after)) ≡ lowest_of judge (l ++ m)
walk_joined judge l m {walk} w after next place found =
    walk_then w after
    ∙ ap (λ (n : ℕ). lower_refusal (lowest_of judge l) (walk_all walk (fields_at n after))) place ∙ ap (lower_refusal (lowest_of judge l)) found ∙ sym (lowest_append judge l m)
