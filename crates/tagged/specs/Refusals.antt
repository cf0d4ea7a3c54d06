-- Refusals in the order they are looked for: number k is given only if no lower number holds in the whole file, with the first place.
use Rattle.tagged.specs.Answers.{acceptance, refused, refused_form, number_of, Answer, Found}
use Rattle.std.specs.Prelude.{Ok, Err, Some, None, Bool, cond, List, [], ◌∷◌, ◌++◌, ℕ, ltb}
use Rattle.tagged.specs.Choice.{choose}
use Rattle.tagged.specs.Fields.{Placed, Step}
use Rattle.tagged.specs.declared.answers.Rule.{Rule}

-- the place of the first element that breaks a rule, given those before it
unfoldable pub first_broken : {A : Type 0} → (List A → A → Bool) → List A → List (Placed A) → Found
first_broken breaks earlier [] = None
first_broken breaks earlier (x ∷ l) =
    choose (breaks earlier x.what) (λ _. Some x.place) (λ _. first_broken breaks (earlier ++ (x.what ∷ [])) l)

-- the first place, or else the second
abbrev pub or_else : Found → Found → Found
or_else (Some place) other = Some place
or_else None other = other

-- this place, if the test holds
abbrev pub found_if : Bool → ℕ → Found
found_if broken place = cond broken (Some place) None

-- the refusal by this rule where it has a place, or else the other answer
abbrev pub refused_at : Rule → Found → Answer → Answer
refused_at rule (Some place) other = Err (refused rule place)
refused_at rule None other = other

-- the first rule of the list that has a place
unfoldable pub first_refusal : (Rule → Found) → List Rule → Answer
first_refusal broken [] = acceptance
first_refusal broken (rule ∷ l) = refused_at rule (broken rule) (first_refusal broken l)

-- refusal 2 where the form has a fault, or else the other answer
abbrev pub after_form : Step → Answer → Answer
after_form (Ok m) other = other
after_form (Err fault) other = Err (refused_form fault)

-- a refusal stands, and acceptance goes on
abbrev pub after_answer : Answer → Answer → Answer
after_answer (Ok _) other = other
after_answer (Err e) other = Err e

-- of two answers the refusal with the lower number, and of two with the same number the first
abbrev pub lower_refusal : Answer → Answer → Answer
lower_refusal (Ok _) other = other
lower_refusal (Err e) (Ok _) = Err e
lower_refusal (Err e) (Err d) =
    cond (ltb (number_of d.rule) (number_of e.rule)) (Err d) (Err e)
