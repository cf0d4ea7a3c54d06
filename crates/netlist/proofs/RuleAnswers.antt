-- What is refused by every rule at once, from what its parts are refused for: operands, a cell, a drive, a list walked one by one, a netlist.
-- By the laws of the lower of two refusals.
use Rattle.std.specs.Prelude.{None}
use mathlib.Core.Path.{◌≡◌, refl, sym, ap, ap₂, ◌∙◌}
use mathlib.Core.Bool.{Bool, true, false, cond, ◌||◌, not, or-false, or_assoc, or_comm}
use mathlib.Core.List.{List, [], ◌∷◌, ◌++◌}
use Prim.Native.Nat.{ℕ}
use lib.Dec.{leb, eqb}
use lib.ListN.{length, get_or, take}
use lib.Seq.{take_all}
use Rattle.words.specs.Widths.{is_width}
use Rattle.tagged.specs.Limits.{most_variables}
use Rattle.tagged.specs.Fields.{Placed, placed_by}
use Rattle.tagged.specs.Refusals.{first_broken, or_else, found_if, first_refusal, lower_refusal}
use Rattle.tagged.specs.Answers.{acceptance, number_of, Answer, Found}
use Rattle.tagged.specs.Declarations.{Declaration, variable_width, declaration_broken}
use Rattle.tagged.specs.declared.answers.Rule.{Rule}
use Rattle.tagged.proofs.DeclarationSizes.{variables_few}
use Rattle.tagged.proofs.RefusalLaws.{Rising, order_rising, nowhere_both, Agrees, agree_none, agree_more, same_refusal}
use Rattle.tagged.proofs.LowerLaws.{lower_accepted, lower_joined, refusal_both, refusal_same, answer_front}
use Rattle.netlist.specs.declared.Operand.{Operand}
use Rattle.netlist.specs.declared.Cell.{Cell}
use Rattle.netlist.specs.declared.Drive.{Drive}
use Rattle.netlist.specs.declared.rules.Known.{Known}
use Rattle.netlist.specs.Lists.{Netlist, operand_width, cell_width, cell_slots, operands_in}
use Rattle.netlist.specs.Form.{cell_bytes, drive_bytes}
use Rattle.netlist.specs.Rules.{some_operand, operand_value_broken, operand_missing, operand_unlike, cell_unlike, cell_outside, cell_breaks, not_next, drive_breaks, whole_broken, cells_base, drives_base, netlist_broken}
use Rattle.netlist.specs.WalkAnswers.{answer_of, operands_answer, one_answer, list_answer, whole_answer, declaring, rest_answer, Knows}
use Rattle.netlist.specs.Answer.{netlist_rules, lists_answer}

-- the rules stand in the order of their numbers
pub rising : Rising 0 netlist_rules
unfolding number_of
rising = order_rising 0 netlist_rules refl

-- four tests by the rule that each is for
abbrev test_of : Bool → Bool → Bool → Bool → Rule → Bool
test_of v m w k rule =
    cond (eqb (number_of rule) 3) v (cond (eqb (number_of rule) 6) m (cond (eqb (number_of rule) 7) w (cond (eqb (number_of rule) 8) k false)))

tests_answer : (v m w k : Bool) (place : ℕ) → answer_of v m w k place ≡ first_refusal (λ rule. found_if (test_of v m w k rule) place) netlist_rules
unfolding answer_of first_refusal number_of
tests_answer v m w k place = refl

-- what is refused for one of two tests, each for the same rule
module _ (v v' m m' w w' k k' : Bool) (place : ℕ) where
  found_or : (a b : Bool) → found_if (a || b) place ≡ or_else (found_if a place) (found_if b place)
  found_or true b = refl
  found_or false b = refl

  either_found : (a b c d : Bool) →
      found_if (cond a (v || v') (cond b (m || m') (cond c (w || w') (cond d (k || k') false)))) place
      ≡ or_else (found_if (cond a v (cond b m (cond c w (cond d k false)))) place) (found_if (cond a v' (cond b m' (cond c w' (cond d k' false)))) place)
  either_found true b c d = found_or v v'
  either_found false true c d = found_or m m'
  either_found false false true d = found_or w w'
  either_found false false false true = found_or k k'
  either_found false false false false = refl

  answer_or : answer_of (v || v') (m || m') (w || w') (k || k') place ≡ lower_refusal (answer_of v m w k place) (answer_of v' m' w' k' place)
  answer_or =
      tests_answer (v || v') (m || m') (w || w') (k || k') place
      ∙ refusal_same _ _ (λ rule. either_found (eqb (number_of rule) 3) (eqb (number_of rule) 6) (eqb (number_of rule) 7) (eqb (number_of rule) 8)) netlist_rules
      ∙ refusal_both (λ rule. found_if (test_of v m w k rule) place) (λ rule. found_if (test_of v' m' w' k' rule) place) rising
      ∙ sym (ap₂ lower_refusal (tests_answer v m w k place) (tests_answer v' m' w' k' place))

-- what some operands are refused for
some_append : (test : Operand → Bool) (os ps : List Operand) → some_operand test (os ++ ps) ≡ some_operand test os || some_operand test ps
some_append test [] ps = refl
some_append test (o ∷ os) ps = ap (λ (t : Bool). test o || t) (some_append test os ps) ∙ sym (or_assoc (test o) (some_operand test os) (some_operand test ps))

module _ (ds : List Declaration) (cs : List Cell) (place : ℕ) where
  pub operands_both : (os ps : List Operand) → operands_answer ds cs (os ++ ps) place ≡ lower_refusal (operands_answer ds cs os place) (operands_answer ds cs ps place)
  unfolding operands_answer
  operands_both os ps =
      rw (some_append operand_value_broken os ps, some_append (operand_missing ds cs) os ps, some_append (operand_unlike ds cs) os ps)
      (answer_or (some_operand operand_value_broken os) (some_operand operand_value_broken ps) (some_operand (operand_missing ds cs) os)
      (some_operand (operand_missing ds cs) ps) (some_operand (operand_unlike ds cs) os) (some_operand (operand_unlike ds cs) ps) false false place)

  pub one_operand_lem : (o : Operand) →
      operands_answer ds cs (o ∷ []) place ≡ answer_of (operand_value_broken o) (operand_missing ds cs o) (operand_unlike ds cs o) false place
  unfolding operands_answer
  one_operand_lem o = rw (or-false (operand_value_broken o), or-false (operand_missing ds cs o), or-false (operand_unlike ds cs o))

  -- a cell: its own tests, and its operands
  pub cell_joined : (c : Cell) {own operands answer : Answer} → own ≡ answer_of (not (is_width (cell_width c))) false (cell_unlike c) (cell_outside c) place →
      operands ≡ operands_answer ds cs (operands_in (cell_slots c)) place → answer ≡ lower_refusal own operands →
      answer ≡ one_answer (λ rule. cell_breaks rule ds) cs c place
  unfolding operands_answer one_answer first_refusal cell_breaks answer_of
  cell_joined c own operands answer =
      let wide = not (is_width (cell_width c)) in
      let os = operands_in (cell_slots c) in
      answer ∙ ap₂ lower_refusal own operands
      ∙ sym (answer_or wide (some_operand operand_value_broken os) false (some_operand (operand_missing ds cs) os) (cell_unlike c)
      (some_operand (operand_unlike ds cs) os) (cell_outside c) false place)
      ∙ ap₂ (λ (w k : Bool). answer_of (wide || some_operand operand_value_broken os) (some_operand (operand_missing ds cs) os) w k place)
      (or_comm (cell_unlike c) (some_operand (operand_unlike ds cs) os)) (or-false (cell_outside c))

  -- a drive: the register that it names, and its operand
  pub drive_joined : (before : List Drive) (d : Drive) {known : Known} {earlier : ℕ} {own operand answer : Answer} →
      Knows ds cs known → length before ≡ earlier →
      own ≡ answer_of false (leb (length known.registers.now) earlier || not (eqb d.variable (get_or known.registers.now earlier 0)))
      (not (eqb (operand_width d.operand) (get_or known.variables.now d.variable 0))) false place →
      operand ≡ operands_answer ds cs (d.operand ∷ []) place → answer ≡ lower_refusal own operand →
      answer ≡ one_answer (λ rule. drive_breaks rule ds cs) before d place
  unfolding one_answer first_refusal drive_breaks not_next answer_of
  drive_joined before d {own = first} knows before-it own operand answer =
      let o = d.operand in
      let beyond = not_next ds before d in
      let unlike = not (eqb (operand_width o) (variable_width ds d.variable)) in
      let tested : first ≡ answer_of false beyond unlike false place = rw (knows.variables, knows.registers, before-it) own in
      answer ∙ ap₂ lower_refusal tested (operand ∙ one_operand_lem o)
      ∙ sym (answer_or false (operand_value_broken o) beyond (operand_missing ds cs o) unlike (operand_unlike ds cs o) false false place)
      ∙ ap (λ (w : Bool). answer_of (operand_value_broken o) (beyond || operand_missing ds cs o) w false place) (or_comm unlike (operand_unlike ds cs o))

-- a list walked one by one: the best answer so far, joined with that of what is left, is that of the whole
pub record Walking {A : Type 0} (breaks : Rule → List A → A → Bool) (whole best : Answer) (earlier : List A) (left : List (Placed A)) : Type 0 where
  pub joined : lower_refusal best (list_answer breaks earlier left) ≡ whole

pub walking_start : {A : Type 0} (breaks : Rule → List A → A → Bool) (l : List (Placed A)) → Walking breaks (list_answer breaks [] l) acceptance [] l
walking_start breaks l = record { joined = refl }

module _ {A : Type 0} {breaks : Rule → List A → A → Bool} {whole best : Answer} {earlier : List A} {left : List (Placed A)}
    (going : Walking breaks whole best earlier left) where
  pub walking_done : left ≡ [] → best ≡ whole
  unfolding list_answer first_broken first_refusal
  walking_done none = sym (lower_accepted best) ∙ (rw none at going.joined)

  pub walking_more : {x : Placed A} {after : List (Placed A)} → left ≡ x ∷ after →
      {answer next : Answer} → answer ≡ one_answer breaks earlier x.what x.place → next ≡ lower_refusal best answer →
      {longer : List A} → longer ≡ earlier ++ (x.what ∷ []) → Walking breaks whole next longer after
  unfolding list_answer one_answer
  walking_more {x} {after} more {answer} {next} one joined {longer} before = record {
    joined =
        ap₂ (λ (a : Answer) (l : List A). lower_refusal a (list_answer breaks l after)) (joined ∙ ap (lower_refusal best) one) before
        ∙ lower_joined best (one_answer breaks earlier x.what x.place) (list_answer breaks (earlier ++ (x.what ∷ [])) after)
        ∙ ap (lower_refusal best) (sym (answer_front breaks earlier x after rising))
        ∙ (rw more at going.joined);
  }

-- a netlist: its declarations, and the rest as the first 64 of them give it
module _ (base : ℕ) (n : Netlist) where
  rest_broken : List Declaration → Rule → Found
  rest_broken ds rule =
      or_else (first_broken (cell_breaks rule ds) [] (placed_by cell_bytes (cells_base base n) n.cells))
      (or_else (first_broken (drive_breaks rule ds n.cells) [] (placed_by drive_bytes (drives_base base n) n.drives))
      (whole_broken rule (declaring ds n)))

  rest_joined : (ds : List Declaration) → rest_answer base n ds ≡ first_refusal (rest_broken ds) netlist_rules
  unfolding rest_answer list_answer whole_answer rest_broken
  rest_joined ds =
      let cells : Rule → Found = λ rule. first_broken (cell_breaks rule ds) [] (placed_by cell_bytes (cells_base base n) n.cells) in
      let drives : Rule → Found = λ rule. first_broken (drive_breaks rule ds n.cells) [] (placed_by drive_bytes (drives_base base n) n.drives) in
      let whole : Rule → Found = λ rule. whole_broken rule (declaring ds n) in
      sym (refusal_both cells (λ rule. or_else (drives rule) (whole rule)) rising ∙ ap (lower_refusal (first_refusal cells netlist_rules))
      (refusal_both drives whole rising))

  abbrev known : List Declaration
  known = take most_variables n.declarations

  abbrev declared_or : List Declaration → Rule → Found
  declared_or ds rule = or_else (declaration_broken rule base n.declarations) (rest_broken ds rule)

  -- rules 3 to 5 ask nothing of the declarations, and where 5 passes all of them are known
  known_enough : Agrees (declared_or known) (declared_or n.declarations) netlist_rules
  unfolding rest_broken cell_breaks drive_breaks whole_broken
  known_enough = agree_more refl (λ value. agree_more refl (λ name. agree_more refl (λ count. all_known (nowhere_both _ _ count).0)))
    where
      all_known : declaration_broken Rule.Count base n.declarations ≡ None →
          Agrees (declared_or known) (declared_or n.declarations) (Rule.Reference ∷ Rule.Widths ∷ Rule.BitNumber ∷ Rule.Cells ∷ [])
      all_known e =
          let all : known ≡ n.declarations = take_all most_variables n.declarations (variables_few base n.declarations e) in
          let same : (rule : Rule) → declared_or known rule ≡ declared_or n.declarations rule = λ rule. ap (λ (ds : List Declaration). declared_or ds rule) all in
          agree_more (same Rule.Reference)
          (λ f. agree_more (same Rule.Widths) (λ f. agree_more (same Rule.BitNumber) (λ f. agree_more (same Rule.Cells) (λ f. agree_none))))

  pub lists_joined : {declared rest answer : Answer} → declared ≡ first_refusal (λ rule. declaration_broken rule base n.declarations) netlist_rules →
      rest ≡ rest_answer base n (take most_variables n.declarations) → answer ≡ lower_refusal declared rest → answer ≡ lists_answer base n
  unfolding lists_answer netlist_broken rest_broken
  lists_joined d r e =
      e ∙ ap₂ lower_refusal d (r ∙ rest_joined known)
      ∙ sym (refusal_both (λ rule. declaration_broken rule base n.declarations) (rest_broken known) rising)
      ∙ same_refusal known_enough
