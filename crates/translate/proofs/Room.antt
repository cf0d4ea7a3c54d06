-- A buffer of 25,219 bytes is never too short: no file is refused by rule 13 then. The module's own check never gives it, and what it accepts is small enough.
use Rattle.tagged.specs.Answers.{acceptance, written, refused, number_of, Answer, Translation, Found}
use Rattle.std.specs.Prelude.{Ok, Err, Some, None}
use mathlib.Core.Path.{◌≡◌, refl, ap, ◌∙◌}
use mathlib.Core.Bool.{Bool, true, false, cond}
use mathlib.Core.List.{List, [], ◌∷◌}
use Prim.Native.Nat.{ℕ, ◌≤◌, ◌<◌}
use native.Mathlib.Omega.{arith}
use lib.Dec.{ltb}
use lib.ListN.{length}
use borrow.Author.Tests.{ltb-true, ltb-false}
use Rattle.tagged.specs.Limits.{most_cells, longest_module}
use Rattle.tagged.specs.Files.{length_fits, outer_fits, outer_answer, file_answer}
use Rattle.tagged.specs.Refusals.{refused_at, first_refusal, after_form, after_answer}
use Rattle.tagged.specs.declared.answers.Rule.{Rule}
use Rattle.tagged.specs.Fields.{Step}
use Rattle.tagged.proofs.RefusalLaws.{one_rule}
use Rattle.verilog.specs.Form.{module_form}
use Rattle.verilog.specs.Reading.{module_in}
use Rattle.verilog.specs.Rules.{module_broken}
use Rattle.verilog.specs.Answer.{module_rules, tree_answer, module_answer}
use Rattle.translate.specs.Answer.{translated_bytes, cell_count, after_check, translate_answer, largest_netlist}
use Rattle.verilog.proofs.AcceptedModule.{accepted_declarations}
use Rattle.translate.proofs.Largest.{largest}

-- an answer that is not refusal 13
abbrev NotBuffer : Answer → Type 0
NotBuffer a = (place : ℕ) → a ≡ Err (refused Rule.Buffer place) → ⊥

-- a list of rules below rule 13
data BelowBuffer : List Rule → Type 0 where
  no_rules : BelowBuffer []
  more_rules : {rule : Rule} {l : List Rule} → ltb (number_of rule) (number_of Rule.Buffer) ≡ true → BelowBuffer l → BelowBuffer (rule ∷ l)

module_rules_lem : BelowBuffer module_rules
unfolding number_of
module_rules_lem =
    more_rules refl (more_rules refl (more_rules refl (more_rules refl (more_rules refl (more_rules refl
    (more_rules refl (more_rules refl (more_rules refl no_rules))))))))

refusal_not : (broken : Rule → Found) (l : List Rule) → BelowBuffer l → NotBuffer (first_refusal broken l)
unfolding first_refusal
refusal_not broken [] no_rules place e = let z : ◌≡◌ {A = ℕ} 0 1 = cc in omega arith
refusal_not broken (rule ∷ l) (more_rules h r) place e = go (broken rule) (refusal_not broken l r place) e
  where
    go : (f : Found) → (first_refusal broken l ≡ Err (refused Rule.Buffer place) → ⊥) →
        refused_at rule f (first_refusal broken l) ≡ Err (refused Rule.Buffer place) → ⊥
    go (Some x) k p =
        let same : rule ≡ Rule.Buffer = one_rule p in
        let less : number_of rule < number_of Rule.Buffer = ltb-true (number_of rule) (number_of Rule.Buffer) h in
        let equal : number_of rule ≡ number_of Rule.Buffer = ap number_of same in
        omega arith
    go None k p = k p

-- a file's length is refused by another rule
not_buffer : {place : ℕ} → ◌≡◌ {A = Answer} (Err (refused Rule.FileLength 0)) (Err (refused Rule.Buffer place)) → ⊥
not_buffer e = let same : Rule.FileLength ≡ Rule.Buffer = one_rule e in cc

file_not : (longest : ℕ) (file : List ℕ) → NotBuffer (file_answer longest file)
unfolding file_answer outer_answer
file_not longest file place e = go (length_fits longest file) (outer_fits file) e
  where
    go : (s t : Bool) → cond s (cond t acceptance (Err (refused Rule.FileLength 0))) (Err (refused Rule.FileLength 0)) ≡ Err (refused Rule.Buffer place) → ⊥
    go true true p = let z : ◌≡◌ {A = ℕ} 0 1 = cc in omega arith
    go true false p = not_buffer p
    go false t p = not_buffer p

form_not : (s : Step) (other : Answer) → NotBuffer other → NotBuffer (after_form s other)
form_not (Ok n) other h place e = h place e
form_not (Err x) other h place e = let same : Rule.Form ≡ Rule.Buffer = one_rule e in cc

answer_not : (a other : Answer) → NotBuffer a → NotBuffer other → NotBuffer (after_answer a other)
answer_not (Ok _) other g h = h
answer_not (Err e) other g h = g

module_not : (file : List ℕ) → NotBuffer (module_answer file)
unfolding module_answer tree_answer
module_not file =
    answer_not (file_answer longest_module file) (after_form (module_form file) (tree_answer 3 (module_in file))) (file_not longest_module file)
    (form_not (module_form file) (tree_answer 3 (module_in file)) (refusal_not (module_broken 3 (module_in file)) module_rules module_rules_lem))

-- an accepted module within 1,024 cells has a netlist of at most so many bytes
pub accepted_small : (file : List ℕ) → module_answer file ≡ acceptance → cell_count file ≤ most_cells → length (translated_bytes file) ≤ largest_netlist
accepted_small file e few =
    let d = accepted_declarations file e in
    largest (module_in file) 3 d.name d.count few

-- a refusal's rule
abbrev rule_in : Translation → Rule
rule_in (Ok w) = Rule.Form
rule_in (Err e) = e.rule

-- so refusal 13 is never the answer where there is room for the largest
pub room_enough : (file : List ℕ) (room : ℕ) → largest_netlist ≤ room → (place : ℕ) → translate_answer file room ≡ Err (refused Rule.Buffer place) → ⊥
unfolding translate_answer
room_enough file room h place e = go (module_answer file) refl e
  where
    size : ℕ
    size = length (translated_bytes file)

    few : (t : Bool) → ltb most_cells (cell_count file) ≡ t → (s : Bool) → ltb room size ≡ s → (module_answer file ≡ acceptance) →
        cond t (Err (refused Rule.Cells 0)) (cond s (Err (refused Rule.Buffer 0)) (Ok (written size (cell_count file)))) ≡
        Err (refused Rule.Buffer place) → ⊥
    few true c s r a p = let same : Rule.Cells ≡ Rule.Buffer = ap rule_in p in cc
    few false c true r a p =
        let small : size ≤ largest_netlist = accepted_small file a (ltb-false most_cells (cell_count file) c) in
        let long : room < size = ltb-true room size r in
        omega arith
    few false c false r a p = let z : ◌≡◌ {A = ℕ} 0 1 = cc in omega arith

    go : (a : Answer) → module_answer file ≡ a → after_check a (cell_count file) size room ≡ Err (refused Rule.Buffer place) → ⊥
    go (Err e) a p = module_not file place (a ∙ cc)
    go (Ok _) a p = few (ltb most_cells (cell_count file)) refl (ltb room size) refl a p
