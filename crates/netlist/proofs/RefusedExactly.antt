-- The lists of a netlist are refused by a rule at a place exactly when that is the first place that breaks the rule and nothing breaks a lower one,
-- and accepted exactly when nothing breaks any rule. By the tests that find the phrases, and by the order of places and of rules.
use Rattle.tagged.specs.Answers.{acceptance, refused, number_of, Found}
use Rattle.std.specs.Prelude.{Err, Some, None}
use mathlib.Core.Path.{◌≡◌, refl, sym, ◌∙◌}
use mathlib.Core.Logic.{◌↔◌}
use mathlib.Core.Bool.{false}
use mathlib.Core.List.{List, [], Memᴰ}
use Prim.Native.Nat.{ℕ, ◌≤◌, ◌<◌}
use native.Mathlib.Omega.{arith}
use lib.ListN.{length}
use Rattle.tagged.specs.Fields.{placed_by, field_bytes}
use Rattle.tagged.specs.Refusals.{or_else, first_refusal}
use Rattle.tagged.specs.Declarations.{Declaration, declaration_bytes, declaration_breaks, declaration_broken}
use Rattle.tagged.specs.declared.answers.Rule.{Rule}
use Rattle.netlist.specs.declared.Cell.{Cell}
use Rattle.netlist.specs.declared.Drive.{Drive}
use Rattle.netlist.specs.Lists.{Netlist}
use Rattle.netlist.specs.Form.{cell_bytes, drive_bytes}
use Rattle.netlist.specs.Rules.{cell_breaks, drive_breaks, whole_broken, cells_base, drives_base, netlist_broken}
use Rattle.netlist.specs.Answer.{netlist_rules, lists_answer}
use Rattle.netlist.specs.Breaks.{Breaks, WholeBreaks, Unbroken, FirstPlace, of_field, of_whole, RefusedFor}
use Rattle.tagged.proofs.RefusalLaws.{one_rule, one_place, at_not_nowhere, passes_nowhere, OneOf, one, other, at_one, one_at, FirstRule, accepted_none, none_accepted, none_each, each_none, refused_first, first_refused, first_lower, lower_first, first_broken_lem}
use Rattle.tagged.proofs.PlaceLaws.{BrokenAt, nowhere_none, none_nowhere, broken_from, broken_below, at_broken, at_least, least_at}
use Rattle.netlist.proofs.PassedRules.{cell_broken, drive_broken, RulePasses, nowhere_rule, rule_nowhere}
use Rattle.netlist.proofs.RuleAnswers.{rising}
use Rattle.netlist.proofs.BreakTests.{Tested, in_declarations, in_cells, in_drives, breaks_tested, tested_breaks}
use Rattle.netlist.proofs.WholeTests.{WholeCase, wholly, not_at_all, whole_case}

-- every field has bytes
declaration_some : (d : Declaration) → 0 < length (declaration_bytes d)
unfolding declaration_bytes field_bytes
declaration_some d = omega arith

cell_some : (c : Cell) → 0 < length (cell_bytes c)
unfolding cell_bytes field_bytes
cell_some c = omega arith

drive_some : (d : Drive) → 0 < length (drive_bytes d)
unfolding drive_bytes field_bytes
drive_some d = omega arith

module _ (base : ℕ) (n : Netlist) where
  module _ (rule : Rule) where
    -- the fields of each list that the rule's test holds of
    abbrev D : ℕ → Type 0
    D p = BrokenAt (declaration_breaks rule) (placed_by declaration_bytes base n.declarations) p

    abbrev C : ℕ → Type 0
    C p = BrokenAt (cell_breaks rule n.declarations) (placed_by cell_bytes (cells_base base n) n.cells) p

    abbrev R : ℕ → Type 0
    R p = BrokenAt (drive_breaks rule n.declarations n.cells) (placed_by drive_bytes (drives_base base n) n.drives) p

    -- declarations stand before cells, and cells before drives
    declaration_below : {p : ℕ} → D p → p < cells_base base n
    declaration_below = broken_below declaration_bytes declaration_some (declaration_breaks rule) base n.declarations

    cell_from : {p : ℕ} → C p → cells_base base n ≤ p
    cell_from = broken_from cell_bytes cell_some (cell_breaks rule n.declarations) (cells_base base n) n.cells

    cell_below : {p : ℕ} → C p → p < drives_base base n
    cell_below = broken_below cell_bytes cell_some (cell_breaks rule n.declarations) (cells_base base n) n.cells

    drive_from : {p : ℕ} → R p → drives_base base n ≤ p
    drive_from = broken_from drive_bytes drive_some (drive_breaks rule n.declarations n.cells) (drives_base base n) n.drives

    -- the least place that a test finds in a list is the one that is found first
    least_declared : (p : ℕ) → D p → ((q : ℕ) → D q → p ≤ q) → declaration_broken rule base n.declarations ≡ Some p
    least_declared = least_at declaration_bytes declaration_some (declaration_breaks rule) base n.declarations

    least_celled : (p : ℕ) → C p → ((q : ℕ) → C q → p ≤ q) → cell_broken rule base n ≡ Some p
    least_celled = least_at cell_bytes cell_some (cell_breaks rule n.declarations) (cells_base base n) n.cells

    least_driven : (p : ℕ) → R p → ((q : ℕ) → R q → p ≤ q) → drive_broken rule base n ≡ Some p
    least_driven = least_at drive_bytes drive_some (drive_breaks rule n.declarations n.cells) (drives_base base n) n.drives

    -- what is found after the cells, and after the declarations
    abbrev after_cells : Found
    after_cells = or_else (drive_broken rule base n) (whole_broken rule n)

    abbrev after_declarations : Found
    after_declarations = or_else (cell_broken rule base n) after_cells

    -- no test holds: nothing is broken
    none_tested : {p : ℕ} → declaration_broken rule base n.declarations ≡ None → cell_broken rule base n ≡ None →
        drive_broken rule base n ≡ None → Tested base n rule p → ⊥
    none_tested {p} nd nc nr (in_declarations x) = nowhere_none _ _ nd p x
    none_tested {p} nd nc nr (in_cells x) = nowhere_none _ _ nc p x
    none_tested {p} nd nc nr (in_drives x) = nowhere_none _ _ nr p x

    none_declared : ((p : ℕ) → Breaks base n rule p → ⊥) → declaration_broken rule base n.declarations ≡ None
    none_declared never = none_nowhere _ _ (λ p x. never p (tested_breaks base n (in_declarations x)))

    none_celled : ((p : ℕ) → Breaks base n rule p → ⊥) → cell_broken rule base n ≡ None
    none_celled never = none_nowhere _ _ (λ p x. never p (tested_breaks base n (in_cells x)))

    none_driven : ((p : ℕ) → Breaks base n rule p → ⊥) → drive_broken rule base n ≡ None
    none_driven never = none_nowhere _ _ (λ p x. never p (tested_breaks base n (in_drives x)))

    -- the rule is found nowhere exactly when nothing breaks it
    nowhere_unbroken : netlist_broken base n rule ≡ None → Unbroken base n rule
    nowhere_unbroken e = record {
      fields = λ p b. none_tested passes.declarations passes.cells passes.drives (breaks_tested base n b);
      whole = λ w. go (whole_case base n rule passes.drives) w;
    }
      where
        passes : RulePasses base n rule
        passes = nowhere_rule base n rule e

        go : WholeCase base n rule → WholeBreaks base n rule → ⊥
        go (wholly f w) v = at_not_nowhere (sym f ∙ passes.whole)
        go (not_at_all f never) v = never v

    unbroken_nowhere : Unbroken base n rule → netlist_broken base n rule ≡ None
    unbroken_nowhere u = rule_nowhere (record {
      declarations = none_declared u.fields;
      cells = none_celled u.fields;
      drives = none_driven u.fields;
      whole = go (whole_case base n rule (none_driven u.fields));
    })
      where
        go : WholeCase base n rule → whole_broken rule n ≡ None
        go (wholly f w) = absurd (u.whole w)
        go (not_at_all f never) = f

    -- the rule is found at p exactly when that is the first place that breaks it
    at_place : (p : ℕ) → netlist_broken base n rule ≡ Some p → FirstPlace base n rule p
    unfolding netlist_broken
    at_place p e = declared (at_one (declaration_broken rule base n.declarations) _ e)
      where
        whole : declaration_broken rule base n.declarations ≡ None → cell_broken rule base n ≡ None → drive_broken rule base n ≡ None →
            whole_broken rule n ≡ Some p → WholeCase base n rule → FirstPlace base n rule p
        whole nd nc nr f (wholly g w) =
            let zeroth : p ≡ 0 = cc in
            of_whole (λ q b. none_tested nd nc nr (breaks_tested base n b)) w zeroth
        whole nd nc nr f (not_at_all g never) = at_not_nowhere (sym f ∙ g)

        driven : declaration_broken rule base n.declarations ≡ None → cell_broken rule base n ≡ None →
            OneOf (drive_broken rule base n) (whole_broken rule n) p → FirstPlace base n rule p
        driven nd nc (one f) = of_field (tested_breaks base n (in_drives here)) (λ q b. least q (breaks_tested base n b))
          where
            here : R p
            here = at_broken drive_bytes drive_some (drive_breaks rule n.declarations n.cells) (drives_base base n) n.drives p f

            least : (q : ℕ) → Tested base n rule q → p ≤ q
            least q (in_declarations x) = absurd (nowhere_none _ _ nd q x)
            least q (in_cells x) = absurd (nowhere_none _ _ nc q x)
            least q (in_drives x) = at_least drive_bytes drive_some (drive_breaks rule n.declarations n.cells) (drives_base base n) n.drives p f q x
        driven nd nc (other nr f) = whole nd nc nr f (whole_case base n rule nr)

        celled : declaration_broken rule base n.declarations ≡ None →
            OneOf (cell_broken rule base n) after_cells p → FirstPlace base n rule p
        celled nd (one f) = of_field (tested_breaks base n (in_cells here)) (λ q b. least q (breaks_tested base n b))
          where
            here : C p
            here = at_broken cell_bytes cell_some (cell_breaks rule n.declarations) (cells_base base n) n.cells p f

            least : (q : ℕ) → Tested base n rule q → p ≤ q
            least q (in_declarations x) = absurd (nowhere_none _ _ nd q x)
            least q (in_cells x) = at_least cell_bytes cell_some (cell_breaks rule n.declarations) (cells_base base n) n.cells p f q x
            least q (in_drives x) = omega (arith, cell_below here, drive_from x)
        celled nd (other nc f) = driven nd nc (at_one (drive_broken rule base n) _ f)

        declared : OneOf (declaration_broken rule base n.declarations) after_declarations p → FirstPlace base n rule p
        declared (one f) = of_field (tested_breaks base n (in_declarations here)) (λ q b. least q (breaks_tested base n b))
          where
            here : D p
            here = at_broken declaration_bytes declaration_some (declaration_breaks rule) base n.declarations p f

            least : (q : ℕ) → Tested base n rule q → p ≤ q
            least q (in_declarations x) = at_least declaration_bytes declaration_some (declaration_breaks rule) base n.declarations p f q x
            least q (in_cells x) = omega (arith, declaration_below here, cell_from x)
            least q (in_drives x) = omega (arith, declaration_below here, drive_from x)
        declared (other nd f) = celled nd (at_one (cell_broken rule base n) _ f)

    place_at : {p : ℕ} → FirstPlace base n rule p → netlist_broken base n rule ≡ Some p
    unfolding netlist_broken
    place_at {p} (of_field b least) = go (breaks_tested base n b)
      where
        none_declared_below : cells_base base n ≤ p → declaration_broken rule base n.declarations ≡ None
        none_declared_below h = none_nowhere _ _ (λ q x. omega (arith, declaration_below x, least q (tested_breaks base n (in_declarations x))))

        none_celled_below : drives_base base n ≤ p → cell_broken rule base n ≡ None
        none_celled_below h = none_nowhere _ _ (λ q x. omega (arith, cell_below x, least q (tested_breaks base n (in_cells x))))

        go : Tested base n rule p → or_else (declaration_broken rule base n.declarations) after_declarations ≡ Some p
        go (in_declarations x) = one_at (one (least_declared p x (λ q y. least q (tested_breaks base n (in_declarations y)))))
        go (in_cells x) =
            one_at (other (none_declared_below (cell_from x)) (one_at (one (least_celled p x (λ q y. least q (tested_breaks base n (in_cells y)))))))
        go (in_drives x) =
            one_at (other (none_declared_below (omega (arith, drive_from x)))
            (one_at (other (none_celled_below (drive_from x))
            (one_at (one (least_driven p x (λ q y. least q (tested_breaks base n (in_drives y)))))))))
    place_at {p} (of_whole never w zeroth) =
        one_at (other (none_declared never) (one_at (other (none_celled never) (one_at (other (none_driven never) (go (whole_case base n rule (none_driven never))))))))
      where
        go : WholeCase base n rule → whole_broken rule n ≡ Some p
        go (wholly f v) = rw (f, zeroth)
        go (not_at_all f none) = absurd (none w)

  -- a rule is one of those that are looked for, or is found nowhere
  data Listed (rule : Rule) : Type 0 where
    listed : Memᴰ rule netlist_rules → Listed rule
    unlisted : netlist_broken base n rule ≡ None → Listed rule

  not_tested : (rule : Rule) → ((earlier : List Declaration) (d : Declaration) → declaration_breaks rule earlier d ≡ false) →
      ((earlier : List Cell) (c : Cell) → cell_breaks rule n.declarations earlier c ≡ false) →
      ((earlier : List Drive) (d : Drive) → drive_breaks rule n.declarations n.cells earlier d ≡ false) → whole_broken rule n ≡ None → Listed rule
  not_tested rule d c r w = unlisted (rule_nowhere (record {
    declarations = passes_nowhere (declaration_breaks rule) [] _ (λ before p x s. d before x);
    cells = passes_nowhere (cell_breaks rule n.declarations) [] _ (λ before p x s. c before x);
    drives = passes_nowhere (drive_breaks rule n.declarations n.cells) [] _ (λ before p x s. r before x);
    whole = w;
  }))

  rule_listed : (rule : Rule) → Listed rule
  unfolding declaration_breaks cell_breaks drive_breaks whole_broken
  rule_listed Rule.Value = listed (Memᴰ.head refl)
  rule_listed Rule.Name = listed (Memᴰ.tail (Memᴰ.head refl))
  rule_listed Rule.Count = listed (Memᴰ.tail (Memᴰ.tail (Memᴰ.head refl)))
  rule_listed Rule.Reference = listed (Memᴰ.tail (Memᴰ.tail (Memᴰ.tail (Memᴰ.head refl))))
  rule_listed Rule.Widths = listed (Memᴰ.tail (Memᴰ.tail (Memᴰ.tail (Memᴰ.tail (Memᴰ.head refl)))))
  rule_listed Rule.BitNumber = listed (Memᴰ.tail (Memᴰ.tail (Memᴰ.tail (Memᴰ.tail (Memᴰ.tail (Memᴰ.head refl))))))
  rule_listed Rule.Cells = listed (Memᴰ.tail (Memᴰ.tail (Memᴰ.tail (Memᴰ.tail (Memᴰ.tail (Memᴰ.tail (Memᴰ.head refl)))))))
  rule_listed Rule.FileLength = not_tested Rule.FileLength (λ e d. refl) (λ e c. refl) (λ e d. refl) refl
  rule_listed Rule.Form = not_tested Rule.Form (λ e d. refl) (λ e c. refl) (λ e d. refl) refl
  rule_listed Rule.BothKinds = not_tested Rule.BothKinds (λ e d. refl) (λ e c. refl) (λ e d. refl) refl
  rule_listed Rule.TwoProcesses = not_tested Rule.TwoProcesses (λ e d. refl) (λ e c. refl) (λ e d. refl) refl
  rule_listed Rule.ReadElsewhere = not_tested Rule.ReadElsewhere (λ e d. refl) (λ e c. refl) (λ e d. refl) refl
  rule_listed Rule.Buffer = not_tested Rule.Buffer (λ e d. refl) (λ e c. refl) (λ e d. refl) refl
  rule_listed Rule.Row = not_tested Rule.Row (λ e d. refl) (λ e c. refl) (λ e d. refl) refl

  refused_for : (rule : Rule) (p : ℕ) → lists_answer base n ≡ Err (refused rule p) → RefusedFor base n rule p
  unfolding lists_answer
  refused_for rule p e = record {
    place = at_place rule p (first_broken_lem (netlist_broken base n) f);
    lowest = λ lower less. nowhere_unbroken lower (go lower less (rule_listed lower));
  }
    where
      f : FirstRule (netlist_broken base n) rule p netlist_rules
      f = refused_first (netlist_broken base n) netlist_rules e

      go : (lower : Rule) → number_of lower < number_of rule → Listed lower → netlist_broken base n lower ≡ None
      go lower less (listed m) = first_lower (netlist_broken base n) rising f lower m less
      go lower less (unlisted h) = h

  for_refused : (rule : Rule) (p : ℕ) → RefusedFor base n rule p → lists_answer base n ≡ Err (refused rule p)
  unfolding lists_answer
  for_refused rule p r = go (rule_listed rule)
    where
      go : Listed rule → first_refusal (netlist_broken base n) netlist_rules ≡ Err (refused rule p)
      go (listed m) = first_refused (netlist_broken base n)
          (lower_first (netlist_broken base n) rising m (place_at rule r.place) (λ lower i less. unbroken_nowhere lower (r.lowest lower less)))
      go (unlisted h) = at_not_nowhere (sym (place_at rule r.place) ∙ h)

  accepted_for : lists_answer base n ≡ acceptance → (rule : Rule) → Unbroken base n rule
  unfolding lists_answer
  accepted_for e rule = nowhere_unbroken rule (go (rule_listed rule))
    where
      go : Listed rule → netlist_broken base n rule ≡ None
      go (listed m) = none_each (netlist_broken base n) (accepted_none (netlist_broken base n) netlist_rules e) rule m
      go (unlisted h) = h

  for_accepted : ((rule : Rule) → Unbroken base n rule) → lists_answer base n ≡ acceptance
  unfolding lists_answer
  for_accepted u = none_accepted (netlist_broken base n) (each_none (netlist_broken base n) netlist_rules (λ rule m. unbroken_nowhere rule (u rule)))

  -- refused by this rule at this place exactly when document 01 says so
  pub refused_exactly : (rule : Rule) (p : ℕ) → (lists_answer base n ≡ Err (refused rule p)) ↔ RefusedFor base n rule p
  refused_exactly rule p = (refused_for rule p, for_refused rule p)

  -- accepted exactly when nothing breaks any rule
  pub accepted_exactly : (lists_answer base n ≡ acceptance) ↔ ((rule : Rule) → Unbroken base n rule)
  accepted_exactly = (accepted_for, for_accepted)

  -- so a netlist is refused by one rule at one place, or by none
  pub refused_once : {rule other : Rule} {p q : ℕ} → RefusedFor base n rule p → RefusedFor base n other q → (rule ≡ other) × (p ≡ q)
  refused_once {rule} {other} {p} {q} a b =
      let e : lists_answer base n ≡ Err (refused rule p) = for_refused rule p a in
      let f : lists_answer base n ≡ Err (refused other q) = for_refused other q b in
      (one_rule (sym e ∙ f), one_place (sym e ∙ f))
