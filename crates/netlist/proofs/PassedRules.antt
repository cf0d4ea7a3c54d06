-- A rule is broken nowhere just where no declaration, cell or drive and not the whole netlist breaks it; lists are accepted just where this is so of every rule
-- that is looked for. By cases on where a place is found first.
use Rattle.std.specs.Prelude.{None}
use mathlib.Core.Path.{◌≡◌}
use mathlib.Core.List.{[]}
use Prim.Native.Nat.{ℕ}
use Rattle.tagged.specs.Fields.{placed_by}
use Rattle.tagged.specs.Refusals.{first_broken}
use Rattle.tagged.specs.Declarations.{declaration_broken}
use Rattle.tagged.specs.declared.answers.Rule.{Rule}
use Rattle.tagged.specs.Answers.{acceptance, Found}
use Rattle.netlist.specs.Lists.{Netlist}
use Rattle.netlist.specs.Form.{cell_bytes, drive_bytes}
use Rattle.netlist.specs.Rules.{cell_breaks, drive_breaks, whole_broken, cells_base, drives_base, netlist_broken}
use Rattle.netlist.specs.Answer.{netlist_rules, lists_answer}
use Rattle.tagged.proofs.RefusalLaws.{nowhere_both, NoneBroken, none, more, accepted_none, none_accepted}

-- the first place of a rule among the cells, and among the drives
abbrev pub cell_broken : Rule → ℕ → Netlist → Found
cell_broken rule base n = first_broken (cell_breaks rule n.declarations) [] (placed_by cell_bytes (cells_base base n) n.cells)

abbrev pub drive_broken : Rule → ℕ → Netlist → Found
drive_broken rule base n = first_broken (drive_breaks rule n.declarations n.cells) [] (placed_by drive_bytes (drives_base base n) n.drives)

-- a rule is broken nowhere
pub record RulePasses (base : ℕ) (n : Netlist) (rule : Rule) : Type 0 where
  pub declarations : declaration_broken rule base n.declarations ≡ None
  pub cells : cell_broken rule base n ≡ None
  pub drives : drive_broken rule base n ≡ None
  pub whole : whole_broken rule n ≡ None

pub nowhere_rule : (base : ℕ) (n : Netlist) (rule : Rule) → netlist_broken base n rule ≡ None → RulePasses base n rule
unfolding netlist_broken
nowhere_rule base n rule e =
    let d = nowhere_both (declaration_broken rule base n.declarations) _ e in
    let c = nowhere_both (cell_broken rule base n) _ d.1 in
    let w = nowhere_both (drive_broken rule base n) _ c.1 in
    record { declarations = d.0; cells = c.0; drives = w.0; whole = w.1 }

pub rule_nowhere : {base : ℕ} {n : Netlist} {rule : Rule} → RulePasses base n rule → netlist_broken base n rule ≡ None
unfolding netlist_broken
rule_nowhere p = rw (p.declarations, p.cells, p.drives, p.whole)

-- so for each rule that is looked for
pub record RulesPass (base : ℕ) (n : Netlist) : Type 0 where
  pub value : RulePasses base n Rule.Value
  pub name : RulePasses base n Rule.Name
  pub count : RulePasses base n Rule.Count
  pub reference : RulePasses base n Rule.Reference
  pub widths : RulePasses base n Rule.Widths
  pub bits : RulePasses base n Rule.BitNumber
  pub cells : RulePasses base n Rule.Cells

pub accepted_rules : (base : ℕ) (n : Netlist) → lists_answer base n ≡ acceptance → RulesPass base n
unfolding lists_answer
accepted_rules base n e = go (accepted_none (netlist_broken base n) netlist_rules e)
  where
    go : NoneBroken (netlist_broken base n) netlist_rules → RulesPass base n
    go (more value (more name (more count (more reference (more widths (more bits (more cells none))))))) = record {
      value = nowhere_rule base n Rule.Value value;
      name = nowhere_rule base n Rule.Name name;
      count = nowhere_rule base n Rule.Count count;
      reference = nowhere_rule base n Rule.Reference reference;
      widths = nowhere_rule base n Rule.Widths widths;
      bits = nowhere_rule base n Rule.BitNumber bits;
      cells = nowhere_rule base n Rule.Cells cells;
    }

pub rules_accepted : {base : ℕ} {n : Netlist} → RulesPass base n → lists_answer base n ≡ acceptance
unfolding lists_answer
rules_accepted {base} {n} p =
    none_accepted (netlist_broken base n)
    (more (rule_nowhere p.value) (more (rule_nowhere p.name) (more (rule_nowhere p.count) (more (rule_nowhere p.reference)
    (more (rule_nowhere p.widths) (more (rule_nowhere p.bits) (more (rule_nowhere p.cells) none)))))))
