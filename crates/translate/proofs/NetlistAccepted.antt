-- The netlist of a typed module whose declarations break no rule is accepted, if it has at most 1,024 cells: every rule that is looked for has no place.
use Rattle.std.specs.Prelude.{None}
use mathlib.Core.Path.{◌≡◌, refl}
use mathlib.Core.Bool.{false}
use mathlib.Core.List.{List, []}
use Prim.Native.Nat.{ℕ, ◌≤◌}
use native.Mathlib.Omega.{arith}
use lib.ListN.{length}
use borrow.Author.Tests.{le-ltb}
use Rattle.tagged.specs.Limits.{most_cells}
use Rattle.tagged.specs.Fields.{placed_by}
use Rattle.tagged.specs.Declarations.{Declaration, declaration_bytes, declaration_breaks, declaration_broken}
use Rattle.tagged.specs.declared.answers.Rule.{Rule}
use Rattle.tagged.specs.Answers.{acceptance}
use Rattle.netlist.specs.Lists.{Netlist}
use Rattle.netlist.specs.Form.{cell_bytes, drive_bytes}
use Rattle.netlist.specs.Rules.{cell_breaks, drive_breaks, registers_from, whole_broken, cells_base, drives_base}
use Rattle.netlist.specs.Answer.{lists_answer}
use Rattle.netlist.specs.declared.Cell.{Cell}
use Rattle.netlist.specs.declared.Drive.{Drive}
use Rattle.verilog.specs.Tree.{Module}
use Rattle.verilog.proofs.Typed.{TypedModule}
use Rattle.verilog.specs.Reading.{module_in}
use Rattle.verilog.specs.Answer.{module_answer}
use Rattle.translate.specs.Answer.{cell_count, netlist_of_file}
use Rattle.translate.specs.Translation.{translated_module, netlist_of}
use Rattle.netlist.proofs.PassedRules.{cell_broken, drive_broken, RulesPass, rules_accepted}
use Rattle.tagged.proofs.PassLaws.{EachAfter, each_nowhere}
use Rattle.tagged.proofs.RefusalLaws.{passes_nowhere}
use Rattle.verilog.proofs.DeclarationsKept.{DeclarationsPass}
use Rattle.verilog.proofs.AcceptedModule.{accepted_declarations}
use Rattle.translate.proofs.CellsPass.{CellPasses}
use Rattle.translate.proofs.StatementCells.{translated_good}
use Rattle.translate.proofs.DrivesPass.{DrivePasses, drives_pass, drives_length}

-- a netlist whose cells and drives pass, each after those before it
pub record NetlistPasses (n : Netlist) : Type 0 where
  pub cells : EachAfter (CellPasses n.declarations) [] n.cells
  pub drives : EachAfter (DrivePasses n.declarations n.cells) [] n.drives
  pub driven : length n.drives ≡ length (registers_from 0 n.declarations)
  pub few : length n.cells ≤ most_cells

module _ (base : ℕ) (n : Netlist) (d : DeclarationsPass base n.declarations) (p : NetlistPasses n) where
  -- a rule that each cell passes, or that no cell breaks; and so for drives and declarations
  cells_nowhere : (rule : Rule) → ((earlier : List Cell) (c : Cell) → CellPasses n.declarations earlier c → cell_breaks rule n.declarations earlier c ≡ false) →
      cell_broken rule base n ≡ None
  cells_nowhere rule h = each_nowhere (cell_breaks rule n.declarations) cell_bytes h (cells_base base n) p.cells

  drives_nowhere : (rule : Rule) →
      ((earlier : List Drive) (c : Drive) → DrivePasses n.declarations n.cells earlier c → drive_breaks rule n.declarations n.cells earlier c ≡ false) →
      drive_broken rule base n ≡ None
  drives_nowhere rule h = each_nowhere (drive_breaks rule n.declarations n.cells) drive_bytes h (drives_base base n) p.drives

  declarations_nowhere : (rule : Rule) → ((earlier : List Declaration) (c : Declaration) → declaration_breaks rule earlier c ≡ false) →
      declaration_broken rule base n.declarations ≡ None
  declarations_nowhere rule h = passes_nowhere (declaration_breaks rule) [] (placed_by declaration_bytes base n.declarations) (λ before p c s. h before c)

  -- so every rule that is looked for passes
  rules_pass : RulesPass base n
  unfolding whole_broken declaration_breaks cell_breaks drive_breaks
  rules_pass = record {
    value = record {
      declarations = d.value;
      cells = cells_nowhere Rule.Value (λ e c h. h.value);
      drives = drives_nowhere Rule.Value (λ e c h. h.value);
      whole = refl;
    };
    name = record {
      declarations = d.name;
      cells = cells_nowhere Rule.Name (λ e c h. refl);
      drives = drives_nowhere Rule.Name (λ e c h. refl);
      whole = refl;
    };
    count = record {
      declarations = d.count;
      cells = cells_nowhere Rule.Count (λ e c h. refl);
      drives = drives_nowhere Rule.Count (λ e c h. refl);
      whole = refl;
    };
    reference = record {
      declarations = declarations_nowhere Rule.Reference (λ e c. refl);
      cells = cells_nowhere Rule.Reference (λ e c h. h.reference);
      drives = drives_nowhere Rule.Reference (λ e c h. h.reference);
      whole = rw (le-ltb (length n.drives) (length (registers_from 0 n.declarations)) (omega (arith, p.driven)));
    };
    widths = record {
      declarations = declarations_nowhere Rule.Widths (λ e c. refl);
      cells = cells_nowhere Rule.Widths (λ e c h. h.widths);
      drives = drives_nowhere Rule.Widths (λ e c h. h.widths);
      whole = refl;
    };
    bits = record {
      declarations = declarations_nowhere Rule.BitNumber (λ e c. refl);
      cells = cells_nowhere Rule.BitNumber (λ e c h. h.bit);
      drives = drives_nowhere Rule.BitNumber (λ e c h. refl);
      whole = refl;
    };
    cells = record {
      declarations = declarations_nowhere Rule.Cells (λ e c. refl);
      cells = cells_nowhere Rule.Cells (λ e c h. refl);
      drives = drives_nowhere Rule.Cells (λ e c h. refl);
      whole = rw (le-ltb most_cells (length n.cells) p.few);
    };
  }

  pub passes_accepted : lists_answer base n ≡ acceptance
  passes_accepted = rules_accepted rules_pass

-- what translation gives passes
pub translation_passes : (m : Module) → TypedModule m → length (netlist_of m).cells ≤ most_cells → NetlistPasses (netlist_of m)
unfolding netlist_of
translation_passes m p few =
    let t = translated_good m p in
    record {
      cells = t.pass;
      drives = drives_pass m (translated_module m).cells (translated_module m).tables t.good;
      driven = drives_length m (translated_module m).tables (registers_from 0 m.declarations);
      few = few;
    }

pub netlist_accepted : (m : Module) → TypedModule m → declaration_broken Rule.Value 3 m.declarations ≡ None →
    declaration_broken Rule.Name 3 m.declarations ≡ None → declaration_broken Rule.Count 3 m.declarations ≡ None →
    length (netlist_of m).cells ≤ most_cells → lists_answer 3 (netlist_of m) ≡ acceptance
unfolding netlist_of
netlist_accepted m p v a c few = passes_accepted 3 (netlist_of m) (record { value = v; name = a; count = c }) (translation_passes m p few)

-- so for a file whose module is accepted and typed
pub file_netlist_accepted : (file : List ℕ) → module_answer file ≡ acceptance → TypedModule (module_in file) → cell_count file ≤ most_cells →
    lists_answer 3 (netlist_of_file file) ≡ acceptance
file_netlist_accepted file e p few =
    let d = accepted_declarations file e in
    netlist_accepted (module_in file) p d.value d.name d.count few
