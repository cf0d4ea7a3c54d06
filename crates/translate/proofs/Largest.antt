-- No netlist that translation gives is longer than 25,219 bytes, if rules 4, 5 and 12 hold: rule 4 bounds each declaration by 32 bytes, rule 5 their number by 64;
-- each cell has at most 22 bytes, each drive 10. By counting.
use Rattle.std.specs.Prelude.{None}
use mathlib.Core.Path.{◌≡◌}
use Prim.Native.Nat.{ℕ, ◌≤◌}
use native.Mathlib.Omega.{arith}
use lib.ListN.{length}
use Rattle.tagged.specs.Limits.{most_cells, most_variables}
use Rattle.tagged.specs.Sorts.{tag_of}
use Rattle.tagged.specs.Declarations.{declaration_broken}
use Rattle.tagged.specs.declared.sorts.Sort.TheVariants as Sort
use Rattle.tagged.specs.declared.answers.Rule.TheVariants as Rule
use Rattle.tagged.proofs.ListBytes.{field_length}
use Rattle.netlist.specs.Lists.{Netlist}
use Rattle.netlist.specs.Form.{netlist_payload, netlist_bytes}
use Rattle.netlist.specs.Rules.{registers_from}
use Rattle.verilog.specs.Tree.{Module}
use Rattle.translate.specs.Translation.{translated_module, netlist_of}
use Rattle.translate.specs.Answer.{largest_netlist}
use Rattle.tagged.proofs.DeclarationSizes.{variables_few, declarations_length}
use Rattle.netlist.proofs.RulesFit.{payload_few, registers_count}
use Rattle.translate.proofs.DrivesPass.{drives_length}

pub largest : (m : Module) (base : ℕ) → declaration_broken Rule.Name base m.declarations ≡ None →
    declaration_broken Rule.Count base m.declarations ≡ None → length (netlist_of m).cells ≤ most_cells → length (netlist_bytes (netlist_of m)) ≤ largest_netlist
unfolding netlist_bytes netlist_of
largest m base name count few =
    let n : Netlist = netlist_of m in
    let v : length m.declarations ≤ most_variables = variables_few base m.declarations count in
    let one : length n.drives ≡ length (registers_from 0 m.declarations) = drives_length m (translated_module m).tables (registers_from 0 m.declarations) in
    let some : length (registers_from 0 m.declarations) ≤ length m.declarations = registers_count 0 m.declarations in
    let payload : length (netlist_payload n) ≤ 25216 = payload_few n v few (omega arith) (declarations_length base m.declarations name) in
    rw (field_length (tag_of Sort.Netlist) (netlist_payload n)) (omega arith)
