use lib.ListN.{length, take, drop}
use Prim.Native.Nat.{◌≤◌}
use mathlib.Core.Path.{◌≡◌}
use mathlib.Core.List.{List, map, ◌++◌}
use Rattle.tagged.specs.Limits.{most_variables}
use Rattle.tagged.specs.Declarations.{Declaration, is_register}
use Rattle.netlist.specs.Rules.{registers_from}
use Rattle.netlist.proofs.rules.register_numbers.Given as goal

abbrev pub invariant-loop-at : goal.invariant-loop-at
invariant-loop-at l = record {
  counted : l.count ≤ l.at;
  long : length l.numbers ≡ most_variables;
  going : (ds : List Declaration) → map is_register ds ≡ l.marks → take l.count l.numbers ++ registers_from l.at (drop l.at ds) ≡ registers_from 0 ds;
}
