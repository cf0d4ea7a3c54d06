use mathlib.Core.Path.{◌≡◌}
use mathlib.Core.List.{◌++◌}
use Prim.Native.Nat.{◌*◌, ◌-◌}
use lib.ListN.{length, take, drop}
use Rattle.tagged.specs.Rows.{row_numbers}
use Rattle.tagged.proofs.rows.read_row.Given as goal

abbrev pub invariant-loop-at : goal.invariant-loop-at
invariant-loop-at l = (length l.values ≡ length l.initial.values) × (take l.at l.values ++ row_numbers (length l.initial.values - l.at) (drop (4 * l.at) l.row) ≡ row_numbers (length l.initial.values) l.row)
