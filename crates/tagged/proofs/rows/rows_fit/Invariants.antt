use mathlib.Core.Path.{◌≡◌}
use Prim.Native.Nat.{◌*◌, ◌-◌}
use lib.ListN.{length, drop}
use Rattle.tagged.specs.Rows.{row_numbers, all_fit, rows_fit}
use Rattle.tagged.proofs.rows.rows_fit.Given as goal

abbrev pub invariant-loop-at : goal.invariant-loop-at
invariant-loop-at l = all_fit (drop l.at l.widths) (row_numbers (length l.widths - l.at) (drop (4 * l.at) l.row)) ≡ rows_fit l.widths l.row l.next_length
