use lib.ListN.{take}
use Rattle.tagged.specs.Bytes.{Wrote}
use Rattle.tagged.specs.Rows.{row_bytes}
use Rattle.tagged.proofs.rows.write_row.Given as goal

abbrev pub invariant-loop-value : goal.invariant-loop-value
invariant-loop-value l = Wrote l.initial.next 0 (row_bytes (take l.value-index l.values)) l.next l.place
