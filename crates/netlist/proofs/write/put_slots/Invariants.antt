use Prim.Native.Nat.{◌+◌, ◌*◌, ◌≤◌}
use lib.ListN.{take}
use Rattle.tagged.specs.Bytes.{Wrote}
use Rattle.tagged.specs.Fields.{all_bytes_of}
use Rattle.netlist.specs.Lists.{present}
use Rattle.netlist.specs.Form.{slot_bytes}
use Rattle.netlist.proofs.write.put_slots.Given as goal

abbrev pub invariant-loop-slot : goal.invariant-loop-slot
invariant-loop-slot l = record {
  written : Wrote l.initial.out l.at (all_bytes_of slot_bytes (present (take l.slot-index l.slots))) l.out l.place;
  near : l.place ≤ l.at + 6 * l.slot-index;
}
