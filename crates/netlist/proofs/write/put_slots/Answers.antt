-- `netlist::write::put_slots` meets its contract: at each turn the slots passed are written. Assumes nothing.
use Rattle.std.proofs.Common.{arith, None, get_or}
use Rattle.netlist.proofs.PutLaws.{slot_length, slots_turn}
use Rattle.netlist.proofs.write.put_slots.Goals as goal

pub loop-slot-preserved : goal.loop-slot-preserved
loop-slot-preserved c = record {
  written = slots_turn c.args.slots.now c.loop-slot.slot-index None c.loop-slot-test.true c.loop-slot.invariant.written c.put_slot-place.ensures;
  near = omega (arith, c.loop-slot.invariant.near, c.put_slot-place.ensures.past, slot_length (get_or c.args.slots.now c.loop-slot.slot-index None));
}
