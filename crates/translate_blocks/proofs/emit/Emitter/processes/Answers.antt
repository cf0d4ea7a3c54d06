-- `translate_blocks::emit::Emitter::processes` meets its contract: what the rest of the list gives behind what is done is what the whole list gives. Assumes nothing.
use native.Mathlib.Omega.{arith}
use Rattle.translate_blocks.specs.Writing.{write_processes}
use Rattle.translate_blocks.proofs.Bounds.{more_bytes, process_bounded}
use Rattle.translate_blocks.proofs.WorkLaws.{room_less}
use Rattle.translate_blocks.proofs.ListSteps.{list_start, list_done, list_room, list_turn}
use Rattle.translate_blocks.proofs.emit.Emitter.processes.Goals as goal

pub loop-field-init : goal.loop-field-init
loop-field-init c = list_start c.into_iter-field-iterator.ensures.into_iter_gives c.fields_of-field-items.ensures.rest c.fields_of-field-items.ensures.place c.requires

pub process-requires : goal.process-requires
process-requires c =
    let given = c.in-Some.ensures.steps in
    room_less (omega arith) (list_room c.loop-field.invariant c.in-Some.field c.next.new.self given.first given.shorter)

pub loop-field-preserved : goal.loop-field-preserved
loop-field-preserved c =
    let given = c.in-Some.ensures.steps in
    list_turn c.loop-field.invariant c.in-Some.field c.next.new.self given.first given.shorter (λ table n. more_bytes (omega arith) (process_bounded _ _ _ table n))
    c.process.ensures

pub returns : goal.returns
unfolding write_processes
returns c = list_done c.loop-field.invariant c.in-None.ensures.steps
