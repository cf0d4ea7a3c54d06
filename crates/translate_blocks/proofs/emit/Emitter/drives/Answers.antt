-- `translate_blocks::emit::Emitter::drives` meets its contract: at each turn the drives of the variables passed are written. Assumes nothing.
use native.Mathlib.Omega.{arith}
use Rattle.translate_blocks.proofs.DriveTurns.{drives_start, drives_room, drives_turn, drives_done}
use Rattle.translate_blocks.proofs.emit.Emitter.drives.Goals as goal

pub loop-variable-init : goal.loop-variable-init
loop-variable-init c = drives_start _ _ _ c.args.marks.now _

pub marked_drive-requires : goal.marked_drive-requires
marked_drive-requires c = omega (arith, c.requires, drives_room _ _ _ _ _ (omega arith) c.loop-variable.invariant)

pub loop-variable-preserved : goal.loop-variable-preserved
loop-variable-preserved c = drives_turn _ _ _ _ _ _ c.loop-variable-test.true c.loop-variable.invariant c.marked_drive.ensures

pub returns : goal.returns
returns c = drives_done _ _ _ _ _ c.loop-variable-test.false c.loop-variable.invariant
