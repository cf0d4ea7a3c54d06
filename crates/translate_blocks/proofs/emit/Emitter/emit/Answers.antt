-- `translate_blocks::emit::Emitter::emit` meets its contract: one cell is written. Assumes nothing.
use mathlib.Core.Path.{refl}
use Rattle.translate_blocks.proofs.EmitLaws.{emits_one}
use Rattle.translate_blocks.proofs.emit.Emitter.emit.Goals as goal

pub returns : goal.returns
returns c = emits_one _ _ c.put_cell-self.ensures refl refl refl refl
