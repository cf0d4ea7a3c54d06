-- `translate_blocks::emit::Emitter::assign_bit` meets its contract: the slot and the operands are what the calls before the store give. Assumes nothing.
use mathlib.Core.Path.{ap, ap₂, ◌∙◌}
use Prim.Native.Nat.{ℕ}
use native.Mathlib.Omega.{arith}
use lib.ListN.{length, length-drop}
use Rattle.translate_blocks.specs.Writing.{slot_of}
use Rattle.translate_blocks.proofs.EmitLaws.{emits_past}
use Rattle.translate_blocks.proofs.Bounds.{expression_small}
use Rattle.translate_blocks.proofs.WritingSteps.{assign_bit_done}
use Rattle.translate_blocks.proofs.emit.Emitter.assign_bit.Goals as goal

pub emit-requires : goal.emit-requires
emit-requires c =
    let written = c.expression-bit.ensures.emits in
    let few = expression_small c.current.result.now c.args.depth c.from.result.now c.args.self.now.cells in
    let size = ap length c.from.ensures in
    let short = length-drop 2 c.args.payload.now in
    (omega (arith, c.requires.2, emits_past written, few, size, short), omega (arith, c.requires.1, written.counted, few, size, short))

pub returns : goal.returns
returns c log =
    assign_bit_done _ _ _ _ _ _ c.current.ensures _ c.from.ensures c.expression-bit.ensures (c.slot_of-slot.ensures ∙ ap₂ (λ (k v : ℕ). slot_of k c.args.kind v) c.variables_in.ensures c.get_or.ensures) c.operand_at-old.ensures
    c.width-width.ensures c.get_or-2.ensures c.emit.ensures c.put_item.ensures
