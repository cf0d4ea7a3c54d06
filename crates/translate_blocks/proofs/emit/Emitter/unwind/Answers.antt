-- `translate_blocks::emit::Emitter::unwind` meets its contract: at each turn the items above, from the last one on, are merged. Assumes nothing.
use mathlib.Core.Path.{ap, ◌∙◌}
use native.Mathlib.Omega.{arith}
use lib.ListN.{length}
use Rattle.translate_blocks.proofs.EmitLaws.{emits_past}
use Rattle.translate_blocks.proofs.UnwindSteps.{mark_few, mark_long, unwind_start, split, split_filed, filed_last, last_falls, unwind_turn, unwind_done}
use Rattle.translate_blocks.proofs.emit.Emitter.unwind.Goals as goal

pub loop-log-init : goal.loop-log-init
loop-log-init c = (c.requires.1, c.requires.4, c.requires.3, λ marks f. unwind_start _ _ _ _ _ f)

pub merge_last-requires : goal.merge_last-requires
merge_last-requires c =
    let going = c.loop-log.invariant.3 c.requires.2.0 c.requires.2.1 in
    let more = c.loop-log-test.true in (
      omega (arith, c.loop-log.invariant.1, more),
      omega (arith, c.loop-log.invariant.2, more),
      c.requires.0,
      c.loop-log.invariant.0,
      (_, _, filed_last _ _ (split_filed _ _ _ _ _ going more)),
    )

pub loop-log-smaller : goal.loop-log-smaller
loop-log-smaller c =
    let going = c.loop-log.invariant.3 c.requires.2.0 c.requires.2.1 in
    let filed = split_filed _ _ _ _ _ going c.loop-log-test.true in
    let merged = c.merge_last.ensures _ _ (filed_last _ _ filed) in
    omega (arith, merged.lowered.height, last_falls _ _ filed)

pub loop-log-preserved : goal.loop-log-preserved
loop-log-preserved c =
    let going = c.loop-log.invariant.3 c.requires.2.0 c.requires.2.1 in
    let more = c.loop-log-test.true in
    let filed = split_filed _ _ _ _ _ going more in
    let mark = (split _ _ _ _ _ going more).last in
    let merged = c.merge_last.ensures _ _ (filed_last _ _ filed) in
    let short = c.requires.0 in
    let few = mark_few c.args.entry.now mark c.loop-log.table c.loop-log.self.cells in
    let falls = last_falls _ _ filed in (
      ap length merged.left ∙ mark_long c.args.entry.now mark c.loop-log.table c.loop-log.self.cells c.loop-log.invariant.0,
      omega (arith, emits_past merged.emitted, few, short, merged.lowered.height, falls, c.loop-log.invariant.1),
      omega (arith, merged.emitted.counted, few, short, merged.lowered.height, falls, c.loop-log.invariant.2),
      λ marks f.
          let u = c.loop-log.invariant.3 marks f in
          unwind_turn _ _ _ _ _ u more (c.merge_last.ensures _ _ (filed_last _ _ (split_filed _ _ _ _ _ u more))),
    )

pub returns : goal.returns
returns c marks f = unwind_done _ _ _ _ _ (c.loop-log.invariant.3 marks f) c.loop-log-test.false
