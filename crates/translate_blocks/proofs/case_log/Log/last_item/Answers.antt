-- `translate_blocks::case_log::Log::last_item` meets its contract: the mark says where the last item's changes stand. Assumes nothing.
use mathlib.Core.Path.{ap, ◌∙◌}
use mathlib.Core.List.{List}
use native.Mathlib.Omega.{arith}
use Rattle.netlist.specs.declared.Operand.TheVariants as Operand
use Rattle.translate_blocks.specs.declared.case_log.Entry.{Entry}
use Rattle.translate_blocks.specs.Log.{patched}
use Rattle.translate_blocks.proofs.LogLaws.{last_top, last_mark, last_changes}
use Rattle.translate_blocks.proofs.case_log.Log.last_item.Goals as goal

-- what stands for a missing entry
abbrev missing : Entry
missing = record { slot = 0; operand = Operand.Constant 0 0 }

pub overflow_sub-mark : goal.overflow_sub-mark
overflow_sub-mark c = omega (arith, last_top c.requires.2)

pub overflow_sub-start : goal.overflow_sub-start
overflow_sub-start c = omega (arith, last_top c.requires.2, ap (λ (e : Entry). e.slot) (last_mark c.requires.2 missing))

pub returns : goal.returns
returns c below mark last =
    let closing = last_mark last missing in
    let top = last_top last in
    let count = ap (λ (e : Entry). e.slot) closing in (
      omega (arith, count, top),
      ap (λ (e : Entry). e.operand) closing,
      c.patch.ensures ∙ ap (λ (l : List Entry). patched l c.args.side.now) (last_changes last _ _ (omega (arith, count, top)) (omega (arith, count, top))),
    )
