-- What the loop keeps, and what falls at each turn. Assumes nothing.
use mathlib.Core.Path.{◌≡◌}
use mathlib.Core.List.{List}
use Prim.Native.Nat.{◌+◌, ◌*◌, ◌^◌, ◌≤◌}
use lib.ListN.{length}
use Rattle.translate_blocks.specs.Log.{Mark}
use Rattle.translate_blocks.specs.Working.{work, Filed}
use Rattle.translate_blocks.proofs.UnwindSteps.{Unwinding}
use Rattle.translate_blocks.proofs.emit.Emitter.unwind.Given as goal

abbrev pub invariant-loop-log : goal.invariant-loop-log
invariant-loop-log l = (length l.table ≡ length l.entry) × (l.self.at + 2816 * l.log.top ≤ 2 ^ 40 + 2816 * l.bottom)
    × (l.self.cells + 128 * l.log.top ≤ 2 ^ 31 + 128 * l.bottom)
    × ((marks : List Mark) → Filed l.initial.log l.bottom marks → Unwinding l.entry l.initial.table (work l.initial.self l.initial.log) l.bottom marks l.table (work l.self l.log))

abbrev pub decreases-loop-log : goal.decreases-loop-log
decreases-loop-log l = l.log.top
