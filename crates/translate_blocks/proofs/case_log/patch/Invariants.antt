-- What the loop keeps. Assumes nothing.
use mathlib.Core.Path.{◌≡◌}
use lib.ListN.{drop}
use Rattle.translate_blocks.specs.Log.{patched}
use Rattle.translate_blocks.proofs.case_log.patch.Given as goal

abbrev pub invariant-loop-change : goal.invariant-loop-change
invariant-loop-change l = patched (drop l.change-index l.changed) l.side ≡ patched l.changed l.initial.side
