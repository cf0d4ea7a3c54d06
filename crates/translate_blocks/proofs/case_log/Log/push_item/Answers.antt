-- `translate_blocks::case_log::Log::push_item` meets its contract: the changes and the mark above them are the item. Assumes nothing.
use mathlib.Core.Path.{◌≡◌, ap}
use Prim.Native.Nat.{ℕ, ◌-◌}
use native.Mathlib.Omega.{arith}
use lib.ListN.{length}
use Rattle.translate_blocks.specs.Log.{changes_of}
use Rattle.translate_blocks.proofs.LogLaws.{grown_then, grown_as, closing}
use Rattle.translate_blocks.proofs.case_log.Log.push_item.Goals as goal

pub returns-clause-grown : goal.returns-clause-grown
returns-clause-grown c =
    let logged = c.push_changes.ensures.grown in
    let count : length (changes_of c.args.entry.now c.args.table.now) ≡ c.push_changes.new.self.top - c.args.self.now.top = omega (arith, logged.height) in
    grown_then logged (grown_as (ap (λ (k : ℕ). closing k c.args.number) count) c.push.ensures)
