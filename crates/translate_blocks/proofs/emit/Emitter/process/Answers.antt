-- `translate_blocks::emit::Emitter::process` meets its contract: nothing is done for another sort. Assumes nothing.
use mathlib.Core.Path.{◌≡◌}
use borrow.Author.Rules.{rules}
use Rattle.tagged.specs.declared.sorts.Sort.TheVariants as Sort
use Rattle.translate_blocks.proofs.WorkLaws.{translates_none}
use Rattle.translate_blocks.proofs.WritingSteps.{process_other}
use Rattle.translate_blocks.proofs.emit.Emitter.process.Goals as goal

pub returns-else-eq : goal.returns-else-eq
returns-else-eq c =
    let other : c.args.sort ≡ Sort.Process → ⊥ = search rules in
    translates_none (process_other _ _ _ _ _ other)
