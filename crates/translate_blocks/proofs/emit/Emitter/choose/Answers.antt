-- `translate_blocks::emit::Emitter::choose` meets its contract: the test is the definition's. Assumes nothing.
use mathlib.Core.Path.{◌≡◌, sym, ap}
use borrow.Author.Rules.{rules}
use Rattle.translate.specs.Tables.{Merged}
use Rattle.translate_blocks.proofs.EmitLaws.{emits_none, emits_as}
use Rattle.translate_blocks.proofs.MergeLaws.{merge_same, merge_other}
use Rattle.translate_blocks.proofs.emit.Emitter.choose.Goals as goal

pub returns-then-eq : goal.returns-then-eq
returns-then-eq c =
    let same : c.args.first ≡ c.args.second = search rules in
    let one = merge_same c.args.condition c.args.self.now.cells _ _ same in
    record { emits = emits_as (ap (λ (m : Merged). m.cells) one) (emits_none _); operand = sym (ap (λ (m : Merged). m.operands) one) }

pub returns : goal.returns
returns c =
    let differ : c.args.first ≡ c.args.second → ⊥ = search rules in
    let mux = merge_other c.args.condition c.args.self.now.cells _ _ differ in
    let width = c.width-width.ensures in
    record {
      emits = emits_as (ap (λ (m : Merged). m.cells) mux) (rw (← width) c.emit.ensures);
      operand = rw width (sym (ap (λ (m : Merged). m.operands) mux));
    }
