-- `tagged::declarations::variable_table` meets its contract: the table so far, filled with the rest of the list, is the list's. Assumes nothing.
use Rattle.std.proofs.Common.{sym, ap, ◌∙◌, arith}
use lib.ListN.{length}
use Rattle.tagged.specs.Fields.{unplaced}
use Rattle.tagged.specs.Walk.{fields_left}
use Rattle.tagged.specs.declared.walk.Fields.{Fields}
use Rattle.tagged.specs.Declarations.{declarations_in}
use Rattle.tagged.proofs.DeclarationLaws.{width_in, not_declaration}
use Rattle.tagged.proofs.DeclarationWalks.{declared, declared_in, declared_here, declared_end, declared_none}
use Rattle.tagged.proofs.TableLaws.{extend, extend_start, extend_more, extend_done, with_count}
use Rattle.tagged.proofs.declarations.variable_table.Goals as goal

pub loop-field-init : goal.loop-field-init
loop-field-init c = record {
  filled = ap (extend _) (ap (λ (f : Fields). unplaced (declared (fields_left f))) c.into_iter-field-iterator.ensures.into_iter_gives ∙ sym (declared_in _ _) ∙ ap declarations_in c.fields_of-field-items.ensures.rest) ∙ extend_start _;
  small = omega (arith, c.requires, ap (λ (f : Fields). length f.rest.now) c.into_iter-field-iterator.ensures.into_iter_gives, ap length c.fields_of-field-items.ensures.rest);
}

pub loop-field-preserved : goal.loop-field-preserved
loop-field-preserved c = record {
  filled = extend_more c.loop-field.table _ _ _ (ap unplaced (declared_here c.in-Some.ensures.steps.first _ c.in-Declaration.is)) c.loop-field.invariant.filled _ _
      (c.get_or-width.ensures ∙ sym (width_in c.in-Declaration.sort _)) (c.is_register.ensures _) _
      c.with_variable-table.ensures;
  small = omega (arith, with_count _ _ _ _ c.with_variable-table.ensures, c.loop-field.invariant.small, c.in-Some.ensures.steps.shorter);
}

pub returns-in-None : goal.returns-in-None
returns-in-None c = extend_done _ _ (ap unplaced (declared_none c.in-None.ensures.steps)) c.loop-field.invariant.filled

pub returns-in_default : goal.returns-in_default
returns-in_default c =
    extend_done _ _ (ap unplaced (declared_end c.in-Some.ensures.steps.first (not_declaration _ c.in_default.not-Declaration))) c.loop-field.invariant.filled
