-- `tagged::parts::name_in` meets its contract: so many declarations are still to be passed. Assumes nothing.
use Rattle.std.proofs.Common.{◌≡◌, ◌+◌, ◌-◌, sym, ap, ◌∙◌, arith, rules, drop, length}
use lib.Seq.{drop-drop}
use Rattle.tagged.specs.Fields.{size_of}
use Rattle.tagged.specs.Walk.{fields_left}
use Rattle.tagged.specs.Declarations.{name_of, declaration_in}
use Rattle.tagged.proofs.DeclarationLaws.{name_in_lem}
use Rattle.tagged.proofs.DeclarationWalks.{declared, declared_here}
use Rattle.tagged.proofs.PartLaws.{drop_one, name_here}
use Rattle.tagged.proofs.parts.name_in.Goals as goal

pub returns-then-left-eq0 : goal.returns-then-left-eq0
returns-then-left-eq0 c =
    let s = c.in-Some.ensures.steps in
    let i = c.loop-field.invariant in
    let size : length c.in-Some.field.payload.now ≡ size_of (drop (c.in-Some.field.place - c.args.base) c.args.list.now) =
    s.size ∙ ap size_of (sym i.rest ∙ ap (λ p. drop (p - c.args.base) c.args.list.now) (sym s.here)) in
    let own : c.from-name.result.now ≡ name_of (declaration_in c.in-Declaration.sort c.in-Some.field.payload.now) = search (rules, name_in_lem) in
    name_here c.args.base c.args.number c.args.list.now _ _
    (i.ahead ∙ ap (λ k. drop k (declared (fields_left c.loop-field.field-iterator))) c.if-left-eq0.true ∙ declared_here s.first _ c.in-Declaration.is) _ size _ own

pub loop-field-preserved : goal.loop-field-preserved
loop-field-preserved c =
    let s = c.in-Some.ensures.steps in
    let i = c.loop-field.invariant in
    let past : c.next.new.self.place - c.args.base ≡ (c.loop-field.field-iterator.place - c.args.base) + (3 + length c.in-Some.field.payload.now) = omega (arith, i.after, s.next) in
    record {
      ahead = i.ahead ∙ ap (drop c.loop-field.left) (declared_here s.first _ c.in-Declaration.is) ∙ drop_one c.loop-field.left _ _ c.if-left-eq0.false;
      after = omega (arith, i.after, s.next);
      rest = ap (λ n. drop n c.args.list.now) past ∙ sym (drop-drop _ _ c.args.list.now) ∙ ap (drop _) i.rest ∙ sym s.after;
    }
