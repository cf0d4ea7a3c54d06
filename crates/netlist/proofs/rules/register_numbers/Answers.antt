-- `netlist::rules::register_numbers` meets its contract: the numbers listed, and those of the variables ahead, are all of them. Assumes nothing.
use Rattle.std.proofs.Common.{◌<◌, sym, ap, ◌∙◌, arith, append-nil, length, take, drop_of_length-le}
use borrow.Author.Rules.{set_long}
use Rattle.tagged.specs.Declarations.{is_register}
use Rattle.netlist.specs.Rules.{registers_from}
use Rattle.netlist.proofs.RuleLaws.{counted}
use Rattle.netlist.proofs.RegisterLaws.{register_listed, input_passed}
use Rattle.netlist.proofs.rules.register_numbers.Goals as goal
use Rattle.netlist.proofs.rules.register_numbers.Goals.{then-mark, else-mark}

pub loop-at-preserved : goal.loop-at-preserved
loop-at-preserved c =
    let loop = c.loop-at in
    let i = loop.invariant in
    let within = c.loop-at-test.true in
    let room : loop.count < length loop.numbers = omega (arith, i.counted, i.long, c.requires, within) in
    record {
      counted =
          elim c.if-mark.branch [
            | then-mark w ↦ omega (arith, w.count-is, i.counted)
            | else-mark w ↦ omega (arith, w.count-is, i.counted)
          ];
      long =
          elim c.if-mark.branch [
            | then-mark w ↦ ap length w.numbers-is ∙ set_long _ loop.numbers loop.count 64 _ i.long
            | else-mark w ↦ ap length w.numbers-is ∙ i.long
          ];
      going = λ ds marked.
          elim c.if-mark.branch [
            | then-mark w ↦
                rw (w.numbers-is, w.count-is) (register_listed ds c.args.marks.now marked loop.at within loop.numbers loop.count (i.going ds marked) w.if-mark.true room)
            | else-mark w ↦
                rw (w.numbers-is, w.count-is) (input_passed ds c.args.marks.now marked loop.at within loop.numbers loop.count (i.going ds marked) w.if-mark.false)
          ];
    }

pub returns : goal.returns
unfolding registers_from
returns c = λ ds marked.
    let loop = c.loop-at in
    let none = drop_of_length-le ds {i = loop.at} (omega (arith, counted is_register ds marked, c.loop-at-test.false)) in
    sym (append-nil (take loop.count loop.numbers)) ∙ rw none at (loop.invariant.going ds marked)
