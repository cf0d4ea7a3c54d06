-- `answer` meets its contract: the first 16,385 bytes decide what the program writes for all of the input. Assumes nothing.
use Rattle.std.proofs.Common.{rules, take}
use Rattle.response.specs.Text.{program_text}
use Rattle.skodderym.proofs.AllInput.{all_written, front_is_text}
use Rattle.skodderym.proofs.answer.Goals as goal

pub returns : goal.returns
returns g c =
    let file = take c.in_ok-count.count c.read_full.new.buffer in
    let text = front_is_text (program_text file) _ _ c.front.result.now c.respond-size.result
    c.respond-size.ensures.answered c.respond-size.ensures.leaves c.front.ensures in
    all_written c.write_all.result (g.R.Read.remaining c.args.input.now) _ _ c.front.result.now file c.write_all.ensures.bytes text (search rules)
