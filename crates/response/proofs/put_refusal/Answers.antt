-- `response::put_refusal` meets its contract: five pieces, one after the other. Assumes nothing.
use mathlib.Core.Path.{◌∙◌}
use native.Mathlib.Omega.{arith}
use Rattle.response.proofs.TextLaws.{decimal_short, refusal_written}
use Rattle.response.proofs.put_refusal.Goals as goal

pub put_part-third-requires : goal.put_part-third-requires
put_part-third-requires c = omega (arith, c.put_part-first.ensures.past, c.put_decimal-second.ensures.past, decimal_short 20 c.from.result)

pub put_decimal-fourth-requires : goal.put_decimal-fourth-requires
put_decimal-fourth-requires c = omega (arith, c.put_part-first.ensures.past, c.put_decimal-second.ensures.past, decimal_short 20 c.from.result, c.put_part-third.ensures.past)

pub put_byte-requires : goal.put_byte-requires
put_byte-requires c = omega (arith, c.put_part-first.ensures.past, c.put_decimal-second.ensures.past, decimal_short 20 c.from.result, c.put_part-third.ensures.past, c.put_decimal-fourth.ensures.past, decimal_short 20 c.args.refusal.place)

pub returns : goal.returns
returns c = refusal_written _ (c.from.ensures ∙ c.number.ensures) c.put_part-first.ensures c.put_decimal-second.ensures c.put_part-third.ensures c.put_decimal-fourth.ensures c.put_byte.ensures
