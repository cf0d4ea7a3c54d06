-- `response::put_decimal` meets its contract: the digits of a tenth, then the last one; the digits that are left fall. Assumes nothing.
use native.Mathlib.Omega.{arith}
use Rattle.response.proofs.TextLaws.{decimal_none, decimal_last, decimal_more, decimal_short}
use Prim.Native.Nat.{◌-◌, ◌/◌}
use Rattle.response.proofs.+put_decimal.Goals as goal

pub returns-then-digits-eq0 : goal.returns-then-digits-eq0
returns-then-digits-eq0 t c = decimal_none _ _ c.if-digits-eq0.true

pub overflow_cast-number : goal.overflow_cast-number
overflow_cast-number t c = omega (arith, c.if-number-lt10.true)

pub overflow_add-number : goal.overflow_add-number
overflow_add-number t c = omega (arith, c.if-number-lt10.true)

pub put_byte-requires : goal.put_byte-requires
put_byte-requires t c = omega (arith, c.requires, c.if-digits-eq0.false)

pub returns-then-number-lt10 : goal.returns-then-number-lt10
returns-then-number-lt10 t c = decimal_last _ _ c.if-digits-eq0.false c.if-number-lt10.true c.put_byte.ensures

pub overflow_sub-digits : goal.overflow_sub-digits
overflow_sub-digits t c = omega (arith, c.if-digits-eq0.false)

pub put_decimal-past-requires : goal.put_decimal-past-requires
put_decimal-past-requires t c = (omega (arith, c.if-digits-eq0.false), omega (arith, c.requires))

pub overflow_cast-number-2 : goal.overflow_cast-number-2
overflow_cast-number-2 t c = omega arith

pub overflow_add-number-2 : goal.overflow_add-number-2
overflow_add-number-2 t c = omega arith

pub put_byte-requires-2 : goal.put_byte-requires-2
put_byte-requires-2 t c = omega (arith, c.put_decimal-past.ensures.past, decimal_short (c.args.digits - 1) (c.args.number / 10), c.requires, c.if-digits-eq0.false)

pub returns : goal.returns
returns t c = decimal_more _ _ c.if-digits-eq0.false c.if-number-lt10.false c.put_decimal-past.ensures c.put_byte-2.ensures
