-- The operators as code computes them, on every input: 0 where a width is over 32, a bit number is not below 32, or a bit is neither 0 nor 1.
use Rattle.std.specs.Prelude.{cond, ℕ, leb, ltb}
use Rattle.words.specs.Limits.{greatest_width}
use Rattle.words.specs.Bits.{put_bit}
use Rattle.words.specs.Operators.{one_number, two_number}
use Rattle.words.specs.declared.OneOperand.{OneOperand}
use Rattle.words.specs.declared.TwoOperand.{TwoOperand}

unfoldable pub one_result : OneOperand → ℕ → ℕ → ℕ
one_result op w a = cond (leb w greatest_width) (one_number op w a) 0

unfoldable pub two_result : TwoOperand → ℕ → ℕ → ℕ → ℕ
two_result op w a b = cond (leb w greatest_width) (two_number op w a b) 0

unfoldable pub put_result : ℕ → ℕ → ℕ → ℕ
put_result v k b = cond (ltb k greatest_width) (cond (ltb b 2) (put_bit v k b) 0) 0
