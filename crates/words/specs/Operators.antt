-- The operators of expressions 24 to 2A and of cells 30 to 35 and 3A: their meaning on numbers, and the width of their result.
use Rattle.std.specs.Prelude.{ℕ}
use Rattle.std.specs.Int.Bits.{bit_and, bit_or, bit_xor}
use Rattle.words.specs.Bits.{parity, inverted, sum, same}
use Rattle.words.specs.declared.OneOperand.{OneOperand}
use Rattle.words.specs.declared.OneOperand.TheVariants.{Not, Parity}
use Rattle.words.specs.declared.TwoOperand.{TwoOperand}
use Rattle.words.specs.declared.TwoOperand.TheVariants.{And, Or, Xor, Add, Equal}

-- the result's width, from the operand's: its own, but 1 for parity
unfoldable pub one_width : OneOperand → ℕ → ℕ
one_width Not w = w
one_width Parity w = 1

-- the result of an operator of one operand of w bits
unfoldable pub one_number : OneOperand → ℕ → ℕ → ℕ
one_number Not w a = inverted w a
one_number Parity w a = parity a

-- the result's width, from the operands': their own, but 1 for equal
unfoldable pub two_width : TwoOperand → ℕ → ℕ
two_width And w = w
two_width Or w = w
two_width Xor w = w
two_width Add w = w
two_width Equal w = 1

-- the result of an operator of two operands of w bits
unfoldable pub two_number : TwoOperand → ℕ → ℕ → ℕ → ℕ
two_number And w a b = bit_and a b
two_number Or w a b = bit_or a b
two_number Xor w a b = bit_xor a b
two_number Add w a b = sum w a b
two_number Equal w a b = same a b
