-- Inside their bounds the results that code computes are the operators'. By the tests that guard them.
use mathlib.Core.Path.{◌≡◌}
use Prim.Native.Nat.{ℕ, ◌≤◌, ◌<◌}
use borrow.Author.Tests.{le-leb, lt-ltb}
use Rattle.words.specs.Limits.{greatest_width}
use Rattle.words.specs.Bits.{put_bit}
use Rattle.words.specs.Operators.{one_number, two_number}
use Rattle.words.specs.Results.{one_result, two_result, put_result}
use Rattle.words.specs.declared.OneOperand.{OneOperand}
use Rattle.words.specs.declared.TwoOperand.{TwoOperand}

pub one_inside : (op : OneOperand) (w a : ℕ) → w ≤ greatest_width → one_result op w a ≡ one_number op w a
unfolding one_result
one_inside op w a h = rw (le-leb w greatest_width h)

pub two_inside : (op : TwoOperand) (w a b : ℕ) → w ≤ greatest_width → two_result op w a b ≡ two_number op w a b
unfolding two_result
two_inside op w a b h = rw (le-leb w greatest_width h)

pub put_inside : (v k b : ℕ) → k < greatest_width → b < 2 → put_result v k b ≡ put_bit v k b
unfolding put_result
put_inside v k b h l = rw (lt-ltb k greatest_width h, lt-ltb b 2 l)
