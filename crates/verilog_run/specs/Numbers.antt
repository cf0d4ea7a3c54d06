-- An expression's value as the code computes it: without stopping, and 0 where there is none.
use Rattle.std.specs.Prelude.{List, ℕ, get_or}
use Rattle.words.specs.Bits.{bit}
use Rattle.words.specs.Operators.{one_width, two_width}
use Rattle.words.specs.Results.{one_result, two_result}
use Rattle.words.specs.declared.OneOperand.{OneOperand}
use Rattle.words.specs.declared.TwoOperand.{TwoOperand}
use Rattle.verilog.specs.Tree.{Expression, constant, variable, fixed_bit, chosen_bit, one, two}
use Rattle.verilog_run.specs.declared.evaluate.Number.{Number}

-- the result of an operator, with its width
abbrev pub one_of : OneOperand → Number → Number
one_of op x = record { width = one_width op x.width; number = one_result op x.width x.number }

abbrev pub two_of : TwoOperand → Number → Number → Number
two_of op x y = record { width = two_width op x.width; number = two_result op x.width x.number y.number }

-- from the widths of the variables and their current values
unfoldable pub number_in : List ℕ → List ℕ → Expression → Number
number_in widths current (constant w v) = record { width = w; number = v }
number_in widths current (variable v) = record { width = get_or widths v 0; number = get_or current v 0 }
number_in widths current (fixed_bit v k) = record { width = 1; number = bit (get_or current v 0) k }
number_in widths current (chosen_bit v e) = record { width = 1; number = bit (get_or current v 0) (number_in widths current e).number }
number_in widths current (one op a) = one_of op (number_in widths current a)
number_in widths current (two op a b) = two_of op (number_in widths current a) (number_in widths current b)
