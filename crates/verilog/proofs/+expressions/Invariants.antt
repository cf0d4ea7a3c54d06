-- What falls with each call of the cycle: four times the depth that is left, and at one depth a rank.
use Prim.Native.Nat.{◌+◌, ◌*◌}
use Rattle.verilog.proofs.+expressions.Given as goal

abbrev pub decreases-reader::Reader::expression : goal.decreases-reader::Reader::expression
decreases-reader::Reader::expression l = 4 * l.self.levels + 2

abbrev pub decreases-reader::Reader::expression-field : goal.decreases-reader::Reader::expression-field
decreases-reader::Reader::expression-field l = 4 * l.self-levels + 1

abbrev pub decreases-form::expression_body : goal.decreases-form::expression_body
decreases-form::expression_body l = 4 * l.depth

abbrev pub decreases-reader::Reader::expression_parts : goal.decreases-reader::Reader::expression_parts
decreases-reader::Reader::expression_parts l = 4 * l.self.levels + 3
