-- What falls with each call of the cycle: four times the depth that is left, and at one depth a rank.
use Prim.Native.Nat.{◌+◌, ◌*◌}
use Rattle.verilog.proofs.+blocks.Given as goal

abbrev pub decreases-reader::Reader::block : goal.decreases-reader::Reader::block
decreases-reader::Reader::block l = 4 * l.self.levels + 2

abbrev pub decreases-reader::Reader::block-field : goal.decreases-reader::Reader::block-field
decreases-reader::Reader::block-field l = 4 * l.self-levels + 1

abbrev pub decreases-form::block_body : goal.decreases-form::block_body
decreases-form::block_body l = 4 * l.depth

abbrev pub decreases-form::item_body : goal.decreases-form::item_body
decreases-form::item_body l = 4 * l.depth

abbrev pub decreases-reader::Reader::items : goal.decreases-reader::Reader::items
decreases-reader::Reader::items l = 4 * l.self.levels + 2

abbrev pub decreases-reader::Reader::items-many : goal.decreases-reader::Reader::items-many
decreases-reader::Reader::items-many l = 4 * l.self-levels + 1

abbrev pub decreases-form::statement_body : goal.decreases-form::statement_body
decreases-form::statement_body l = 4 * l.depth

abbrev pub decreases-reader::Reader::statement_parts : goal.decreases-reader::Reader::statement_parts
decreases-reader::Reader::statement_parts l = 4 * l.self.levels + 3

abbrev pub decreases-reader::Reader::statements : goal.decreases-reader::Reader::statements
decreases-reader::Reader::statements l = 4 * l.self.levels + 2

abbrev pub decreases-reader::Reader::statements-until_end : goal.decreases-reader::Reader::statements-until_end
decreases-reader::Reader::statements-until_end l = 4 * l.self-levels + 1
