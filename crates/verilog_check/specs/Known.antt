-- What a judge answers by what it knows of the variables.
use Rattle.std.specs.Prelude.{ℕ}
use Rattle.tagged.specs.declared.walk.Field.{Field}
use Rattle.verilog.specs.Tree.{Expression}
use Rattle.verilog.specs.Rules.{expression_width}
use Rattle.tagged.specs.Answers.{Answer}
use Rattle.verilog_check.specs.declared.judge.Judge.{Judge}
use Rattle.verilog_check.specs.Tables.{variables_of}
use Rattle.verilog_check.specs.Judged.{field_answer}
use Rattle.verilog_check.specs.Walk.{Walker}
use Rattle.verilog_check.specs.Walk as walk

-- what a field is refused for by itself
abbrev pub answer_by : Judge → walk.Judge
answer_by judge = field_answer judge.widths.now judge.marks.now judge.firsts.now judge.process

-- an expression's width
abbrev pub width_by : Judge → Expression → ℕ
width_by judge = expression_width (variables_of judge.widths.now)

-- what a walk answers at a field
abbrev pub walked : Walker → Field → Answer
walked walker field = walker field.place field.sort field.payload.now
