-- What the code of the translation begins and ends with: the table in which each variable is itself, and a drive for each variable that is marked as a register.
use Rattle.std.specs.Prelude.{Bool, cond, List, [], ◌∷◌, ◌++◌, Option, None, ℕ, ◌+◌, length, get_or}
use Rattle.netlist.specs.declared.Operand.{Operand}
use Rattle.netlist.specs.declared.Drive.{Drive}
use Rattle.verilog_check.specs.Tables.{kind_of}
use Rattle.verilog_check.specs.declared.assignments.First.{First}
use Rattle.translate.specs.Tables.{operand_at}
use Rattle.translate_blocks.specs.Writing.{slot_of}

-- each variable itself, by its width; v is the first one's number
unfoldable pub start_from : ℕ → List ℕ → List Operand
start_from v [] = []
start_from v (w ∷ widths) = Operand.Variable w v ∷ start_from (v + 1) widths

-- once as the current operands, once as the pending ones
abbrev pub start_table : List ℕ → List Operand
start_table widths = start_from 0 widths ++ start_from 0 widths

-- the drive of variable v: the operand that an assignment of the kind of its first one replaces
abbrev pub drive_by : ℕ → List (Option First) → List Operand → ℕ → Drive
drive_by count firsts table v = record { variable = v; operand = operand_at table (slot_of count (kind_of (get_or firsts v None)) v) }

-- only a variable that is marked has one
unfoldable pub marked_drive : ℕ → List (Option First) → List Operand → ℕ → Bool → List Drive
marked_drive count firsts table v mark = cond mark (drive_by count firsts table v ∷ []) []

-- the drives of the variables with these marks; v is the first one's number
unfoldable pub drives_from : ℕ → List (Option First) → List Operand → ℕ → List Bool → List Drive
drives_from count firsts table v [] = []
drives_from count firsts table v (mark ∷ marks) = marked_drive count firsts table v mark ++ drives_from count firsts table (v + 1) marks

-- the drives of all variables, by their marks, their first assignments and the table
abbrev pub drives_by : List Bool → List (Option First) → List Operand → List Drive
drives_by marks firsts table = drives_from (length marks) firsts table 0 marks
