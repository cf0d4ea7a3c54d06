-- How judging a field's payload goes on once its first bytes or fields were judged.
use Rattle.std.specs.Prelude.{◌≡◌, ℕ, Result, Ok, Err}
use Rattle.tagged.specs.declared.answers.Fault.{Fault}
use Rattle.tagged.specs.Fields.{Judge, Judged}
use Rattle.tagged.specs.Payloads.{over}
use Rattle.verilog.specs.declared.reader.Reader.{Reader}

-- what `next` answers of what is left, or the fault that was met before
abbrev pub judged_on : Judge → Result Reader Fault → Judged
judged_on next (Ok reader) = over next reader.left
judged_on next (Err fault) = Err fault

-- as many levels may be opened as before
abbrev pub LevelsKept : ℕ → Result Reader Fault → Type 0
LevelsKept levels (Ok reader) = reader.levels ≡ levels
LevelsKept levels (Err fault) = Unit {0}

-- judging something first and then `next` is judging by `next` what was reached
abbrev pub Leads : (Judge → Judge) → Reader → Result Reader Fault → Type 0
Leads first reader reached = (next : Judge) → over (first next) reader.left ≡ judged_on next reached
