-- What the code knows of the variables, in tables: the width of each, whether it is a register, and the first assignment to it.
use Rattle.std.specs.Prelude.{Bool, true, cond, ◌&&◌, not, List, [], map, Option, Some, None, is_some, is_none, ℕ, ◌+◌, eqb, get_or, set}
use Rattle.tagged.specs.Declarations.{Declaration, input}
use Rattle.tagged.specs.declared.sorts.Kind.{Kind}
use Rattle.verilog.specs.Rules.{is_blocking, same_kind}
use Rattle.verilog_check.specs.declared.assignments.First.{First}

-- variables of these widths; rules 7 and 8 ask for no more of a declaration
abbrev pub variables_of : List ℕ → List Declaration
variables_of widths = map (λ w. input w []) widths

-- an assignment of this kind in the process of this number, counted from 1
abbrev pub first_by : ℕ → Kind → First
first_by process kind = record { kind = kind; process = process }

-- the table with an assignment to variable v, unless there was one before
unfoldable pub with_first : List (Option First) → ℕ → First → List (Option First)
with_first firsts v first = cond (is_none (get_or firsts v None)) (set firsts v (Some first)) firsts

-- the table with an assignment of this kind to variable v, after so many processes have begun; one by blocking before any process counts as none
unfoldable pub note_first : List (Option First) → ℕ → ℕ → Kind → List (Option First)
note_first firsts v begun kind = cond (eqb begun 0 && is_blocking kind) firsts (with_first firsts v (first_by begun kind))

-- the kind of a first assignment; where there is none, as if it were by blocking
abbrev pub kind_of : Option First → Kind
kind_of None = Kind.Blocking
kind_of (Some first) = first.kind

-- a first assignment stands in another process than the one that is counted so from 0; one that is none stands in no process
abbrev pub is_elsewhere : ℕ → Option First → Bool
is_elsewhere process None = true
is_elsewhere process (Some first) = not (eqb first.process (process + 1))

-- the first assignment to a variable is of another kind than this
abbrev pub other_kind : List (Option First) → Kind → ℕ → Bool
other_kind firsts kind v = not (same_kind (kind_of (get_or firsts v None)) kind)

-- the first assignment to a variable stands in another process than this
abbrev pub other_process : List (Option First) → ℕ → ℕ → Bool
other_process firsts process v = is_elsewhere process (get_or firsts v None)

-- the first assignment to a variable is by blocking, and in another process than this
abbrev pub blocked_elsewhere : List (Option First) → ℕ → ℕ → Bool
blocked_elsewhere firsts process v = is_some (get_or firsts v None) && is_blocking (kind_of (get_or firsts v None)) && other_process firsts process v
