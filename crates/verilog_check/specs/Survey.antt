-- The first assignment to each variable, by one pass over the bytes of processes: every field that holds statements is stepped into, every other is passed over.
use Rattle.std.specs.Prelude.{List, [], ◌∷◌, Option, ℕ, zero, suc, ◌+◌, ◌-◌, get_or}
use Rattle.tagged.specs.Fields.{open_of, on_field}
use Rattle.tagged.specs.declared.sorts.StatementSort.{StatementSort}
use Rattle.tagged.specs.declared.sorts.Sort.{Sort}
use Rattle.verilog_check.specs.declared.assignments.First.{First}
use Rattle.verilog_check.specs.Tables.{note_first}

-- how many bytes further the next field stands, after one of n bytes of payload
unfoldable pub step_over : Sort → ℕ → ℕ
step_over (Sort.Statement (StatementSort.Assign kind)) n = n + 3
step_over (Sort.Statement (StatementSort.AssignBit kind)) n = n + 3
step_over (Sort.Statement StatementSort.If) n = 3
step_over (Sort.Statement StatementSort.Case) n = 3
step_over Sort.Process n = 3
step_over Sort.Item n = 3
step_over Sort.Block n = 3
step_over Sort.Module n = n + 3
step_over (Sort.Declaration d) n = n + 3
step_over (Sort.Expression e) n = n + 3
step_over (Sort.Cell c) n = n + 3
step_over Sort.Drive n = n + 3
step_over Sort.Netlist n = n + 3
step_over Sort.Unknown n = n + 3

-- how many processes have begun after a field of this sort
unfoldable pub begun_after : Sort → ℕ → ℕ
begun_after Sort.Process begun = begun + 1
begun_after (Sort.Statement s) begun = begun
begun_after Sort.Item begun = begun
begun_after Sort.Block begun = begun
begun_after Sort.Module begun = begun
begun_after (Sort.Declaration d) begun = begun
begun_after (Sort.Expression e) begun = begun
begun_after (Sort.Cell c) begun = begun
begun_after Sort.Drive begun = begun
begun_after Sort.Netlist begun = begun
begun_after Sort.Unknown begun = begun

-- the table after a field of this sort whose payload begins with this byte
unfoldable pub noted : Sort → ℕ → ℕ → List (Option First) → List (Option First)
noted (Sort.Statement (StatementSort.Assign kind)) v begun firsts = note_first firsts v begun kind
noted (Sort.Statement (StatementSort.AssignBit kind)) v begun firsts = note_first firsts v begun kind
noted (Sort.Statement StatementSort.If) v begun firsts = firsts
noted (Sort.Statement StatementSort.Case) v begun firsts = firsts
noted Sort.Process v begun firsts = firsts
noted Sort.Item v begun firsts = firsts
noted Sort.Block v begun firsts = firsts
noted Sort.Module v begun firsts = firsts
noted (Sort.Declaration d) v begun firsts = firsts
noted (Sort.Expression e) v begun firsts = firsts
noted (Sort.Cell c) v begun firsts = firsts
noted Sort.Drive v begun firsts = firsts
noted Sort.Netlist v begun firsts = firsts
noted Sort.Unknown v begun firsts = firsts

-- the table after a list of bytes; the first number is how many bytes are still to be passed over, the second how many processes have begun
unfoldable pub survey_from : ℕ → ℕ → List ℕ → List (Option First) → List (Option First)
survey_from skip begun [] firsts = firsts
survey_from zero begun (x ∷ l) firsts =
    on_field (open_of 0 0 (x ∷ l)) (λ s n. survey_from (step_over s n - 1) (begun_after s begun) l (noted s (get_or l 2 0) begun firsts)) firsts
survey_from (suc k) begun (x ∷ l) firsts = survey_from k begun l firsts
