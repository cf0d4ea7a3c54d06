-- What the code writes for one cycle of an accepted module is what its cycle gives: the bytes that it runs are those of its processes, the values
-- begin as the row's, and the first assignment to a register tells whether it is delayed.
use Rattle.std.specs.Prelude.{Option, None}
use mathlib.Core.Path.{◌≡◌, refl, sym, ap, ◌∙◌}
use mathlib.Core.Bool.{true}
use mathlib.Core.List.{List, map}
use Prim.Native.Nat.{ℕ, ◌*◌, ◌^◌, ◌≤◌, ◌<◌}
use native.Mathlib.Omega.{arith}
use lib.ListN.{length, get_or, take, drop, length-map, length-take}
use lib.Seq.{sets}
use borrow.Author.Tests.{eq-eqb}
use Rattle.words.specs.Values.{Outcome, got}
use Rattle.tagged.specs.Limits.{most_variables}
use Rattle.tagged.specs.Bytes.{AllBytes}
use Rattle.tagged.specs.Fields.{all_bytes_of, unplaced}
use Rattle.tagged.specs.Declarations.{width_of, declarations_in, after_declarations, variable_table}
use Rattle.tagged.specs.Rows.{row_bytes, row_numbers, row_answer, all_fit}
use Rattle.tagged.specs.Runs.{row_left}
use Rattle.tagged.specs.declared.declarations.VariableTable.{VariableTable}
use Rattle.tagged.specs.Answers.{acceptance}
use Rattle.tagged.proofs.WriteLaws.{sets_all}
use Rattle.tagged.proofs.RowLaws.{bytes_length, fits_length, RowAccepted, row_accepted}
use Rattle.tagged.proofs.TableLaws.{count_fits, widths_all}
use Rattle.verilog.specs.Tree.{Module}
use Rattle.verilog.specs.Form.{process_bytes}
use Rattle.verilog.specs.Fits.{FitsModule, processes_depth}
use Rattle.verilog.specs.Reading.{module_in}
use Rattle.verilog.specs.Answer.{tree_answer, module_answer}
use Rattle.verilog.specs.Cycle.{State, delays_any, settled, module_cycle}
use Rattle.verilog.specs.Run.{file_widths, cycle_of}
use Rattle.verilog.proofs.Typed.{TypedModule}
use Rattle.verilog.proofs.FitLaws.{fits_of_test, test_of_fits}
use Rattle.verilog.proofs.NeverStops.{StateFits, typed_all_run, settled_fits}
use Rattle.verilog.proofs.AcceptedTyped.{accepted_typed}
use Rattle.verilog.proofs.AcceptedModule.{accepted_tree}
use Rattle.verilog_check.specs.Survey.{survey_from}
use Rattle.verilog_check.proofs.Firsts.{first_in}
use Rattle.verilog_check.proofs.RulesByTables.{process_fields}
use Rattle.verilog_check.specs.declared.assignments.First.{First}
use Rattle.verilog_check.proofs.Delayed.{delayed_by_first}
use Rattle.verilog_check.proofs.TreeAnswers.{tree_fits, processes_deep, list_is, list_long, firsts_told}
use Rattle.verilog_run.specs.Execution.{begun, run_processes, delayed_by, settled_state}
use Rattle.verilog_check.proofs.AcceptedFile.{one_kind, length_accepted, form_passed, few_variables, payload_short, payload_declared, variables_told}
use Rattle.verilog_run.proofs.ExecutionLaws.{processes_run}
use Rattle.verilog_run.proofs.SettledLaws.{settled_agree}

-- the cycle of a tree that is accepted, from a row that fits, by the bytes of its processes and a table of first assignments
module _ (m : Module) (accepted : tree_answer 3 m ≡ acceptance) (few : length m.declarations ≤ most_variables) (fits : FitsModule m)
    (deep : processes_depth m.processes ≤ 31) (long : length (all_bytes_of process_bytes m.processes) ≤ 16384)
    (firsts : List (Option First)) (told : (v : ℕ) → v < most_variables → get_or firsts v None ≡ first_in v (unplaced (process_fields 3 m)))
    (row : List ℕ) (fit : all_fit (map width_of m.declarations) row ≡ true) where
  abbrev widths : List ℕ
  widths = map width_of m.declarations

  typed : TypedModule m
  typed = accepted_typed 3 m accepted

  row_begins : StateFits m.declarations (begun row)
  row_begins = record { current = fits_of_test widths row fit; pending = fits_of_test widths row fit }

  abbrev ran : State
  ran = (typed_all_run typed.processes row_begins).leaves.left

  code_ran : run_processes widths (all_bytes_of process_bytes m.processes) (begun row) ≡ ran
  code_ran =
      processes_run m.declarations m.processes typed.processes typed.widths fits.processes deep (omega arith) (begun row) row_begins ran
      (typed_all_run typed.processes row_begins).leaves.runs

  current-length : length ran.current ≡ length m.declarations
  current-length = fits_length widths ran.current (test_of_fits (typed_all_run typed.processes row_begins).leaves.fits.current) ∙ length-map m.declarations width_of

  settled_same : settled (delays_any m.processes) 0 ran.current ran.pending ≡ settled_state firsts ran
  settled_same =
      settled_agree (delays_any m.processes) (delayed_by firsts) ran.current ran.pending
      (λ v h. delayed_by_first 3 m firsts told (one_kind m accepted) v (omega (arith, current-length)))

  pub cycle_by_code : module_cycle m row ≡ got (settled_state firsts (run_processes widths (all_bytes_of process_bytes m.processes) (begun row)))
  unfolding module_cycle
  cycle_by_code =
      let counted : length row ≡ length m.declarations = fits_length widths row fit ∙ length-map m.declarations width_of in
      rw (eq-eqb (length row) (length m.declarations) counted, (typed_all_run typed.processes row_begins).leaves.runs)
      (ap got (settled_same ∙ ap (settled_state firsts) (sym code_ran)))

  pub cycle_length : length (settled_state firsts (run_processes widths (all_bytes_of process_bytes m.processes) (begun row))) ≡ length widths
  cycle_length =
      let left = (typed_all_run typed.processes row_begins).leaves.fits in
      ap length (ap (settled_state firsts) code_ran ∙ sym settled_same)
      ∙ fits_length widths (settled (delays_any m.processes) 0 ran.current ran.pending)
      (test_of_fits (settled_fits (delays_any m.processes) 0 left.current left.pending))

-- the parts of a file that is accepted are short, and its table has room for its variables
module _ (file : List ℕ) (accepted : module_answer file ≡ acceptance) (payload : List ℕ) (part : payload ≡ drop 3 file) where
  pub payload_bound : length payload ≤ 2 ^ 40
  payload_bound = omega (arith, payload_short file accepted payload part)

  module _ (table : VariableTable) (made : table ≡ variable_table (declarations_in payload)) where
    pub count_bound : table.count ≤ 64
    count_bound = omega (arith, count_fits (declarations_in payload) table made (variables_told file accepted payload part))

    pub table_widths : take table.count table.widths ≡ file_widths file
    table_widths = widths_all (declarations_in payload) table made (variables_told file accepted payload part) ∙ ap (map width_of) (payload_declared file accepted payload part)

    pub table_room : {A : Type 0} (l : List A) → length l ≡ 64 → table.count ≡ length (take table.count l)
    table_room l whole = omega (arith, count_bound, length-take table.count l)

-- one cycle of a file that is accepted, from a row that fits
module _ (file row next : List ℕ) (bytes : AllBytes file) (accepted : module_answer file ≡ acceptance)
    (rows : row_answer (file_widths file) row (length next) ≡ acceptance) (payload : List ℕ) (part : payload ≡ drop 3 file)
    (list : List ℕ) (rest : list ≡ after_declarations payload) where
  processes_long : length list ≤ 16384
  processes_long = omega (arith, list_long file bytes (length_accepted file accepted) (form_passed file accepted) payload part _ refl list rest)

  processes_are : list ≡ all_bytes_of process_bytes (module_in file).processes
  processes_are = list_is file bytes (length_accepted file accepted) (form_passed file accepted) payload part _ refl list rest

  module _ (table : VariableTable) (made : table ≡ variable_table (declarations_in payload)) (empty : List (Option First)) (room : length empty ≡ most_variables)
      (none : (v : ℕ) → get_or empty v None ≡ None) (firsts : List (Option First)) (surveyed : firsts ≡ survey_from 0 0 list empty) (numbers : List ℕ) (read : numbers ≡ row_numbers table.count row) where
    fit : RowAccepted (file_widths file) row (length next)
    fit = row_accepted (file_widths file) row (length next) rows

    count_is : table.count ≡ length (file_widths file)
    unfolding variable_table
    count_is =
        ap (λ (t : VariableTable). t.count) made ∙ ap length (payload_declared file accepted payload part) ∙ sym (length-map (module_in file).declarations width_of)

    begins : numbers ≡ row_numbers (length (file_widths file)) row
    begins = read ∙ ap (λ (k : ℕ). row_numbers k row) count_is

    abbrev after : List ℕ
    after = settled_state firsts (run_processes (file_widths file) (all_bytes_of process_bytes (module_in file).processes)
        (begun (row_numbers (length (file_widths file)) row)))

    told : (v : ℕ) → v < most_variables → get_or firsts v None ≡ first_in v (unplaced (process_fields 3 (module_in file)))
    told = firsts_told file bytes (length_accepted file accepted) (form_passed file accepted) payload part _ refl list rest empty room none firsts surveyed

    pub cycle_written : (left : List ℕ) → left ≡ sets next 0 (row_bytes (settled_state firsts (run_processes (take table.count table.widths) list (begun numbers)))) →
        left ≡ row_left acceptance (cycle_of file row) next
    cycle_written left e =
        let m = module_in file in
        let tree = accepted_tree file accepted in
        let fits = tree_fits file bytes (length_accepted file accepted) (form_passed file accepted) payload part in
        let deep = processes_deep file bytes (length_accepted file accepted) (form_passed file accepted) payload part in
        let short : length (all_bytes_of process_bytes m.processes) ≤ 16384 = omega (arith, processes_long, ap length processes_are) in
        let few = few_variables file accepted in
        let cycle = cycle_by_code m tree few fits deep short firsts told (row_numbers (length (file_widths file)) row) fit.fits in
        let long = cycle_length m tree few fits deep short firsts told (row_numbers (length (file_widths file)) row) fit.fits in
        let all : length (row_bytes after) ≡ length next = bytes_length after ∙ ap (λ (k : ℕ). 4 * k) long ∙ sym fit.next in
        e ∙ rw (table_widths file accepted payload part table made, processes_are, begins) (sets_all next (row_bytes after) all) ∙ ap (λ (o : Outcome (List ℕ)). row_left acceptance o next) (sym cycle)
