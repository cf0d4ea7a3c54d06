-- What the code of a run does over the bytes of typed processes is what they mean: from a state that fits, the state that executing the tree gives.
-- By induction on the typing of statements, blocks and items; the number d is how many levels may be opened. Assumes nothing.
use mathlib.Core.Path.{◌≡◌, refl, ap, ◌∙◌, subst}
use mathlib.Core.Bool.{Bool, true, false}
use mathlib.Core.List.{List, ◌∷◌, ◌++◌, map, append_assoc}
use Prim.Native.Nat.{ℕ, zero, suc, ◌+◌, ◌≤◌, ◌<◌}
use native.Mathlib.Omega.{arith}
use lib.Dec.{eqb}
use lib.ListN.{length, length-append}
use borrow.Author.Tests.{eq-eqb, lt-ltb}
use Rattle.words.specs.Limits.{greatest_width}
use Rattle.words.specs.Values.{Outcome, got}
use Rattle.words.proofs.ResultLaws.{put_inside}
use Rattle.tagged.specs.Choice.{choose}
use Rattle.tagged.specs.Sorts.{tag_of}
use Rattle.tagged.specs.Fields.{field_bytes, all_bytes_of, fields_at}
use Rattle.tagged.specs.Declarations.{Declaration, width_of, variable_width}
use Rattle.tagged.specs.declared.sorts.StatementSort.TheVariants as StatementSort
use Rattle.tagged.specs.declared.sorts.Sort.TheVariants as Sort
use Rattle.tagged.proofs.SortLaws.{is_itself}
use Rattle.tagged.proofs.ListBytes.{field_length}
use Rattle.verilog.specs.Tree.{Statement, Block, Items}
use Rattle.verilog.specs.Form.{expression_bytes, statement_field, statement_bytes, block_payload, items_bytes, block_bytes, process_bytes}
use Rattle.verilog.specs.Reading.{after_front}
use Rattle.verilog.specs.Rules.{expression_width}
use Rattle.verilog.specs.Fits.{longest_field, All, FitsStatement, FitsBlock, FitsItems, statement_depth, statements_depth, items_depth, processes_depth}
use Rattle.verilog.specs.Cycle.{State, held, changed, execute, execute_block, execute_items, execute_all}
use Rattle.verilog.proofs.ExpressionBytes.{payload_short}
use Rattle.verilog.proofs.WrittenFields.{after_field, constant_bytes}
use Rattle.verilog.proofs.Typed.{TypedStatement, assign_typed, assign_bit_typed, if_else_typed, case_typed, TypedBlock, end_typed, then_typed, TypedItems, default_typed, item_typed, TypedAll, none_typed, more_typed, WidthsFit}
use Rattle.verilog.proofs.NeverStops.{typed_evaluates, StateFits, typed_statement_runs, typed_block_runs}
use Rattle.verilog_run.specs.Execution.{run_all, front_block, run_items, run_statement, run_block, run_item, run_process, run_processes}
use Rattle.verilog_run.proofs.NumberLaws.{variable_small}
use Rattle.verilog_run.proofs.WrittenFields.{Leads, leads_on, runs_none, item_runs, default_runs}
use Rattle.verilog_run.proofs.PayloadLaws.{widths_of, assign_starts, assign_bit_starts, if_starts, case_starts, block_runs, front_block_runs, last_block_runs, item_value_lem, item_block}

-- what was got is one state
got_state : (s t : State) → got s ≡ got t → s ≡ t
got_state s t e = cc

-- the code and the meaning take the same side
either_runs : {yes' no' : Outcome State} {s u t : State} (test : Bool) → choose test (λ _. yes') (λ _. no') ≡ got t → (yes' ≡ got t → s ≡ t) → (no' ≡ got t → u ≡ t) →
    choose test (λ _. s) (λ _. u) ≡ t
either_runs true e p q = p e
either_runs false e p q = q e

module _ (ds : List Declaration) (widths : WidthsFit ds) where
  mutual
    unfolding execute FitsStatement statement_depth statement_bytes block_bytes

    statement_runs : {t : Statement} {s : State} → TypedStatement ds t → FitsStatement t → (d : ℕ) → statement_depth t ≤ d →
        length (statement_bytes t) ≤ longest_field → StateFits ds s → (left : State) → execute ds s t ≡ got left →
        Leads (run_statement (widths_of ds) d) (statement_bytes t) s left
    statement_runs (assign_typed register typed wide) fits zero deep long f left e = absurd (omega arith)
    statement_runs {s = s} (assign_typed {kind} {v} {e = value} register typed wide) fits (suc d) deep long f left e =
        let payload = v ∷ expression_bytes value in
        let short = payload_short (tag_of (Sort.Statement (StatementSort.Assign kind))) payload long in
        let x = typed_evaluates f.current typed in
        let starts = assign_starts widths f typed fits.1 d (omega arith) (omega arith) kind v in
        record {
          sort = Sort.Statement (StatementSort.Assign kind);
          payload = payload;
          field = refl;
          short = short;
          runs = starts ∙ got_state _ left (rw (x.runs, register, eq-eqb (expression_width ds value) (variable_width ds v) wide) at e);
        }
    statement_runs (assign_bit_typed register inside typed wide) fits zero deep long f left e = absurd (omega arith)
    statement_runs {s = s} (assign_bit_typed {kind} {v} {k} {e = value} register inside typed wide) fits (suc d) deep long f left e =
        let payload = v ∷ k ∷ expression_bytes value in
        let short = payload_short (tag_of (Sort.Statement (StatementSort.AssignBit kind))) payload long in
        let x = typed_evaluates f.current typed in
        let starts = assign_bit_starts widths f typed fits.2 d (omega arith) (omega arith) kind v k in
        let below : k < greatest_width = omega (arith, variable_small widths v) in
        let small : x.number < 2 = rw wide at x.small in
        let put = put_inside (held kind s v) k x.number below small in
        record {
          sort = Sort.Statement (StatementSort.AssignBit kind);
          payload = payload;
          field = refl;
          short = short;
          runs = starts ∙ ap (changed kind s v) put ∙ got_state _ left (rw (x.runs, register, wide, lt-ltb k (variable_width ds v) inside) at e);
        }
    statement_runs (if_else_typed typed wide first-typed second-typed) fits zero deep long f left e = absurd (omega arith)
    statement_runs {s = s} (if_else_typed {c} {a} {b} typed wide first-typed second-typed) fits (suc d) deep long f left e =
        let first = block_bytes a in
        let second = block_bytes b in
        let payload = expression_bytes c ++ (first ++ second) in
        let same : statement_field StatementSort.If (expression_bytes c ++ first ++ second) ≡ statement_field StatementSort.If payload =
        ap (statement_field StatementSort.If) (append_assoc (expression_bytes c) first second) in
        let short : length payload < 65536 =
        payload_short (tag_of (Sort.Statement StatementSort.If)) payload (subst (λ (l : List ℕ). length l ≤ longest_field) same long) in
        let sum : length payload ≡ length (expression_bytes c) + length (first ++ second) = length-append (expression_bytes c) (first ++ second) in
        let blocks : length (first ++ second) ≡ length first + length second = length-append first second in
        let first_short : length (block_payload a) < 65536 = omega (arith, field_length (tag_of Sort.Block) (block_payload a)) in
        let second_short : length (block_payload b) < 65536 = omega (arith, field_length (tag_of Sort.Block) (block_payload b)) in
        let x = typed_evaluates f.current typed in
        let starts = if_starts widths f typed fits.0 d (omega arith) (omega arith) (first ++ second) in
        let rest : after_front (first ++ second) ≡ second = after_field Sort.Block (block_payload a) second first_short in
        let taken : choose (eqb x.number 1) (λ _. execute_block ds s a) (λ _. execute_block ds s b) ≡ got left = rw (x.runs, wide) at e in
        record {
          sort = Sort.Statement StatementSort.If;
          payload = payload;
          field = same;
          short = short;
          runs = starts ∙ either_runs (eqb x.number 1) taken
              (λ h. front_block_runs (widths_of ds) s a first_short d (omega arith) (λ k deeper. statements_run first-typed fits.1 k deeper (omega arith) f left h 0) second)
              (λ h. ap (λ (l : List ℕ). front_block (run_block (widths_of ds) d) l s) rest
              ∙ last_block_runs (widths_of ds) s b second_short d (omega arith) (λ k deeper. statements_run second-typed fits.2 k deeper (omega arith) f left h 0));
        }
    statement_runs (case_typed typed items-typed) fits zero deep long f left e = absurd (omega arith)
    statement_runs {s = s} (case_typed {e = selector} {items} typed items-typed) fits (suc d) deep long f left e =
        let payload = expression_bytes selector ++ items_bytes items in
        let short : length payload < 65536 = payload_short (tag_of (Sort.Statement StatementSort.Case)) payload long in
        let sum : length payload ≡ length (expression_bytes selector) + length (items_bytes items) = length-append (expression_bytes selector) (items_bytes items) in
        let x = typed_evaluates f.current typed in
        let starts = case_starts widths f typed fits.0 d (omega arith) (omega arith) (items_bytes items) in
        record {
          sort = Sort.Statement StatementSort.Case;
          payload = payload;
          field = refl;
          short = short;
          runs = starts ∙ items_run items-typed fits.1 d (omega arith) (omega arith) f x.number left (rw x.runs at e) 0;
        }

    statements_run : {b : Block} {s : State} → TypedBlock ds b → FitsBlock b → (d : ℕ) → statements_depth b ≤ d → length (block_payload b) ≤ longest_field →
        StateFits ds s → (left : State) → execute_block ds s b ≡ got left → (base : ℕ) →
        run_all (run_statement (widths_of ds) d) (fields_at base (block_payload b)) s ≡ left
    statements_run {s = s} end_typed fits d deep long f left e base = runs_none (run_statement (widths_of ds) d) s base ∙ got_state s left e
    statements_run (then_typed {s = t} {b} typed rest_Typed) fits d deep long f left e base =
        let sum = length-append (statement_bytes t) (block_payload b) in
        let p = (typed_statement_runs typed f).leaves in
        let first = statement_runs typed fits.0 d (omega arith) (omega arith) f p.left p.runs in
        leads_on first (block_payload b) (λ next. statements_run rest_Typed fits.1 d (omega arith) (omega arith) p.fits left (rw p.runs at e) next) base

    items_run : {w : ℕ} {items : Items} {s : State} → TypedItems ds w items → FitsItems items → (d : ℕ) → items_depth items ≤ d →
        length (items_bytes items) ≤ longest_field → StateFits ds s → (number : ℕ) (left : State) →
        execute_items ds s (record { width = w; number = number }) items ≡ got left → (base : ℕ) →
        run_items (run_item (widths_of ds) d) (run_block (widths_of ds) d) number (fields_at base (items_bytes items)) s ≡ left
    items_run {s = s} (default_typed {b = b} typed) fits d deep long f number left e base =
        let short = payload_short (tag_of Sort.Block) (block_payload b) long in
        default_runs (run_item (widths_of ds) d) (run_block (widths_of ds) d) number (block_payload b) short base s
        ∙ block_runs (widths_of ds) s b short d deep (λ k deeper. statements_run typed fits k deeper (omega arith) f left e 0)
    items_run (item_typed is fit same typed later-typed) fits zero deep long f number left e base = absurd (omega arith)
    items_run {s = s} (item_typed {width} {w} {v} {b} {items} is fit same typed later-typed) fits (suc d) deep long f number left e base =
        let item = run_item (widths_of ds) (suc d) in
        let block = run_block (widths_of ds) (suc d) in
        let payload = constant_bytes w v ++ block_bytes b in
        let next : ℕ = base + (length payload + 3) in
        let sum = length-append (field_bytes (tag_of Sort.Item) payload) (items_bytes items) in
        let parts = length-append (constant_bytes w v) (block_bytes b) in
        let short : length payload < 65536 = omega (arith, field_length (tag_of Sort.Item) payload) in
        let block-short : length (block_payload b) < 65536 = omega (arith, field_length (tag_of Sort.Block) (block_payload b)) in
        let taken : choose (eqb v number) (λ _. execute_block ds s b) (λ _. execute_items ds s (record { width = width; number = number }) items) ≡ got left =
        rw (eq-eqb w width same) at e in
        item_runs item block number payload short base s (items_bytes items)
        ∙ ap (λ (n : ℕ). choose (eqb n number) (λ _. item payload s) (λ _. run_items item block number (fields_at next (items_bytes items)) s))
        (item_value_lem w v (block_bytes b) fits.1)
        ∙ either_runs (eqb v number) taken
        (λ h. item_block (widths_of ds) d w v (block_bytes b) s
        ∙ last_block_runs (widths_of ds) s b block-short d (omega arith) (λ k deeper. statements_run typed fits.2 k deeper (omega arith) f left h 0))
        (λ h. items_run later-typed fits.3 (suc d) (omega arith) (omega arith) f number left h next)

  -- a process, then the list of them
  process_runs : {b : Block} {s : State} → TypedBlock ds b → FitsBlock b → suc (statements_depth b) ≤ 31 → length (process_bytes b) ≤ longest_field →
      StateFits ds s → (left : State) → execute_block ds s b ≡ got left → Leads (run_process (widths_of ds)) (process_bytes b) s left
  unfolding process_bytes run_process
  process_runs {b} typed fits deep long f left e =
      let short = payload_short (tag_of Sort.Process) (block_payload b) long in
      record {
        sort = Sort.Process;
        payload = block_payload b;
        field = refl;
        short = short;
        runs = rw (is_itself Sort.Process) (statements_run typed fits 30 (omega arith) (omega arith) f left e 0);
      }

  processes_from : {ps : List Block} {s : State} → TypedAll ds ps → All FitsBlock ps → processes_depth ps ≤ 31 → length (all_bytes_of process_bytes ps) ≤ longest_field →
      StateFits ds s → (left : State) → execute_all ds s ps ≡ got left → (base : ℕ) →
      run_all (run_process (widths_of ds)) (fields_at base (all_bytes_of process_bytes ps)) s ≡ left
  unfolding execute_all All processes_depth all_bytes_of
  processes_from {s = s} none_typed fits deep long f left e base = runs_none (run_process (widths_of ds)) s base ∙ got_state s left e
  processes_from (more_typed {b} {l} typed rest_Typed) fits deep long f left e base =
      let sum = length-append (process_bytes b) (all_bytes_of process_bytes l) in
      let p = (typed_block_runs typed f).leaves in
      let first = process_runs typed fits.0 (omega arith) (omega arith) f p.left p.runs in
      leads_on first (all_bytes_of process_bytes l)
      (λ next. processes_from rest_Typed fits.1 (omega arith) (omega arith) p.fits left (rw p.runs at e) next) base

-- the processes of a module that is typed, and within the limits of its tagged form
pub processes_run : (ds : List Declaration) (ps : List Block) → TypedAll ds ps → WidthsFit ds → All FitsBlock ps → processes_depth ps ≤ 31 →
    length (all_bytes_of process_bytes ps) ≤ longest_field → (s : State) → StateFits ds s → (t : State) → execute_all ds s ps ≡ got t →
    run_processes (map width_of ds) (all_bytes_of process_bytes ps) s ≡ t
unfolding run_processes
processes_run ds ps typed widths fits deep long s f t e = processes_from ds widths typed fits deep long f t e 0
