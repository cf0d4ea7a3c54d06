-- What the code of a run does to the values, over the bytes of processes. The number d is how many levels may be opened.
use Rattle.std.specs.Prelude.{◌≡◌, Bool, cond, List, [], ◌∷◌, Option, None, ℕ, zero, suc, eqb, get_or, drop, map}
use Rattle.words.specs.Results.{put_result}
use Rattle.tagged.specs.Bytes.{four_of}
use Rattle.tagged.specs.Choice.{choose}
use Rattle.tagged.specs.Sorts.{on_statement, is_sort}
use Rattle.tagged.specs.Fields.{Placed, Field, fields_at}
use Rattle.tagged.specs.declared.sorts.Kind.{Kind}
use Rattle.tagged.specs.declared.sorts.StatementSort.{StatementSort}
use Rattle.tagged.specs.declared.sorts.Sort.{Sort}
use Rattle.verilog.specs.Reading.{front_by, after_front, expression_in, by_branch}
use Rattle.verilog.specs.Cycle.{State, held, changed, settled, is_non_blocking}
use Rattle.verilog_check.specs.declared.assignments.First.{First}
use Rattle.verilog_check.specs.Tables.{kind_of}
use Rattle.verilog_run.specs.declared.variables.Variable.{Variable}
use Rattle.verilog_run.specs.Numbers.{number_in}

-- the widths of the variables that the code holds, and their values
abbrev pub widths_of : List Variable → List ℕ
widths_of l = map (λ (v : Variable). v.width) l

abbrev pub state_of : List Variable → State
state_of l = record { current = map (λ (v : Variable). v.current) l; pending = map (λ (v : Variable). v.pending) l }

-- a run of the variables by what it does to their values: their widths stay
pub record Runs (run : List ℕ → State → State) (before after : List Variable) : Type 0 where
  pub widths : widths_of after ≡ widths_of before
  pub values : state_of after ≡ run (widths_of before) (state_of before)

-- both values of each variable begin as the row's
abbrev pub begun : List ℕ → State
begun row = record { current = row; pending = row }

-- runs a field: its sort, its payload, the values before, the values after
abbrev pub Runner : Type 0
Runner = Sort → List ℕ → State → State

-- the fields of a list, one after the other
unfoldable pub run_all : Runner → List (Placed Field) → State → State
run_all run [] state = state
run_all run (x ∷ l) state = run_all run l (run x.what.sort x.what.payload state)

-- the number of the expression at the front of a part
abbrev pub front_number : List ℕ → ℕ → List ℕ → State → ℕ
front_number widths d l state = (number_in widths state.current (expression_in d l)).number

-- an assignment; one to a bit puts it into the value that an assignment of its kind changes
unfoldable pub assigned : List ℕ → ℕ → Kind → List ℕ → State → State
assigned widths d kind l state = changed kind state (get_or l 0 0) (front_number widths d (drop 1 l) state)

unfoldable pub assigned_bit : List ℕ → ℕ → Kind → List ℕ → State → State
assigned_bit widths d kind l state =
    changed kind state (get_or l 0 0) (put_result (held kind state (get_or l 0 0)) (get_or l 1 0) (front_number widths d (drop 2 l) state))

-- the value of an item's constant
abbrev pub item_value : List ℕ → ℕ
item_value l = front_by (λ t p. four_of (drop 1 p)) 0 l

-- the block at the front of a part, by `run`
abbrev pub front_block : Runner → List ℕ → State → State
front_block run l state = front_by (λ s p. run s p state) state l

-- the first item of this value, else the block; `item` runs an item's payload, `block` a block
unfoldable pub run_items : (List ℕ → State → State) → Runner → ℕ → List (Placed Field) → State → State
run_items item block x [] state = state
run_items item block x (f ∷ l) state =
    let p : List ℕ = f.what.payload in
    by_branch f.what.sort (choose (eqb (item_value p) x) (λ _. item p state) (λ _. run_items item block x l state)) (block f.what.sort p state) state

-- a statement by its sort; `block` runs a block, `item` an item's payload
abbrev pub statement_run : List ℕ → ℕ → Runner → (List ℕ → State → State) → StatementSort → List ℕ → State → State
statement_run widths d block item (StatementSort.Assign kind) l state = assigned widths d kind l state
statement_run widths d block item (StatementSort.AssignBit kind) l state = assigned_bit widths d kind l state
statement_run widths d block item StatementSort.If l state =
    choose (eqb (front_number widths d l state) 1) (λ _. front_block block (after_front l) state) (λ _. front_block block (after_front (after_front l)) state)
statement_run widths d block item StatementSort.Case l state = run_items item block (front_number widths d l state) (fields_at 0 (after_front l)) state

unfoldable mutual
  pub run_statement : List ℕ → ℕ → Runner
  run_statement widths zero s l state = state
  run_statement widths (suc d) s l state =
      on_statement s (λ t. statement_run widths d (λ u p x. run_block widths d u p x) (λ p x. run_item widths d p x) t l state) state

  -- a block's statements
  pub run_block : List ℕ → ℕ → Runner
  run_block widths zero s l state = state
  run_block widths (suc d) s l state = cond (is_sort Sort.Block s) (run_all (λ u p x. run_statement widths d u p x) (fields_at 0 l) state) state

  -- an item's block, which follows its constant
  pub run_item : List ℕ → ℕ → List ℕ → State → State
  run_item widths zero l state = state
  run_item widths (suc d) l state = front_block (λ u p x. run_block widths d u p x) (after_front l) state

-- a process's statements have 30 levels left
unfoldable pub run_process : List ℕ → Runner
run_process widths s l state = cond (is_sort Sort.Process s) (run_all (run_statement widths 30) (fields_at 0 l) state) state

-- the processes of a list
unfoldable pub run_processes : List ℕ → List ℕ → State → State
run_processes widths l state = run_all (run_process widths) (fields_at 0 l) state

-- is a variable assigned by non-blocking? By the table of first assignments: rule 9 leaves a variable only one kind
abbrev pub delayed_by : List (Option First) → ℕ → Bool
delayed_by firsts v = is_non_blocking (kind_of (get_or firsts v None))

-- the row that the values are settled to
abbrev pub settled_state : List (Option First) → State → List ℕ
settled_state firsts s = settled (delayed_by firsts) 0 s.current s.pending
