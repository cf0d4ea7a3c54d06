-- What the code of a run makes of the parts of a statement's payload, over bytes that were written: the number of the expression at the front, a block's field
-- by its statements, an item's constant and block. From the laws of written fields and of the numbers of expressions. Assumes nothing.
use mathlib.Core.Path.{◌≡◌, sym, ap, ap₂, ◌∙◌}
use mathlib.Core.List.{List, [], ◌∷◌, ◌++◌, map, append-nil}
use Prim.Native.Nat.{ℕ, zero, suc, ◌^◌, ◌≤◌, ◌<◌}
use native.Mathlib.Omega.{arith}
use lib.Dec.{eqb}
use lib.ListN.{length, drop}
use Rattle.words.specs.Results.{put_result}
use Rattle.tagged.specs.Bytes.{four_of}
use Rattle.tagged.specs.Choice.{choose}
use Rattle.tagged.specs.Fields.{fields_at}
use Rattle.tagged.specs.Declarations.{Declaration, width_of}
use Rattle.tagged.specs.declared.sorts.Kind.{Kind}
use Rattle.tagged.specs.declared.sorts.StatementSort.TheVariants as StatementSort
use Rattle.tagged.specs.declared.sorts.Sort.TheVariants as Sort
use Rattle.tagged.proofs.SortLaws.{is_itself}
use Rattle.verilog.specs.Tree.{Expression, Block}
use Rattle.verilog.specs.Form.{expression_bytes, block_payload, block_bytes}
use Rattle.verilog.specs.Reading.{after_front}
use Rattle.verilog.specs.Fits.{longest_field, FitsExpression, expression_depth, statements_depth}
use Rattle.verilog.specs.Cycle.{State, held, changed}
use Rattle.verilog.proofs.FrontLaws.{stands_after}
use Rattle.verilog.proofs.ExpressionBytes.{four_read, expression_stands, expression_read}
use Rattle.verilog.proofs.WrittenFields.{front_field, constant_bytes, front_constant, after_constant}
use Rattle.verilog.proofs.Typed.{Typed, WidthsFit}
use Rattle.verilog.proofs.NeverStops.{typed_evaluates, StateFits}
use Rattle.verilog_run.specs.declared.evaluate.Number.{Number}
use Rattle.verilog_run.specs.Numbers.{number_in}
use Rattle.verilog_run.specs.Execution.{run_all, front_number, assigned, assigned_bit, item_value, front_block, run_items, run_statement, run_block, run_item}
use Rattle.verilog_run.proofs.NumberLaws.{number_computed}

-- the widths that the code holds
abbrev pub widths_of : List Declaration → List ℕ
widths_of ds = map width_of ds

-- a statement by the expression in its payload: what is left to run
module _ {ds : List Declaration} (widths : WidthsFit ds) {s : State} (f : StateFits ds s) {e : Expression} (t : Typed ds e) (fits : FitsExpression e)
    (d : ℕ) (deep : expression_depth e ≤ d) (long : length (expression_bytes e) ≤ longest_field) where
  abbrev value_number : ℕ
  value_number = (typed_evaluates f.current t).number

  front_number_lem : (after : List ℕ) → front_number (widths_of ds) d (expression_bytes e ++ after) s ≡ value_number
  front_number_lem after =
      ap (λ (x : Expression). (number_in (widths_of ds) s.current x).number) (expression_read d e fits deep long after)
      ∙ ap (λ (x : Number). x.number) (number_computed widths f.current t _ (typed_evaluates f.current t).runs)

  last_number : front_number (widths_of ds) d (expression_bytes e) s ≡ value_number
  last_number = ap (λ (l : List ℕ). front_number (widths_of ds) d l s) (sym (append-nil (expression_bytes e))) ∙ front_number_lem []

  after_expression : (after : List ℕ) → after_front (expression_bytes e ++ after) ≡ after
  after_expression after = stands_after (expression_stands d e fits deep long) after

  pub assign_starts : (kind : Kind) (v : ℕ) → run_statement (widths_of ds) (suc d) (Sort.Statement (StatementSort.Assign kind)) (v ∷ expression_bytes e) s ≡
      changed kind s v value_number
  unfolding run_statement assigned
  assign_starts kind v = ap (changed kind s v) last_number

  pub assign_bit_starts : (kind : Kind) (v k : ℕ) → run_statement (widths_of ds) (suc d) (Sort.Statement (StatementSort.AssignBit kind)) (v ∷ k ∷ expression_bytes e) s ≡
      changed kind s v (put_result (held kind s v) k value_number)
  unfolding run_statement assigned_bit
  assign_bit_starts kind v k = ap (λ (n : ℕ). changed kind s v (put_result (held kind s v) k n)) last_number

  pub if_starts : (blocks : List ℕ) → run_statement (widths_of ds) (suc d) (Sort.Statement StatementSort.If) (expression_bytes e ++ blocks) s ≡
      choose (eqb value_number 1) (λ _. front_block (run_block (widths_of ds) d) blocks s) (λ _. front_block (run_block (widths_of ds) d) (after_front blocks) s)
  unfolding run_statement
  if_starts blocks =
      ap₂ (λ (n : ℕ) (l : List ℕ). choose (eqb n 1) (λ _. front_block (run_block (widths_of ds) d) l s) (λ _. front_block (run_block (widths_of ds) d) (after_front l) s))
      (front_number_lem blocks) (after_expression blocks)

  pub case_starts : (items : List ℕ) → run_statement (widths_of ds) (suc d) (Sort.Statement StatementSort.Case) (expression_bytes e ++ items) s ≡
      run_items (run_item (widths_of ds) d) (run_block (widths_of ds) d) value_number (fields_at 0 items) s
  unfolding run_statement
  case_starts items =
      ap₂ (λ (n : ℕ) (l : List ℕ). run_items (run_item (widths_of ds) d) (run_block (widths_of ds) d) n (fields_at 0 l) s) (front_number_lem items) (after_expression items)

-- a block's field, by what is known of its statements
module _ (widths : List ℕ) (s : State) {t : State} (b : Block) (short : length (block_payload b) < 65536) (d : ℕ) (deep : suc (statements_depth b) ≤ d)
    (known : (d : ℕ) → statements_depth b ≤ d → run_all (run_statement widths d) (fields_at 0 (block_payload b)) s ≡ t) where
  pub block_runs : run_block widths d Sort.Block (block_payload b) s ≡ t
  unfolding run_block
  block_runs = go d deep
    where
      go : (d : ℕ) → suc (statements_depth b) ≤ d → run_block widths d Sort.Block (block_payload b) s ≡ t
      go zero deep = absurd (omega arith)
      go (suc d) deep = rw (is_itself Sort.Block) (known d (omega arith))

  pub front_block_runs : (after : List ℕ) → front_block (run_block widths d) (block_bytes b ++ after) s ≡ t
  unfolding block_bytes
  front_block_runs after = front_field Sort.Block (block_payload b) after short (λ u p. run_block widths d u p s) s ∙ block_runs

  pub last_block_runs : front_block (run_block widths d) (block_bytes b) s ≡ t
  last_block_runs = ap (λ (l : List ℕ). front_block (run_block widths d) l s) (sym (append-nil (block_bytes b))) ∙ front_block_runs []

-- an item's payload: its constant, then its block
pub item_value_lem : (w v : ℕ) (after : List ℕ) → v < 2 ^ 32 → item_value (constant_bytes w v ++ after) ≡ v
item_value_lem w v after h = front_constant w v after (λ u p. four_of (drop 1 p)) 0 ∙ four_read v h

pub item_block : (widths : List ℕ) (d w v : ℕ) (after : List ℕ) (s : State) → run_item widths (suc d) (constant_bytes w v ++ after) s ≡ front_block (run_block widths d) after s
unfolding run_item
item_block widths d w v after s = ap (λ (l : List ℕ). front_block (run_block widths d) l s) (after_constant w v after)
