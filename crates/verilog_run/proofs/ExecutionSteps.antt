-- Laws of a run, in the form in which code asks them: what follows a field is no longer, and each field by the levels that are left.
use Rattle.std.specs.Prelude.{Ok, Err}
use mathlib.Core.Path.{◌≡◌, refl}
use mathlib.Core.Bool.{cond}
use mathlib.Core.List.{List, []}
use Prim.Native.Nat.{ℕ, zero, suc, ◌+◌, ◌-◌, ◌≤◌}
use native.Mathlib.Numerals.{sub-one}
use native.Mathlib.Omega.{arith}
use lib.ListN.{length, drop, length-drop}
use Rattle.tagged.specs.Sorts.{on_statement, is_sort}
use Rattle.tagged.specs.Fields.{Opened, open_of, on_field, fields_at}
use Rattle.tagged.specs.declared.sorts.Sort.{Sort}
use Rattle.verilog.specs.Reading.{after_front}
use Rattle.verilog.specs.Cycle.{State}
use Rattle.verilog_run.specs.Execution.{run_all, front_block, statement_run, run_statement, run_block, run_item}

-- what follows the field at the front is no longer
pub after_within : (l : List ℕ) → length (after_front l) ≤ length l
after_within l = go (open_of 0 0 l)
  where
    go : (o : Opened) → length (on_field o (λ s n. drop (n + 3) l) []) ≤ length l
    go (Ok (s, n)) = omega (arith, length-drop (n + 3) l)
    go (Err x) = omega arith

-- each field, where a level is left
pub statement_step : (widths : List ℕ) (d : ℕ) → (d ≡ 0 → ⊥) → (s : Sort) (l : List ℕ) (state : State) → run_statement widths d s l state
    ≡ on_statement s (λ t. statement_run widths (d - 1) (run_block widths (d - 1)) (run_item widths (d - 1)) t l state) state
unfolding run_statement
statement_step widths zero h s l state = absurd (h refl)
statement_step widths (suc d) h s l state = rw sub-one

pub block_step : (widths : List ℕ) (d : ℕ) → (d ≡ 0 → ⊥) → (s : Sort) (l : List ℕ) (state : State) →
    run_block widths d s l state ≡ cond (is_sort Sort.Block s) (run_all (run_statement widths (d - 1)) (fields_at 0 l) state) state
unfolding run_block
block_step widths zero h s l state = absurd (h refl)
block_step widths (suc d) h s l state = rw sub-one

pub item_step : (widths : List ℕ) (d : ℕ) → (d ≡ 0 → ⊥) → (l : List ℕ) (state : State) → run_item widths d l state ≡ front_block (run_block widths (d - 1)) (after_front l) state
unfolding run_item
item_step widths zero h l state = absurd (h refl)
item_step widths (suc d) h l state = rw sub-one
