-- What is settled at the end of a cycle asks which registers are delayed only of the row's own variables; and one turn of the loop that settles.
-- By induction on the row. Assumes nothing.
use Rattle.std.specs.Prelude.{Option}
use mathlib.Core.Path.{◌≡◌, refl, ap₂}
use mathlib.Core.Bool.{Bool, cond}
use mathlib.Core.List.{List, [], ◌∷◌, ◌++◌, append_assoc, append-nil}
use Prim.Native.Nat.{ℕ, suc, ◌+◌, ◌≤◌, ◌<◌}
use native.Mathlib.Nat.{add-zero}
use native.Mathlib.Numerals.{add-one}
use native.Mathlib.Omega.{arith}
use lib.ListN.{length, get_or, take, drop, set, drop_of_length-le, length-map}
use lib.Seq.{drop-cons, drop-drop, get_or-drop, take_all, take-suc-set}
use Rattle.verilog.specs.Cycle.{settled}
use Rattle.verilog_check.specs.declared.assignments.First.{First}
use Rattle.verilog_run.specs.declared.variables.Variable.{Variable}
use Rattle.verilog_run.specs.Execution.{state_of, delayed_by, settled_state}
use Rattle.verilog_run.proofs.VariableLaws.{nothing, current_at, pending_at}

module _ (delayed known : ℕ → Bool) where
  -- from variable v on
  settled_from : (v : ℕ) (current pending : List ℕ) → ((u : ℕ) → v ≤ u → u < v + length current → delayed u ≡ known u) →
      settled delayed v current pending ≡ settled known v current pending
  unfolding settled
  settled_from v [] pending agree = refl
  settled_from v (c ∷ current) pending agree =
      ap₂ (λ (t : Bool) (l : List ℕ). cond t (get_or pending 0 0) c ∷ l) (agree v (omega arith) (omega arith))
      (settled_from (v + 1) current (drop 1 pending) (λ u h k. agree u (omega arith) (omega arith)))

  pub settled_agree : (current pending : List ℕ) → ((v : ℕ) → v < length current → delayed v ≡ known v) →
      settled delayed 0 current pending ≡ settled known 0 current pending
  settled_agree current pending agree = settled_from 0 current pending (λ v h k. agree v (omega arith))

-- one turn of the loop that settles, which has come to the index `at`, and its end
module _ (firsts : List (Option First)) (values : List Variable) (numbers : List ℕ) (at : ℕ)
    (going : take at numbers ++ settled (delayed_by firsts) at (drop at (state_of values).current) (drop at (state_of values).pending) ≡ settled_state firsts (state_of values)) where
  pub settled_turn : at < length values → length numbers ≡ length values → (number : ℕ) →
      number ≡ cond (delayed_by firsts at) (get_or values at nothing).pending (get_or values at nothing).current →
      take (at + 1) (set numbers at number) ++ settled (delayed_by firsts) (at + 1) (drop (at + 1) (state_of values).current) (drop (at + 1) (state_of values).pending)
      ≡ settled_state firsts (state_of values)
  unfolding settled
  settled_turn h same number e =
      let current = (state_of values).current in
      let within : at < length current = omega (arith, length-map values (λ (v : Variable). v.current)) in
      let first : drop at current ≡ get_or current at 0 ∷ drop (suc at) current = drop-cons current at 0 within in
      rw (add-one, take-suc-set numbers at number (omega arith), append_assoc, e, ← current_at values at, ← pending_at values at)
      (rw (first, get_or-drop, add-zero, drop-drop, add-one) at going)

  pub settled_done : length values ≤ at → length numbers ≡ length values → numbers ≡ settled_state firsts (state_of values)
  unfolding settled
  settled_done h same =
      let past : length (state_of values).current ≤ at = omega (arith, length-map values (λ (v : Variable). v.current)) in
      rw (drop_of_length-le (state_of values).current past, take_all at numbers (omega arith), append-nil) at going
