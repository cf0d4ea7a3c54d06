-- Blocks not taken: a run is quiet if it does not stop, and if no block of an if or case that is not taken, at any depth,
-- would stop when executed there from the values of that moment. Inside a block not taken the values are the supposed ones.
use Rattle.std.specs.Prelude.{Bool, true, false, ◌&&◌, List, [], ◌∷◌, ℕ, eqb, length}
use Rattle.words.specs.Values.{Outcome, stopped, got, is_got}
use Rattle.tagged.specs.Cycles.{with_inputs}
use Rattle.tagged.specs.Declarations.{Declaration}
use Rattle.verilog.specs.Tree.{Statement, assign, assign_bit, if_else, case, Block, end, ◌then◌, Items, default, item, Module}
use Rattle.verilog.specs.Cycle.{State, evaluate, execute, execute_block, module_cycle}

-- what was got passes the test
abbrev pub got_and : {A : Type 0} → (A → Bool) → Outcome A → Bool
got_and test stopped = false
got_and test (got a) = test a

unfoldable mutual
  -- an assignment that does not stop; an if or a case whose condition or selector does not stop, with every block quiet from that state
  pub quiet : List Declaration → State → Statement → Bool
  quiet ds s (assign kind v e) = is_got (execute ds s (assign kind v e))
  quiet ds s (assign_bit kind v k e) = is_got (execute ds s (assign_bit kind v k e))
  quiet ds s (if_else c a b) = got_and (λ x. eqb x.width 1 && quiet_block ds s a && quiet_block ds s b) (evaluate ds s.current c)
  quiet ds s (case e items) = got_and (λ x. quiet_items ds s x.width items) (evaluate ds s.current e)

  -- the first statement is quiet, and the rest from the state that it leaves
  pub quiet_block : List Declaration → State → Block → Bool
  quiet_block ds s end = true
  quiet_block ds s (t then b) = quiet ds s t && got_and (λ next. quiet_block ds next b) (execute ds s t)

  -- every item of the selector's width, also after the taken one, and every block quiet
  pub quiet_items : List Declaration → State → ℕ → Items → Bool
  quiet_items ds s w (default b) = quiet_block ds s b
  quiet_items ds s w (item u v b items) = eqb u w && quiet_block ds s b && quiet_items ds s w items

unfoldable pub quiet_all : List Declaration → State → List Block → Bool
quiet_all ds s [] = true
quiet_all ds s (p ∷ l) = quiet_block ds s p && got_and (λ next. quiet_all ds next l) (execute_block ds s p)

-- a cycle of a module
unfoldable pub quiet_cycle : Module → List ℕ → Bool
quiet_cycle m row = eqb (length row) (length m.declarations) && quiet_all m.declarations (record { current = row; pending = row }) m.processes

-- many cycles, each from the registers left by the last
unfoldable pub quiet_cycles : Module → List ℕ → List (List ℕ) → Bool
quiet_cycles m row [] = true
quiet_cycles m row (inputs ∷ later) =
    quiet_cycle m (with_inputs m.declarations inputs row)
    && got_and (λ next. quiet_cycles m next later) (module_cycle m (with_inputs m.declarations inputs row))
