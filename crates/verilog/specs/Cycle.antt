-- One cycle of a module. A step without meaning (a missing variable, an assignment to an input, widths against rule 7, a bit outside) stops the run.
use Rattle.std.specs.Prelude.{Bool, true, false, cond, ◌&&◌, ◌||◌, List, [], ◌∷◌, ℕ, ◌+◌, ltb, eqb, length, get_or, set, drop}
use Rattle.words.specs.Bits.{bit, put_bit}
use Rattle.words.specs.Operators.{one_width, one_number, two_width, two_number}
use Rattle.words.specs.Values.{Value, Outcome, got, ◌>>=◌, provided}
use Rattle.tagged.specs.Choice.{choose}
use Rattle.tagged.specs.Declarations.{Declaration, variable_width, register_at}
use Rattle.tagged.specs.declared.sorts.Kind.{Kind}
use Rattle.verilog.specs.Tree.{Expression, constant, variable, fixed_bit, chosen_bit, one, two, Statement, assign, assign_bit, if_else, case, Block, end, ◌then◌, Items, default, item, Module}

-- each variable has a current value, each register also a pending one
pub record State : Type 0 where
  pub current : List ℕ
  pub pending : List ℕ

-- an expression's value; reads see current values
unfoldable pub evaluate : List Declaration → List ℕ → Expression → Outcome Value
evaluate ds current (constant w v) = got (record { width = w; number = v })
evaluate ds current (variable v) = provided (ltb v (length ds)) (got (record { width = variable_width ds v; number = get_or current v 0 }))
evaluate ds current (fixed_bit v k) =
    provided (ltb v (length ds) && ltb k (variable_width ds v)) (got (record { width = 1; number = bit (get_or current v 0) k }))
evaluate ds current (chosen_bit v e) =
    evaluate ds current e >>= λ i.
    provided (ltb v (length ds) && ltb i.number (variable_width ds v)) (got (record { width = 1; number = bit (get_or current v 0) i.number }))
evaluate ds current (one op a) =
    evaluate ds current a >>= λ x.
    got (record { width = one_width op x.width; number = one_number op x.width x.number })
evaluate ds current (two op a b) =
    evaluate ds current a >>= λ x.
    evaluate ds current b >>= λ y.
    provided (eqb x.width y.width) (got (record { width = two_width op x.width; number = two_number op x.width x.number y.number }))

-- the value that an assignment of a kind changes: blocking the current one, non-blocking the pending one
abbrev pub held : Kind → State → ℕ → ℕ
held Kind.Blocking s v = get_or s.current v 0
held Kind.NonBlocking s v = get_or s.pending v 0

abbrev pub changed : Kind → State → ℕ → ℕ → State
changed Kind.Blocking s v number = record { current = set s.current v number; pending = s.pending }
changed Kind.NonBlocking s v number = record { current = s.current; pending = set s.pending v number }

unfoldable mutual
  pub execute : List Declaration → State → Statement → Outcome State
  execute ds s (assign kind v e) =
      evaluate ds s.current e >>= λ x.
      provided (register_at ds v && eqb x.width (variable_width ds v)) (got (changed kind s v x.number))
  execute ds s (assign_bit kind v k e) =
      evaluate ds s.current e >>= λ x.
      provided (register_at ds v && eqb x.width 1 && ltb k (variable_width ds v)) (got (changed kind s v (put_bit (held kind s v) k x.number)))
  -- if takes the first block on 1, else the second
  execute ds s (if_else c a b) =
      evaluate ds s.current c >>= λ x.
      provided (eqb x.width 1) (choose (eqb x.number 1) (λ _. execute_block ds s a) (λ _. execute_block ds s b))
  -- case evaluates its selector once
  execute ds s (case e items) = evaluate ds s.current e >>= λ x. execute_items ds s x items

  -- statements in order
  pub execute_block : List Declaration → State → Block → Outcome State
  execute_block ds s end = got s
  execute_block ds s (t then b) = execute ds s t >>= λ next. execute_block ds next b

  -- the first equal item, else the default; the comparison with an item of another width stops
  pub execute_items : List Declaration → State → Value → Items → Outcome State
  execute_items ds s x (default b) = execute_block ds s b
  execute_items ds s x (item w v b items) =
      provided (eqb w x.width) (choose (eqb v x.number) (λ _. execute_block ds s b) (λ _. execute_items ds s x items))

-- processes run in file order
unfoldable pub execute_all : List Declaration → State → List Block → Outcome State
execute_all ds s [] = got s
execute_all ds s (p ∷ l) = execute_block ds s p >>= λ next. execute_all ds next l

-- is variable v assigned by non-blocking anywhere? This is static: it does not matter whether the assignment is executed
abbrev pub is_non_blocking : Kind → Bool
is_non_blocking Kind.Blocking = false
is_non_blocking Kind.NonBlocking = true

unfoldable mutual
  pub delays : ℕ → Statement → Bool
  delays v (assign kind u e) = is_non_blocking kind && eqb u v
  delays v (assign_bit kind u k e) = is_non_blocking kind && eqb u v
  delays v (if_else c a b) = delays_block v a || delays_block v b
  delays v (case e items) = delays_items v items

  pub delays_block : ℕ → Block → Bool
  delays_block v end = false
  delays_block v (t then b) = delays v t || delays_block v b

  pub delays_items : ℕ → Items → Bool
  delays_items v (default b) = delays_block v b
  delays_items v (item w n b items) = delays_block v b || delays_items v items

unfoldable pub delays_any : List Block → ℕ → Bool
delays_any [] v = false
delays_any (p ∷ l) v = delays_block v p || delays_any l v

-- at the end a register assigned by non-blocking anywhere takes its pending value, any other its current value; `v` is the first one's number
unfoldable pub settled : (ℕ → Bool) → ℕ → List ℕ → List ℕ → List ℕ
settled delayed v [] pending = []
settled delayed v (c ∷ current) pending = cond (delayed v) (get_or pending 0 0) c ∷ settled delayed (v + 1) current (drop 1 pending)

-- one cycle: both values of each register begin as the row's; the row read has one number per variable
unfoldable pub module_cycle : Module → List ℕ → Outcome (List ℕ)
module_cycle m row =
    provided (eqb (length row) (length m.declarations))
    (execute_all m.declarations (record { current = row; pending = row }) m.processes >>= λ s.
    got (settled (delays_any m.processes) 0 s.current s.pending))
