-- A typed statement never stops, its cells run, and the tables after it track the state after it; likewise blocks, items and all processes.
-- By induction on the typing. Both blocks of an if are simulated, each from the state before it, and the muxes choose between what they left.
use mathlib.Core.Path.{◌≡◌, refl, sym}
use mathlib.Core.Bool.{Bool, true, false, cond}
use mathlib.Core.List.{List, [], ◌∷◌, ◌++◌}
use Prim.Native.Nat.{ℕ, ◌+◌, ◌<◌}
use native.Mathlib.Omega.{arith}
use lib.Dec.{eqb, lit<}
use lib.ListN.{length, length-append}
use borrow.Author.Tests.{lt-ltb, eq-eqb, eqb-true, eqb-false, ne_eqb}
use Rattle.words.specs.Bits.{same, put_bit}
use Rattle.words.specs.Operators.{two_width, two_number}
use Rattle.words.specs.declared.TwoOperand.TheVariants as two_operand
use Rattle.words.specs.Values.{Value, Outcome, got}
use Rattle.words.proofs.WidthLaws.{put_bit_lt}
use Rattle.tagged.specs.Choice.{choose}
use Rattle.tagged.specs.Declarations.{Declaration, variable_width, register_at}
use Rattle.tagged.specs.declared.sorts.Kind.{Kind}
use Rattle.netlist.specs.Cycle.{operand_value, cell_value}
use Rattle.netlist.specs.declared.Operand.{Operand}
use Rattle.netlist.specs.declared.Cell.{Cell}
use Rattle.verilog.specs.Tree.{Expression, Statement, assign, assign_bit, if_else, case, Block, end, ◌then◌, Items, default, item}
use Rattle.verilog.specs.Rules.{expression_width}
use Rattle.verilog.specs.Cycle.{State, held, changed, execute, execute_block, execute_items, execute_all}
use Rattle.verilog.proofs.Typed.{TypedStatement, assign_typed, assign_bit_typed, if_else_typed, case_typed, TypedBlock, end_typed, then_typed, TypedItems, default_typed, item_typed, TypedAll, none_typed, more_typed}
use Rattle.translate.specs.Tables.{Tables, held_operand, Translated}
use Rattle.translate.specs.Translation.{with_cell, after, joined, translate_expression, translate_statement, translate_block, translate_items, translate_all}
use Rattle.translate.proofs.Values.{Grows, grows_twice, Denotes, denotes_kept, denotes_last, Run, run_none, run_one}
use Rattle.translate.proofs.Tracks.{Tracked, tracked_kept, tracked_held, tracked_replaced}
use Rattle.translate.proofs.Expressions.{Emits, emits_cell, Simulated, simulated}
use Rattle.translate.proofs.Merging.{Reaches, reaches_after, joined_reaches}

-- a part's outcome is a state, and what it was translated to reaches that
pub record Executed (ds : List Declaration) (row : List ℕ) (values : List Value) (outcome : Outcome State) (t : Translated) : Type 0 where
  pub state : State
  pub executes : outcome ≡ got state
  pub reaches : Reaches ds row values t state

choose-got : (t : Bool) {a b : Outcome State} {p q : State} → a ≡ got p → b ≡ got q → choose t (λ _. a) (λ _. b) ≡ got (cond t p q)
choose-got true e i = e
choose-got false e i = i

-- a bit is 1 or 0
bit_chosen : (x : ℕ) → x < 2 → x ≡ cond (eqb x 1) 1 0
bit_chosen x h = go (eqb x 1) refl
  where
    go : (t : Bool) → eqb x 1 ≡ t → x ≡ cond t 1 0
    go true e = eqb-true x 1 e
    go false e = let not-one : x ≡ 1 → ⊥ = eqb-false x 1 e in omega arith

-- comparing the other way round
same_chosen : (a b : ℕ) → same a b ≡ cond (eqb b a) 1 0
unfolding same
same_chosen a b = go (eqb b a) refl
  where
    go : (t : Bool) → eqb b a ≡ t → ◌≡◌ {A = ℕ} (cond (eqb a b) 1 0) (cond t 1 0)
    go true e = rw (eq-eqb a b (sym (eqb-true b a e)))
    go false e = rw (ne_eqb a b (λ i. eqb-false b a e (sym i)))

chosen_small : (t : Bool) → cond t 1 0 < 2
chosen_small true = lit< tt
chosen_small false = lit< tt

module _ (ds : List Declaration) (row : List ℕ) where
  -- a statement, a block or the items of a case are simulated from some values on, of which there are n
  abbrev pub StatementSimulated : List Value → ℕ → Tables → State → Statement → Type 0
  StatementSimulated values n t s a = Executed ds row values (execute ds s a) (translate_statement t n a)

  abbrev pub BlockSimulated : List Value → ℕ → Tables → State → Block → Type 0
  BlockSimulated values n t s b = Executed ds row values (execute_block ds s b) (translate_block t n b)

  abbrev pub ItemsSimulated : List Value → ℕ → Tables → State → Operand → Value → Items → Type 0
  ItemsSimulated values n t s selector x items = Executed ds row values (execute_items ds s x items) (translate_items t n selector items)

  assign_simulated : (values : List Value) (n : ℕ) (t : Tables) (s : State) (kind : Kind) (v : ℕ) (e : Expression) → register_at ds v ≡ true →
      expression_width ds e ≡ variable_width ds v → Tracked ds row values t s → Simulated ds row t.current s.current values n e →
      StatementSimulated values n t s (assign kind v e)
  unfolding execute translate_statement
  assign_simulated values n t s kind v e register wide h x = record {
    state = changed kind s v x.number;
    executes = rw (x.evaluates, register, eq-eqb (expression_width ds e) (variable_width ds v) wide);
    reaches = record {
      later = x.emits.later;
      run = x.emits.run;
      tracked = tracked_replaced (tracked_kept x.emits.run.grows h) kind v register (rw wide at x.emits.denotes);
    };
  }

  assign_bit_simulated : (values : List Value) (n : ℕ) (t : Tables) (s : State) (kind : Kind) (v k : ℕ) (e : Expression) → n ≡ length values →
      register_at ds v ≡ true → k < variable_width ds v → expression_width ds e ≡ 1 → Tracked ds row values t s →
      Simulated ds row t.current s.current values n e → StatementSimulated values n t s (assign_bit kind v k e)
  unfolding execute translate_statement cell_value
  assign_bit_simulated values n t s kind v k e c register inside wide h x = record {
    state = changed kind s v (put_bit (held kind s v) k x.number);
    executes = rw (x.evaluates, register, wide, lt-ltb k (variable_width ds v) inside);
    reaches = rw old.wide
        (record {
          later = put.later;
          run = put.run;
          tracked = tracked_replaced (tracked_kept put.run.grows h) kind v register put.denotes;
        });
  }
    where
      w : ℕ
      w = variable_width ds v

      old : Denotes ds row x.emits.later (held_operand kind t v) (variable_width ds v) (held kind s v)
      old = tracked_held (tracked_kept x.emits.run.grows h) kind v

      bit : Denotes ds row x.emits.later (translate_expression t.current n e).operand 1 x.number
      bit = rw wide at x.emits.denotes

      cell : Cell
      cell = Cell.Put (variable_width ds v) (held_operand kind t v) k (translate_expression t.current n e).operand

      put : Emits ds row values (with_cell n (translate_expression t.current n e).cells (variable_width ds v) cell)
          (variable_width ds v) (put_bit (held kind s v) k x.number)
      put = emits_cell cell w (put_bit (held kind s v) k x.number) n c x.emits.run
          (rw (old.is, bit.is, lt-ltb k w inside, eq-eqb w w refl)) (put_bit_lt w (held kind s v) k x.number old.fits inside bit.fits)

  -- the two blocks, and the choice between them: the first where the condition is one
  branch_simulated : (values : List Value) (n : ℕ) (condition : Operand) (t : Bool) (a b : Translated) {p q : Outcome State} → n ≡ length values →
      Denotes ds row values condition 1 (cond t 1 0) → (x : Executed ds row values p a) → Executed ds row x.reaches.later q b →
      Executed ds row values (choose t (λ _. p) (λ _. q)) (joined condition n a b)
  branch_simulated values n condition t a b e choice x y = record {
    state = cond t x.state y.state;
    executes = choose-got t x.executes y.executes;
    reaches = joined_reaches ds row t condition values n a b x.state y.state e choice x.reaches y.reaches;
  }

  -- after some cells
  after_simulated : {values mid : List Value} {cells : List Cell} {outcome : Outcome State} {t : Translated} → Run ds row values cells mid →
      Executed ds row mid outcome t → Executed ds row values outcome (after cells t)
  after_simulated r x = record { state = x.state; executes = x.executes; reaches = reaches_after r x.reaches }

  if_else_simulated : (values : List Value) (n : ℕ) (t : Tables) (s : State) (c : Expression) (a b : Block) → n ≡ length values → expression_width ds c ≡ 1 →
      (x : Simulated ds row t.current s.current values n c) →
      (y : BlockSimulated x.emits.later (n + length (translate_expression t.current n c).cells) t s a) →
      BlockSimulated y.reaches.later
      (n + length (translate_expression t.current n c).cells + length (translate_block t (n + length (translate_expression t.current n c).cells) a).cells) t s b →
      StatementSimulated values n t s (if_else c a b)
  unfolding execute translate_statement
  if_else_simulated values n t s c a b e wide x y z =
      let start : ℕ = n + length (translate_expression t.current n c).cells in
      let first : Translated = translate_block t start a in
      let second : Translated = translate_block t (start + length first.cells) b in
      let bit : Denotes ds row x.emits.later (translate_expression t.current n c).operand 1 x.number = rw wide at x.emits.denotes in
      let choice : Denotes ds row x.emits.later (translate_expression t.current n c).operand 1 (cond (eqb x.number 1) 1 0) =
      rw (← bit_chosen x.number bit.fits) bit in
      let done = after_simulated x.emits.run
      (branch_simulated x.emits.later start (translate_expression t.current n c).operand (eqb x.number 1) first second (omega arith) choice y z) in
      record { state = done.state; executes = rw (x.evaluates, wide) done.executes; reaches = done.reaches }

  case_simulated : (values : List Value) (n : ℕ) (t : Tables) (s : State) (e : Expression) (items : Items) →
      (x : Simulated ds row t.current s.current values n e) →
      ItemsSimulated x.emits.later (n + length (translate_expression t.current n e).cells) t s (translate_expression t.current n e).operand
      (record { width = expression_width ds e; number = x.number }) items →
      StatementSimulated values n t s (case e items)
  unfolding execute translate_statement
  case_simulated values n t s e items x y =
      let done = after_simulated x.emits.run y in
      record { state = done.state; executes = rw x.evaluates done.executes; reaches = done.reaches }

  then_simulated : (values : List Value) (n : ℕ) (t : Tables) (s : State) (a : Statement) (b : Block) → (x : StatementSimulated values n t s a) →
      BlockSimulated x.reaches.later (n + length (translate_statement t n a).cells) (translate_statement t n a).tables x.state b →
      BlockSimulated values n t s (a then b)
  unfolding execute_block translate_block
  then_simulated values n t s a b x y =
      record { state = y.state; executes = rw x.executes y.executes; reaches = reaches_after x.reaches.run y.reaches }

  end_simulated : (values : List Value) (n : ℕ) (t : Tables) (s : State) → Tracked ds row values t s → BlockSimulated values n t s end
  unfolding execute_block translate_block
  end_simulated values n t s h = record { state = s; executes = refl; reaches = record { later = values; run = run_none; tracked = h } }

  default_simulated : (values : List Value) (n : ℕ) (t : Tables) (s : State) (selector : Operand) (x : Value) (b : Block) → BlockSimulated values n t s b →
      ItemsSimulated values n t s selector x (default b)
  unfolding execute_items translate_items
  default_simulated values n t s selector x b h = h

  -- the values once an item's constant was compared
  abbrev compared : List Value → ℕ → ℕ → List Value
  compared values v x = values ++ (record { width = 1; number = cond (eqb v x) 1 0 } ∷ [])

  equal_runs : (values : List Value) (selector : Operand) {width x : ℕ} (w v : ℕ) → w ≡ width → Denotes ds row values selector width x →
      Run ds row values (Cell.Two two_operand.Equal 1 selector (Operand.Constant w v) ∷ []) (compared values v x)
  equal_runs values selector {width} {x} w v same_width_lem d = run_one value
    where
      value : cell_value ds row values (Cell.Two two_operand.Equal 1 selector (Operand.Constant w v)) ≡ got (record { width = 1; number = cond (eqb v x) 1 0 })
      value = unfold cell_value operand_value two_width two_number in rw (d.is, eq-eqb width w (sym same_width_lem), same_chosen x v)

  item_simulated : (values : List Value) (n : ℕ) (t : Tables) (s : State) (selector : Operand) (width x w v : ℕ) (b : Block) (items : Items) →
      n ≡ length values → w ≡ width → Denotes ds row values selector width x → (y : BlockSimulated (compared values v x) (n + 1) t s b) →
      ItemsSimulated y.reaches.later (n + 1 + length (translate_block t (n + 1) b).cells) t s selector (record { width = width; number = x }) items →
      ItemsSimulated values n t s selector (record { width = width; number = x }) (item w v b items)
  unfolding execute_items translate_items
  item_simulated values n t s selector width x w v b items e same_width_lem d y z =
      let first : Translated = translate_block t (n + 1) b in
      let second : Translated = translate_items t (n + 1 + length first.cells) selector items in
      let equal = equal_runs values selector w v same_width_lem d in
      let choice : Denotes ds row (compared values v x) (Operand.Cell 1 n) 1 (cond (eqb v x) 1 0) = denotes_last values n e (chosen_small (eqb v x)) in
      let done = after_simulated equal
      (branch_simulated (compared values v x) (n + 1) (Operand.Cell 1 n) (eqb v x) first second (simp length-append (omega arith)) choice y z) in
      record { state = done.state; executes = rw (eq-eqb w width same_width_lem) done.executes; reaches = done.reaches }

  mutual
    pub statement_simulated : {a : Statement} → TypedStatement ds a → (values : List Value) (n : ℕ) (t : Tables) (s : State) → n ≡ length values →
        Tracked ds row values t s → StatementSimulated values n t s a
    statement_simulated (assign_typed {kind} {v} {e} register typed wide) values n t s c h =
        assign_simulated values n t s kind v e register wide h (simulated ds row t.current s.current typed values n c h.current)
    statement_simulated (assign_bit_typed {kind} {v} {k} {e} register inside typed wide) values n t s c h =
        assign_bit_simulated values n t s kind v k e c register inside wide h (simulated ds row t.current s.current typed values n c h.current)
    statement_simulated (if_else_typed {c} {a} {b} typed wide left right) values n t s count h =
        let x : Simulated ds row t.current s.current values n c = simulated ds row t.current s.current typed values n count h.current in
        let start : ℕ = n + length (translate_expression t.current n c).cells in
        let y : BlockSimulated x.emits.later start t s a =
        block_simulated left x.emits.later start t s (omega arith) (tracked_kept x.emits.run.grows h) in
        if_else_simulated values n t s c a b count wide x y
        (block_simulated right y.reaches.later (start + length (translate_block t start a).cells) t s (omega arith)
        (tracked_kept (grows_twice x.emits.run.grows y.reaches.run.grows) h))
    statement_simulated (case_typed {e} {items} typed rest) values n t s c h =
        let x : Simulated ds row t.current s.current values n e = simulated ds row t.current s.current typed values n c h.current in
        case_simulated values n t s e items x
        (items_simulated rest x.emits.later (n + length (translate_expression t.current n e).cells) t s (omega arith)
        (tracked_kept x.emits.run.grows h) (translate_expression t.current n e).operand x.number x.emits.denotes)

    pub block_simulated : {b : Block} → TypedBlock ds b → (values : List Value) (n : ℕ) (t : Tables) (s : State) → n ≡ length values →
        Tracked ds row values t s → BlockSimulated values n t s b
    block_simulated end_typed values n t s c h = end_simulated values n t s h
    block_simulated (then_typed {s = a} {b = b} typed rest) values n t s c h =
        let x : StatementSimulated values n t s a = statement_simulated typed values n t s c h in
        let first : Translated = translate_statement t n a in
        then_simulated values n t s a b x
        (block_simulated rest x.reaches.later (n + length first.cells) first.tables x.state (omega arith) x.reaches.tracked)

    -- the selector's operand was computed before, and its value is at hand
    pub items_simulated : {width : ℕ} {items : Items} → TypedItems ds width items → (values : List Value) (n : ℕ) (t : Tables) (s : State) → n ≡ length values →
        Tracked ds row values t s → (selector : Operand) (x : ℕ) → Denotes ds row values selector width x →
        ItemsSimulated values n t s selector (record { width = width; number = x }) items
    items_simulated (default_typed {width} {b} typed) values n t s c h selector x d =
        default_simulated values n t s selector (record { width = width; number = x }) b (block_simulated typed values n t s c h)
    items_simulated (item_typed {width} {w} {v} {b} {items} good fits same_width_lem typed rest) values n t s c h selector x d =
        let equal : Run ds row values (Cell.Two two_operand.Equal 1 selector (Operand.Constant w v) ∷ []) (compared values v x) =
        equal_runs values selector w v same_width_lem d in
        let y : BlockSimulated (compared values v x) (n + 1) t s b =
        block_simulated typed (compared values v x) (n + 1) t s (simp length-append (omega arith)) (tracked_kept equal.grows h) in
        let grows : Grows values y.reaches.later = grows_twice equal.grows y.reaches.run.grows in
        item_simulated values n t s selector width x w v b items c same_width_lem d y
        (items_simulated rest y.reaches.later (n + 1 + length (translate_block t (n + 1) b).cells) t s (omega arith)
        (tracked_kept grows h) selector x (denotes_kept grows d))

  -- all processes, in file order
  pub all_simulated : {l : List Block} → TypedAll ds l → (values : List Value) (n : ℕ) (t : Tables) (s : State) → n ≡ length values →
      Tracked ds row values t s → Executed ds row values (execute_all ds s l) (translate_all t n l)
  unfolding execute_all translate_all
  all_simulated none_typed values n t s c h = record { state = s; executes = refl; reaches = record { later = values; run = run_none; tracked = h } }
  all_simulated (more_typed {b} {l} typed rest) values n t s c h =
      let x : BlockSimulated values n t s b = block_simulated typed values n t s c h in
      let first : Translated = translate_block t n b in
      let y : Executed ds row x.reaches.later (execute_all ds x.state l) (translate_all first.tables (n + length first.cells) l) =
      all_simulated rest x.reaches.later (n + length first.cells) first.tables x.state (omega arith) x.reaches.tracked in
      record { state = y.state; executes = rw x.executes y.executes; reaches = reaches_after x.reaches.run y.reaches }
