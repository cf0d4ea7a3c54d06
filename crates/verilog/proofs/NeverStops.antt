-- A module that breaks none of refusals 3, 6, 7 and 8 (TypedModule) never stops, also in blocks not taken: expressions, statements, blocks, items,
-- processes, one cycle, many cycles; rows that fit lead to rows that fit, and what is no register is copied. By induction on the typing. Assumes nothing.
use mathlib.Core.Path.{◌≡◌, refl, sym, ◌∙◌}
use mathlib.Core.Bool.{Bool, true, false, cond, false≢true}
use mathlib.Core.List.{List, map, Memᴰ, ◌∷◌, []}
use Prim.Native.Nat.{ℕ, zero, suc, ◌+◌, ◌^◌, ◌<◌}
use native.Mathlib.Nat.{lt_of_lt_of_le}
use lib.Dec.{eqb}
use lib.ListN.{length, get_or, length-map}
use lib.Seq.{get_or-set_other}
use borrow.Author.Tests.{eq-eqb, ltb-true, lt-ltb, leb-true}
use Rattle.words.specs.Bits.{bit, put_bit}
use Rattle.words.specs.Operators.{one_number, two_number}
use Rattle.words.specs.Values.{Outcome, got}
use Rattle.words.proofs.BitLaws.{bit_lt}
use Rattle.words.proofs.WidthLaws.{one_lt, two_lt, put_bit_lt}
use Rattle.tagged.specs.Choice.{choose}
use Rattle.tagged.specs.Declarations.{Declaration, width_of, variable_width, register_at}
use Rattle.tagged.specs.Rows.{all_fit}
use Rattle.tagged.specs.Cycles.{with_inputs, inputs_fit}
use Rattle.tagged.proofs.RowLaws.{fits_length}
use Rattle.tagged.specs.declared.sorts.Kind.{Kind}
use Rattle.verilog.specs.Tree.{Expression, Statement, Block, Items, Module}
use Rattle.verilog.specs.Rules.{expression_width}
use Rattle.verilog.specs.Cycle.{State, evaluate, held, changed, execute, execute_block, execute_items, execute_all, delays_any, settled, module_cycle}
use Rattle.verilog.specs.Quiet.{quiet, quiet_block, quiet_items, quiet_all, quiet_cycle, quiet_cycles}
use Rattle.verilog.proofs.FitLaws.{Fits, none_fit, more_fit, fits_of_test, test_of_fits, number_fits, set_fits}
use Rattle.tagged.proofs.CycleLaws.{with_inputs_fits, Steps, Runs as CyclesRun, cycles_run}
use Rattle.verilog.proofs.Typed.{Typed, constant_fits, variable_there, bit_inside, index_inside, one_typed, two_typed, TypedStatement, assign_typed, assign_bit_typed, if_else_typed, case_typed, TypedBlock, end_typed, then_typed, TypedItems, default_typed, item_typed, TypedAll, none_typed, more_typed, TypedModule}

-- the values of all variables fit
abbrev pub RowFits : List Declaration → List ℕ → Type 0
RowFits ds row = Fits (map width_of ds) row

-- an expression gives a value of its width, and below 2 to it
pub record Evaluates (ds : List Declaration) (current : List ℕ) (e : Expression) : Type 0 where
  pub number : ℕ
  pub runs : evaluate ds current e ≡ got (record { width = expression_width ds e; number = number })
  pub small : number < 2 ^ expression_width ds e

pub typed_evaluates : {ds : List Declaration} {current : List ℕ} {e : Expression} → RowFits ds current → Typed ds e → Evaluates ds current e
unfolding evaluate expression_width
typed_evaluates f (constant_fits {w} {v} g h) = record { number = v; runs = refl; small = ltb-true v (2 ^ w) h }
typed_evaluates {ds} {current} f (variable_there {v} h) =
    record { number = get_or current v 0; runs = rw (lt-ltb v (length ds) h); small = number_fits f v }
typed_evaluates {ds} {current} f (bit_inside {v} {k} h l) =
    record { number = bit (get_or current v 0) k; runs = rw (lt-ltb v (length ds) h, lt-ltb k (variable_width ds v) l); small = bit_lt (get_or current v 0) k }
typed_evaluates {ds} {current} f (index_inside {v} {e} h t l) =
    let i = typed_evaluates f t in
    let inside : i.number < variable_width ds v = lt_of_lt_of_le i.small (leb-true (2 ^ expression_width ds e) (variable_width ds v) l) in
    record {
      number = bit (get_or current v 0) i.number;
      runs = rw (i.runs, lt-ltb v (length ds) h, lt-ltb i.number (variable_width ds v) inside);
      small = bit_lt (get_or current v 0) i.number;
    }
typed_evaluates {ds} f (one_typed {op} {a} t) =
    let x = typed_evaluates f t in
    record {
      number = one_number op (expression_width ds a) x.number;
      runs = rw x.runs;
      small = one_lt op (expression_width ds a) x.number;
    }
typed_evaluates {ds} f (two_typed {op} {a} {b} t u same) =
    let x = typed_evaluates f t in
    let y = typed_evaluates f u in
    record {
      number = two_number op (expression_width ds a) x.number y.number;
      runs = rw (x.runs, y.runs, eq-eqb (expression_width ds a) (expression_width ds b) same);
      small = two_lt op (expression_width ds a) x.number y.number x.small (rw same y.small);
    }

-- both values of all variables fit
pub record StateFits (ds : List Declaration) (s : State) : Type 0 where
  pub current : RowFits ds s.current
  pub pending : RowFits ds s.pending

-- what is no register has the same values in both states
pub record Copied (ds : List Declaration) (s t : State) : Type 0 where
  pub current : (v : ℕ) → register_at ds v ≡ false → get_or t.current v 0 ≡ get_or s.current v 0
  pub pending : (v : ℕ) → register_at ds v ≡ false → get_or t.pending v 0 ≡ get_or s.pending v 0

pub copied_same : {ds : List Declaration} {s : State} → Copied ds s s
copied_same = record { current = λ v h. refl; pending = λ v h. refl }

pub copied_on : {ds : List Declaration} {s t u : State} → Copied ds s t → Copied ds t u → Copied ds s u
copied_on p q = record { current = λ v h. q.current v h ∙ p.current v h; pending = λ v h. q.pending v h ∙ p.pending v h }

-- it does not stop, and leaves a state that fits
pub record Leaves (ds : List Declaration) (s : State) (outcome : Outcome State) : Type 0 where
  pub left : State
  pub runs : outcome ≡ got left
  pub fits : StateFits ds left
  pub copied : Copied ds s left

-- the same, and quietly
pub record Runs (ds : List Declaration) (s : State) (outcome : Outcome State) (test : Bool) : Type 0 where
  pub leaves : Leaves ds s outcome
  pub quietly : test ≡ true

either_leaves : {ds : List Declaration} {s : State} {yes' no' : Outcome State} (t : Bool) → Leaves ds s yes' → Leaves ds s no' →
    Leaves ds s (choose t (λ _. yes') (λ _. no'))
either_leaves true p q = p
either_leaves false p q = q

-- a register's value changed
not_same : (ds : List Declaration) (u v : ℕ) → register_at ds v ≡ true → register_at ds u ≡ false → u ≡ v → ⊥
not_same ds u v h l e = false≢true (sym l ∙ rw e h)

changed_fits : {ds : List Declaration} {s : State} (kind : Kind) (v number : ℕ) → StateFits ds s →
    number < 2 ^ variable_width ds v → StateFits ds (changed kind s v number)
changed_fits Kind.Blocking v number f h = record { current = set_fits f.current v number h; pending = f.pending }
changed_fits Kind.NonBlocking v number f h = record { current = f.current; pending = set_fits f.pending v number h }

changed_copied : {ds : List Declaration} (s : State) (kind : Kind) (v number : ℕ) → register_at ds v ≡ true → Copied ds s (changed kind s v number)
changed_copied {ds} s Kind.Blocking v number h =
    record { current = λ u l. get_or-set_other s.current v u number 0 (not_same ds u v h l); pending = λ u l. refl }
changed_copied {ds} s Kind.NonBlocking v number h =
    record { current = λ u l. refl; pending = λ u l. get_or-set_other s.pending v u number 0 (not_same ds u v h l) }

held_fits : {ds : List Declaration} {s : State} (kind : Kind) (v : ℕ) → StateFits ds s → held kind s v < 2 ^ variable_width ds v
held_fits Kind.Blocking v f = number_fits f.current v
held_fits Kind.NonBlocking v f = number_fits f.pending v

mutual
  unfolding execute execute_block execute_items quiet quiet_block quiet_items

  pub typed_statement_runs : {ds : List Declaration} {s : State} {t : Statement} → TypedStatement ds t → StateFits ds s → Runs ds s (execute ds s t) (quiet ds s t)
  typed_statement_runs {ds} {s} (assign_typed {kind} {v} {e} register t wide) f =
      let x = typed_evaluates f.current t in
      record {
        leaves = record {
          left = changed kind s v x.number;
          runs = rw (x.runs, register, eq-eqb (expression_width ds e) (variable_width ds v) wide);
          fits = changed_fits kind v x.number f (rw wide at x.small);
          copied = changed_copied s kind v x.number register;
        };
        quietly = rw (x.runs, register, eq-eqb (expression_width ds e) (variable_width ds v) wide);
      }
  typed_statement_runs {ds} {s} (assign_bit_typed {kind} {v} {k} {e} register inside t wide) f =
      let x = typed_evaluates f.current t in
      let small : x.number < 2 ^ 1 = rw wide at x.small in
      record {
        leaves = record {
          left = changed kind s v (put_bit (held kind s v) k x.number);
          runs = rw (x.runs, register, wide, lt-ltb k (variable_width ds v) inside);
          fits =
              changed_fits kind v (put_bit (held kind s v) k x.number) f
              (put_bit_lt (variable_width ds v) (held kind s v) k x.number (held_fits kind v f) inside small);
          copied = changed_copied s kind v (put_bit (held kind s v) k x.number) register;
        };
        quietly = rw (x.runs, register, wide, lt-ltb k (variable_width ds v) inside);
      }
  typed_statement_runs {ds} {s} (if_else_typed {c} {a} {b} t wide ta tb) f =
      let x = typed_evaluates f.current t in
      let p = typed_block_runs ta f in
      let q = typed_block_runs tb f in
      let either = either_leaves (eqb x.number 1) p.leaves q.leaves in
      record {
        leaves = record { left = either.left; runs = rw (x.runs, wide) either.runs; fits = either.fits; copied = either.copied };
        quietly = rw (x.runs, wide, p.quietly, q.quietly);
      }
  typed_statement_runs {ds} {s} (case_typed {e} {items} t ti) f =
      let x = typed_evaluates f.current t in
      let p = typed_items_run ti f x.number in
      record {
        leaves = record { left = p.leaves.left; runs = rw x.runs p.leaves.runs; fits = p.leaves.fits; copied = p.leaves.copied };
        quietly = rw x.runs p.quietly;
      }

  pub typed_block_runs : {ds : List Declaration} {s : State} {b : Block} → TypedBlock ds b → StateFits ds s → Runs ds s (execute_block ds s b) (quiet_block ds s b)
  typed_block_runs {ds} {s} end_typed f = record { leaves = record { left = s; runs = refl; fits = f; copied = copied_same }; quietly = refl }
  typed_block_runs {ds} {s} (then_typed t tb) f =
      let p = typed_statement_runs t f in
      let q = typed_block_runs tb p.leaves.fits in
      record {
        leaves = record {
          left = q.leaves.left;
          runs = rw p.leaves.runs q.leaves.runs;
          fits = q.leaves.fits;
          copied = copied_on p.leaves.copied q.leaves.copied;
        };
        quietly = rw (p.quietly, p.leaves.runs) q.quietly;
      }

  pub typed_items_run : {ds : List Declaration} {s : State} {w : ℕ} {items : Items} → TypedItems ds w items → StateFits ds s → (number : ℕ) →
      Runs ds s (execute_items ds s (record { width = w; number = number }) items) (quiet_items ds s w items)
  typed_items_run (default_typed tb) f number = typed_block_runs tb f
  typed_items_run {ds} {s} (item_typed {width} {w} {v} {b} {items} fit fits wide tb ti) f number =
      let p = typed_block_runs tb f in
      let q = typed_items_run ti f number in
      let either = either_leaves (eqb v number) p.leaves q.leaves in
      record {
        leaves = record { left = either.left; runs = rw (eq-eqb w width wide) either.runs; fits = either.fits; copied = either.copied };
        quietly = rw (eq-eqb w width wide, p.quietly, q.quietly);
      }

pub typed_all_run : {ds : List Declaration} {s : State} {l : List Block} → TypedAll ds l → StateFits ds s → Runs ds s (execute_all ds s l) (quiet_all ds s l)
unfolding execute_all quiet_all
typed_all_run {ds} {s} none_typed f = record { leaves = record { left = s; runs = refl; fits = f; copied = copied_same }; quietly = refl }
typed_all_run {ds} {s} (more_typed tb tl) f =
    let p = typed_block_runs tb f in
    let q = typed_all_run {s = p.leaves.left} tl p.leaves.fits in
    record {
      leaves = record {
        left = q.leaves.left;
        runs = rw p.leaves.runs q.leaves.runs;
        fits = q.leaves.fits;
        copied = copied_on p.leaves.copied q.leaves.copied;
      };
      quietly = rw (p.quietly, p.leaves.runs) q.quietly;
    }

-- the row at the end
either_side : (P : ℕ → Type 0) (t : Bool) {x y : ℕ} → P x → P y → P (cond t x y)
either_side P true p q = p
either_side P false p q = q

pub settled_fits : (delayed : ℕ → Bool) (v : ℕ) {widths current pending : List ℕ} → Fits widths current → Fits widths pending →
    Fits widths (settled delayed v current pending)
unfolding settled
settled_fits delayed v none_fit none_fit = none_fit
settled_fits delayed v (more_fit {w} h f) (more_fit l g) = more_fit (either_side (λ n. n < 2 ^ w) (delayed v) l h) (settled_fits delayed (v + 1) f g)

-- also where there is no number: it counts as 0 on all sides
pub settled_at : (delayed : ℕ → Bool) (v : ℕ) {widths current pending : List ℕ} → Fits widths current → Fits widths pending → (i : ℕ) →
    (t : Bool) × (get_or (settled delayed v current pending) i 0 ≡ cond t (get_or pending i 0) (get_or current i 0))
unfolding settled
settled_at delayed v none_fit none_fit i = (true, refl)
settled_at delayed v (more_fit h f) (more_fit l g) zero = (delayed v, refl)
settled_at delayed v (more_fit h f) (more_fit l g) (suc i) = settled_at delayed (v + 1) f g i

-- one cycle from a row that fits
pub record Cycled (m : Module) (row : List ℕ) : Type 0 where
  pub next : List ℕ
  pub runs : module_cycle m row ≡ got next
  pub fits : all_fit (map width_of m.declarations) next ≡ true
  pub quietly : quiet_cycle m row ≡ true
  pub copied : (v : ℕ) → register_at m.declarations v ≡ false → get_or next v 0 ≡ get_or row v 0

pub typed_cycle_runs : (m : Module) → TypedModule m → (row : List ℕ) → all_fit (map width_of m.declarations) row ≡ true → Cycled m row
unfolding module_cycle quiet_cycle
typed_cycle_runs m t row h =
    let ds = m.declarations in
    let start : Fits (map width_of ds) row = fits_of_test (map width_of ds) row h in
    let state : State = record { current = row; pending = row } in
    let fit : StateFits ds state = record { current = start; pending = start } in
    let p = typed_all_run t.processes fit in
    let long : length row ≡ length ds = fits_length (map width_of ds) row h ∙ length-map ds width_of in
    let last : State = p.leaves.left in
    let delayed : ℕ → Bool = delays_any m.processes in
    record {
      next = settled delayed 0 last.current last.pending;
      runs = rw (eq-eqb (length row) (length ds) long, p.leaves.runs);
      fits = test_of_fits (settled_fits delayed 0 p.leaves.fits.current p.leaves.fits.pending);
      quietly = rw (eq-eqb (length row) (length ds) long) p.quietly;
      copied = λ v l.
          let side = settled_at delayed 0 p.leaves.fits.current p.leaves.fits.pending v in
          side.1 ∙ either_side (λ n. n ≡ get_or row v 0) side.0 (p.leaves.copied.pending v l) (p.leaves.copied.current v l);
    }

-- many cycles, from a row that fits, with input rows that fit
pub typed_cycles_run : (m : Module) → TypedModule m → (row : List ℕ) → all_fit (map width_of m.declarations) row ≡ true → (inputs : List (List ℕ)) →
    ((i : List ℕ) → Memᴰ i inputs → inputs_fit m.declarations i ≡ true) → CyclesRun (module_cycle m) m.declarations row inputs
typed_cycles_run m t row h inputs each = cycles_run (module_cycle m) m.declarations step row inputs h each
  where
    step : (from : List ℕ) → all_fit (map width_of m.declarations) from ≡ true → Steps (module_cycle m) m.declarations from
    step from fit = let p = typed_cycle_runs m t from fit in record { after = p.next; runs = p.runs; fits = p.fits }

pub typed_cycles_quiet : (m : Module) → TypedModule m → (row : List ℕ) → all_fit (map width_of m.declarations) row ≡ true → (inputs : List (List ℕ)) →
    ((i : List ℕ) → Memᴰ i inputs → inputs_fit m.declarations i ≡ true) → quiet_cycles m row inputs ≡ true
unfolding quiet_cycles
typed_cycles_quiet m t row h [] each = refl
typed_cycles_quiet m t row h (i ∷ inputs) each =
    let fit = with_inputs_fits m.declarations i row (each i (Memᴰ.head refl)) h in
    let p = typed_cycle_runs m t (with_inputs m.declarations i row) fit in
    rw (p.quietly, p.runs) (typed_cycles_quiet m t p.next p.fits inputs (λ j later. each j (Memᴰ.tail later)))
