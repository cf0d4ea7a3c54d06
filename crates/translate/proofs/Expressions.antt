-- A typed expression never stops, its number fits its width, its cells run, and its operand denotes that number.
-- By induction on the typing; every test of a step holds by the typing or by the bounds of the operators.
use mathlib.Core.Path.{◌≡◌, refl}
use mathlib.Core.Bool.{true}
use mathlib.Core.List.{List, [], ◌∷◌, ◌++◌}
use Prim.Native.Nat.{ℕ, ◌+◌, ◌^◌, ◌<◌}
use native.Mathlib.Nat.{lt_of_lt_of_le}
use native.Mathlib.Omega.{arith}
use lib.Dec.{eqb}
use lib.ListN.{length, get_or}
use borrow.Author.Tests.{ltb-true, lt-ltb, eq-eqb, leb-true}
use Rattle.words.specs.Widths.{fits_width, index_within}
use Rattle.words.specs.Bits.{bit}
use Rattle.words.specs.Operators.{one_width, one_number, two_width, two_number}
use Rattle.words.specs.declared.OneOperand.{OneOperand}
use Rattle.words.specs.declared.TwoOperand.{TwoOperand}
use Rattle.words.specs.Values.{Value, Outcome, got}
use Rattle.words.proofs.BitLaws.{bit_lt}
use Rattle.words.proofs.WidthLaws.{one_lt, two_lt}
use Rattle.tagged.specs.Declarations.{Declaration, variable_width}
use Rattle.netlist.specs.Cycle.{operand_value, cell_value}
use Rattle.netlist.specs.declared.Operand.{Operand}
use Rattle.netlist.specs.declared.Cell.{Cell}
use Rattle.verilog.specs.Tree.{Expression, constant, variable, fixed_bit, chosen_bit, one, two}
use Rattle.verilog.specs.Rules.{expression_width}
use Rattle.verilog.specs.Cycle.{evaluate}
use Rattle.verilog.proofs.Typed.{Typed, constant_fits, variable_there, bit_inside, index_inside, one_typed, two_typed}
use Rattle.translate.specs.Tables.{operand_at}
use Rattle.translate.specs.Translation.{Emitted, with_cell, translate_expression}
use Rattle.translate.proofs.Values.{Denotes, denotes_kept, denotes_last, Run, run_none, run_one, run_append}
use Rattle.translate.proofs.Tracks.{Stands, stands_kept, stands_at}

-- what was emitted runs, and its operand then denotes this number
pub record Emits (ds : List Declaration) (row : List ℕ) (values : List Value) (e : Emitted) (w x : ℕ) : Type 0 where
  pub later : List Value
  pub run : Run ds row values e.cells later
  pub denotes : Denotes ds row later e.operand w x

-- some cells, and then one of width w whose value is x
pub emits_cell : {ds : List Declaration} {row : List ℕ} {values mid : List Value} {cells : List Cell} (c : Cell) (w x n : ℕ) → n ≡ length values →
    Run ds row values cells mid → cell_value ds row mid c ≡ got (record { width = w; number = x }) → x < 2 ^ w →
    Emits ds row values (with_cell n cells w c) w x
emits_cell {mid = mid} {cells = cells} c w x n e r i h = record {
  later = mid ++ (record { width = w; number = x } ∷ []);
  run = run_append r (run_one i);
  denotes = denotes_last mid (n + length cells) (omega arith) h;
}

-- an expression's outcome is a number, and what it emitted denotes that
pub record Evaluated (ds : List Declaration) (row : List ℕ) (values : List Value) (outcome : Outcome Value) (e : Emitted) (w : ℕ) : Type 0 where
  pub number : ℕ
  pub evaluates : outcome ≡ got (record { width = w; number = number })
  pub emits : Emits ds row values e w number

module _ (ds : List Declaration) (row : List ℕ) (table : List Operand) (current : List ℕ) where
  -- an expression is simulated from some values on, if n is how many these are
  abbrev pub Simulated : List Value → ℕ → Expression → Type 0
  Simulated values n e = Evaluated ds row values (evaluate ds current e) (translate_expression table n e) (expression_width ds e)

  constant_simulated : (values : List Value) (n w v : ℕ) → fits_width w v ≡ true → Simulated values n (constant w v)
  unfolding evaluate translate_expression expression_width operand_value
  constant_simulated values n w v h = record {
    number = v;
    evaluates = refl;
    emits = record { later = values; run = run_none; denotes = record { is = refl; wide = refl; fits = ltb-true v (2 ^ w) h } };
  }

  variable_simulated : (values : List Value) (n v : ℕ) → v < length ds → Stands ds row values ds row table current → Simulated values n (variable v)
  unfolding evaluate translate_expression expression_width
  variable_simulated values n v h s = record {
    number = get_or current v 0;
    evaluates = rw (lt-ltb v (length ds) h);
    emits = record { later = values; run = run_none; denotes = stands_at s v };
  }

  fixed_bit_simulated : (values : List Value) (n v k : ℕ) → n ≡ length values → v < length ds → k < variable_width ds v → Stands ds row values ds row table current →
      Simulated values n (fixed_bit v k)
  unfolding evaluate translate_expression expression_width cell_value
  fixed_bit_simulated values n v k c h b s = record {
    number = bit (get_or current v 0) k;
    evaluates = rw (lt-ltb v (length ds) h, lt-ltb k (variable_width ds v) b);
    emits = emits_cell (Cell.FixedBit 1 (operand_at table v) k) 1 (bit (get_or current v 0) k) n c run_none
        (rw ((stands_at s v).is, lt-ltb k (variable_width ds v) b)) (bit_lt (get_or current v 0) k);
  }

  chosen_bit_simulated : (values : List Value) (n v : ℕ) (e : Expression) → n ≡ length values → v < length ds → Stands ds row values ds row table current →
      index_within (expression_width ds e) (variable_width ds v) ≡ true → Simulated values n e → Simulated values n (chosen_bit v e)
  unfolding evaluate translate_expression expression_width cell_value
  chosen_bit_simulated values n v e c h s i x = record {
    number = bit (get_or current v 0) x.number;
    evaluates = rw (x.evaluates, lt-ltb v (length ds) h, lt-ltb x.number (variable_width ds v) inside);
    emits = emits_cell (Cell.ChosenBit 1 (operand_at table v) (translate_expression table n e).operand) 1 (bit (get_or current v 0) x.number) n c
        x.emits.run (rw (vector.is, x.emits.denotes.is, lt-ltb x.number (variable_width ds v) inside))
        (bit_lt (get_or current v 0) x.number);
  }
    where
      inside : x.number < variable_width ds v
      inside = lt_of_lt_of_le x.emits.denotes.fits (leb-true (2 ^ expression_width ds e) (variable_width ds v) i)

      vector : Denotes ds row x.emits.later (operand_at table v) (variable_width ds v) (get_or current v 0)
      vector = stands_at (stands_kept x.emits.run.grows s) v

  one_simulated : (values : List Value) (n : ℕ) (op : OneOperand) (a : Expression) → n ≡ length values → Simulated values n a → Simulated values n (one op a)
  unfolding evaluate translate_expression expression_width cell_value
  one_simulated values n op a c x =
      let w : ℕ = expression_width ds a in
      record {
        number = one_number op w x.number;
        evaluates = rw x.evaluates;
        emits = rw x.emits.denotes.wide
            (emits_cell (Cell.One op (one_width op w) (translate_expression table n a).operand) (one_width op w) (one_number op w x.number) n c
            x.emits.run (rw (x.emits.denotes.is, eq-eqb (one_width op w) (one_width op w) refl)) (one_lt op w x.number));
      }

  -- the second operand's cells follow the first's
  two_simulated : (values : List Value) (n : ℕ) (op : TwoOperand) (a b : Expression) → n ≡ length values → expression_width ds a ≡ expression_width ds b →
      (x : Simulated values n a) → Simulated x.emits.later (n + length (translate_expression table n a).cells) b → Simulated values n (two op a b)
  unfolding evaluate translate_expression expression_width cell_value
  two_simulated values n op a b c same x y = record {
    number = two_number op w x.number y.number;
    evaluates = rw (x.evaluates, y.evaluates, same_eqb);
    emits = rw x.emits.denotes.wide
        (emits_cell (Cell.Two op (two_width op w) (translate_expression table n a).operand (translate_expression table start b).operand)
        (two_width op w) (two_number op w x.number y.number) n c (run_append x.emits.run y.emits.run)
        (rw (left.is, y.emits.denotes.is, same_eqb, eq-eqb (two_width op w) (two_width op w) refl))
        (two_lt op w x.number y.number x.emits.denotes.fits (rw same y.emits.denotes.fits)));
  }
    where
      w : ℕ
      w = expression_width ds a

      start : ℕ
      start = n + length (translate_expression table n a).cells

      same_eqb : eqb (expression_width ds a) (expression_width ds b) ≡ true
      same_eqb = eq-eqb (expression_width ds a) (expression_width ds b) same

      left : Denotes ds row y.emits.later (translate_expression table n a).operand (expression_width ds a) x.number
      left = denotes_kept y.emits.run.grows x.emits.denotes

  pub simulated : {e : Expression} → Typed ds e → (values : List Value) (n : ℕ) → n ≡ length values → Stands ds row values ds row table current → Simulated values n e
  simulated (constant_fits {w} {v} i h) values n c s = constant_simulated values n w v h
  simulated (variable_there {v} h) values n c s = variable_simulated values n v h s
  simulated (bit_inside {v} {k} h b) values n c s = fixed_bit_simulated values n v k c h b s
  simulated (index_inside {v} {e} h t i) values n c s = chosen_bit_simulated values n v e c h s i (simulated t values n c s)
  simulated (one_typed {op} {a} t) values n c s = one_simulated values n op a c (simulated t values n c s)
  simulated (two_typed {op} {a} {b} t u same) values n c s =
      let x : Simulated values n a = simulated t values n c s in
      let start : ℕ = n + length (translate_expression table n a).cells in
      two_simulated values n op a b c same x (simulated u x.emits.later start (omega arith) (stands_kept x.emits.run.grows s))
