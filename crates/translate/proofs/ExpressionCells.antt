-- The cells of a typed expression pass after those before it, and its operand is good after them and has the expression's width. By induction on the typing.
use mathlib.Core.Path.{◌≡◌, refl}
use mathlib.Core.Bool.{true}
use mathlib.Core.List.{List, [], ◌∷◌, ◌++◌, map, append-nil, append_assoc}
use Prim.Native.Nat.{ℕ, ◌+◌, ◌<◌}
use native.Mathlib.Omega.{arith}
use lib.ListN.{length, length-append, length-map}
use Rattle.words.specs.Widths.{is_width}
use Rattle.words.specs.Operators.{one_width, two_width}
use Rattle.words.proofs.WidthLaws.{one_width_lem, two_width_lem}
use Rattle.tagged.specs.Declarations.{Declaration, width_of, variable_width}
use Rattle.netlist.specs.Lists.{operand_width, cell_width}
use Rattle.netlist.specs.declared.Operand.{Operand}
use Rattle.netlist.specs.declared.Cell.{Cell}
use Rattle.verilog.specs.Tree.{Expression}
use Rattle.verilog.specs.Rules.{expression_width}
use Rattle.verilog.proofs.Typed.{Typed, constant_fits, variable_there, bit_inside, index_inside, one_typed, two_typed}
use Rattle.translate.specs.Tables.{operand_at}
use Rattle.translate.specs.Translation.{Emitted, with_cell, translate_expression}
use Rattle.tagged.proofs.PassLaws.{EachAfter, none_after, one_after, each_append}
use Rattle.translate.proofs.Operands.{GoodOperand, good_more, constant_good, cell_good, GoodTable, table_more, table_at}
use Rattle.translate.proofs.CellsPass.{CellPasses, one_passes, two_passes, fixed_passes, chosen_passes}

module _ (ds : List Declaration) where
  -- what an expression of width w may emit after these cells
  pub record GoodEmitted (earlier : List Cell) (r : Emitted) (w : ℕ) : Type 0 where
    pub pass : EachAfter (CellPasses ds) earlier r.cells
    pub good : GoodOperand ds (earlier ++ r.cells) r.operand w

  pub with_cell_good : {earlier cells : List Cell} {n w : ℕ} (c : Cell) → n ≡ length earlier → EachAfter (CellPasses ds) earlier cells →
      CellPasses ds (earlier ++ cells) c → cell_width c ≡ w → is_width w ≡ true → GoodEmitted earlier (with_cell n cells w c) w
  with_cell_good {earlier} {cells} {n} {w} c e h p u k = record {
    pass = each_append h (one_after p);
    good =
        let next : n + length cells ≡ length (earlier ++ cells) = rw length-append (omega arith) in
        rw (append_assoc earlier cells (c ∷ [])) at (cell_good ds (earlier ++ cells) c next u k);
  }

  -- what a table holds for a variable that there is
  pub held_good : {cells : List Cell} {table : List Operand} → GoodTable ds cells (map width_of ds) table → (v : ℕ) → v < length ds →
      GoodOperand ds cells (operand_at table v) (variable_width ds v)
  held_good t v h = table_at ds t v (rw (length-map ds width_of) h)

  pub expression_good : (earlier : List Cell) (n : ℕ) {table : List Operand} {e : Expression} → n ≡ length earlier → GoodTable ds earlier (map width_of ds) table →
      Typed ds e → GoodEmitted earlier (translate_expression table n e) (expression_width ds e)
  unfolding translate_expression expression_width
  expression_good earlier n h t (constant_fits w v) = record { pass = none_after; good = constant_good ds w v }
  expression_good earlier n h t (variable_there {v = v} l) = record { pass = none_after; good = rw append-nil (held_good t v l) }
  expression_good earlier n {table} h t (bit_inside {v = v} {k = k} l s) =
      let x = held_good t v l in
      with_cell_good {cells = []} (Cell.FixedBit 1 (operand_at table v) k) h none_after (rw append-nil (fixed_passes ds x k s)) refl refl
  expression_good earlier n {table} h t (index_inside {v = v} {e = e} l p s) =
      let i = translate_expression table n e in
      let q = expression_good earlier n h t p in
      let x = good_more ds i.cells (held_good t v l) in
      with_cell_good (Cell.ChosenBit 1 (operand_at table v) i.operand) h q.pass (chosen_passes ds x q.good s) refl refl
  expression_good earlier n {table} h t (one_typed {op = op} {a = a} p) =
      let x = translate_expression table n a in
      let q = expression_good earlier n h t p in
      let w = one_width op (operand_width x.operand) in
      rw (← q.good.wide)
      (with_cell_good (Cell.One op w x.operand) h q.pass (one_passes ds q.good op) refl
      (one_width_lem op (operand_width x.operand) (rw q.good.wide q.good.width)))
  expression_good earlier n {table} h t (two_typed {op = op} {a = a} {b = b} p s e) =
      let x = translate_expression table n a in
      let y = translate_expression table (n + length x.cells) b in
      let next : n + length x.cells ≡ length (earlier ++ x.cells) = rw length-append (omega arith) in
      let q = expression_good earlier n h t p in
      let r = expression_good (earlier ++ x.cells) (n + length x.cells) next (table_more ds x.cells t) s in
      let w = two_width op (operand_width x.operand) in
      let left : GoodOperand ds (earlier ++ (x.cells ++ y.cells)) x.operand (expression_width ds a) = rw append_assoc at (good_more ds y.cells q.good) in
      let right : GoodOperand ds (earlier ++ (x.cells ++ y.cells)) y.operand (expression_width ds b) = rw append_assoc at r.good in
      rw (← q.good.wide)
      (with_cell_good (Cell.Two op w x.operand y.operand) h (each_append q.pass r.pass) (two_passes ds left right op e) refl
      (two_width_lem op (operand_width x.operand) (rw q.good.wide q.good.width)))
