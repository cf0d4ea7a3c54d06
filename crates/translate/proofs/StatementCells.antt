-- The cells of typed statements pass after those before them, and the tables after them are good; so for all processes. By induction on the typing.
use mathlib.Core.Path.{◌≡◌, refl, sym}
use mathlib.Core.List.{List, [], ◌∷◌, ◌++◌, append-nil}
use Prim.Native.Nat.{ℕ, ◌+◌, ◌<◌}
use native.Mathlib.Omega.{arith}
use lib.ListN.{length, length-append}
use Rattle.words.specs.declared.TwoOperand.TheVariants as two_operand
use Rattle.words.specs.Operators.{two_width}
use Rattle.tagged.specs.Declarations.{Declaration, variable_width}
use Rattle.tagged.specs.declared.sorts.Kind.{Kind}
use Rattle.netlist.specs.Lists.{operand_width}
use Rattle.netlist.specs.declared.Operand.{Operand}
use Rattle.netlist.specs.declared.Cell.{Cell}
use Rattle.verilog.specs.Tree.{Statement, Block, Items, Module}
use Rattle.verilog.proofs.Typed.{TypedStatement, assign_typed, assign_bit_typed, if_else_typed, case_typed, TypedBlock, end_typed, then_typed, TypedItems, default_typed, item_typed, TypedAll, none_typed, more_typed, TypedModule}
use Rattle.translate.specs.Tables.{Tables, held_operand, replaced, Translated}
use Rattle.translate.specs.Translation.{Emitted, with_cell, translate_expression, translate_statement, translate_block, translate_items, translate_all, translated_module}
use Rattle.tagged.proofs.PassLaws.{none_after, one_after}
use Rattle.translate.proofs.Operands.{GoodOperand, good_more, good_width, constant_good, cell_good, table-set, themselves_good}
use Rattle.translate.proofs.CellsPass.{CellPasses, two_passes, put_passes}
use Rattle.translate.proofs.ExpressionCells.{GoodEmitted, with_cell_good, held_good, expression_good}
use Rattle.translate.proofs.MergeCells.{GoodTables, tables_more, GoodTranslated, after_good, joined_good}
use Rattle.verilog.proofs.BreaksLaws.{register_exists}

module _ (ds : List Declaration) where
  -- an assignment replaces an operand by one of the same width
  replaced_good : {cells : List Cell} {t : Tables} {o : Operand} (kind : Kind) (v : ℕ) → GoodTables ds cells t → GoodOperand ds cells o (variable_width ds v) →
      GoodTables ds cells (replaced kind t v o)
  replaced_good Kind.Blocking v g h = record { current = table-set ds g.current v h; pending = g.pending }
  replaced_good Kind.NonBlocking v g h = record { current = g.current; pending = table-set ds g.pending v h }

  kind_good : {cells : List Cell} {t : Tables} (kind : Kind) (v : ℕ) → GoodTables ds cells t → v < length ds →
      GoodOperand ds cells (held_operand kind t v) (variable_width ds v)
  kind_good Kind.Blocking v g h = held_good ds g.current v h
  kind_good Kind.NonBlocking v g h = held_good ds g.pending v h

  -- the number of the next cell, some cells later
  counted : (earlier more : List Cell) (n : ℕ) → n ≡ length earlier → n + length more ≡ length (earlier ++ more)
  counted earlier more n h = rw length-append (omega arith)

  equal_passes : {earlier : List Cell} {a b : Operand} {w u : ℕ} → GoodOperand ds earlier a w → GoodOperand ds earlier b u → w ≡ u →
      CellPasses ds earlier (Cell.Two two_operand.Equal 1 a b)
  unfolding two_width
  equal_passes x y e = two_passes ds x y two_operand.Equal e

  mutual
    unfolding translate_statement

    pub statement_good : (earlier : List Cell) (n : ℕ) {t : Tables} {s : Statement} → n ≡ length earlier → GoodTables ds earlier t → TypedStatement ds s →
        GoodTranslated ds earlier (translate_statement t n s)
    statement_good earlier n {t} h g (assign_typed {kind = kind} {v = v} {e = e} r p w) =
        let x = translate_expression t.current n e in
        let q = expression_good ds earlier n h g.current p in
        record { pass = q.pass; good = replaced_good kind v (tables_more ds x.cells g) (good_width ds w q.good) }
    statement_good earlier n {t} h g (assign_bit_typed {kind = kind} {v = v} {k = k} {e = e} r l p w) =
        let x = translate_expression t.current n e in
        let q = expression_good ds earlier n h g.current p in
        let old : Operand = held_operand kind t v in
        let o = kind_good kind v g (register_exists ds v r) in
        let put : Emitted = with_cell n x.cells (operand_width old) (Cell.Put (operand_width old) old k x.operand) in
        let y : GoodEmitted ds earlier put (operand_width old) =
        with_cell_good ds (Cell.Put (operand_width old) old k x.operand) h q.pass (put_passes ds (good_more ds x.cells o) q.good k l w) refl
        (rw o.wide o.width) in
        record { pass = y.pass; good = replaced_good kind v (tables_more ds put.cells g) (good_width ds o.wide y.good) }
    statement_good earlier n {t} h g (if_else_typed {c = c} {a = a} {b = b} p w y z) =
        let x = translate_expression t.current n c in
        let q = expression_good ds earlier n h g.current p in
        let start : ℕ = n + length x.cells in
        let first : Translated = translate_block t start a in
        let here : start ≡ length (earlier ++ x.cells) = counted earlier x.cells n h in
        let g' : GoodTables ds (earlier ++ x.cells) t = tables_more ds x.cells g in
        let there : start + length first.cells ≡ length ((earlier ++ x.cells) ++ first.cells) = counted (earlier ++ x.cells) first.cells start here in
        after_good ds q.pass
        (joined_good ds (earlier ++ x.cells) start here (good_width ds w q.good) (block_good (earlier ++ x.cells) start here g' y)
        (block_good ((earlier ++ x.cells) ++ first.cells) (start + length first.cells) there (tables_more ds first.cells g') z))
    statement_good earlier n {t} h g (case_typed {e = e} p y) =
        let x = translate_expression t.current n e in
        let q = expression_good ds earlier n h g.current p in
        after_good ds q.pass
        (items_good (earlier ++ x.cells) (n + length x.cells) (counted earlier x.cells n h) (tables_more ds x.cells g) q.good y)

    pub block_good : (earlier : List Cell) (n : ℕ) {t : Tables} {b : Block} → n ≡ length earlier → GoodTables ds earlier t → TypedBlock ds b →
        GoodTranslated ds earlier (translate_block t n b)
    block_good earlier n h g end_typed = record { pass = none_after; good = rw append-nil g }
    block_good earlier n {t} h g (then_typed {s = s} p q) =
        let first : Translated = translate_statement t n s in
        let x = statement_good earlier n h g p in
        after_good ds x.pass (block_good (earlier ++ first.cells) (n + length first.cells) (counted earlier first.cells n h) x.good q)

    pub items_good : (earlier : List Cell) (n : ℕ) {t : Tables} {selector : Operand} {width : ℕ} {items : Items} → n ≡ length earlier → GoodTables ds earlier t →
        GoodOperand ds earlier selector width → TypedItems ds width items → GoodTranslated ds earlier (translate_items t n selector items)
    items_good earlier n h g o (default_typed p) = block_good earlier n h g p
    items_good earlier n {t} {selector} h g o (item_typed {w = w} {v = v} {b = b} k f e p q) =
        let equal : Cell = Cell.Two two_operand.Equal 1 selector (Operand.Constant w v) in
        let now : List Cell = earlier ++ (equal ∷ []) in
        let first : Translated = translate_block t (n + 1) b in
        let passes : CellPasses ds earlier equal = equal_passes o (constant_good ds k f) (sym e) in
        let here : n + 1 ≡ length now = counted earlier (equal ∷ []) n h in
        let g' : GoodTables ds now t = tables_more ds (equal ∷ []) g in
        let there : n + 1 + length first.cells ≡ length (now ++ first.cells) = counted now first.cells (n + 1) here in
        let o' : GoodOperand ds (now ++ first.cells) selector _ = good_more ds first.cells (good_more ds (equal ∷ []) o) in
        after_good ds (one_after passes)
        (joined_good ds now (n + 1) here (cell_good ds earlier equal h refl refl) (block_good now (n + 1) here g' p)
        (items_good (now ++ first.cells) (n + 1 + length first.cells) there (tables_more ds first.cells g') o' q))

  pub all_good : (earlier : List Cell) (n : ℕ) {t : Tables} {l : List Block} → n ≡ length earlier → GoodTables ds earlier t → TypedAll ds l →
      GoodTranslated ds earlier (translate_all t n l)
  unfolding translate_all
  all_good earlier n h g none_typed = record { pass = none_after; good = rw append-nil g }
  all_good earlier n {t} h g (more_typed {b = b} p q) =
      let first : Translated = translate_block t n b in
      let x = block_good earlier n h g p in
      after_good ds x.pass (all_good (earlier ++ first.cells) (n + length first.cells) (counted earlier first.cells n h) x.good q)

-- the cells and last operands of a typed module
pub translated_good : (m : Module) → TypedModule m → GoodTranslated m.declarations [] (translated_module m)
unfolding translated_module
translated_good m p =
    let t = themselves_good m.declarations [] [] m.declarations 0 refl refl p.widths in
    all_good m.declarations [] 0 refl (record { current = t; pending = t }) p.processes
