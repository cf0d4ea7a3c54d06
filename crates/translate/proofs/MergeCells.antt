-- The muxes of a merge pass after the cells before them, and the operands after it are good and keep their widths. By induction on the table.
use mathlib.Core.Path.{◌≡◌, refl}
use mathlib.Core.Bool.{Bool, true, false, cond}
use mathlib.Core.List.{List, [], ◌∷◌, ◌++◌, map, append_assoc}
use Prim.Native.Nat.{ℕ, ◌+◌}
use native.Mathlib.Omega.{arith}
use lib.ListN.{length, length-append}
use Rattle.tagged.specs.Declarations.{Declaration, width_of}
use Rattle.netlist.specs.Lists.{operand_width}
use Rattle.netlist.specs.declared.Operand.{Operand}
use Rattle.netlist.specs.declared.Cell.{Cell}
use Rattle.translate.specs.Tables.{Tables, same_operand, Merged, kept, muxed, merge, Translated, merge_tables}
use Rattle.translate.specs.Translation.{after, joined}
use Rattle.tagged.proofs.PassLaws.{EachAfter, none_after, more_after, each_append}
use Rattle.translate.proofs.Operands.{GoodOperand, good_more, good_width, cell_good, GoodTable, no_operands, more_operands, table_more}
use Rattle.translate.proofs.CellsPass.{CellPasses, mux_passes}

abbrev mux_of : Operand → Operand → Operand → Cell
mux_of c a b = Cell.Mux (operand_width a) c a b

module _ (ds : List Declaration) where
  pub record GoodMerged (earlier : List Cell) (m : Merged) (ws : List ℕ) : Type 0 where
    pub pass : EachAfter (CellPasses ds) earlier m.cells
    pub good : GoodTable ds (earlier ++ m.cells) ws m.operands

  pub merge_good : (ws : List ℕ) (earlier : List Cell) (n : ℕ) {c : Operand} {as' bs : List Operand} → n ≡ length earlier → GoodOperand ds earlier c 1 →
      GoodTable ds earlier ws as' → GoodTable ds earlier ws bs → GoodMerged earlier (merge c n as' bs) ws
  unfolding merge
  merge_good [] earlier n h z no_operands no_operands = record { pass = none_after; good = no_operands }
  merge_good (w ∷ ws) earlier n {c} h z (more_operands {o = a} {table = as'} x s) (more_operands {o = b} {table = bs} y t) =
      let mux : Cell = mux_of c a b in
      let next : n + 1 ≡ length (earlier ++ (mux ∷ [])) = rw length-append (omega arith) in
      go (same_operand a b) (merge_good ws earlier n h z s t)
      (merge_good ws (earlier ++ (mux ∷ [])) (n + 1) next (good_more ds (mux ∷ []) z) (table_more ds (mux ∷ []) s) (table_more ds (mux ∷ []) t))
    where
      go : (t : Bool) → GoodMerged earlier (merge c n as' bs) ws → GoodMerged (earlier ++ (mux_of c a b ∷ [])) (merge c (n + 1) as' bs) ws →
          GoodMerged earlier (cond t (kept a (merge c n as' bs)) (muxed c n a b (merge c (n + 1) as' bs))) (w ∷ ws)
      go true m k = record { pass = m.pass; good = more_operands (good_more ds (merge c n as' bs).cells x) m.good }
      go false m k = record {
        pass = more_after (mux_passes ds x y z refl) k.pass;
        good =
            let added = good_width ds x.wide (cell_good ds earlier (mux_of c a b) h refl (rw x.wide x.width)) in
            rw append_assoc at (more_operands (good_more ds (merge c (n + 1) as' bs).cells added) k.good);
      }

  -- both tables
  pub record GoodTables (cells : List Cell) (t : Tables) : Type 0 where
    pub current : GoodTable ds cells (map width_of ds) t.current
    pub pending : GoodTable ds cells (map width_of ds) t.pending

  pub tables_more : {cells : List Cell} {t : Tables} (more : List Cell) → GoodTables cells t → GoodTables (cells ++ more) t
  tables_more more g = record { current = table_more ds more g.current; pending = table_more ds more g.pending }

  -- what a part of a module may add after these cells
  pub record GoodTranslated (earlier : List Cell) (r : Translated) : Type 0 where
    pub pass : EachAfter (CellPasses ds) earlier r.cells
    pub good : GoodTables (earlier ++ r.cells) r.tables

  pub after_good : {earlier cells : List Cell} {r : Translated} → EachAfter (CellPasses ds) earlier cells → GoodTranslated (earlier ++ cells) r →
      GoodTranslated earlier (after cells r)
  after_good h g = record { pass = each_append h g.pass; good = rw append_assoc at g.good }

  merge_tables_good : (earlier : List Cell) (n : ℕ) {c : Operand} {a b : Tables} → n ≡ length earlier → GoodOperand ds earlier c 1 →
      GoodTables earlier a → GoodTables earlier b → GoodTranslated earlier (merge_tables c n a b)
  unfolding merge_tables
  merge_tables_good earlier n {c} {a} {b} h z x y =
      let first : Merged = merge c n a.current b.current in
      let second : Merged = merge c (n + length first.cells) a.pending b.pending in
      let next : n + length first.cells ≡ length (earlier ++ first.cells) = rw length-append (omega arith) in
      let p = merge_good (map width_of ds) earlier n h z x.current y.current in
      let q = merge_good (map width_of ds) (earlier ++ first.cells) (n + length first.cells) next (good_more ds first.cells z)
      (table_more ds first.cells x.pending) (table_more ds first.cells y.pending) in
      record {
        pass = each_append p.pass q.pass;
        good = record { current = rw append_assoc at (table_more ds second.cells p.good); pending = rw append_assoc at q.good };
      }

  pub joined_good : (earlier : List Cell) (n : ℕ) {c : Operand} {a b : Translated} → n ≡ length earlier → GoodOperand ds earlier c 1 →
      GoodTranslated earlier a → GoodTranslated (earlier ++ a.cells) b → GoodTranslated earlier (joined c n a b)
  joined_good earlier n {c} {a} {b} h z x y =
      let next : n + length a.cells + length b.cells ≡ length (earlier ++ (a.cells ++ b.cells)) = simp length-append (omega arith) in
      let left : GoodTables (earlier ++ (a.cells ++ b.cells)) a.tables = rw append_assoc at (tables_more b.cells x.good) in
      let right : GoodTables (earlier ++ (a.cells ++ b.cells)) b.tables = rw append_assoc at y.good in
      after_good (each_append x.pass y.pass)
      (merge_tables_good (earlier ++ (a.cells ++ b.cells)) (n + length a.cells + length b.cells) next (good_more ds (a.cells ++ b.cells) z) left right)
