-- Operands that break no rule where they stand: they keep on doing so when cells are added, and so do the tables of them. By cases on the operand.
use mathlib.Core.Path.{◌≡◌, refl, sym, ◌∙◌}
use mathlib.Core.Bool.{true, false, not}
use mathlib.Core.List.{List, [], ◌∷◌, ◌++◌, map, map-append, append_assoc}
use Prim.Native.Nat.{ℕ, zero, suc, ◌+◌, ◌<◌}
use native.Mathlib.Omega.{arith}
use lib.Dec.{eqb}
use lib.ListN.{length, get_or, set, length-append, length-map, get_or-append}
use lib.Seq.{get_or_at}
use borrow.Author.Tests.{eq-eqb, leb-false, lt-leb}
use Rattle.words.specs.Widths.{is_width, fits_width}
use Rattle.tagged.specs.Declarations.{Declaration, width_of, variable_width}
use Rattle.netlist.specs.Lists.{operand_width, cell_width}
use Rattle.netlist.specs.Rules.{operand_value_broken, operand_missing, operand_unlike}
use Rattle.netlist.specs.declared.Operand.{Operand}
use Rattle.netlist.specs.declared.Cell.{Cell}
use Rattle.verilog.proofs.Typed.{WidthsFit, no_widths, more_widths}
use Rattle.translate.specs.Tables.{themselves, operand_at}

-- equal numbers do not differ
pub equal_not : (a b : ℕ) → a ≡ b → not (eqb a b) ≡ false
equal_not a b e = rw (eq-eqb a b e)

module _ (ds : List Declaration) where
  -- an operand of width w that may stand after these cells
  pub record GoodOperand (cells : List Cell) (o : Operand) (w : ℕ) : Type 0 where
    pub value : operand_value_broken o ≡ false
    pub there : operand_missing ds cells o ≡ false
    pub like : operand_unlike ds cells o ≡ false
    pub wide : operand_width o ≡ w
    pub width : is_width w ≡ true

  missing_more : (cells more : List Cell) (o : Operand) → operand_missing ds cells o ≡ false → operand_missing ds (cells ++ more) o ≡ false
  unfolding operand_missing
  missing_more cells more (Operand.Constant w n) h = refl
  missing_more cells more (Operand.Variable w n) h = h
  missing_more cells more (Operand.Cell w n) h =
      let l : n < length cells = leb-false (length cells) n h in
      lt-leb (length (cells ++ more)) n (rw length-append (omega arith))

  unlike_more : (cells more : List Cell) (o : Operand) → operand_missing ds cells o ≡ false → operand_unlike ds cells o ≡ false →
      operand_unlike ds (cells ++ more) o ≡ false
  unfolding operand_missing operand_unlike
  unlike_more cells more (Operand.Constant w n) m h = refl
  unlike_more cells more (Operand.Variable w n) m h = h
  unlike_more cells more (Operand.Cell w n) m h =
      let l : n < length (map cell_width cells) = rw (length-map cells cell_width) (leb-false (length cells) n m) in
      rw (map-append cell_width cells more, get_or-append (map cell_width cells) (map cell_width more) 0 n l) h

  pub good_more : {cells : List Cell} {o : Operand} {w : ℕ} (more : List Cell) → GoodOperand cells o w → GoodOperand (cells ++ more) o w
  good_more {cells} {o} more g = record {
    value = g.value;
    there = missing_more cells more o g.there;
    like = unlike_more cells more o g.there g.like;
    wide = g.wide;
    width = g.width;
  }

  -- its width, by another name
  pub good_width : {cells : List Cell} {o : Operand} {w u : ℕ} → w ≡ u → GoodOperand cells o w → GoodOperand cells o u
  good_width e g = record { value = g.value; there = g.there; like = g.like; wide = g.wide ∙ e; width = rw (← e) g.width }

  pub constant_good : {cells : List Cell} {w n : ℕ} → is_width w ≡ true → fits_width w n ≡ true → GoodOperand cells (Operand.Constant w n) w
  unfolding operand_value_broken operand_missing operand_unlike
  constant_good h f = record { value = rw (h, f); there = refl; like = refl; wide = refl; width = h }

  -- a cell that was just added
  pub cell_good : (cells : List Cell) {n w : ℕ} (c : Cell) → n ≡ length cells → cell_width c ≡ w → is_width w ≡ true →
      GoodOperand (cells ++ (c ∷ [])) (Operand.Cell w n) w
  unfolding operand_value_broken operand_missing operand_unlike
  cell_good cells {n} {w} c e u h = record {
    value = rw h;
    there = lt-leb (length (cells ++ (c ∷ []))) n (rw length-append (omega arith));
    like =
        let l : length (map cell_width cells) ≡ n = length-map cells cell_width ∙ sym e in
        rw (map-append cell_width cells (c ∷ []), get_or_at (map cell_width cells) (cell_width c) [] 0 n l) (equal_not w (cell_width c) (sym u));
    wide = refl;
    width = h;
  }

  -- the operands of a table have these widths
  pub data GoodTable (cells : List Cell) : List ℕ → List Operand → Type 0 where
    no_operands : GoodTable cells [] []
    more_operands : {w : ℕ} {ws : List ℕ} {o : Operand} {table : List Operand} → GoodOperand cells o w → GoodTable cells ws table →
        GoodTable cells (w ∷ ws) (o ∷ table)

  pub table_more : {cells : List Cell} {ws : List ℕ} {table : List Operand} (more : List Cell) → GoodTable cells ws table → GoodTable (cells ++ more) ws table
  table_more more no_operands = no_operands
  table_more more (more_operands g t) = more_operands (good_more more g) (table_more more t)

  pub table_at : {cells : List Cell} {ws : List ℕ} {table : List Operand} → GoodTable cells ws table → (v : ℕ) → v < length ws →
      GoodOperand cells (operand_at table v) (get_or ws v 0)
  table_at no_operands v h = absurd (omega arith)
  table_at (more_operands g t) zero h = g
  table_at (more_operands g t) (suc v) h = table_at t v (omega arith)

  pub table-set : {cells : List Cell} {ws : List ℕ} {table : List Operand} → GoodTable cells ws table → (v : ℕ) {o : Operand} →
      GoodOperand cells o (get_or ws v 0) → GoodTable cells ws (set table v o)
  table-set no_operands v h = no_operands
  table-set (more_operands g t) zero h = more_operands h t
  table-set (more_operands g t) (suc v) h = more_operands g (table-set t v h)

  -- each variable itself; `front` are the declarations before these
  pub themselves_good : (cells : List Cell) (front l : List Declaration) (v : ℕ) → front ++ l ≡ ds → length front ≡ v → WidthsFit l →
      GoodTable cells (map width_of l) (themselves v l)
  unfolding themselves operand_value_broken operand_missing operand_unlike
  themselves_good cells front [] v e n no_widths = no_operands
  themselves_good cells front (d ∷ l) v e n (more_widths w h) =
      let k : length (map width_of front) ≡ v = length-map front width_of ∙ n in
      let own : variable_width ds v ≡ width_of d =
      rw (← e, map-append width_of front (d ∷ l)) (get_or_at (map width_of front) (width_of d) (map width_of l) 0 v k) in
      let g : GoodOperand cells (Operand.Variable (width_of d) v) (width_of d) = record {
        value = rw w;
        there = lt-leb (length ds) v (rw (← e, length-append) (omega arith));
        like = equal_not (width_of d) (variable_width ds v) (sym own);
        wide = refl;
        width = w;
      } in
      more_operands g (themselves_good cells (front ++ (d ∷ [])) l (v + 1) (append_assoc front (d ∷ []) l ∙ e) (rw length-append (omega arith)) h)
