-- The operands of a translation fit a word as long as the numbers of the cells do: the variables themselves, those of expressions, of merges, and so the tables
-- after them. By induction on the declarations, on the expression, and on the tables that are merged.
use mathlib.Core.Path.{◌≡◌, refl, ap, ◌∙◌}
use mathlib.Core.Bool.{Bool, true, false, cond}
use mathlib.Core.List.{List, [], ◌∷◌, ◌++◌}
use Prim.Native.Nat.{ℕ, zero, suc, ◌+◌, ◌^◌, ◌<◌, ◌≤◌}
use native.Mathlib.Omega.{arith}
use lib.ListN.{length, set, length-append, length-set}
use Rattle.words.specs.declared.OneOperand.{OneOperand}
use Rattle.words.specs.declared.OneOperand.TheVariants as one_operand_lem
use Rattle.words.specs.declared.TwoOperand.{TwoOperand}
use Rattle.words.specs.declared.TwoOperand.TheVariants as two_operand
use Rattle.words.specs.Operators.{one_width, two_width}
use Rattle.tagged.specs.Declarations.{Declaration}
use Rattle.tagged.specs.declared.sorts.Kind.{Kind}
use Rattle.netlist.specs.Lists.{operand_width}
use Rattle.netlist.specs.Fits.{FitsOperand, Every}
use Rattle.netlist.specs.declared.Operand.{Operand}
use Rattle.netlist.specs.declared.Cell.{Cell}
use Rattle.verilog.specs.Tree.{Expression, constant, variable, fixed_bit, chosen_bit, one, two}
use Rattle.verilog.specs.Fits.{FitsExpression, FitsDeclaration, All}
use Rattle.translate.specs.Tables.{Tables, themselves, operand_at, held_operand, replaced, same_operand, Merged, kept, muxed, merge, merge_tables}
use Rattle.translate.specs.Translation.{Emitted, translate_expression}

-- tables of so many variables, whose operands all fit a word
pub record FitsTables (count : ℕ) (t : Tables) : Type 0 where
  pub current_count : length t.current ≡ count
  pub pending_count : length t.pending ≡ count
  pub current : Every FitsOperand t.current
  pub pending : Every FitsOperand t.pending

-- each variable itself

pub themselves_count : (v : ℕ) (ds : List Declaration) → length (themselves v ds) ≡ length ds
unfolding themselves
themselves_count v [] = refl
themselves_count v (d ∷ ds) = ap suc (themselves_count (v + 1) ds)

themselves_fit : (v : ℕ) (ds : List Declaration) → All FitsDeclaration ds → v + length ds ≤ 2 ^ 32 → Every FitsOperand (themselves v ds)
unfolding themselves All FitsDeclaration
themselves_fit v [] fits h = tt
themselves_fit v (d ∷ ds) fits h = ((fits.0.0, omega arith), themselves_fit (v + 1) ds fits.1 (omega arith))

pub start_fits : (ds : List Declaration) → All FitsDeclaration ds → length ds ≤ 2 ^ 32 →
    FitsTables (length ds) (record { current = themselves 0 ds; pending = themselves 0 ds })
start_fits ds fits h =
    let all : Every FitsOperand (themselves 0 ds) = themselves_fit 0 ds fits (omega arith) in
    record { current_count = themselves_count 0 ds; pending_count = themselves_count 0 ds; current = all; pending = all }

-- what a table holds, and what it holds after a replacement

pub operand_fits : (table : List Operand) → Every FitsOperand table → (v : ℕ) → FitsOperand (operand_at table v)
operand_fits [] f v = (omega arith, omega arith)
operand_fits (o ∷ table) f zero = f.0
operand_fits (o ∷ table) f (suc v) = operand_fits table f.1 v

set_fits : (table : List Operand) → Every FitsOperand table → (v : ℕ) (o : Operand) → FitsOperand o → Every FitsOperand (set table v o)
set_fits [] f v o g = tt
set_fits (x ∷ table) f zero o g = (g, f.1)
set_fits (x ∷ table) f (suc v) o g = (f.0, set_fits table f.1 v o g)

module _ {count : ℕ} {t : Tables} (f : FitsTables count t) (v : ℕ) where
  pub held_fits : (kind : Kind) → FitsOperand (held_operand kind t v)
  held_fits Kind.Blocking = operand_fits t.current f.current v
  held_fits Kind.NonBlocking = operand_fits t.pending f.pending v

  pub replaced_fits : (kind : Kind) (o : Operand) → FitsOperand o → FitsTables count (replaced kind t v o)
  replaced_fits Kind.Blocking o g = record {
    current_count = length-set t.current v o ∙ f.current_count;
    pending_count = f.pending_count;
    current = set_fits t.current f.current v o g;
    pending = f.pending;
  }
  replaced_fits Kind.NonBlocking o g = record {
    current_count = f.current_count;
    pending_count = length-set t.pending v o ∙ f.pending_count;
    current = f.current;
    pending = set_fits t.pending f.pending v o g;
  }

-- an operator's result is no wider than its operand, or one bit wide
one_narrow : (op : OneOperand) {w : ℕ} → w < 256 → one_width op w < 256
unfolding one_width
one_narrow one_operand_lem.Not h = h
one_narrow one_operand_lem.Parity h = omega arith

two_narrow : (op : TwoOperand) {w : ℕ} → w < 256 → two_width op w < 256
unfolding two_width
two_narrow two_operand.And h = h
two_narrow two_operand.Or h = h
two_narrow two_operand.Xor h = h
two_narrow two_operand.Add h = h
two_narrow two_operand.Equal h = omega arith

-- the number of a cell that is added after these
pub last_number : (n : ℕ) (cells : List Cell) (c : Cell) → n + length (cells ++ (c ∷ [])) ≤ 2 ^ 32 → n + length cells < 2 ^ 32
last_number n cells c h = omega (arith, length-append cells (c ∷ []))

module _ (table : List Operand) (f : Every FitsOperand table) where
  pub expression_fits : (n : ℕ) (e : Expression) → FitsExpression e → n + length (translate_expression table n e).cells ≤ 2 ^ 32 →
      FitsOperand (translate_expression table n e).operand
  unfolding translate_expression FitsExpression
  expression_fits n (constant w v) fits h = fits
  expression_fits n (variable v) fits h = operand_fits table f v
  expression_fits n (fixed_bit v k) fits h = (omega arith, omega arith)
  expression_fits n (chosen_bit v e) fits h =
      let i : Emitted = translate_expression table n e in
      (omega arith, last_number n i.cells (Cell.ChosenBit 1 (operand_at table v) i.operand) h)
  expression_fits n (one op a) fits h =
      let x : Emitted = translate_expression table n a in
      let small = last_number n x.cells (Cell.One op (one_width op (operand_width x.operand)) x.operand) h in
      (one_narrow op (expression_fits n a fits (omega arith)).0, small)
  expression_fits n (two op a b) fits h =
      let x : Emitted = translate_expression table n a in
      let y : Emitted = translate_expression table (n + length x.cells) b in
      let small = last_number n (x.cells ++ y.cells) (Cell.Two op (two_width op (operand_width x.operand)) x.operand y.operand) h in
      (two_narrow op (expression_fits n a fits.0 (omega (arith, length-append x.cells y.cells))).0, small)

-- merges

module _ (condition : Operand) where
  merge_fits : (n : ℕ) (a b : List Operand) → Every FitsOperand a → n + length (merge condition n a b).cells ≤ 2 ^ 32 → Every FitsOperand (merge condition n a b).operands
  unfolding merge
  merge_fits n [] bs f h = tt
  merge_fits n (a ∷ as') [] f h = tt
  merge_fits n (a ∷ as') (b ∷ bs) f h = go (same_operand a b) (merge_fits n as' bs f.1) (merge_fits (n + 1) as' bs f.1) h
    where
      go : (t : Bool) → (n + length (merge condition n as' bs).cells ≤ 2 ^ 32 → Every FitsOperand (merge condition n as' bs).operands) →
          (n + 1 + length (merge condition (n + 1) as' bs).cells ≤ 2 ^ 32 → Every FitsOperand (merge condition (n + 1) as' bs).operands) →
          n + length (cond t (kept a (merge condition n as' bs)) (muxed condition n a b (merge condition (n + 1) as' bs))).cells ≤ 2 ^ 32 →
          Every FitsOperand (cond t (kept a (merge condition n as' bs)) (muxed condition n a b (merge condition (n + 1) as' bs))).operands
      go true same other h = (f.0, same h)
      go false same other h = ((f.0.0, omega arith), other (omega arith))

  pub merge_count : (n : ℕ) (a b : List Operand) → length a ≡ length b → length (merge condition n a b).operands ≡ length a
  unfolding merge
  merge_count n [] bs e = refl
  merge_count n (a ∷ as') [] e = absurd (omega arith)
  merge_count n (a ∷ as') (b ∷ bs) e = go (same_operand a b) (merge_count n as' bs (omega arith)) (merge_count (n + 1) as' bs (omega arith))
    where
      go : (t : Bool) → length (merge condition n as' bs).operands ≡ length as' → length (merge condition (n + 1) as' bs).operands ≡ length as' →
          length (cond t (kept a (merge condition n as' bs)) (muxed condition n a b (merge condition (n + 1) as' bs))).operands ≡ length (a ∷ as')
      go true same other = omega arith
      go false same other = omega arith

  pub merge_tables_fit : {count : ℕ} {a b : Tables} (n : ℕ) → FitsTables count a → FitsTables count b →
      n + length (merge_tables condition n a b).cells ≤ 2 ^ 32 → FitsTables count (merge_tables condition n a b).tables
  unfolding merge_tables
  merge_tables_fit {a = a} {b} n f g h =
      let first : Merged = merge condition n a.current b.current in
      let second : Merged = merge condition (n + length first.cells) a.pending b.pending in
      let sum : length (first.cells ++ second.cells) ≡ length first.cells + length second.cells = length-append first.cells second.cells in
      record {
        current_count = merge_count n a.current b.current (omega (arith, f.current_count, g.current_count)) ∙ f.current_count;
        pending_count =
            merge_count (n + length first.cells) a.pending b.pending (omega (arith, f.pending_count, g.pending_count)) ∙ f.pending_count;
        current = merge_fits n a.current b.current f.current (omega arith);
        pending = merge_fits (n + length first.cells) a.pending b.pending f.pending (omega arith);
      }
