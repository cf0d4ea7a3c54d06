-- What the code of an expression writes, by its sort: its operands' cells first and then its own, and how much room is left after them. From the laws of writing
-- cells, and of how few there are. Assumes nothing.
use mathlib.Core.Path.{◌≡◌, refl, ap, ◌∙◌, subst}
use mathlib.Core.List.{List, [], ◌++◌}
use Prim.Native.Nat.{ℕ, ◌+◌, ◌*◌, ◌≤◌}
use native.Mathlib.Omega.{arith}
use lib.ListN.{length, get_or, drop}
use Rattle.words.specs.Operators.{one_width, two_width}
use Rattle.words.specs.declared.OneOperand.{OneOperand}
use Rattle.words.specs.declared.TwoOperand.{TwoOperand}
use Rattle.tagged.specs.Bytes.{four_of}
use Rattle.tagged.specs.declared.sorts.ExpressionSort.{ExpressionSort}
use Rattle.netlist.specs.Lists.{operand_width}
use Rattle.netlist.specs.declared.Operand.{Operand}
use Rattle.netlist.specs.declared.Cell.{Cell}
use Rattle.verilog.specs.Tree.{Expression}
use Rattle.verilog.specs.Reading.{no_expression, after_front, expression_with, expression_in}
use Rattle.translate.specs.Tables.{operand_at}
use Rattle.translate.specs.Translation.{Emitted, with_cell, translate_expression}
use Rattle.translate_blocks.specs.declared.emit.Emitter.{Emitter}
use Rattle.translate_blocks.specs.Emitting.{Emits, EmitsExpression}
use Rattle.translate_blocks.proofs.EmitLaws.{emits_none, emits_then, emits_past}
use Rattle.translate_blocks.proofs.FieldSizes.{front_within}
use Rattle.translate_blocks.proofs.Bounds.{expression_cells}

-- a cell after others
cell_after : {e e₁ e₂ : Emitter} (cells : List Cell) (w : ℕ) (c : Cell) {r : Operand} → Emits e cells e₁ → EmitsExpression e₁ (with_cell e₁.cells [] w c) e₂ r →
    EmitsExpression e (with_cell e.cells cells w c) e₂ r
cell_after cells w c p q = record { emits = emits_then p q.emits; is = q.is ∙ ap (Operand.Cell w) (omega (arith, p.counted)) }

-- an operand that needs no cell
operand_emitted : {e : Emitter} {r : Operand} (x : Emitted) → record { cells = []; operand = r } ≡ x → EmitsExpression e x e r
operand_emitted {e} {r} x is = subst (λ (y : Emitted). EmitsExpression e y e r) is (record { emits = emits_none e; is = refl })

-- what is not there is the constant 0 of width 0
pub nothing_emitted : {e : Emitter} (t : List Operand) (x : Expression) → no_expression ≡ x → EmitsExpression e (translate_expression t e.cells x) e (Operand.Constant 0 0)
unfolding translate_expression
nothing_emitted {e} t x is = operand_emitted (translate_expression t e.cells x) (ap (translate_expression t e.cells) is)

-- the room that is left after an expression, for what follows it and for its own cell
module _ {e e₁ : Emitter} (t : List Operand) (d : ℕ) (l : List ℕ) {r : Operand} (p : EmitsExpression e (translate_expression t e.cells (expression_in d l)) e₁ r) where
  pub room_after : (rest : List ℕ) → rest ≡ after_front l → (e₁.at + 22 * length rest ≤ e.at + 22 * length l) × (e₁.cells + length rest ≤ e.cells + length l)
  room_after rest is =
      let small : 3 * length (translate_expression t e.cells (expression_in d l)).cells + length (after_front l) ≤ length l =
      omega (arith, expression_cells t d l e.cells, front_within l) in
      (omega (arith, small, ap length is, emits_past p.emits), omega (arith, small, ap length is, p.emits.counted))

  pub room_left : (e₁.at ≤ e.at + 22 * length l) × (e₁.cells ≤ e.cells + length l)
  room_left = let room = room_after (after_front l) refl in (omega (arith, room.0), omega (arith, room.1))

-- by the sort
module _ (t : List Operand) (inner : List ℕ → Expression) (sort : ExpressionSort) (l : List ℕ) where
  abbrev own : Emitter → Emitted
  own e = translate_expression t e.cells (expression_with inner sort l)

  pub constant_emitted : {e : Emitter} → sort ≡ ExpressionSort.Constant → (w v : ℕ) → w ≡ get_or l 0 0 → (rest : List ℕ) → rest ≡ drop 1 l → v ≡ four_of rest → EmitsExpression e (own e) e (Operand.Constant w v)
  unfolding translate_expression
  constant_emitted {e} is w v width rest part number = operand_emitted (own e) (rw (is, width, number, part))

  pub variable_emitted : {e : Emitter} → sort ≡ ExpressionSort.Variable → (v : ℕ) → v ≡ get_or l 0 0 → {operand : Operand} → operand ≡ operand_at t v → EmitsExpression e (own e) e operand
  unfolding translate_expression
  variable_emitted {e} is v index held = operand_emitted (own e) (rw (is, held, index))

  pub chosen_emitted : sort ≡ ExpressionSort.ChosenBit → (v : ℕ) → v ≡ get_or l 0 0 → (vector : Operand) → vector ≡ operand_at t v → (rest : List ℕ) → rest ≡ drop 1 l →
      {e e₁ e₂ : Emitter} {a r : Operand} → EmitsExpression e (translate_expression t e.cells (inner rest)) e₁ a →
      EmitsExpression e₁ (with_cell e₁.cells [] 1 (Cell.ChosenBit 1 vector a)) e₂ r → EmitsExpression e (own e) e₂ r
  unfolding translate_expression
  chosen_emitted is v index vector held rest part {e} {e₁} {e₂} {a} {r} p q =
      let x : Emitted = translate_expression t e.cells (inner rest) in
      let last : EmitsExpression e₁ (with_cell e₁.cells [] 1 (Cell.ChosenBit 1 vector x.operand)) e₂ r =
      subst (λ (b : Operand). EmitsExpression e₁ (with_cell e₁.cells [] 1 (Cell.ChosenBit 1 vector b)) e₂ r) p.is q in
      rw (is, ← part, ← index, ← held) (cell_after x.cells 1 (Cell.ChosenBit 1 vector x.operand) p.emits last)

  pub one_emitted : (op : OneOperand) → sort ≡ ExpressionSort.One op → {e e₁ e₂ : Emitter} {a r : Operand} {w : ℕ} → EmitsExpression e (translate_expression t e.cells (inner l)) e₁ a →
      w ≡ one_width op (operand_width a) → EmitsExpression e₁ (with_cell e₁.cells [] w (Cell.One op w a)) e₂ r → EmitsExpression e (own e) e₂ r
  unfolding translate_expression
  one_emitted op is {e} {e₁} {e₂} {a} {r} {w} p wide q =
      let x : Emitted = translate_expression t e.cells (inner l) in
      let v : ℕ = one_width op (operand_width x.operand) in
      let same : w ≡ v = wide ∙ ap (λ (b : Operand). one_width op (operand_width b)) p.is in
      let last : EmitsExpression e₁ (with_cell e₁.cells [] v (Cell.One op v x.operand)) e₂ r =
      subst (λ (b : Operand). EmitsExpression e₁ (with_cell e₁.cells [] v (Cell.One op v b)) e₂ r) p.is
      (subst (λ (k : ℕ). EmitsExpression e₁ (with_cell e₁.cells [] k (Cell.One op k a)) e₂ r) same q) in
      rw is (cell_after x.cells v (Cell.One op v x.operand) p.emits last)

  pub two_emitted : (op : TwoOperand) → sort ≡ ExpressionSort.Two op → {e e₁ e₂ e₃ : Emitter} {a b r : Operand} {w : ℕ} →
      EmitsExpression e (translate_expression t e.cells (inner l)) e₁ a → (rest : List ℕ) → rest ≡ after_front l →
      EmitsExpression e₁ (translate_expression t e₁.cells (inner rest)) e₂ b → w ≡ two_width op (operand_width a) →
      EmitsExpression e₂ (with_cell e₂.cells [] w (Cell.Two op w a b)) e₃ r → EmitsExpression e (own e) e₃ r
  unfolding translate_expression
  two_emitted op is {e} {e₁} {e₂} {e₃} {a} {b} {r} {w} p rest front q wide z =
      let x : Emitted = translate_expression t e.cells (inner l) in
      let y : Emitted = translate_expression t (e.cells + length x.cells) (inner (after_front l)) in
      let v : ℕ = two_width op (operand_width x.operand) in
      let same : w ≡ v = wide ∙ ap (λ (c : Operand). two_width op (operand_width c)) p.is in
      let second : EmitsExpression e₁ y e₂ b =
      subst (λ (m : ℕ). EmitsExpression e₁ (translate_expression t m (inner (after_front l))) e₂ b) p.emits.counted
      (subst (λ (u : List ℕ). EmitsExpression e₁ (translate_expression t e₁.cells (inner u)) e₂ b) front q) in
      let last : EmitsExpression e₂ (with_cell e₂.cells [] v (Cell.Two op v x.operand y.operand)) e₃ r =
      subst (λ (u : Operand). EmitsExpression e₂ (with_cell e₂.cells [] v (Cell.Two op v x.operand u)) e₃ r) second.is
      (subst (λ (u : Operand). EmitsExpression e₂ (with_cell e₂.cells [] v (Cell.Two op v u b)) e₃ r) p.is
      (subst (λ (k : ℕ). EmitsExpression e₂ (with_cell e₂.cells [] k (Cell.Two op k a b)) e₃ r) same z)) in
      rw is (cell_after (x.cells ++ y.cells) v (Cell.Two op v x.operand y.operand) (emits_then p.emits second.emits) last)
