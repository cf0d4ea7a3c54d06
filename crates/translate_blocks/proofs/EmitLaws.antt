-- Cells written and counted: none, one, and some after others are one writing of them all; a cell takes at most 22 bytes. From the laws of writing bytes.
use mathlib.Core.Path.{◌≡◌, refl, sym, ap, ◌∙◌, subst}
use mathlib.Core.List.{List, [], ◌∷◌, ◌++◌, append-nil}
use Prim.Native.Nat.{ℕ, ◌+◌, ◌*◌, ◌≤◌}
use native.Mathlib.Nat.{add-zero, add_assoc}
use native.Mathlib.Omega.{arith}
use lib.ListN.{length, length-append}
use Rattle.tagged.specs.Bytes.{Wrote}
use Rattle.tagged.specs.Fields.{all_bytes_of}
use Rattle.tagged.proofs.AllBytesLaws.{all_length, bytes_joined}
use Rattle.tagged.proofs.WriteLaws.{wrote_then, wrote_none}
use Rattle.netlist.specs.Form.{cell_bytes}
use Rattle.netlist.specs.declared.Operand.{Operand}
use Rattle.netlist.specs.declared.Cell.{Cell}
use Rattle.netlist.proofs.CellBytes.{cell_length}
use Rattle.netlist.proofs.PutLaws.{wrote_as}
use Rattle.translate.specs.Translation.{with_cell}
use Rattle.translate_blocks.specs.declared.emit.Emitter.{Emitter}
use Rattle.translate_blocks.specs.Emitting.{Appends, Emits, EmitsExpression}

-- bytes after others
pub appends_then : {e e₁ e₂ : Emitter} {a b : List ℕ} → Appends e a e₁ → Appends e₁ b e₂ → Appends e (a ++ b) e₂
appends_then p q = record { wrote = wrote_then p.wrote q.wrote; same_buffer = q.same_buffer ∙ p.same_buffer }

pub appends_as : {e e₁ : Emitter} {a b : List ℕ} → a ≡ b → Appends e b e₁ → Appends e a e₁
appends_as p q = record { wrote = wrote_as p q.wrote; same_buffer = q.same_buffer }

-- nothing is emitted
pub emits_none : (e : Emitter) → Emits e [] e
unfolding all_bytes_of
emits_none e = record { appends = record { wrote = wrote_none; same_buffer = refl }; counted = sym (add-zero e.cells) }

-- one cell
pub emits_one : (e : Emitter) (cell : Cell) {o : List ℕ} {i : ℕ} → Wrote e.out.now e.at (cell_bytes cell) o i →
    {e₁ : Emitter} → e₁.out.now ≡ o → e₁.at ≡ i → e₁.cells ≡ e.cells + 1 → e₁.out.ghost_name ≡ e.out.ghost_name → Emits e (cell ∷ []) e₁
unfolding all_bytes_of
emits_one e cell w out at count same =
    record { appends = record { wrote = wrote_as (append-nil (cell_bytes cell)) (rw (out, at) w); same_buffer = same }; counted = count }

-- first these cells, then those
pub emits_then : {e e₁ e₂ : Emitter} {a b : List Cell} → Emits e a e₁ → Emits e₁ b e₂ → Emits e (a ++ b) e₂
emits_then {e} {a = a} {b} p q = record {
  appends = appends_as (bytes_joined cell_bytes a b) (appends_then p.appends q.appends);
  counted = q.counted ∙ ap (λ (k : ℕ). k + length b) p.counted ∙ add_assoc e.cells (length a) (length b) ∙ ap (λ (k : ℕ). e.cells + k) (sym (length-append a b));
}

-- the same cells, given in another way
pub emits_as : {e e₁ : Emitter} {a b : List Cell} → a ≡ b → Emits e b e₁ → Emits e a e₁
emits_as {e} {e₁} p q = subst (λ (cells : List Cell). Emits e cells e₁) (sym p) q

-- how far the index moves
pub emits_past : {e e₁ : Emitter} {cells : List Cell} → Emits e cells e₁ → e₁.at ≤ e.at + 22 * length cells
emits_past {cells = cells} p = omega (arith, p.appends.wrote.past, all_length cell_bytes 22 cells (λ c m. cell_length c))

-- a cell by itself is an operand
pub cell_emitted : {e e₁ : Emitter} (w : ℕ) {c : Cell} → Emits e (c ∷ []) e₁ → EmitsExpression e (with_cell e.cells [] w c) e₁ (Operand.Cell w e.cells)
cell_emitted w p = record { emits = p; is = ap (Operand.Cell w) (omega arith) }
