-- Laws of what is done to the work: parts of a translation one after the other, and the room that is left behind them. From the laws of emitting and of the log.
-- Assumes nothing.
use mathlib.Core.Path.{◌≡◌, sym, ap, subst}
use mathlib.Core.List.{List}
use Prim.Native.Nat.{ℕ, ◌+◌, ◌*◌, ◌≤◌}
use native.Mathlib.Omega.{arith}
use lib.ListN.{length}
use Rattle.netlist.specs.declared.Operand.{Operand}
use Rattle.netlist.specs.declared.Cell.{Cell}
use Rattle.verilog.specs.Reading.{expression_in, after_front}
use Rattle.translate.specs.Translation.{translate_expression}
use Rattle.translate_blocks.specs.declared.emit.Emitter.{Emitter}
use Rattle.translate_blocks.specs.Emitting.{Emits}
use Rattle.translate_blocks.specs.Writing.{Written, behind, untouched}
use Rattle.translate_blocks.specs.Log.{log_of, Forward, onward, arrived}
use Rattle.translate_blocks.specs.Working.{Work, Translates, Forwards, Room}
use Rattle.translate_blocks.proofs.EmitLaws.{emits_none, emits_then, emits_as, emits_past}
use Rattle.translate_blocks.proofs.LogLaws.{grown_none, grown_then, grown_as, log_append}
use Rattle.translate_blocks.proofs.FieldSizes.{front_size, front_within}
use Rattle.translate_blocks.proofs.Bounds.{Bounded, expression_cells}

-- nothing is done
pub translates_none : {x : Work} {w : Written} {table : List Operand} → w ≡ untouched table → Translates w x x table
translates_none {x} e = record {
  emitted = emits_as (ap (λ (v : Written). v.cells) e) (emits_none x.emitter);
  left = ap (λ (v : Written). v.operands) (sym e);
  kept = grown_none x.log;
}

-- the same part, given in another way
pub translates_as : {x x₁ : Work} {table₁ : List Operand} {w v : Written} → w ≡ v → Translates v x x₁ table₁ → Translates w x x₁ table₁
translates_as {x} {x₁} {table₁} e t = subst (λ (u : Written). Translates u x x₁ table₁) (sym e) t

-- one part after the other
pub translates_then : {x x₁ x₂ : Work} {table₁ table₂ : List Operand} {w v : Written} → Translates w x x₁ table₁ → Translates v x₁ x₂ table₂ → Translates (behind w.cells v) x x₂ table₂
translates_then t u = record { emitted = emits_then t.emitted u.emitted; left = u.left; kept = grown_then t.kept u.kept }

-- the forward loop, given in another way; one item after the other; and the block that ends it

pub forwards_as : {x x₁ : Work} {table₁ : List Operand} {f g : Forward} → f ≡ g → Forwards g x x₁ table₁ → Forwards f x x₁ table₁
forwards_as {x} {x₁} {table₁} e t = subst (λ (h : Forward). Forwards h x x₁ table₁) (sym e) t

pub forwards_then : {x x₁ x₂ : Work} {table₁ table₂ : List Operand} {f g : Forward} → Forwards f x x₁ table₁ → Forwards g x₁ x₂ table₂ → Forwards (onward f g) x x₂ table₂
forwards_then {f = f} {g} t u = record {
  emitted = emits_then t.emitted u.emitted;
  left = u.left;
  grown = grown_as (log_append f.marks g.marks) (grown_then t.grown u.grown);
}

pub forwards_last : {x x₁ : Work} {table₁ : List Operand} {w : Written} → Translates w x x₁ table₁ → Forwards (arrived w) x x₁ table₁
unfolding log_of
forwards_last t = record { emitted = t.emitted; left = t.left; grown = t.kept }

-- room

pub room_less : {a b : ℕ} {table : List Operand} {x : Work} → a ≤ b → Room b table x → Room a table x
room_less h r = record { few = r.few; short = r.short; free = omega (arith, h, r.free); numbers = omega (arith, h, r.numbers); places = omega (arith, h, r.places) }

-- for another table of the same length
pub room_table : {bytes : ℕ} {table table₁ : List Operand} {x : Work} → length table₁ ≡ length table → Room bytes table x → Room bytes table₁ x
room_table t r = record { few = omega (arith, t, r.few); short = r.short; free = r.free; numbers = r.numbers; places = r.places }

-- behind some cells
pub room_emitted : (a : ℕ) {b bytes : ℕ} {table : List Operand} {x : Work} {e : Emitter} {cells : List Cell} → Room bytes table x → Emits x.emitter cells e →
    length cells ≤ 128 * a → a + b ≤ bytes → Room b table (record { emitter = e; log = x.log })
room_emitted a r p few h = record {
  few = r.few;
  short = r.short;
  free = omega (arith, h, r.free);
  numbers = omega (arith, h, few, p.counted, r.numbers);
  places = omega (arith, h, few, emits_past p, r.places);
}

-- behind a part that puts nothing into the log
pub room_after : {a b bytes : ℕ} {table table₁ : List Operand} {x x₁ : Work} {w : Written} → Room bytes table x → Translates w x x₁ table₁ → Bounded a table w → a + b ≤ bytes →
    Room b table₁ x₁
room_after {a} {x₁ = x₁} r t bound h =
    let few = bound.cells r.few in
    record {
      few = omega (arith, ap length t.left, bound.kept, r.few);
      short = omega (arith, t.kept.long, r.short);
      free = omega (arith, t.kept.long, t.kept.height, h, r.free);
      numbers = omega (arith, h, few, t.emitted.counted, r.numbers);
      places = omega (arith, h, few, emits_past t.emitted, r.places);
    }

-- behind an expression in front of what follows it
pub room_expression : (d : ℕ) (l : List ℕ) (current table : List Operand) {x : Work} {e : Emitter} → Room (length l + 3) table x →
    Emits x.emitter (translate_expression current x.emitter.cells (expression_in d l)).cells e → (rest : List ℕ) → rest ≡ after_front l →
    Room (length rest + 3) table (record { emitter = e; log = x.log })
room_expression d l current table {x} r p rest after =
    room_emitted (front_size l) r p (omega (arith, expression_cells current d l x.emitter.cells)) (omega (arith, front_within l, ap length after))
