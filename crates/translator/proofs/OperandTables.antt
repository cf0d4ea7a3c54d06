-- The code holds the tables of operands as one table: the current operands first, the pending ones behind them. What it reads and replaces in a variable's slot is
-- what the tables hold and replace there. From the laws of lists one behind the other. Assumes nothing.
use mathlib.Core.Path.{◌≡◌, refl, sym, ap, ◌∙◌}
use mathlib.Core.List.{List, ◌++◌}
use Prim.Native.Nat.{ℕ, ◌+◌, ◌<◌}
use native.Mathlib.Omega.{arith}
use lib.ListN.{length, set, get_or-append, length-set}
use lib.Seq.{take_at, get_or-append-add, set-append_left}
use Rattle.std.proofs.lemmas.List.{set-append_right}
use Rattle.tagged.specs.declared.sorts.Kind.{Kind}
use Rattle.netlist.specs.declared.Operand.{Operand}
use Rattle.translate.specs.Tables.{Tables, operand_at, held_operand, replaced}
use Rattle.translate_blocks.specs.Writing.{slot_of, current_operands}

-- the current operands, then the pending ones
abbrev pub one_table : Tables → List Operand
one_table t = t.current ++ t.pending

-- tables of so many variables
pub record Sized (count : ℕ) (t : Tables) : Type 0 where
  pub current : length t.current ≡ count
  pub pending : length t.pending ≡ count

pub replaced_sized : {count : ℕ} {t : Tables} → Sized count t → (kind : Kind) (v : ℕ) (o : Operand) → Sized count (replaced kind t v o)
replaced_sized {t = t} sized Kind.Blocking v o = record { current = length-set t.current v o ∙ sized.current; pending = sized.pending }
replaced_sized {t = t} sized Kind.NonBlocking v o = record { current = sized.current; pending = length-set t.pending v o ∙ sized.pending }

set_behind : (xs ys : List Operand) (n : ℕ) (o : Operand) → set (xs ++ ys) (length xs + n) o ≡ xs ++ set ys n o
set_behind xs ys n o = set-append_right xs ys (length xs) (length xs + n) o refl (omega arith) ∙ ap (λ (k : ℕ). xs ++ set ys k o) (omega arith)

module _ {count : ℕ} {t : Tables} (sized : Sized count t) where
  pub current_is : current_operands count (one_table t) ≡ t.current
  current_is = take_at t.current t.pending count sized.current

  pub slot_held : (kind : Kind) (v : ℕ) → v < count → operand_at (one_table t) (slot_of count kind v) ≡ held_operand kind t v
  slot_held Kind.Blocking v h = get_or-append t.current t.pending (Operand.Constant 0 0) v (omega (arith, sized.current))
  slot_held Kind.NonBlocking v h =
      ap (λ (k : ℕ). operand_at (one_table t) (k + v)) (sym sized.current) ∙ get_or-append-add t.current t.pending v (Operand.Constant 0 0)

  pub slot_replaced : (kind : Kind) (v : ℕ) (o : Operand) → v < count → set (one_table t) (slot_of count kind v) o ≡ one_table (replaced kind t v o)
  slot_replaced Kind.Blocking v o h = set-append_left t.current t.pending v o (omega (arith, sized.current))
  slot_replaced Kind.NonBlocking v o h =
      ap (λ (k : ℕ). set (one_table t) (k + v) o) (sym sized.current) ∙ set_behind t.current t.pending v o
