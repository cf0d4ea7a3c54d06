-- Translation holds a current and a pending operand per register, at first the register itself; and merges them after an if.
use Rattle.std.specs.Prelude.{Bool, false, cond, ◌&&◌, List, [], ◌∷◌, ◌++◌, ℕ, ◌+◌, eqb, length, get_or, set}
use Rattle.tagged.specs.Declarations.{Declaration, width_of}
use Rattle.tagged.specs.declared.sorts.Kind.{Kind}
use Rattle.netlist.specs.Lists.{operand_width}
use Rattle.netlist.specs.declared.Operand.{Operand}
use Rattle.netlist.specs.declared.Cell.{Cell}

-- an operand for each variable, by its number: an input's is always the input itself
pub record Tables : Type 0 where
  pub current : List Operand
  pub pending : List Operand

-- each variable itself; `v` is the first one's number
unfoldable pub themselves : ℕ → List Declaration → List Operand
themselves v [] = []
themselves v (d ∷ ds) = Operand.Variable (width_of d) v ∷ themselves (v + 1) ds

-- the operand in a table; a missing one stands for none
abbrev pub operand_at : List Operand → ℕ → Operand
operand_at table v = get_or table v (Operand.Constant 0 0)

-- the operand that an assignment of a kind replaces
abbrev pub held_operand : Kind → Tables → ℕ → Operand
held_operand Kind.Blocking t v = operand_at t.current v
held_operand Kind.NonBlocking t v = operand_at t.pending v

abbrev pub replaced : Kind → Tables → ℕ → Operand → Tables
replaced Kind.Blocking t v o = record { current = set t.current v o; pending = t.pending }
replaced Kind.NonBlocking t v o = record { current = t.current; pending = set t.pending v o }

-- the two operands have the same bytes
unfoldable pub same_operand : Operand → Operand → Bool
same_operand (Operand.Constant w n) (Operand.Constant u m) = eqb w u && eqb n m
same_operand (Operand.Variable w n) (Operand.Variable u m) = eqb w u && eqb n m
same_operand (Operand.Cell w n) (Operand.Cell u m) = eqb w u && eqb n m
same_operand (Operand.Constant w n) (Operand.Variable u m) = false
same_operand (Operand.Constant w n) (Operand.Cell u m) = false
same_operand (Operand.Variable w n) (Operand.Constant u m) = false
same_operand (Operand.Variable w n) (Operand.Cell u m) = false
same_operand (Operand.Cell w n) (Operand.Constant u m) = false
same_operand (Operand.Cell w n) (Operand.Variable u m) = false

-- the cells that merging two lists of operands adds, and the operands after it
pub record Merged : Type 0 where
  pub cells : List Cell
  pub operands : List Operand

-- an operand that both blocks left the same stays
abbrev pub kept : Operand → Merged → Merged
kept o m = record { cells = m.cells; operands = o ∷ m.operands }

-- one that they left different becomes a mux, which is cell n
abbrev pub muxed : Operand → ℕ → Operand → Operand → Merged → Merged
muxed condition n a b m = record {
  cells = Cell.Mux (operand_width a) condition a b ∷ m.cells;
  operands = Operand.Cell (operand_width a) n ∷ m.operands;
}

-- for each register in rising order whose two operands differ in any byte, a mux; n is the next cell's number
unfoldable pub merge : Operand → ℕ → List Operand → List Operand → Merged
merge condition n [] bs = record { cells = []; operands = [] }
merge condition n (a ∷ as') [] = record { cells = []; operands = [] }
merge condition n (a ∷ as') (b ∷ bs) = cond (same_operand a b) (kept a (merge condition n as' bs)) (muxed condition n a b (merge condition (n + 1) as' bs))

-- the cells that a part of a module adds, and the tables after it
pub record Translated : Type 0 where
  pub cells : List Cell
  pub tables : Tables

-- current operands first, then the same for pending operands
unfoldable pub merge_tables : Operand → ℕ → Tables → Tables → Translated
merge_tables condition n a b =
    let current : Merged = merge condition n a.current b.current in
    let pending : Merged = merge condition (n + length current.cells) a.pending b.pending in
    record {
      cells = current.cells ++ pending.cells;
      tables = record { current = current.operands; pending = pending.operands };
    }
