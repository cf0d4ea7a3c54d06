-- A netlist consists of three lists: declarations, cells, drives. What each cell is made of.
use Rattle.std.specs.Prelude.{Option, Some, None, List, [], ◌∷◌, ℕ}
use Rattle.tagged.specs.Declarations.{Declaration}
use Rattle.tagged.specs.declared.sorts.CellSort.{CellSort}
use Rattle.netlist.specs.declared.Operand.{Operand}
use Rattle.netlist.specs.declared.Cell.{Cell}
use Rattle.netlist.specs.declared.Slot.{Slot}
use Rattle.netlist.specs.declared.Drive.{Drive}

-- the three lists
pub record Netlist : Type 0 where
  pub declarations : List Declaration
  pub cells : List Cell
  pub drives : List Drive

-- an operand's width, whatever its kind
abbrev pub operand_width : Operand → ℕ
operand_width (Operand.Constant w n) = w
operand_width (Operand.Variable w n) = w
operand_width (Operand.Cell w n) = w

abbrev pub cell_sort_of : Cell → CellSort
cell_sort_of (Cell.One op w a) = CellSort.One op
cell_sort_of (Cell.Two op w a b) = CellSort.Two op
cell_sort_of (Cell.Mux w c a b) = CellSort.Mux
cell_sort_of (Cell.Put w v k b) = CellSort.Put
cell_sort_of (Cell.FixedBit w v k) = CellSort.FixedBit
cell_sort_of (Cell.ChosenBit w v i) = CellSort.ChosenBit

-- the cell's own width
abbrev pub cell_width : Cell → ℕ
cell_width (Cell.One op w a) = w
cell_width (Cell.Two op w a b) = w
cell_width (Cell.Mux w c a b) = w
cell_width (Cell.Put w v k b) = w
cell_width (Cell.FixedBit w v k) = w
cell_width (Cell.ChosenBit w v i) = w

-- its slots, in the order of the file
abbrev pub cell_slots : Cell → List Slot
cell_slots (Cell.One op w a) = Slot.Operand a ∷ []
cell_slots (Cell.Two op w a b) = Slot.Operand a ∷ Slot.Operand b ∷ []
cell_slots (Cell.Mux w c a b) = Slot.Operand c ∷ Slot.Operand a ∷ Slot.Operand b ∷ []
cell_slots (Cell.Put w v k b) = Slot.Operand v ∷ Slot.Byte k ∷ Slot.Operand b ∷ []
cell_slots (Cell.FixedBit w v k) = Slot.Operand v ∷ Slot.Byte k ∷ []
cell_slots (Cell.ChosenBit w v i) = Slot.Operand v ∷ Slot.Operand i ∷ []

-- the operands among some slots
abbrev pub operands_in : List Slot → List Operand
operands_in [] = []
operands_in (Slot.Operand o ∷ l) = o ∷ operands_in l
operands_in (Slot.Byte k ∷ l) = operands_in l

-- the slots among some that may be missing
abbrev pub present : List (Option Slot) → List Slot
present [] = []
present (Some s ∷ l) = s ∷ present l
present (None ∷ l) = present l
