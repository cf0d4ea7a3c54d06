-- What writing does to an emitter: its buffer, the place of the next byte, and how many cells there are.
use Rattle.std.specs.Prelude.{◌≡◌, List, ℕ, ◌+◌, length}
use Rattle.tagged.specs.Bytes.{Wrote}
use Rattle.tagged.specs.Fields.{all_bytes_of}
use Rattle.netlist.specs.Form.{cell_bytes, drive_bytes}
use Rattle.netlist.specs.declared.Operand.{Operand}
use Rattle.netlist.specs.declared.Cell.{Cell}
use Rattle.netlist.specs.declared.Drive.{Drive}
use Rattle.translate.specs.Translation.{Emitted}
use Rattle.translate_blocks.specs.declared.emit.Emitter.{Emitter}

-- bytes are written, so far as the buffer reaches, and it is the same buffer
pub record Appends (e : Emitter) (bytes : List ℕ) (e' : Emitter) : Type 0 where
  pub wrote : Wrote e.out.now e.at bytes e'.out.now e'.at
  pub same_buffer : e'.out.ghost_name ≡ e.out.ghost_name

-- cells are written and counted
pub record Emits (e : Emitter) (cells : List Cell) (e' : Emitter) : Type 0 where
  pub appends : Appends e (all_bytes_of cell_bytes cells) e'
  pub counted : e'.cells ≡ e.cells + length cells

-- an expression's cells are written, and it is this operand
pub record EmitsExpression (e : Emitter) (x : Emitted) (e' : Emitter) (operand : Operand) : Type 0 where
  pub emits : Emits e x.cells e'
  pub is : operand ≡ x.operand

-- drives are written
pub record Drives (e : Emitter) (drives : List Drive) (e' : Emitter) : Type 0 where
  pub appends : Appends e (all_bytes_of drive_bytes drives) e'
  pub same_count : e'.cells ≡ e.cells
