-- What the code of the translation does to its work: the emitter of the cells, and the log of the cases that it is in.
use Rattle.std.specs.Prelude.{◌≡◌, List, [], ◌++◌, ℕ, ◌+◌, ◌*◌, ◌^◌, ◌≤◌, length, take}
use Rattle.netlist.specs.declared.Operand.{Operand}
use Rattle.translate_blocks.specs.declared.case_log.Entry.{Entry}
use Rattle.translate_blocks.specs.declared.case_log.Log.{Log}
use Rattle.translate_blocks.specs.declared.emit.Emitter.{Emitter}
use Rattle.translate_blocks.specs.Emitting.{Emits}
use Rattle.translate_blocks.specs.Writing.{Written}
use Rattle.translate_blocks.specs.Log.{Mark, item_log, log_of, Forward}

-- what the translation works on: the emitter of the cells, and the log of the cases that it is in
pub record Work : Type 0 where
  pub emitter : Emitter
  pub log : Log

abbrev pub work : Emitter → Log → Work
work emitter log = record { emitter = emitter; log = log }

-- what stands in a log
abbrev pub held : Log → List Entry
held log = take log.top log.entries.now

-- entries are put above what stands in a log
pub record Grown (log : Log) (more : List Entry) (log' : Log) : Type 0 where
  pub stands : held log' ≡ held log ++ more
  pub height : log'.top ≡ log.top + length more
  pub long : length log'.entries.now ≡ length log.entries.now
  pub same_buffer : log'.entries.ghost_name ≡ log.entries.ghost_name

-- all but so many entries are taken off a log
pub record Lowered (log : Log) (bottom : ℕ) (log' : Log) : Type 0 where
  pub same : log'.entries.now ≡ log.entries.now
  pub height : log'.top ≡ bottom
  pub same_buffer : log'.entries.ghost_name ≡ log.entries.ghost_name

-- translating a part: its cells are written, the table is what it leaves, and the log stands as it stood
pub record Translates (w : Written) (x x' : Work) (table' : List Operand) : Type 0 where
  pub emitted : Emits x.emitter w.cells x'.emitter
  pub left : table' ≡ w.operands
  pub kept : Grown x.log [] x'.log

-- the forward loop: its cells are written, the table is what it leaves, and its marks stand in the log above what stood there
pub record Forwards (f : Forward) (x x' : Work) (table' : List Operand) : Type 0 where
  pub emitted : Emits x.emitter f.cells x'.emitter
  pub left : table' ≡ f.table
  pub grown : Grown x.log (log_of f.marks) x'.log

-- there is room for a part of so many bytes: in the log, in the numbers of cells and in the places of bytes
pub record Room (bytes : ℕ) (table : List Operand) (x : Work) : Type 0 where
  pub few : length table ≤ 128
  pub short : length x.log.entries.now ≤ 2 ^ 20
  pub free : 3 * x.log.top + bytes ≤ 3 * length x.log.entries.now
  pub numbers : x.emitter.cells + 256 * bytes ≤ 2 ^ 31
  pub places : x.emitter.at + 5632 * bytes ≤ 2 ^ 40

-- an item stands in a log above these entries, and is the last one
pub record Last (log : Log) (below : List Entry) (mark : Mark) : Type 0 where
  pub stands : held log ≡ below ++ item_log mark
  pub within : log.top ≤ length log.entries.now

-- these items stand in a log, above so many entries
pub record Filed (log : Log) (bottom : ℕ) (marks : List Mark) : Type 0 where
  pub below : List Entry
  pub deep : length below ≡ bottom
  pub stands : held log ≡ below ++ log_of marks
  pub within : log.top ≤ length log.entries.now

-- the backward loop: its cells are written, the table is what it leaves, and the items are taken off the log
pub record Unwinds (w : Written) (bottom : ℕ) (x x' : Work) (table' : List Operand) : Type 0 where
  pub emitted : Emits x.emitter w.cells x'.emitter
  pub left : table' ≡ w.operands
  pub lowered : Lowered x.log bottom x'.log
