-- A case by two loops over a log of changes: forward over its items, each from the same table, and then backward over what the log says of them.
-- Throughout, n is how many cells there are before: the next cell's number.
use Rattle.std.specs.Prelude.{cond, List, [], ◌∷◌, ◌++◌, ℕ, ◌+◌, length, set}
use Rattle.words.specs.declared.TwoOperand.TheVariants as two_operand
use Rattle.tagged.specs.Fields.{Placed, Field}
use Rattle.netlist.specs.declared.Operand.{Operand}
use Rattle.netlist.specs.declared.Cell.{Cell}
use Rattle.verilog.specs.Reading.{by_branch}
use Rattle.translate.specs.Tables.{same_operand, merge}
use Rattle.translate_blocks.specs.Writing.{Written, Translator, behind, untouched, item_operand}
use Rattle.translate_blocks.specs.declared.case_log.Entry.{Entry}

-- 1 for operands that differ
abbrev pub unlike : Operand → Operand → ℕ
unlike x y = cond (same_operand x y) 0 1

-- in how many entries two tables differ
unfoldable pub changes : List Operand → List Operand → ℕ
changes [] b = 0
changes (x ∷ a) [] = 0
changes (x ∷ a) (y ∷ b) = unlike x y + changes a b

-- what a table has where it differs from the entry table, by rising slots; the number is the first entry's slot
unfoldable pub changes_from : ℕ → List Operand → List Operand → List Entry
changes_from slot [] table = []
changes_from slot (x ∷ entry) [] = []
changes_from slot (x ∷ entry) (y ∷ table) =
    cond (same_operand x y) (changes_from (slot + 1) entry table) (record { slot = slot; operand = y } ∷ changes_from (slot + 1) entry table)

abbrev pub changes_of : List Operand → List Operand → List Entry
changes_of entry table = changes_from 0 entry table

-- changes put on a table, one after the other
unfoldable pub patched : List Entry → List Operand → List Operand
patched [] table = table
patched (e ∷ changed) table = patched changed (set table e.slot e.operand)

-- what is kept of an item: the number of its equal cell, and the changes of its block
pub record Mark : Type 0 where
  pub equal : ℕ
  pub changed : List Entry

-- an item as the log keeps it: its changes, and above them its mark: how many they are, and its equal cell
abbrev pub item_log : Mark → List Entry
item_log m = m.changed ++ (record { slot = length m.changed; operand = Operand.Cell 1 m.equal } ∷ [])

-- the log of some items
unfoldable pub log_of : List Mark → List Entry
log_of [] = []
log_of (m ∷ l) = item_log m ++ log_of l

-- what the forward loop gives: cells, marks, and the table that the default block leaves
pub record Forward : Type 0 where
  pub cells : List Cell
  pub marks : List Mark
  pub table : List Operand

-- what the loop has so far, cells and marks, in front of what the rest gives
abbrev pub onward : Forward → Forward → Forward
onward done rest = record { cells = done.cells ++ rest.cells; marks = done.marks ++ rest.marks; table = rest.table }

-- the loop ends here
abbrev pub arrived : Written → Forward
arrived w = record { cells = w.cells; marks = []; table = w.operands }

-- the equal cell of an item
abbrev pub equal_cell : Operand → List ℕ → Cell
equal_cell selector payload = Cell.Two two_operand.Equal 1 selector (item_operand payload)

-- what is kept of an item whose block left some table
abbrev pub mark_of : List Operand → ℕ → Written → Mark
mark_of table n first = record { equal = n; changed = changes_of table first.operands }

-- an item by itself: its equal cell and what its block adds; the table is set back
abbrev pub forward_item : Operand → List ℕ → List Operand → ℕ → Written → Forward
forward_item selector payload table n first = record { cells = equal_cell selector payload ∷ first.cells; marks = mark_of table n first ∷ []; table = table }

-- forward: for each item an equal cell and its block, always from the same table; then the default block
unfoldable pub forward_items : (List ℕ → List Operand → ℕ → Written) → Translator → Operand → List (Placed Field) → List Operand → ℕ → Forward
forward_items item block selector [] table n = arrived (untouched table)
forward_items item block selector (f ∷ l) table n =
    let p : List ℕ = f.what.payload in
    let first : Written = item p table (n + 1) in
    by_branch f.what.sort
    (onward (forward_item selector p table n first) (forward_items item block selector l table (n + 1 + length first.cells)))
    (arrived (block f.what.sort p table n))
    (arrived (untouched table))

-- an item's table, by its mark, merged with what follows it
abbrev pub merge_mark : List Operand → Mark → List Operand → ℕ → Written
merge_mark entry m table n = merge (Operand.Cell 1 m.equal) n (patched m.changed entry) table

-- backward: the last mark first, from the table that the forward loop leaves
unfoldable pub backward_items : List Operand → List Mark → List Operand → ℕ → Written
backward_items entry [] table n = untouched table
backward_items entry (m ∷ l) table n =
    let rest : Written = backward_items entry l table n in
    behind rest.cells (merge_mark entry m rest.operands (n + length rest.cells))
