-- What the code of the translation gives, over the bytes of processes: the cells in their order, and the table of operands after them.
-- Throughout, `count` is how many variables there are, n how many cells there are before, and the number d how many levels may be opened.
use Rattle.std.specs.Prelude.{cond, List, [], ◌∷◌, ◌++◌, ℕ, zero, suc, ◌+◌, ◌/◌, length, get_or, take, drop, set}
use Rattle.words.specs.declared.TwoOperand.TheVariants as two_operand
use Rattle.tagged.specs.Bytes.{four_of}
use Rattle.tagged.specs.Sorts.{on_statement, is_sort}
use Rattle.tagged.specs.Fields.{Placed, Field, fields_at}
use Rattle.tagged.specs.declared.sorts.Kind.{Kind}
use Rattle.tagged.specs.declared.sorts.StatementSort.{StatementSort}
use Rattle.tagged.specs.declared.sorts.Sort.{Sort}
use Rattle.netlist.specs.Lists.{operand_width}
use Rattle.netlist.specs.declared.Operand.{Operand}
use Rattle.netlist.specs.declared.Cell.{Cell}
use Rattle.verilog.specs.Reading.{front_by, after_front, expression_in, by_branch}
use Rattle.translate.specs.Tables.{operand_at, Merged, merge}
use Rattle.translate.specs.Translation.{Emitted, translate_expression}

-- the cells that a part of a module adds, and the table after it
abbrev pub Written : Type 0
Written = Merged

-- how many variables a table has: it holds two operands of each, all current ones before all pending ones
abbrev pub variables_in : List Operand → ℕ
variables_in table = length table / 2

-- the current operands of a table of so many variables
abbrev pub current_operands : ℕ → List Operand → List Operand
current_operands count table = take count table

-- where it has the operand that an assignment of this kind replaces: the current one of variable v at v, the pending one as far behind the current ones
abbrev pub slot_of : ℕ → Kind → ℕ → ℕ
slot_of count Kind.Blocking v = v
slot_of count Kind.NonBlocking v = count + v

-- the cells and the operand of the expression at the front of a part
abbrev pub expression_at : ℕ → List Operand → ℕ → ℕ → List ℕ → Emitted
expression_at count table n d l = translate_expression (current_operands count table) n (expression_in d l)

-- translates a field: its sort, its payload, the table, the next cell's number
abbrev pub Translator : Type 0
Translator = Sort → List ℕ → List Operand → ℕ → Written

-- after some cells, what a part adds
abbrev pub behind : List Cell → Written → Written
behind cells w = record { cells = cells ++ w.cells; operands = w.operands }

-- nothing is added
abbrev pub untouched : List Operand → Written
untouched table = record { cells = []; operands = table }

-- the fields of a list, one after the other
unfoldable pub write_all : Translator → List (Placed Field) → List Operand → ℕ → Written
write_all one [] table n = untouched table
write_all one (x ∷ l) table n =
    let first : Written = one x.what.sort x.what.payload table n in
    behind first.cells (write_all one l first.operands (n + length first.cells))

-- a whole assignment
unfoldable pub write_assign : ℕ → ℕ → Kind → List ℕ → List Operand → ℕ → Written
write_assign count d kind l table n =
    let x : Emitted = expression_at count table n d (drop 1 l) in
    record { cells = x.cells; operands = set table (slot_of count kind (get_or l 0 0)) x.operand }

-- an assignment to one bit adds a put
unfoldable pub write_assign_bit : ℕ → ℕ → Kind → List ℕ → List Operand → ℕ → Written
write_assign_bit count d kind l table n =
    let x : Emitted = expression_at count table n d (drop 2 l) in
    let slot : ℕ = slot_of count kind (get_or l 0 0) in
    let old : Operand = operand_at table slot in
    record {
      cells = x.cells ++ (Cell.Put (operand_width old) old (get_or l 1 0) x.operand ∷ []);
      operands = set table slot (Operand.Cell (operand_width old) (n + length x.cells));
    }

-- two sides, both from the same table, and then the merge of what they left; n is the number of the first side's first cell
abbrev pub join_sides : Operand → ℕ → Written → Written → Written
join_sides condition n a b =
    behind (a.cells ++ b.cells) (merge condition (n + length a.cells + length b.cells) a.operands b.operands)

-- the operand of an item's constant
abbrev pub item_operand : List ℕ → Operand
item_operand l = front_by (λ t p. Operand.Constant (get_or p 0 0) (four_of (drop 1 p))) (Operand.Constant 0 0) l

-- for each item an equal cell (selector, constant), its block, and all that follows as the else part; `item` translates an item's payload, `block` a block
unfoldable pub write_items : (List ℕ → List Operand → ℕ → Written) → Translator → Operand → List (Placed Field) → List Operand → ℕ → Written
write_items item block selector [] table n = untouched table
write_items item block selector (f ∷ l) table n =
    let p : List ℕ = f.what.payload in
    let first : Written = item p table (n + 1) in
    by_branch f.what.sort
    (behind (Cell.Two two_operand.Equal 1 selector (item_operand p) ∷ [])
    (join_sides (Operand.Cell 1 n) (n + 1) first (write_items item block selector l table (n + 1 + length first.cells))))
    (block f.what.sort p table n)
    (untouched table)

-- the block at the front of a part, by `block`
abbrev pub write_front : Translator → List ℕ → List Operand → ℕ → Written
write_front block l table n = front_by (λ s p. block s p table n) (untouched table) l

-- an if: condition, first block, second block, then the muxes
unfoldable pub write_if : ℕ → ℕ → Translator → List ℕ → List Operand → ℕ → Written
write_if count d block l table n =
    let x : Emitted = expression_at count table n d l in
    let start : ℕ = n + length x.cells in
    let first : Written = write_front block (after_front l) table start in
    let second : Written = write_front block (after_front (after_front l)) table (start + length first.cells) in
    behind x.cells (join_sides x.operand start first second)

-- a case: selector once, then the items
unfoldable pub write_case : ℕ → ℕ → (List ℕ → List Operand → ℕ → Written) → Translator → List ℕ → List Operand → ℕ → Written
write_case count d item block l table n =
    let x : Emitted = expression_at count table n d l in
    behind x.cells (write_items item block x.operand (fields_at 0 (after_front l)) table (n + length x.cells))

-- a statement by its sort
abbrev pub write_by : ℕ → ℕ → Translator → (List ℕ → List Operand → ℕ → Written) → StatementSort → List ℕ → List Operand → ℕ → Written
write_by count d block item (StatementSort.Assign kind) l table n = write_assign count d kind l table n
write_by count d block item (StatementSort.AssignBit kind) l table n = write_assign_bit count d kind l table n
write_by count d block item StatementSort.If l table n = write_if count d block l table n
write_by count d block item StatementSort.Case l table n = write_case count d item block l table n

unfoldable mutual
  pub write_statement : ℕ → ℕ → Translator
  write_statement count zero s l table n = untouched table
  write_statement count (suc d) s l table n =
      on_statement s (λ t. write_by count d (λ u p w k. write_block count d u p w k) (λ p w k. write_item count d p w k) t l table n) (untouched table)

  -- a block's statements
  pub write_block : ℕ → ℕ → Translator
  write_block count zero s l table n = untouched table
  write_block count (suc d) s l table n =
      cond (is_sort Sort.Block s) (write_all (λ u p w k. write_statement count d u p w k) (fields_at 0 l) table n) (untouched table)

  -- an item's block, which follows its constant
  pub write_item : ℕ → ℕ → List ℕ → List Operand → ℕ → Written
  write_item count zero l table n = untouched table
  write_item count (suc d) l table n = write_front (λ u p w k. write_block count d u p w k) (after_front l) table n

-- a process's statements have 30 levels left
unfoldable pub write_process : ℕ → Translator
write_process count s l table n = cond (is_sort Sort.Process s) (write_all (write_statement count 30) (fields_at 0 l) table n) (untouched table)

-- the processes of a list
unfoldable pub write_processes : ℕ → List ℕ → List Operand → ℕ → Written
write_processes count l table n = write_all (write_process count) (fields_at 0 l) table n
