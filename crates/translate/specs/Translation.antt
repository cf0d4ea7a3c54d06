-- Which cells and drives a module gives. Throughout, n is how many cells there are before: the next cell's number.
use Rattle.std.specs.Prelude.{cond, List, [], ◌∷◌, ◌++◌, ℕ, ◌+◌, length}
use Rattle.words.specs.declared.TwoOperand.TheVariants as two_operand
use Rattle.words.specs.Operators.{one_width, two_width}
use Rattle.netlist.specs.Lists.{Netlist, operand_width}
use Rattle.netlist.specs.Rules.{registers_from}
use Rattle.netlist.specs.declared.Operand.{Operand}
use Rattle.netlist.specs.declared.Cell.{Cell}
use Rattle.netlist.specs.declared.Drive.{Drive}
use Rattle.verilog.specs.Tree.{Expression, constant, variable, fixed_bit, chosen_bit, one, two, Statement, assign, assign_bit, if_else, case, Block, end, ◌then◌, Items, default, item, Module}
use Rattle.verilog.specs.Cycle.{delays_any}
use Rattle.translate.specs.Tables.{Tables, themselves, operand_at, held_operand, replaced, Translated, merge_tables}

-- the cells that an expression adds, and the operand that it is
pub record Emitted : Type 0 where
  pub cells : List Cell
  pub operand : Operand

-- what was emitted, and one cell more of width w
abbrev pub with_cell : ℕ → List Cell → ℕ → Cell → Emitted
with_cell n cells w c = record { cells = cells ++ (c ∷ []); operand = Operand.Cell w (n + length cells) }

-- operands are translated left to right, then the expression's cell is added; constants and whole variables add none
unfoldable pub translate_expression : List Operand → ℕ → Expression → Emitted
translate_expression table n (constant w v) = record { cells = []; operand = Operand.Constant w v }
translate_expression table n (variable v) = record { cells = []; operand = operand_at table v }
translate_expression table n (fixed_bit v k) = with_cell n [] 1 (Cell.FixedBit 1 (operand_at table v) k)
translate_expression table n (chosen_bit v e) =
    let i : Emitted = translate_expression table n e in
    with_cell n i.cells 1 (Cell.ChosenBit 1 (operand_at table v) i.operand)
translate_expression table n (one op a) =
    let x : Emitted = translate_expression table n a in
    let w : ℕ = one_width op (operand_width x.operand) in
    with_cell n x.cells w (Cell.One op w x.operand)
translate_expression table n (two op a b) =
    let x : Emitted = translate_expression table n a in
    let y : Emitted = translate_expression table (n + length x.cells) b in
    let w : ℕ = two_width op (operand_width x.operand) in
    with_cell n (x.cells ++ y.cells) w (Cell.Two op w x.operand y.operand)

-- after some cells, what a part adds
abbrev pub after : List Cell → Translated → Translated
after cells t = record { cells = cells ++ t.cells; tables = t.tables }

-- two blocks, both from the same operands, and then the merge of what they left; n is the number of the first block's first cell
abbrev pub joined : Operand → ℕ → Translated → Translated → Translated
joined condition n a b = after (a.cells ++ b.cells) (merge_tables condition (n + length a.cells + length b.cells) a.tables b.tables)

unfoldable mutual
  pub translate_statement : Tables → ℕ → Statement → Translated
  -- a whole assignment replaces its target's operand of that kind
  translate_statement t n (assign kind v e) =
      let x : Emitted = translate_expression t.current n e in
      record { cells = x.cells; tables = replaced kind t v x.operand }
  -- a one-bit one adds a put on it and replaces it by that cell
  translate_statement t n (assign_bit kind v k e) =
      let x : Emitted = translate_expression t.current n e in
      let old : Operand = held_operand kind t v in
      let put : Emitted = with_cell n x.cells (operand_width old) (Cell.Put (operand_width old) old k x.operand) in
      record { cells = put.cells; tables = replaced kind t v put.operand }
  -- if: condition, first block, second block, both from the operands before it; then the muxes
  translate_statement t n (if_else c a b) =
      let x : Emitted = translate_expression t.current n c in
      let start : ℕ = n + length x.cells in
      let first : Translated = translate_block t start a in
      let second : Translated = translate_block t (start + length first.cells) b in
      after x.cells (joined x.operand start first second)
  -- case: selector once, then the items
  translate_statement t n (case e items) =
      let x : Emitted = translate_expression t.current n e in
      after x.cells (translate_items t (n + length x.cells) x.operand items)

  pub translate_block : Tables → ℕ → Block → Translated
  translate_block t n end = record { cells = []; tables = t }
  translate_block t n (s then b) =
      let first : Translated = translate_statement t n s in
      after first.cells (translate_block first.tables (n + length first.cells) b)

  -- for each item an equal cell (selector, constant), its block, and all that follows as the else part, merged as for if
  pub translate_items : Tables → ℕ → Operand → Items → Translated
  translate_items t n selector (default b) = translate_block t n b
  translate_items t n selector (item w v b items) =
      let first : Translated = translate_block t (n + 1) b in
      let second : Translated = translate_items t (n + 1 + length first.cells) selector items in
      after (Cell.Two two_operand.Equal 1 selector (Operand.Constant w v) ∷ []) (joined (Operand.Cell 1 n) (n + 1) first second)

-- processes in file order
unfoldable pub translate_all : Tables → ℕ → List Block → Translated
translate_all t n [] = record { cells = []; tables = t }
translate_all t n (p ∷ l) =
    let first : Translated = translate_block t n p in
    after first.cells (translate_all first.tables (n + length first.cells) l)

-- drives take pending operands for registers assigned by non-blocking, else current ones
unfoldable pub drives_of : Module → Tables → List ℕ → List Drive
drives_of m t [] = []
drives_of m t (v ∷ l) = record { variable = v; operand = cond (delays_any m.processes v) (operand_at t.pending v) (operand_at t.current v) } ∷ drives_of m t l

-- the cells and last operands of a module
unfoldable pub translated_module : Module → Translated
translated_module m =
    let start : List Operand = themselves 0 m.declarations in
    translate_all (record { current = start; pending = start }) 0 m.processes

-- the netlist of a module: its declarations unchanged, cells, one drive per register in rising order
unfoldable pub netlist_of : Module → Netlist
netlist_of m = record {
  declarations = m.declarations;
  cells = (translated_module m).cells;
  drives = drives_of m (translated_module m).tables (registers_from 0 m.declarations);
}
