-- The operands after statements, blocks, items and processes fit a word, if those before them do and the numbers of the cells. By induction on the tree, from the
-- laws of expressions, replacements and merges.
use mathlib.Core.Path.{◌≡◌}
use mathlib.Core.List.{List, [], ◌∷◌, ◌++◌}
use Prim.Native.Nat.{ℕ, ◌+◌, ◌^◌, ◌≤◌}
use native.Mathlib.Omega.{arith}
use lib.ListN.{length, length-append}
use Rattle.words.specs.declared.TwoOperand.TheVariants as two_operand
use Rattle.netlist.specs.Lists.{operand_width}
use Rattle.netlist.specs.declared.Operand.{Operand}
use Rattle.netlist.specs.declared.Cell.{Cell}
use Rattle.verilog.specs.Tree.{Statement, assign, assign_bit, if_else, case, Block, end, ◌then◌, Items, default, item}
use Rattle.verilog.specs.Fits.{All, FitsStatement, FitsBlock, FitsItems}
use Rattle.translate.specs.Tables.{Tables, held_operand, Translated, merge_tables}
use Rattle.translate.specs.Translation.{Emitted, translate_expression, after, joined, translate_statement, translate_block, translate_items, translate_all}
use Rattle.translate.proofs.FittingTables.{FitsTables, held_fits, replaced_fits, last_number, expression_fits, merge_tables_fit}

-- how far the numbers of the cells go: after some cells, and after two sides and the merge of what they left

after_number : (n : ℕ) (cells : List Cell) (t : Translated) → n + length (after cells t).cells ≡ n + length cells + length t.cells
after_number n cells t = omega (arith, length-append cells t.cells)

joined_number : (condition : Operand) (n : ℕ) (a b : Translated) → n + length (joined condition n a b).cells
    ≡ n + length a.cells + length b.cells + length (merge_tables condition (n + length a.cells + length b.cells) a.tables b.tables).cells
joined_number condition n a b =
    let merged : Translated = merge_tables condition (n + length a.cells + length b.cells) a.tables b.tables in
    omega (arith, length-append (a.cells ++ b.cells) merged.cells, length-append a.cells b.cells)

joined_fits : {count : ℕ} (condition : Operand) (n : ℕ) (a b : Translated) → n + length (joined condition n a b).cells ≤ 2 ^ 32 →
    FitsTables count a.tables → FitsTables count b.tables → FitsTables count (joined condition n a b).tables
joined_fits condition n a b h f g = merge_tables_fit condition (n + length a.cells + length b.cells) f g (omega (arith, joined_number condition n a b))

-- parts of a module

mutual
  unfolding translate_statement FitsStatement

  statement_fits : (s : Statement) → FitsStatement s → {count : ℕ} {t : Tables} → FitsTables count t → (n : ℕ) →
      n + length (translate_statement t n s).cells ≤ 2 ^ 32 → FitsTables count (translate_statement t n s).tables
  statement_fits (assign kind v e) fits {t = t} f n h =
      let x : Emitted = translate_expression t.current n e in
      replaced_fits f v kind x.operand (expression_fits t.current f.current n e fits.1 h)
  statement_fits (assign_bit kind v k e) fits {t = t} f n h =
      let x : Emitted = translate_expression t.current n e in
      let old : Operand = held_operand kind t v in
      let put : Operand = Operand.Cell (operand_width old) (n + length x.cells) in
      replaced_fits f v kind put ((held_fits f v kind).0, last_number n x.cells (Cell.Put (operand_width old) old k x.operand) h)
  statement_fits (if_else c a b) fits {t = t} f n h =
      let x : Emitted = translate_expression t.current n c in
      let start : ℕ = n + length x.cells in
      let first : Translated = translate_block t start a in
      let second : Translated = translate_block t (start + length first.cells) b in
      let whole : start + length (joined x.operand start first second).cells ≤ 2 ^ 32 = omega (arith, after_number n x.cells (joined x.operand start first second)) in
      let sides = joined_number x.operand start first second in
      joined_fits x.operand start first second whole (block_fits a fits.1 f start (omega arith)) (block_fits b fits.2 f (start + length first.cells) (omega arith))
  statement_fits (case e items) fits {t = t} f n h =
      let x : Emitted = translate_expression t.current n e in
      let start : ℕ = n + length x.cells in
      items_fits items fits.1 f start x.operand (omega (arith, after_number n x.cells (translate_items t start x.operand items)))

  block_fits : (b : Block) → FitsBlock b → {count : ℕ} {t : Tables} → FitsTables count t → (n : ℕ) →
      n + length (translate_block t n b).cells ≤ 2 ^ 32 → FitsTables count (translate_block t n b).tables
  block_fits end fits f n h = f
  block_fits (s then b) fits {t = t} f n h =
      let first : Translated = translate_statement t n s in
      let next : ℕ = n + length first.cells in
      let whole = after_number n first.cells (translate_block first.tables next b) in
      block_fits b fits.1 (statement_fits s fits.0 f n (omega arith)) next (omega arith)

  items_fits : (items : Items) → FitsItems items → {count : ℕ} {t : Tables} → FitsTables count t → (n : ℕ) (selector : Operand) →
      n + length (translate_items t n selector items).cells ≤ 2 ^ 32 → FitsTables count (translate_items t n selector items).tables
  items_fits (default b) fits f n selector h = block_fits b fits f n h
  items_fits (item w v b items) fits {t = t} f n selector h =
      let first : Translated = translate_block t (n + 1) b in
      let next : ℕ = n + 1 + length first.cells in
      let second : Translated = translate_items t next selector items in
      let both : Translated = joined (Operand.Cell 1 n) (n + 1) first second in
      let whole : n + 1 + length both.cells ≤ 2 ^ 32 = omega (arith, after_number n (Cell.Two two_operand.Equal 1 selector (Operand.Constant w v) ∷ []) both) in
      let sides = joined_number (Operand.Cell 1 n) (n + 1) first second in
      joined_fits (Operand.Cell 1 n) (n + 1) first second whole (block_fits b fits.2 f (n + 1) (omega arith)) (items_fits items fits.3 f next selector (omega arith))

pub processes_fit : (ps : List Block) → All FitsBlock ps → {count : ℕ} {t : Tables} → FitsTables count t → (n : ℕ) →
    n + length (translate_all t n ps).cells ≤ 2 ^ 32 → FitsTables count (translate_all t n ps).tables
unfolding translate_all All
processes_fit [] fits f n h = f
processes_fit (b ∷ l) fits {t = t} f n h =
    let first : Translated = translate_block t n b in
    let next : ℕ = n + length first.cells in
    let whole = after_number n first.cells (translate_all first.tables next l) in
    processes_fit l fits.1 (block_fits b fits.0 f n (omega arith)) next (omega arith)
