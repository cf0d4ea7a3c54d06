-- What the code of the translation makes of the parts of a statement's payload, over bytes that were written: the expression at the front, a block's field
-- by its statements, an item's constant and block. From the laws of written fields, of tables and of merges. Assumes nothing.
use mathlib.Core.Path.{◌≡◌, sym, ap, ap₂, ◌∙◌}
use mathlib.Core.List.{List, [], ◌∷◌, ◌++◌, append-nil}
use Prim.Native.Nat.{ℕ, zero, suc, ◌+◌, ◌^◌, ◌≤◌, ◌<◌}
use native.Mathlib.Omega.{arith}
use lib.ListN.{length, get_or, drop, set}
use Rattle.words.specs.declared.TwoOperand.TheVariants as two_operand
use Rattle.tagged.specs.Bytes.{four_of}
use Rattle.tagged.specs.Sorts.{tag_of}
use Rattle.tagged.specs.Fields.{field_bytes, Placed, Field, fields_at}
use Rattle.tagged.specs.declared.sorts.Kind.{Kind}
use Rattle.tagged.specs.declared.sorts.StatementSort.TheVariants as StatementSort
use Rattle.tagged.specs.declared.sorts.Sort.TheVariants as Sort
use Rattle.tagged.proofs.SortLaws.{is_itself}
use Rattle.netlist.specs.Lists.{operand_width}
use Rattle.netlist.specs.declared.Operand.{Operand}
use Rattle.netlist.specs.declared.Cell.TheVariants as Cell
use Rattle.verilog.specs.Tree.{Expression, assign, assign_bit, Block}
use Rattle.verilog.specs.Form.{expression_bytes, block_payload, block_bytes}
use Rattle.verilog.specs.Reading.{after_front}
use Rattle.verilog.specs.Fits.{longest_field, FitsExpression, expression_depth, statements_depth}
use Rattle.verilog.proofs.FrontLaws.{stands_after}
use Rattle.verilog.proofs.ExpressionBytes.{four_read, expression_stands, expression_read}
use Rattle.verilog.proofs.WrittenFields.{front_field, fields_field, constant_bytes, front_constant, after_constant}
use Rattle.translate.specs.Tables.{Tables, held_operand, Translated}
use Rattle.translate.specs.Translation.{Emitted, translate_expression, after, joined, translate_statement, translate_block}
use Rattle.translate_blocks.specs.Writing.{slot_of, Written, expression_at, behind, untouched, write_all, write_assign, write_assign_bit, join_sides, item_operand, write_items, write_front, write_if, write_case, write_statement, write_block, write_item}
use Rattle.translator.proofs.OperandTables.{one_table, Sized, replaced_sized, current_is, slot_held, slot_replaced}
use Rattle.translator.proofs.JoinedTables.{Gives, gives_by, behind_gives, joined_gives}

-- a statement by the expression in its payload
module _ {count : ℕ} {t : Tables} (sized : Sized count t) (n : ℕ) (e : Expression) (fits : FitsExpression e)
    (d : ℕ) (deep : expression_depth e ≤ d) (long : length (expression_bytes e) ≤ longest_field) where
  abbrev emitted : Emitted
  emitted = translate_expression t.current n e

  front_emitted : (after : List ℕ) → expression_at count (one_table t) n d (expression_bytes e ++ after) ≡ emitted
  front_emitted after = ap₂ (λ (table : List Operand) (x : Expression). translate_expression table n x) (current_is sized) (expression_read d e fits deep long after)

  last_emitted : expression_at count (one_table t) n d (expression_bytes e) ≡ emitted
  last_emitted = ap (expression_at count (one_table t) n d) (sym (append-nil (expression_bytes e))) ∙ front_emitted []

  after_expression : (after : List ℕ) → after_front (expression_bytes e ++ after) ≡ after
  after_expression after = stands_after (expression_stands d e fits deep long) after

  pub assign_gives : (kind : Kind) (v : ℕ) → v < count →
      Gives count (write_statement count (suc d) (Sort.Statement (StatementSort.Assign kind)) (v ∷ expression_bytes e) (one_table t) n) (translate_statement t n (assign kind v e))
  unfolding write_statement write_assign translate_statement
  assign_gives kind v there = record {
    same =
        ap (λ (x : Emitted). record { cells = x.cells; operands = set (one_table t) (slot_of count kind v) x.operand }) last_emitted
        ∙ ap (λ (l : List Operand). record { cells = emitted.cells; operands = l }) (slot_replaced sized kind v emitted.operand there);
    sized = replaced_sized sized kind v emitted.operand;
  }

  pub assign_bit_gives : (kind : Kind) (v k : ℕ) → v < count →
      Gives count (write_statement count (suc d) (Sort.Statement (StatementSort.AssignBit kind)) (v ∷ k ∷ expression_bytes e) (one_table t) n)
      (translate_statement t n (assign_bit kind v k e))
  unfolding write_statement write_assign_bit translate_statement
  assign_bit_gives kind v k there =
      let old : Operand = held_operand kind t v in
      let put : Operand = Operand.Cell (operand_width old) (n + length emitted.cells) in
      record {
        same = ap₂ written last_emitted (slot_held sized kind v there)
            ∙ ap (λ (l : List Operand). record { cells = emitted.cells ++ (Cell.Put (operand_width old) old k emitted.operand ∷ []); operands = l })
            (slot_replaced sized kind v put there);
        sized = replaced_sized sized kind v put;
      }
    where
      written : Emitted → Operand → Written
      written x old = record {
        cells = x.cells ++ (Cell.Put (operand_width old) old k x.operand ∷ []);
        operands = set (one_table t) (slot_of count kind v) (Operand.Cell (operand_width old) (n + length x.cells));
      }

  -- an if by its two blocks, a case by its items
  abbrev next : ℕ
  next = n + length emitted.cells

  abbrev block_from : List ℕ → ℕ → Written
  block_from l k = write_front (write_block count d) l (one_table t) k

  abbrev if_from : Emitted → List ℕ → Written
  if_from x blocks =
      let start : ℕ = n + length x.cells in
      let first : Written = block_from blocks start in
      behind x.cells (join_sides x.operand start first (block_from (after_front blocks) (start + length first.cells)))

  pub if_gives : (blocks : List ℕ) {a b : Translated} → Gives count (block_from blocks next) a →
      Gives count (block_from (after_front blocks) (next + length a.cells)) b →
      Gives count (write_statement count (suc d) (Sort.Statement StatementSort.If) (expression_bytes e ++ blocks) (one_table t) n)
      (after emitted.cells (joined emitted.operand next a b))
  unfolding write_statement write_if
  if_gives blocks p q =
      gives_by (ap₂ if_from (front_emitted blocks) (after_expression blocks))
      (behind_gives emitted.cells (joined_gives (block_from (after_front blocks)) emitted.operand next p q))

  abbrev items_from : Operand → List ℕ → ℕ → Written
  items_from selector items k = write_items (write_item count d) (write_block count d) selector (fields_at 0 items) (one_table t) k

  pub case_gives : (items : List ℕ) {a : Translated} → Gives count (items_from emitted.operand items next) a →
      Gives count (write_statement count (suc d) (Sort.Statement StatementSort.Case) (expression_bytes e ++ items) (one_table t) n) (after emitted.cells a)
  unfolding write_statement write_case
  case_gives items p =
      gives_by
      (ap₂ (λ (x : Emitted) (l : List ℕ). behind x.cells (items_from x.operand l (n + length x.cells))) (front_emitted items) (after_expression items))
      (behind_gives emitted.cells p)

-- a block's field, by what is known of its statements
module _ (count : ℕ) (t : Tables) (n : ℕ) (b : Block) (short : length (block_payload b) < 65536) (d : ℕ) (deep : suc (statements_depth b) ≤ d)
    (known : (d : ℕ) → statements_depth b ≤ d → Gives count (write_all (write_statement count d) (fields_at 0 (block_payload b)) (one_table t) n) (translate_block t n b)) where
  pub block_gives : Gives count (write_block count d Sort.Block (block_payload b) (one_table t) n) (translate_block t n b)
  unfolding write_block
  block_gives = go d deep
    where
      go : (d : ℕ) → suc (statements_depth b) ≤ d → Gives count (write_block count d Sort.Block (block_payload b) (one_table t) n) (translate_block t n b)
      go zero deep = absurd (omega arith)
      go (suc d) deep = rw (is_itself Sort.Block) (known d (omega arith))

  pub front_block_gives : (after : List ℕ) → Gives count (write_front (write_block count d) (block_bytes b ++ after) (one_table t) n) (translate_block t n b)
  unfolding block_bytes
  front_block_gives after =
      gives_by (front_field Sort.Block (block_payload b) after short (λ u p. write_block count d u p (one_table t) n) (untouched (one_table t))) block_gives

  pub last_block_gives : Gives count (write_front (write_block count d) (block_bytes b) (one_table t) n) (translate_block t n b)
  last_block_gives =
      gives_by (ap (λ (l : List ℕ). write_front (write_block count d) l (one_table t) n) (sym (append-nil (block_bytes b)))) (front_block_gives [])

-- an item's payload: its constant, then its block
item_operand_lem : (w v : ℕ) (after : List ℕ) → v < 2 ^ 32 → item_operand (constant_bytes w v ++ after) ≡ Operand.Constant w v
item_operand_lem w v after h =
    front_constant w v after (λ u p. Operand.Constant (get_or p 0 0) (four_of (drop 1 p))) (Operand.Constant 0 0) ∙ ap (Operand.Constant w) (four_read v h)

item_block : (count d w v : ℕ) (after : List ℕ) (table : List Operand) (n : ℕ) →
    write_item count (suc d) (constant_bytes w v ++ after) table n ≡ write_front (write_block count d) after table n
unfolding write_item
item_block count d w v after table n = ap (λ (l : List ℕ). write_front (write_block count d) l table n) (after_constant w v after)

-- the items of a case: an item, by its block and by all that follows it, and the block that ends them
module _ (count : ℕ) (selector : Operand) (base : ℕ) (table : List Operand) (n : ℕ) where
  abbrev items_at : ℕ → ℕ → List ℕ → ℕ → Written
  items_at d place items k = write_items (write_item count d) (write_block count d) selector (fields_at place items) table k

  pub item_gives : (d w v : ℕ) (block items : List ℕ) {a b : Translated} → v < 2 ^ 32 → length (constant_bytes w v ++ block) < 65536 →
      Gives count (write_front (write_block count d) block table (n + 1)) a →
      Gives count (items_at (suc d) (base + (length (constant_bytes w v ++ block) + 3)) items (n + 1 + length a.cells)) b →
      Gives count (items_at (suc d) base (field_bytes (tag_of Sort.Item) (constant_bytes w v ++ block) ++ items) n)
      (after (Cell.Two two_operand.Equal 1 selector (Operand.Constant w v) ∷ []) (joined (Operand.Cell 1 n) (n + 1) a b))
  unfolding write_items
  item_gives d w v block items fits short p q =
      let payload : List ℕ = constant_bytes w v ++ block in
      let later : ℕ → Written = items_at (suc d) (base + (length payload + 3)) items in
      let own : Written = write_item count (suc d) payload table (n + 1) in
      let first : Gives count own _ = gives_by (item_block count d w v block table (n + 1)) p in
      gives_by
      (ap (λ (l : List (Placed Field)). write_items (write_item count (suc d)) (write_block count (suc d)) selector l table n)
      (fields_field Sort.Item payload items short base)
      ∙ ap (λ (o : Operand). behind (Cell.Two two_operand.Equal 1 selector o ∷ []) (join_sides (Operand.Cell 1 n) (n + 1) own (later (n + 1 + length own.cells))))
      (item_operand_lem w v block fits))
      (behind_gives (Cell.Two two_operand.Equal 1 selector (Operand.Constant w v) ∷ []) (joined_gives later (Operand.Cell 1 n) (n + 1) first q))

  pub default_gives : (d : ℕ) (block : List ℕ) {a : Translated} → length block < 65536 → Gives count (write_block count d Sort.Block block table n) a →
      Gives count (items_at d base (field_bytes (tag_of Sort.Block) block) n) a
  unfolding write_items
  default_gives d block short p =
      gives_by
      (ap (λ (l : List ℕ). items_at d base l n) (sym (append-nil (field_bytes (tag_of Sort.Block) block)))
      ∙ ap (λ (l : List (Placed Field)). write_items (write_item count d) (write_block count d) selector l table n) (fields_field Sort.Block block [] short base))
      p
