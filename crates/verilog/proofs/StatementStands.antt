-- Statements, blocks and items to bytes: what fits its bytes and is not too deep has no fault and is read as it was; by induction on the levels that may be opened.
use Rattle.std.specs.Prelude.{Ok}
use mathlib.Core.Path.{◌≡◌, refl, sym, ap, ap₂, ◌∙◌, subst}
use mathlib.Core.List.{List, ◌∷◌, ◌++◌, append_assoc}
use Prim.Native.Nat.{ℕ, zero, suc, ◌+◌, ◌≤◌, ◌<◌}
use native.Mathlib.Omega.{arith}
use lib.ListN.{length, get_or, drop, length-append}
use lib.Seq.{drop_at}
use Rattle.tagged.specs.Bytes.{four_bytes, four_of}
use Rattle.tagged.specs.Sorts.{sort_of, tag_of, is_statement, is_sort}
use Rattle.tagged.specs.Fields.{faultless, field_bytes, all_bytes_of, field_by, then_by, ended, many, passed_bytes, until_end, read_placed, unplaced, Step}
use Rattle.tagged.specs.declared.sorts.StatementSort.{StatementSort}
use Rattle.tagged.specs.declared.sorts.ExpressionSort.TheVariants as ExpressionSort
use Rattle.tagged.specs.declared.sorts.Sort.{Sort}
use Rattle.tagged.proofs.ListBytes.{Stops, Stands, Each, none, more, list_many}
use Rattle.verilog.specs.Tree.{constant, Statement, assign, assign_bit, if_else, case, Block, end, ◌then◌, Items, default, item}
use Rattle.verilog.specs.Form.{expression_bytes, statement_field, statement_bytes, block_payload, items_bytes, block_bytes, expression_body, constant_body, statement_body, block_body, item_body}
use Rattle.verilog.specs.Reading.{no_expression, front_by, after_front, block_front, expression_in, block_from, ReadItem, items_from, after_items, no_statement, statement_in, block_in, item_in}
use Rattle.verilog.specs.Fits.{FitsFour, longest_field, FitsStatement, FitsBlock, FitsItems, statement_depth, statements_depth, items_depth}
use Rattle.tagged.proofs.JudgeLaws.{then_written, only_fixed, fixed_written}
use Rattle.verilog.proofs.FrontLaws.{stands_passed, stands_front, stands_after, next_stands, last_stands, last_front}
use Rattle.tagged.proofs.RunLaws.{list_in, until_stands, list_back, until_back}
use Rattle.tagged.proofs.SortLaws.{is_itself}
use Rattle.verilog.proofs.ExpressionBytes.{expression_front, expression_stands, payload_short, four_length, four_read}
use Rattle.verilog.proofs.StatementLists.{statements_of, block_again, block_bytes_lem, item_bytes, items_of, default_of, items_again, items_bytes_lem}
use Rattle.verilog.proofs.StatementBytes.{constant_at, block_at, constant_front}

abbrev pub StatementStands : ℕ → Statement → Type 0
StatementStands d s = Stands is_statement (statement_body d) (λ s l. statement_in d s l) statement_bytes s

abbrev pub BlockStands : ℕ → Block → Type 0
BlockStands d b = Stands (is_sort Sort.Block) (block_body d) (block_at d) block_bytes b

abbrev pub ItemStands : ℕ → ReadItem → Type 0
ItemStands d i = Stands (is_sort Sort.Item) (item_body d) (λ s l. item_in d s l) item_bytes i

-- what is known of a level
pub record LevelStands (d : ℕ) : Type 0 where
  pub statement : (s : Statement) → FitsStatement s → statement_depth s ≤ d → length (statement_bytes s) ≤ longest_field → StatementStands d s
  pub block : (b : Block) → FitsBlock b → suc (statements_depth b) ≤ d → length (block_bytes b) ≤ longest_field → BlockStands d b
  pub item : (i : ReadItem) → FitsFour i.value → FitsBlock i.block → suc (suc (statements_depth i.block)) ≤ d → length (item_bytes i) ≤ longest_field →
      ItemStands d i

-- the statements of a payload
statements_each : (d : ℕ) → LevelStands d → (b : Block) → FitsBlock b → statements_depth b ≤ d → length (block_payload b) ≤ longest_field →
    Each is_statement (statement_body d) (λ s l. statement_in d s l) statement_bytes (statements_of b)
unfolding FitsBlock statements_depth block_payload
statements_each d level end fits deep long = none
statements_each d level (s then b) fits deep long =
    let both = length-append (statement_bytes s) (block_payload b) in
    more (level.statement s fits.0 (omega arith) (omega arith)) (statements_each d level b fits.1 (omega arith) (omega arith))

module _ (d : ℕ) (level : LevelStands d) (b : Block) (fits : FitsBlock b) (deep : statements_depth b ≤ d) (long : length (block_payload b) ≤ longest_field) where
  statements_fine : (base owner : ℕ) → until_end (field_by (statement_body d)) base owner (block_payload b) ≡ faultless
  statements_fine base owner =
      rw (block_bytes_lem b) (until_stands is_statement (statement_body d) (λ s l. statement_in d s l) statement_bytes base owner (statements_each d level b fits deep long))

  statements_back : block_in (suc d) (block_payload b) ≡ b
  unfolding block_in
  statements_back =
      rw (block_bytes_lem b) (ap block_from (until_back is_statement (statement_body d) (λ s l. statement_in d s l) statement_bytes
      (statements_each d level b fits deep long)) ∙ block_again b)

-- an item's constant
constant_stands : (d w v : ℕ) → 1 ≤ d → FitsFour v →
    Stands (is_sort (Sort.Expression ExpressionSort.Constant)) (constant_body d) constant_at expression_bytes (constant w v)
unfolding constant_body expression_bytes
constant_stands zero w v deep fits = absurd (omega arith)
constant_stands (suc d) w v deep fits = record {
  sort = Sort.Expression ExpressionSort.Constant;
  payload = w ∷ four_bytes v;
  field = refl;
  short = omega (arith, four_length v);
  is = is_itself (Sort.Expression ExpressionSort.Constant);
  fine = λ base. rw (is_itself (Sort.Expression ExpressionSort.Constant)) (only_fixed 5 (base + 3) base (w ∷ four_bytes v) (omega (arith, four_length v)));
  back = ap (constant w) (four_read v fits);
}

-- a block begins no item
block_stops : (b : Block) → Stops (is_sort Sort.Item) (block_bytes b)
unfolding Stops block_bytes field_bytes tag_of sort_of
block_stops b = λ some. refl

item_cons : (w v : ℕ) (b : Block) (items : Items) → items_bytes (item w v b items) ≡ item_bytes (record { width = w; value = v; block = b }) ++ items_bytes items
unfolding items_bytes item_bytes block_bytes
item_cons w v b items = refl

default_bytes : (b : Block) → items_bytes (default b) ≡ block_bytes b
unfolding items_bytes block_bytes
default_bytes b = refl

item_payload : (i : ReadItem) → item_bytes i ≡ field_bytes (tag_of Sort.Item) (expression_bytes (constant i.width i.value) ++ block_bytes i.block)
unfolding item_bytes expression_bytes
item_payload i = refl

pub some_statement : (s : Statement) → 1 ≤ statement_depth s
unfolding statement_depth
some_statement (assign kind v e) = omega arith
some_statement (assign_bit kind v k e) = omega arith
some_statement (if_else c a b) = omega arith
some_statement (case e items) = omega arith

module _ (d : ℕ) (level : LevelStands d) where
  -- the items of a case, and its default block
  items_each : (items : Items) → FitsItems items → items_depth items ≤ d → length (items_bytes items) ≤ longest_field →
      Each (is_sort Sort.Item) (item_body d) (λ s l. item_in d s l) item_bytes (items_of items)
  unfolding FitsItems items_depth
  items_each (default b) fits deep long = none
  items_each (item w v b items) fits deep long =
      let i : ReadItem = record { width = w; value = v; block = b } in
      let both = ap length (item_cons w v b items) ∙ length-append (item_bytes i) (items_bytes items) in
      more (level.item i fits.1 fits.2 (omega arith) (omega arith)) (items_each items fits.3 (omega arith) (omega arith))

  default_stands : (items : Items) → FitsItems items → items_depth items ≤ d → length (items_bytes items) ≤ longest_field → BlockStands d (default_of items)
  unfolding FitsItems items_depth
  default_stands (default b) fits deep long = level.block b fits deep (rw default_bytes at long)
  default_stands (item w v b items) fits deep long =
      let i : ReadItem = record { width = w; value = v; block = b } in
      let both = ap length (item_cons w v b items) ∙ length-append (item_bytes i) (items_bytes items) in
      default_stands items fits.3 (omega arith) (omega arith)

  module _ (items : Items) (fits : FitsItems items) (deep : items_depth items ≤ d) (long : length (items_bytes items) ≤ longest_field) where
    each : Each (is_sort Sort.Item) (item_body d) (λ s l. item_in d s l) item_bytes (items_of items)
    each = items_each items fits deep long

    last : BlockStands d (default_of items)
    last = default_stands items fits deep long

    passed : (base owner : ℕ) →
        many (is_sort Sort.Item) (field_by (item_body d)) base owner (all_bytes_of item_bytes (items_of items) ++ block_bytes (default_of items)) ≡ Ok
        (length (all_bytes_of item_bytes (items_of items)))
    passed base owner = list_many (is_sort Sort.Item) (item_body d) (λ s l. item_in d s l) item_bytes base owner (block_bytes (default_of items)) each
        (block_stops (default_of items))

    items_fine : (base owner : ℕ) →
        then_by (many (is_sort Sort.Item) (field_by (item_body d))) (then_by (field_by (block_body d)) ended) base owner (items_bytes items) ≡ faultless
    items_fine base owner =
        rw (items_bytes_lem items) (then_written (many (is_sort Sort.Item) (field_by (item_body d))) (then_by (field_by (block_body d)) ended) base owner
        (all_bytes_of item_bytes (items_of items)) (block_bytes (default_of items)) (passed base owner)
        (last_stands last (base + length (all_bytes_of item_bytes (items_of items))) owner))

    items_back : items_from (list_in (is_sort Sort.Item) (item_body d) (λ s p. item_in d s p) item_bytes (items_bytes items))
        (block_front (λ p. block_in d p) (after_items d (items_bytes items))) ≡ items
    items_back =
        let all = all_bytes_of item_bytes (items_of items) ++ block_bytes (default_of items) in
        let after : after_items d all ≡ block_bytes (default_of items) =
        ap (λ (s : Step). drop (passed_bytes s) all) (passed 0 0) ∙ drop_at (all_bytes_of item_bytes (items_of items)) (block_bytes (default_of items)) _ refl in
        let block : block_front (λ p. block_in d p) (after_items d all) ≡ default_of items = ap (block_front (λ p. block_in d p)) after ∙ last_front last end in
        let list = list_back (is_sort Sort.Item) (item_body d) (λ s p. item_in d s p) item_bytes (block_bytes (default_of items)) each (block_stops (default_of items)) in
        ap (λ (l : List ℕ). items_from (list_in (is_sort Sort.Item) (item_body d) (λ s p. item_in d s p) item_bytes l) (block_front (λ p. block_in d p) (after_items d l)))
        (items_bytes_lem items)
        ∙ ap₂ items_from list block ∙ items_again items

  -- a level more
  statement_next : (s : Statement) → FitsStatement s → statement_depth s ≤ suc d → length (statement_bytes s) ≤ longest_field → StatementStands (suc d) s
  unfolding FitsStatement statement_depth statement_bytes statement_body statement_in block_bytes
  statement_next (assign kind v e) fits deep long =
      let short = payload_short (tag_of (Sort.Statement (StatementSort.Assign kind))) (v ∷ expression_bytes e) long in
      let x = expression_stands d e fits.1 (omega arith) (omega arith) in
      record {
        sort = Sort.Statement (StatementSort.Assign kind);
        payload = v ∷ expression_bytes e;
        field = refl;
        short = short;
        is = refl;
        fine = λ base. fixed_written 1 (then_by (field_by (expression_body d)) ended) (base + 3) base (v ∷ expression_bytes e) (omega arith)
            (last_stands x (base + 3 + 1) base);
        back = ap (assign kind v) (sym (expression_front d (expression_bytes e)) ∙ last_front x no_expression);
      }
  statement_next (assign_bit kind v k e) fits deep long =
      let short = payload_short (tag_of (Sort.Statement (StatementSort.AssignBit kind))) (v ∷ k ∷ expression_bytes e) long in
      let x = expression_stands d e fits.2 (omega arith) (omega arith) in
      record {
        sort = Sort.Statement (StatementSort.AssignBit kind);
        payload = v ∷ k ∷ expression_bytes e;
        field = refl;
        short = short;
        is = refl;
        fine = λ base. fixed_written 2 (then_by (field_by (expression_body d)) ended) (base + 3) base (v ∷ k ∷ expression_bytes e) (omega arith)
            (last_stands x (base + 3 + 2) base);
        back = ap (assign_bit kind v k) (sym (expression_front d (expression_bytes e)) ∙ last_front x no_expression);
      }
  statement_next (if_else c a b) fits deep long =
      let first = block_bytes a in
      let second = block_bytes b in
      let whole = expression_bytes c ++ (first ++ second) in
      let same : statement_field StatementSort.If (expression_bytes c ++ first ++ second) ≡ statement_field StatementSort.If whole =
      ap (statement_field StatementSort.If) (append_assoc (expression_bytes c) first second) in
      let short : length whole < 65536 = payload_short (tag_of (Sort.Statement StatementSort.If)) whole (subst (λ (l : List ℕ). length l ≤ longest_field) same long) in
      let sum : length whole ≡ length (expression_bytes c) + length (first ++ second) = length-append (expression_bytes c) (first ++ second) in
      let blocks : length (first ++ second) ≡ length first + length second = length-append first second in
      let x = expression_stands d c fits.0 (omega arith) (omega arith) in
      let y = level.block a fits.1 (omega arith) (omega arith) in
      let z = level.block b fits.2 (omega arith) (omega arith) in
      let condition : expression_in d whole ≡ c = sym (expression_front d whole) ∙ stands_front x (first ++ second) no_expression in
      let then-block : block_front (λ p. block_in d p) (after_front whole) ≡ a = ap (block_front (λ p. block_in d p))
      (stands_after x (first ++ second)) ∙ stands_front y second end in
      let else-block : block_front (λ p. block_in d p) (after_front (after_front whole)) ≡ b =
      ap (λ (l : List ℕ). block_front (λ p. block_in d p) (after_front l)) (stands_after x (first ++ second))
      ∙ ap (block_front (λ p. block_in d p)) (stands_after y second) ∙ last_front z end in
      record {
        sort = Sort.Statement StatementSort.If;
        payload = whole;
        field = same;
        short = short;
        is = refl;
        fine = λ base. next_stands x (first ++ second) (then_by (field_by (block_body d)) (then_by (field_by (block_body d)) ended)) (base + 3) base
            (next_stands y second (then_by (field_by (block_body d)) ended) (base + 3 + length (expression_bytes c)) base
            (last_stands z (base + 3 + length (expression_bytes c) + length first) base));
        back = rw (condition, then-block, else-block);
      }
  statement_next (case e items) fits deep long =
      let whole = expression_bytes e ++ items_bytes items in
      let short : length whole < 65536 = payload_short (tag_of (Sort.Statement StatementSort.Case)) whole long in
      let sum : length whole ≡ length (expression_bytes e) + length (items_bytes items) = length-append (expression_bytes e) (items_bytes items) in
      let x = expression_stands d e fits.0 (omega arith) (omega arith) in
      let shallow : items_depth items ≤ d = omega arith in
      let room : length (items_bytes items) ≤ longest_field = omega arith in
      let selector : expression_in d whole ≡ e = sym (expression_front d whole) ∙ stands_front x (items_bytes items) no_expression in
      let rest = ap (λ (l : List ℕ). items_from (list_in (is_sort Sort.Item) (item_body d) (λ s p. item_in d s p) item_bytes l)
      (block_front (λ p. block_in d p) (after_items d l))) (stands_after x (items_bytes items))
      ∙ items_back items fits.1 shallow room in
      record {
        sort = Sort.Statement StatementSort.Case;
        payload = whole;
        field = refl;
        short = short;
        is = refl;
        fine = λ base. next_stands x (items_bytes items) (then_by (many (is_sort Sort.Item) (field_by (item_body d))) (then_by (field_by (block_body d)) ended)) (base + 3) base
            (items_fine items fits.1 shallow room (base + 3 + length (expression_bytes e)) base);
        back = ap₂ case selector rest;
      }

  block_next : (b : Block) → FitsBlock b → suc (statements_depth b) ≤ suc d → length (block_bytes b) ≤ longest_field → BlockStands (suc d) b
  unfolding block_bytes block_body
  block_next b fits deep long =
      let short = payload_short (tag_of Sort.Block) (block_payload b) long in
      record {
        sort = Sort.Block;
        payload = block_payload b;
        field = refl;
        short = short;
        is = is_itself Sort.Block;
        fine = λ base. rw (is_itself Sort.Block) (statements_fine d level b fits (omega arith) (omega arith) (base + 3) base);
        back = rw (is_itself Sort.Block) (statements_back d level b fits (omega arith) (omega arith));
      }

  item_next : (i : ReadItem) → FitsFour i.value → FitsBlock i.block → suc (suc (statements_depth i.block)) ≤ suc d → length (item_bytes i) ≤ longest_field →
      ItemStands (suc d) i
  unfolding item_bytes item_body item_in
  item_next i four fits deep long =
      let c = constant i.width i.value in
      let b = block_bytes i.block in
      let whole = expression_bytes c ++ b in
      let same : item_bytes i ≡ field_bytes (tag_of Sort.Item) whole = item_payload i in
      let short : length whole < 65536 = payload_short (tag_of Sort.Item) whole (subst (λ (l : List ℕ). length l ≤ longest_field) same long) in
      let sum : length whole ≡ length (expression_bytes c) + length b = length-append (expression_bytes c) b in
      let x = constant_stands d i.width i.value (omega arith) four in
      let y = level.block i.block fits (omega arith) (omega arith) in
      let front : constant (front_by (λ s p. get_or p 0 0) 0 whole) (front_by (λ s p. four_of (drop 1 p)) 0 whole) ≡ c = sym
      (constant_front whole) ∙ stands_front x b no_expression in
      let width : front_by (λ s p. get_or p 0 0) 0 whole ≡ i.width = cc in
      let value : front_by (λ s p. four_of (drop 1 p)) 0 whole ≡ i.value = cc in
      let block : block_front (λ p. block_in d p) (after_front whole) ≡ i.block = ap (block_front (λ p. block_in d p)) (stands_after x b) ∙ last_front y end in
      record {
        sort = Sort.Item;
        payload = whole;
        field = same;
        short = short;
        is = is_itself Sort.Item;
        fine = λ base. rw (is_itself Sort.Item)
            (next_stands x b (then_by (field_by (block_body d)) ended) (base + 3) base (last_stands y (base + 3 + length (expression_bytes c)) base));
        back = rw (width, value, block);
      }

pub level_stands : (d : ℕ) → LevelStands d
level_stands zero = record {
  statement = λ s fits deep long. absurd (omega (arith, some_statement s));
  block = λ b fits deep long. absurd (omega arith);
  item = λ i four fits deep long. absurd (omega arith);
}
level_stands (suc d) =
    let inner = level_stands d in
    record { statement = statement_next d inner; block = block_next d inner; item = item_next d inner }

-- what is written has no fault, and is read as it was: a statement, the statements of a payload, the items with their default block
module _ (d : ℕ) (s : Statement) (fits : FitsStatement s) (deep : statement_depth s ≤ d) (long : length (statement_bytes s) ≤ longest_field) (after : List ℕ) where
  pub statement_passed : (base owner : ℕ) → field_by (statement_body d) base owner (statement_bytes s ++ after) ≡ Ok (length (statement_bytes s))
  statement_passed base owner = stands_passed ((level_stands d).statement s fits deep long) after base owner

  pub statement_read : front_by (λ t p. statement_in d t p) no_statement (statement_bytes s ++ after) ≡ s
  statement_read = stands_front ((level_stands d).statement s fits deep long) after no_statement

module _ (d : ℕ) (b : Block) (fits : FitsBlock b) (deep : statements_depth b ≤ d) (long : length (block_payload b) ≤ longest_field) where
  pub block_passed : (base owner : ℕ) → until_end (field_by (statement_body d)) base owner (block_payload b) ≡ faultless
  block_passed base owner = statements_fine d (level_stands d) b fits deep long base owner

  pub block_read : block_in (suc d) (block_payload b) ≡ b
  block_read = statements_back d (level_stands d) b fits deep long

module _ (d : ℕ) (items : Items) (fits : FitsItems items) (deep : items_depth items ≤ d) (long : length (items_bytes items) ≤ longest_field) where
  pub items_passed : (base owner : ℕ) →
      then_by (many (is_sort Sort.Item) (field_by (item_body d))) (then_by (field_by (block_body d)) ended) base owner (items_bytes items) ≡ faultless
  items_passed base owner = items_fine d (level_stands d) items fits deep long base owner

  pub items_read :
      items_from (unplaced (read_placed (is_sort Sort.Item) (λ s p. item_in d s p) 0 (items_bytes items)))
      (block_front (λ p. block_in d p) (after_items d (items_bytes items))) ≡ items
  items_read = items_back d (level_stands d) items fits deep long
