-- What the code of the translation gives over the bytes of typed processes, with one table of operands, is the translation of their tree: the same cells, and the
-- operands after them, which fit a word if those before them do. By induction on the typing of statements, blocks and items; the number d is how many levels may be
-- opened. Assumes nothing.
use mathlib.Core.Path.{◌≡◌, refl, ap, subst}
use mathlib.Core.Bool.{true}
use mathlib.Core.List.{List, ◌∷◌, ◌++◌, append_assoc}
use Prim.Native.Nat.{ℕ, zero, suc, ◌+◌, ◌^◌, ◌≤◌, ◌<◌}
use native.Mathlib.Omega.{arith}
use lib.ListN.{length, length-append}
use Rattle.tagged.specs.Sorts.{tag_of}
use Rattle.tagged.specs.Fields.{field_bytes, all_bytes_of, fields_at}
use Rattle.tagged.specs.Declarations.{Declaration, register_at}
use Rattle.tagged.specs.declared.sorts.StatementSort.TheVariants as StatementSort
use Rattle.tagged.specs.declared.sorts.Sort.TheVariants as Sort
use Rattle.tagged.proofs.SortLaws.{is_itself}
use Rattle.tagged.proofs.ListBytes.{field_length}
use Rattle.netlist.specs.declared.Operand.{Operand}
use Rattle.verilog.specs.Tree.{Statement, Block, Items}
use Rattle.verilog.specs.Form.{expression_bytes, statement_field, statement_bytes, block_payload, items_bytes, block_bytes, process_bytes}
use Rattle.verilog.specs.Reading.{after_front}
use Rattle.verilog.specs.Fits.{longest_field, All, FitsStatement, FitsBlock, FitsItems, statement_depth, statements_depth, items_depth, processes_depth}
use Rattle.verilog.proofs.BreaksLaws.{register_exists}
use Rattle.verilog.proofs.ExpressionBytes.{payload_short}
use Rattle.verilog.proofs.WrittenFields.{after_field, constant_bytes}
use Rattle.verilog.proofs.Typed.{TypedStatement, assign_typed, assign_bit_typed, if_else_typed, case_typed, TypedBlock, end_typed, then_typed, TypedItems, default_typed, item_typed, TypedAll, none_typed, more_typed}
use Rattle.translate.specs.Tables.{Tables, Translated}
use Rattle.translate.specs.Translation.{Emitted, translate_expression, translate_statement, translate_block, translate_items, translate_all}
use Rattle.translate.proofs.FittingTables.{FitsTables}
use Rattle.translate.proofs.FittingProcesses.{processes_fit}
use Rattle.translate_blocks.specs.Writing.{Written, write_all, write_items, write_front, write_statement, write_block, write_item, write_process, write_processes}
use Rattle.translator.proofs.OperandTables.{one_table, Sized}
use Rattle.translator.proofs.JoinedTables.{Gives, gives_by}
use Rattle.translator.proofs.WrittenLists.{Leads, leads_on, none_gives}
use Rattle.translator.proofs.WrittenParts.{assign_gives, assign_bit_gives, if_gives, case_gives, block_gives, front_block_gives, last_block_gives, item_gives, default_gives}

module _ (ds : List Declaration) (count : ℕ) (counted : length ds ≡ count) where
  register_there : (v : ℕ) → register_at ds v ≡ true → v < count
  register_there v h = omega (arith, counted, register_exists ds v h)

  mutual
    unfolding translate_statement FitsStatement statement_depth statement_bytes block_bytes

    statement_gives : {s : Statement} {t : Tables} → TypedStatement ds s → FitsStatement s → (d : ℕ) → statement_depth s ≤ d →
        length (statement_bytes s) ≤ longest_field → Sized count t → (n : ℕ) →
        Leads count (write_statement count d) (statement_bytes s) (one_table t) n (translate_statement t n s)
    statement_gives (assign_typed register typed wide) fits zero deep long sized n = absurd (omega arith)
    statement_gives (assign_typed {kind} {v} {e = value} register typed wide) fits (suc d) deep long sized n =
        let payload = v ∷ expression_bytes value in
        let short = payload_short (tag_of (Sort.Statement (StatementSort.Assign kind))) payload long in
        record {
          sort = Sort.Statement (StatementSort.Assign kind);
          payload = payload;
          field = refl;
          short = short;
          gives = assign_gives sized n value fits.1 d (omega arith) (omega arith) kind v (register_there v register);
        }
    statement_gives (assign_bit_typed register inside typed wide) fits zero deep long sized n = absurd (omega arith)
    statement_gives (assign_bit_typed {kind} {v} {k} {e = value} register inside typed wide) fits (suc d) deep long sized n =
        let payload = v ∷ k ∷ expression_bytes value in
        let short = payload_short (tag_of (Sort.Statement (StatementSort.AssignBit kind))) payload long in
        record {
          sort = Sort.Statement (StatementSort.AssignBit kind);
          payload = payload;
          field = refl;
          short = short;
          gives = assign_bit_gives sized n value fits.2 d (omega arith) (omega arith) kind v k (register_there v register);
        }
    statement_gives (if_else_typed typed wide first-typed second-typed) fits zero deep long sized n = absurd (omega arith)
    statement_gives {t = t} (if_else_typed {c} {a} {b} typed wide first-typed second-typed) fits (suc d) deep long sized n =
        let first = block_bytes a in
        let second = block_bytes b in
        let payload = expression_bytes c ++ (first ++ second) in
        let same : statement_field StatementSort.If (expression_bytes c ++ first ++ second) ≡ statement_field StatementSort.If payload =
        ap (statement_field StatementSort.If) (append_assoc (expression_bytes c) first second) in
        let short : length payload < 65536 =
        payload_short (tag_of (Sort.Statement StatementSort.If)) payload (subst (λ (l : List ℕ). length l ≤ longest_field) same long) in
        let sum : length payload ≡ length (expression_bytes c) + length (first ++ second) = length-append (expression_bytes c) (first ++ second) in
        let blocks : length (first ++ second) ≡ length first + length second = length-append first second in
        let first_short : length (block_payload a) < 65536 = omega (arith, field_length (tag_of Sort.Block) (block_payload a)) in
        let second_short : length (block_payload b) < 65536 = omega (arith, field_length (tag_of Sort.Block) (block_payload b)) in
        let rest : after_front (first ++ second) ≡ second = after_field Sort.Block (block_payload a) second first_short in
        let x : Emitted = translate_expression t.current n c in
        let start : ℕ = n + length x.cells in
        let left : Translated = translate_block t start a in
        let right : Translated = translate_block t (start + length left.cells) b in
        let left-gives : Gives count (write_front (write_block count d) (first ++ second) (one_table t) start) left =
        front_block_gives count t start a first_short d (omega arith) (λ k deeper. statements_give first-typed fits.1 k deeper (omega arith) sized start 0) second in
        let right-gives : Gives count (write_front (write_block count d) second (one_table t) (start + length left.cells)) right =
        last_block_gives count t (start + length left.cells) b second_short d (omega arith)
        (λ k deeper. statements_give second-typed fits.2 k deeper (omega arith) sized (start + length left.cells) 0) in
        record {
          sort = Sort.Statement StatementSort.If;
          payload = payload;
          field = same;
          short = short;
          gives = if_gives sized n c fits.0 d (omega arith) (omega arith) (first ++ second) left-gives
              (gives_by (ap (λ (l : List ℕ). write_front (write_block count d) l (one_table t) (start + length left.cells)) rest) right-gives);
        }
    statement_gives (case_typed typed items-typed) fits zero deep long sized n = absurd (omega arith)
    statement_gives {t = t} (case_typed {e = selector} {items} typed items-typed) fits (suc d) deep long sized n =
        let payload = expression_bytes selector ++ items_bytes items in
        let short : length payload < 65536 = payload_short (tag_of (Sort.Statement StatementSort.Case)) payload long in
        let sum : length payload ≡ length (expression_bytes selector) + length (items_bytes items) = length-append (expression_bytes selector) (items_bytes items) in
        let x : Emitted = translate_expression t.current n selector in
        record {
          sort = Sort.Statement StatementSort.Case;
          payload = payload;
          field = refl;
          short = short;
          gives = case_gives sized n selector fits.0 d (omega arith) (omega arith) (items_bytes items)
              (items_give items-typed fits.1 d (omega arith) (omega arith) sized (n + length x.cells) x.operand 0);
        }

    statements_give : {b : Block} {t : Tables} → TypedBlock ds b → FitsBlock b → (d : ℕ) → statements_depth b ≤ d → length (block_payload b) ≤ longest_field →
        Sized count t → (n : ℕ) (base : ℕ) →
        Gives count (write_all (write_statement count d) (fields_at base (block_payload b)) (one_table t) n) (translate_block t n b)
    statements_give end_typed fits d deep long sized n base = none_gives count (write_statement count d) n base sized
    statements_give {t = t} (then_typed {s} {b} typed rest-typed) fits d deep long sized n base =
        let sum = length-append (statement_bytes s) (block_payload b) in
        let one : Translated = translate_statement t n s in
        let first = statement_gives typed fits.0 d (omega arith) (omega arith) sized n in
        leads_on first (block_payload b) (λ place. statements_give rest-typed fits.1 d (omega arith) (omega arith) first.gives.sized (n + length one.cells) place) base

    items_give : {w : ℕ} {items : Items} {t : Tables} → TypedItems ds w items → FitsItems items → (d : ℕ) → items_depth items ≤ d →
        length (items_bytes items) ≤ longest_field → Sized count t → (n : ℕ) (selector : Operand) (base : ℕ) →
        Gives count (write_items (write_item count d) (write_block count d) selector (fields_at base (items_bytes items)) (one_table t) n) (translate_items t n selector items)
    items_give {t = t} (default_typed {b = b} typed) fits d deep long sized n selector base =
        let short = payload_short (tag_of Sort.Block) (block_payload b) long in
        default_gives count selector base (one_table t) n d (block_payload b) short
        (block_gives count t n b short d deep (λ k deeper. statements_give typed fits k deeper (omega arith) sized n 0))
    items_give (item_typed is fit same typed later-typed) fits zero deep long sized n selector base = absurd (omega arith)
    items_give {t = t} (item_typed {width} {w} {v} {b} {items} is fit same typed later-typed) fits (suc d) deep long sized n selector base =
        let payload = constant_bytes w v ++ block_bytes b in
        let place : ℕ = base + (length payload + 3) in
        let sum = length-append (field_bytes (tag_of Sort.Item) payload) (items_bytes items) in
        let parts = length-append (constant_bytes w v) (block_bytes b) in
        let short : length payload < 65536 = omega (arith, field_length (tag_of Sort.Item) payload) in
        let block-short : length (block_payload b) < 65536 = omega (arith, field_length (tag_of Sort.Block) (block_payload b)) in
        let left : Translated = translate_block t (n + 1) b in
        item_gives count selector base (one_table t) n d w v (block_bytes b) (items_bytes items) fits.1 short
        (last_block_gives count t (n + 1) b block-short d (omega arith) (λ k deeper. statements_give typed fits.2 k deeper (omega arith) sized (n + 1) 0))
        (items_give later-typed fits.3 (suc d) (omega arith) (omega arith) sized (n + 1 + length left.cells) selector place)

  -- a process, then the list of them
  process_gives : {b : Block} {t : Tables} → TypedBlock ds b → FitsBlock b → suc (statements_depth b) ≤ 31 → length (process_bytes b) ≤ longest_field →
      Sized count t → (n : ℕ) → Leads count (write_process count) (process_bytes b) (one_table t) n (translate_block t n b)
  unfolding process_bytes write_process
  process_gives {b} typed fits deep long sized n =
      let short = payload_short (tag_of Sort.Process) (block_payload b) long in
      record {
        sort = Sort.Process;
        payload = block_payload b;
        field = refl;
        short = short;
        gives = rw (is_itself Sort.Process) (statements_give typed fits 30 (omega arith) (omega arith) sized n 0);
      }

  processes_give : {ps : List Block} {t : Tables} → TypedAll ds ps → All FitsBlock ps → processes_depth ps ≤ 31 → length (all_bytes_of process_bytes ps) ≤ longest_field →
      Sized count t → (n : ℕ) (base : ℕ) →
      Gives count (write_all (write_process count) (fields_at base (all_bytes_of process_bytes ps)) (one_table t) n) (translate_all t n ps)
  unfolding translate_all All processes_depth all_bytes_of
  processes_give none_typed fits deep long sized n base = none_gives count (write_process count) n base sized
  processes_give {t = t} (more_typed {b} {l} typed rest-typed) fits deep long sized n base =
      let sum = length-append (process_bytes b) (all_bytes_of process_bytes l) in
      let one : Translated = translate_block t n b in
      let first = process_gives typed fits.0 (omega arith) (omega arith) sized n in
      leads_on first (all_bytes_of process_bytes l)
      (λ place. processes_give rest-typed fits.1 (omega arith) (omega arith) first.gives.sized (n + length one.cells) place) base

-- what the code gives over processes, after n cells and from these tables: their translation, whose operands fit if those before it do and the numbers of the cells
pub record GivesAll (count n : ℕ) (t : Tables) (w : Written) (all : Translated) : Type 0 where
  pub gives : Gives count w all
  pub fits : FitsTables count t → n + length all.cells ≤ 2 ^ 32 → FitsTables count all.tables

-- the processes of a module that is typed, and within the limits of its tagged form
pub processes_written : (ds : List Declaration) (count : ℕ) → length ds ≡ count → (ps : List Block) → TypedAll ds ps → All FitsBlock ps → processes_depth ps ≤ 31 →
    length (all_bytes_of process_bytes ps) ≤ longest_field → (t : Tables) → Sized count t → (n : ℕ) →
    GivesAll count n t (write_processes count (all_bytes_of process_bytes ps) (one_table t) n) (translate_all t n ps)
unfolding write_processes
processes_written ds count counted ps typed fits deep long t sized n = record {
  gives = processes_give ds count counted typed fits deep long sized n 0;
  fits = λ before h. processes_fit ps fits before n h;
}
