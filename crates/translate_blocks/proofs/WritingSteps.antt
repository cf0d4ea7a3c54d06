-- Laws of the translation of statements, blocks and items, in the form in which code asks them: what each part does, and each part by its depth and its sort.
-- By the definitions, with the bounds of every part. Assumes nothing.
use Rattle.std.specs.Prelude.{Err}
use mathlib.Core.Path.{◌≡◌, refl, sym, ap, ap₂, ◌∙◌}
use mathlib.Core.Bool.{cond}
use mathlib.Core.List.{List, [], ◌∷◌, ◌++◌}
use Prim.Native.Nat.{ℕ, zero, suc, ◌+◌, ◌-◌, ◌*◌, ◌^◌, ◌≤◌}
use native.Mathlib.Numerals.{sub-one}
use native.Mathlib.Omega.{arith}
use lib.ListN.{length, get_or, drop, set}
use Rattle.tagged.specs.Sorts.{on_statement, is_sort}
use Rattle.tagged.specs.Fields.{Opened, open_of, fields_at}
use Rattle.tagged.specs.declared.sorts.Kind.{Kind}
use Rattle.tagged.specs.declared.sorts.StatementSort.{StatementSort}
use Rattle.tagged.specs.declared.sorts.Sort.{Sort}
use Rattle.tagged.specs.declared.answers.Fault.{Fault}
use Rattle.netlist.specs.Lists.{operand_width}
use Rattle.netlist.specs.declared.Operand.{Operand}
use Rattle.netlist.specs.declared.Cell.{Cell}
use Rattle.verilog.specs.Reading.{expression_in, after_front}
use Rattle.verilog.proofs.FormLaws.{not_statement, is_missed}
use Rattle.translate.specs.Tables.{operand_at, merge}
use Rattle.translate.specs.Translation.{Emitted, translate_expression}
use Rattle.translate_blocks.specs.declared.emit.Emitter.{Emitter}
use Rattle.translate_blocks.specs.Emitting.{Emits, EmitsExpression}
use Rattle.translate_blocks.specs.Writing.{current_operands, slot_of, Written, expression_at, Translator, untouched, write_all, write_assign_bit, write_front, write_if, write_case, write_by, write_statement, write_block, write_item, write_process}
use Rattle.translate_blocks.specs.Log.{Mark, Forward, forward_items, backward_items}
use Rattle.translate_blocks.specs.Working.{Work, Translates, Forwards, Filed, Unwinds, Room}
use Rattle.translate_blocks.proofs.EmitLaws.{emits_then, emits_as}
use Rattle.translate_blocks.proofs.LogLaws.{grown_none, grown_then, grown_lowered, filed_grown}
use Rattle.translate_blocks.proofs.FieldSizes.{front_size, front_within}
use Rattle.translate_blocks.proofs.CaseLoops.{case_by_loops}
use Rattle.translate_blocks.proofs.Bounds.{Bounded, front_bounded, block_bounded}
use Rattle.translate_blocks.proofs.WorkLaws.{forwards_as, room_table, room_after}

-- assignments

module _ (count d : ℕ) (kind : Kind) (l : List ℕ) (table current : List Operand) (front : current ≡ current_operands count table) {x : Work} {e : Emitter} {operand : Operand} where
  pub assign_bit_done : (part : List ℕ) → part ≡ drop 2 l → EmitsExpression x.emitter (translate_expression current x.emitter.cells (expression_in d part)) e operand →
      {slot : ℕ} → slot ≡ slot_of count kind (get_or l 0 0) → {old : Operand} → old ≡ operand_at table slot → {width : ℕ} → width ≡ operand_width old → {bit : ℕ} → bit ≡ get_or l 1 0 →
      {e₁ : Emitter} → Emits e (Cell.Put width old bit operand ∷ []) e₁ → {table₁ : List Operand} → table₁ ≡ set table slot (Operand.Cell width e.cells) →
      Translates (write_assign_bit count d kind l table x.emitter.cells) x (record { emitter = e₁; log = x.log }) table₁
  unfolding write_assign_bit
  assign_bit_done part rest p {slot} place {old} is {width} wide {bit} second {e₁} put {table₁} store =
      let y : Emitted = expression_at count table x.emitter.cells d (drop 2 l) in
      let same : translate_expression current x.emitter.cells (expression_in d part) ≡ y = rw (rest, front) in
      let held : old ≡ operand_at table (slot_of count kind (get_or l 0 0)) = is ∙ ap (operand_at table) place in
      let number : e.cells ≡ x.emitter.cells + length y.cells = p.emits.counted ∙ ap (λ (z : Emitted). x.emitter.cells + length z.cells) same in
      let value : operand ≡ y.operand = p.is ∙ ap (λ (z : Emitted). z.operand) same in
      let cell : Cell.Put width old bit operand ≡ Cell.Put (operand_width (operand_at table (slot_of count kind (get_or l 0 0))))
      (operand_at table (slot_of count kind (get_or l 0 0))) (get_or l 1 0) y.operand = rw (wide, held, second, value) in
      record {
        emitted = emits_as (ap₂ (λ (z : Emitted) (c : Cell). z.cells ++ (c ∷ [])) (sym same) (sym cell)) (emits_then p.emits put);
        left = store ∙ rw (wide, held, number, place);
        kept = grown_none x.log;
      }

-- an if and a case

module _ (count d : ℕ) (l : List ℕ) (table current : List Operand) (front : current ≡ current_operands count table) (x : Work) {e : Emitter} {operand : Operand}
    (p : EmitsExpression x.emitter (translate_expression current x.emitter.cells (expression_in d l)) e operand) where
  own_same : translate_expression current x.emitter.cells (expression_in d l) ≡ expression_at count table x.emitter.cells d l
  own_same = rw front

  started : e.cells ≡ x.emitter.cells + length (expression_at count table x.emitter.cells d l).cells
  started = p.emits.counted ∙ ap (λ (y : Emitted). x.emitter.cells + length y.cells) own_same

  own_emitted : Emits x.emitter (expression_at count table x.emitter.cells d l).cells e
  own_emitted = emits_as (ap (λ (y : Emitted). y.cells) (sym own_same)) p.emits

  value : operand ≡ (expression_at count table x.emitter.cells d l).operand
  value = p.is ∙ ap (λ (y : Emitted). y.operand) own_same

  pub if_done : (one : List ℕ) → one ≡ after_front l → (zero' : List ℕ) → zero' ≡ after_front one → (other : List Operand) → other ≡ table → {k : ℕ} → k ≡ count →
      {x₁ x₂ : Work} {e₃ : Emitter} {other₁ table₂ table₃ : List Operand} →
      Translates (write_front (write_block k d) one other e.cells) (record { emitter = e; log = x.log }) x₁ other₁ →
      Translates (write_front (write_block count d) zero' table x₁.emitter.cells) x₁ x₂ table₂ →
      Emits x₂.emitter (merge operand x₂.emitter.cells other₁ table₂).cells e₃ → table₃ ≡ (merge operand x₂.emitter.cells other₁ table₂).operands →
      Translates (write_if count d (write_block count d) l table x.emitter.cells) x (record { emitter = e₃; log = x₂.log }) table₃
  unfolding write_if
  if_done one first zero' second other copied {k} counted {x₁} {x₂} {e₃} {other₁} {table₂} t u m left =
      let y : Emitted = expression_at count table x.emitter.cells d l in
      let start : ℕ = x.emitter.cells + length y.cells in
      let a : Written = write_front (write_block count d) (after_front l) table start in
      let b : Written = write_front (write_block count d) (after_front (after_front l)) table (start + length a.cells) in
      let a-same : write_front (write_block k d) one other e.cells ≡ a = rw (counted, first, copied, started) in
      let after-a : x₁.emitter.cells ≡ start + length a.cells = t.emitted.counted ∙ ap₂ (λ (k : ℕ) (w : Written). k + length w.cells) started a-same in
      let b-same : write_front (write_block count d) zero' table x₁.emitter.cells ≡ b = rw (second, first, after-a) in
      let after-b : x₂.emitter.cells ≡ start + length a.cells + length b.cells = u.emitted.counted ∙ ap₂ (λ (k : ℕ) (w : Written). k + length w.cells) after-a b-same in
      let a-left : other₁ ≡ a.operands = t.left ∙ ap (λ (w : Written). w.operands) a-same in
      let b-left : table₂ ≡ b.operands = u.left ∙ ap (λ (w : Written). w.operands) b-same in
      let m-same : merge operand x₂.emitter.cells other₁ table₂ ≡ merge y.operand (start + length a.cells + length b.cells) a.operands b.operands =
      rw (value, after-b, a-left, b-left) in
      record {
        emitted = emits_then own_emitted
            (emits_then (emits_then (emits_as (ap (λ (w : Written). w.cells) (sym a-same)) t.emitted) (emits_as (ap (λ (w : Written). w.cells) (sym b-same)) u.emitted))
            (emits_as (ap (λ (w : Written). w.cells) (sym m-same)) m));
        left = left ∙ ap (λ (w : Written). w.operands) m-same;
        kept = grown_then t.kept u.kept;
      }

  pub case_done : (list : List ℕ) → list ≡ after_front l → (entry : List Operand) → entry ≡ table → x.log.top ≤ length x.log.entries.now → {k : ℕ} → k ≡ count →
      {x₁ x₂ : Work} {table₁ table₂ : List Operand} →
      Forwards (forward_items (write_item k d) (write_block k d) operand (fields_at 0 list) entry e.cells) (record { emitter = e; log = x.log }) x₁ table₁ →
      x₁.log.top ≤ length x₁.log.entries.now →
      ((marks : List Mark) → Filed x₁.log x.log.top marks → Unwinds (backward_items entry marks table₁ x₁.emitter.cells) x.log.top x₁ x₂ table₂) →
      Translates (write_case count d (write_item count d) (write_block count d) l table x.emitter.cells) x x₂ table₂
  unfolding write_case
  case_done list rest entry copied within {k} counted {x₁} {x₂} {table₁} {table₂} f room back =
      let y : Emitted = expression_at count table x.emitter.cells d l in
      let start : ℕ = x.emitter.cells + length y.cells in
      let g : Forward = forward_items (write_item count d) (write_block count d) y.operand (fields_at 0 (after_front l)) table start in
      let g-same : forward_items (write_item k d) (write_block k d) operand (fields_at 0 list) entry e.cells ≡ g = rw (counted, value, rest, copied, started) in
      let h : Forwards g (record { emitter = e; log = x.log }) x₁ table₁ = forwards_as (sym g-same) f in
      let after : x₁.emitter.cells ≡ start + length g.cells = h.emitted.counted ∙ ap (λ (k : ℕ). k + length g.cells) started in
      let u = back g.marks (filed_grown within h.grown room) in
      let back-same : backward_items entry g.marks table₁ x₁.emitter.cells ≡ backward_items table g.marks g.table (start + length g.cells) = rw (copied, h.left, after) in
      let loops = case_by_loops count d (write_block count d) y.operand (fields_at 0 (after_front l)) table start in
      record {
        emitted = emits_then own_emitted
            (emits_as (ap (λ (w : Written). w.cells) loops) (emits_then h.emitted (emits_as (ap (λ (w : Written). w.cells) (sym back-same)) u.emitted)));
        left = u.left ∙ ap (λ (w : Written). w.operands) back-same ∙ ap (λ (w : Written). w.operands) (sym loops);
        kept = grown_lowered within h.grown u.lowered;
      }

-- the room behind the block at the front, for a table of the same length
module _ (count d : ℕ) (part : List ℕ) {other other₁ table : List Operand} (copied : other ≡ table) {x x₁ : Work} (room : Room (length part + 3) table x)
    (k : ℕ) (t : Translates (write_front (write_block k d) part other x.emitter.cells) x x₁ other₁) where
  pub front_long : length other₁ ≡ length table
  front_long = ap length t.left ∙ (front_bounded (write_block k d) (block_bounded k d) part other x.emitter.cells).kept ∙ ap length copied

  pub room_front : (rest : List ℕ) → rest ≡ after_front part → Room (length rest + 3) table x₁
  room_front rest after =
      room_table (sym front_long)
      (room_after (room_table (ap length copied) room) t (front_bounded (write_block k d) (block_bounded k d) part other x.emitter.cells)
      (omega (arith, front_within part, ap length after)))

  -- and then, behind the block that follows, the merge's
  pub merge_fits : (rest : List ℕ) → rest ≡ after_front part → {x₂ : Work} {table₂ : List Operand} →
      Translates (write_front (write_block count d) rest table x₁.emitter.cells) x₁ x₂ table₂ →
      (x₂.emitter.at + 22 * length other₁ ≤ 2 ^ 40) × (x₂.emitter.cells + length other₁ ≤ 2 ^ 31) × (length table₂ ≡ length other₁) × (length other₁ ≤ 2 ^ 16)
  merge_fits rest after {x₂} {table₂} u =
      let bound : Bounded (front_size rest) table (write_front (write_block count d) rest table x₁.emitter.cells) =
      front_bounded (write_block count d) (block_bounded count d) rest table x₁.emitter.cells in
      let left : Room 3 table₂ x₂ = room_after (room_front rest after) u bound (omega (arith, front_within rest)) in (
        omega (arith, front_long, left.places, room.few),
        omega (arith, front_long, left.numbers, room.few),
        ap length u.left ∙ bound.kept ∙ sym front_long,
        omega (arith, front_long, room.few),
      )

-- where no field is opened there is no block
pub front_nothing : (block : Translator) (l : List ℕ) (table : List Operand) (n : ℕ) (opened : Opened) → opened ≡ open_of 0 0 l → (x : Fault) → opened ≡ Err x →
    write_front block l table n ≡ untouched table
front_nothing block l table n opened found x e = rw (← found, e)

-- each field, where a level is left
pub statement_step : (count d : ℕ) (l : List ℕ) (table : List Operand) (n : ℕ) → (d ≡ 0 → ⊥) → (s : Sort) → write_statement count d s l table n
    ≡ on_statement s (λ t. write_by count (d - 1) (write_block count (d - 1)) (write_item count (d - 1)) t l table n) (untouched table)
unfolding write_statement
statement_step count zero l table n h s = absurd (h refl)
statement_step count (suc d) l table n h s = rw sub-one

pub block_step : (count d : ℕ) (l : List ℕ) (table : List Operand) (n : ℕ) → (d ≡ 0 → ⊥) → (s : Sort) →
    write_block count d s l table n ≡ cond (is_sort Sort.Block s) (write_all (write_statement count (d - 1)) (fields_at 0 l) table n) (untouched table)
unfolding write_block
block_step count zero l table n h s = absurd (h refl)
block_step count (suc d) l table n h s = rw sub-one

pub item_step : (count d : ℕ) (l : List ℕ) (table : List Operand) (n : ℕ) → (d ≡ 0 → ⊥) → write_item count d l table n ≡ write_front (write_block count (d - 1)) (after_front l) table n
unfolding write_item
item_step count zero l table n h = absurd (h refl)
item_step count (suc d) l table n h = rw sub-one

-- nothing is added where no level is left, and for another sort
module _ (count d : ℕ) (l : List ℕ) (table : List Operand) (n : ℕ) where
  pub statement_deep : d ≡ 0 → (s : Sort) → write_statement count d s l table n ≡ untouched table
  unfolding write_statement
  statement_deep e s = rw e

  pub block_deep : d ≡ 0 → (s : Sort) → write_block count d s l table n ≡ untouched table
  unfolding write_block
  block_deep e s = rw e

  pub item_deep : d ≡ 0 → write_item count d l table n ≡ untouched table
  unfolding write_item
  item_deep e = rw e

  module _ (h : d ≡ 0 → ⊥) (s : Sort) where
    pub statement_other : ((t : StatementSort) → s ≡ Sort.Statement t → ⊥) → write_statement count d s l table n ≡ untouched table
    statement_other k = statement_step count d l table n h s ∙ sym (not_statement s _ (untouched table) k)

    pub block_other : (s ≡ Sort.Block → ⊥) → write_block count d s l table n ≡ untouched table
    block_other k = block_step count d l table n h s ∙ rw (is_missed Sort.Block s k)

pub process_other : (count : ℕ) (s : Sort) (l : List ℕ) (table : List Operand) (n : ℕ) → (s ≡ Sort.Process → ⊥) → write_process count s l table n ≡ untouched table
unfolding write_process
process_other count s l table n k = rw (is_missed Sort.Process s k)
