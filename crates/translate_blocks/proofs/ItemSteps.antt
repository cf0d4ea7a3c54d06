-- One turn of the forward loop over the items of a case, and its end: what is done, in front of what the fields that are left give, is what the whole list gives,
-- and the room that is left is for them. By the first field that is left. Assumes nothing.
use mathlib.Core.Path.{◌≡◌, refl, sym, ap, ap₂, ◌∙◌, subst}
use mathlib.Core.List.{List, [], ◌∷◌, append_assoc, append-nil}
use Prim.Native.Nat.{ℕ, ◌+◌, ◌*◌, ◌^◌, ◌≤◌}
use native.Mathlib.Omega.{arith}
use lib.ListN.{length, length-append}
use Rattle.words.specs.declared.TwoOperand.TheVariants as two_operand
use Rattle.tagged.specs.Fields.{Placed, fields_at}
use Rattle.tagged.specs.Fields as fields
use Rattle.tagged.specs.Walk.{placed, fields_left}
use Rattle.tagged.specs.declared.walk.Field.{Field}
use Rattle.tagged.specs.declared.walk.Fields.{Fields}
use Rattle.tagged.specs.declared.sorts.Sort.{Sort}
use Rattle.netlist.specs.declared.Operand.{Operand}
use Rattle.netlist.specs.declared.Cell.{Cell}
use Rattle.verilog.proofs.FormLaws.{not_branch}
use Rattle.translate_blocks.specs.declared.emit.Emitter.{Emitter}
use Rattle.translate_blocks.specs.declared.case_log.Log.{Log}
use Rattle.translate_blocks.specs.Emitting.{Emits}
use Rattle.translate_blocks.specs.Writing.{Written, untouched, item_operand, write_item, write_block}
use Rattle.translate_blocks.specs.Log.{changes, changes_of, Mark, item_log, log_of, Forward, onward, arrived, mark_of, forward_item, forward_items, backward_items}
use Rattle.translate_blocks.specs.Working.{Work, Grown, Translates, Forwards, Filed, Room}
use Rattle.translate_blocks.proofs.SortBranches.{branch_holds}
use Rattle.translate_blocks.proofs.FieldSizes.{fields_within}
use Rattle.translate_blocks.proofs.Bounds.{Bounded, items_bounded, item_bounded, block_bounded}
use Rattle.translate_blocks.proofs.CaseLoops.{mark_small, case_by_loops, case_log_lem}
use Rattle.translate_blocks.proofs.EmitLaws.{emits_then, emits_as, emits_past}
use Rattle.translate_blocks.proofs.LogLaws.{grown_then, grown_as, filed_grown}
use Rattle.translate_blocks.proofs.ListSteps.{walk_begun, room_begun}
use Rattle.translate_blocks.proofs.WorkLaws.{translates_none, translates_as, forwards_as, forwards_then, forwards_last, room_less}

onward_twice : (f g h : Forward) → onward (onward f g) h ≡ onward f (onward g h)
onward_twice f g h =
    ap₂ (λ (cells : List Cell) (marks : List Mark). record { cells = cells; marks = marks; table = h.table }) (append_assoc f.cells g.cells h.cells)
    (append_assoc f.marks g.marks h.marks)

module _ (count d : ℕ) (selector : Operand) (entry : List Operand) where
  -- what fields give, with so many cells before
  abbrev pub forward : List (Placed fields.Field) → ℕ → Forward
  forward l n = forward_items (write_item count d) (write_block count d) selector l entry n

  -- what an item gives
  abbrev pub item_forward : List ℕ → ℕ → Forward
  item_forward p n = forward_item selector p entry n (write_item count d p entry (n + 1))

  module _ (all : List (Placed fields.Field)) (x₀ : Work) where
    -- the items passed are done, and the table is again the entry table
    pub record ItemsGoing (left : Fields) (table : List Operand) (x : Work) : Type 0 where
      pub done : Forward
      pub forwards : Forwards done x₀ x table
      pub same : table ≡ entry
      pub room : Room (length left.rest.now) table x
      pub whole : onward done (forward (fields_left left) x.emitter.cells) ≡ forward all x₀.emitter.cells

pub items_start : {count d : ℕ} {selector : Operand} {entry table : List Operand} {l : List ℕ} {x₀ : Work} {left walk : Fields} → left ≡ walk → walk.rest.now ≡ l → walk.place ≡ 0 →
    entry ≡ table → Room (length l) table x₀ → ItemsGoing count d selector entry (fields_at 0 l) x₀ left table x₀
items_start {count} {d} {selector} {entry} {table} {l} {x₀} e rest place copied room = record {
  done = arrived (untouched table);
  forwards = forwards_last (translates_none refl);
  same = sym copied;
  room = room_begun e rest room;
  whole = ap (λ (m : List (Placed fields.Field)). forward count d selector entry m x₀.emitter.cells) (walk_begun e rest place);
}

module _ {count d : ℕ} {selector : Operand} {entry : List Operand} {all : List (Placed fields.Field)} {x₀ : Work} where
  module _ {left : Fields} {table : List Operand} {x : Work} (g : ItemsGoing count d selector entry all x₀ left table x) where
    -- nothing more is done
    ended : onward g.done (arrived (untouched entry)) ≡ forward count d selector entry all x₀.emitter.cells → Forwards (forward count d selector entry all x₀.emitter.cells) x₀ x table
    ended e = forwards_as (sym e) (subst (λ (t : List Operand). Forwards (onward g.done (arrived (untouched t))) x₀ x table) g.same (forwards_then g.forwards (forwards_last (translates_none refl))))

    pub items_none : fields_left left ≡ [] → Forwards (forward count d selector entry all x₀.emitter.cells) x₀ x table
    unfolding forward_items
    items_none e = ended (rw e at g.whole)

    module _ (f : Field) (next : Fields) (first : fields_left left ≡ placed f ∷ fields_left next) (size : 3 + length f.payload.now + length next.rest.now ≡ length left.rest.now) where
      pub items_room : Room (length f.payload.now + 3) table x
      items_room = room_less (omega (arith, size)) g.room

      pub items_other : (f.sort ≡ Sort.Item → ⊥) → (f.sort ≡ Sort.Block → ⊥) → Forwards (forward count d selector entry all x₀.emitter.cells) x₀ x table
      unfolding forward_items
      items_other no_item no_block = ended (ap (onward g.done) (sym (not_branch f.sort _ _ (arrived (untouched entry)) no_item no_block)) ∙ rw first at g.whole)

      -- the block that ends them
      pub items_block : f.sort ≡ Sort.Block → {own : ℕ} → own ≡ count → {table₁ : List Operand} {x₁ : Work} → Translates (write_block own d f.sort f.payload.now table x.emitter.cells) x x₁ table₁ →
          Forwards (forward count d selector entry all x₀.emitter.cells) x₀ x₁ table₁
      unfolding forward_items
      items_block is {own} counted {table₁} {x₁} t =
          let w : Written = write_block count d f.sort f.payload.now entry x.emitter.cells in
          let last : Translates w x x₁ table₁ = translates_as (rw (counted, g.same)) t in
          let whole : onward g.done (arrived w) ≡ forward count d selector entry all x₀.emitter.cells = rw is (rw (first, is) at g.whole) in
          forwards_as (sym whole) (forwards_then g.forwards (forwards_last last))

      -- one item more
      pub items_turn : f.sort ≡ Sort.Item → {table₁ : List Operand} {x₁ : Work} → Forwards (item_forward count d selector entry f.payload.now x.emitter.cells) x x₁ table₁ →
          ItemsGoing count d selector entry all x₀ next table₁ x₁
      unfolding forward_items log_of
      items_turn is {table₁} {x₁} t =
          let p : List ℕ = f.payload.now in
          let n : ℕ = x.emitter.cells in
          let w : Written = write_item count d p entry (n + 1) in
          let bound : Bounded (length p) entry w = item_bounded count d p entry (n + 1) in
          let few : length entry ≤ 128 = omega (arith, ap length g.same, g.room.few) in
          let cells = bound.cells few in
          let mark : Mark = mark_of entry n w in
          let small = mark_small (write_item count d) (λ q s k. (item_bounded count d q s k).changed) p entry n in
          let logged : length (log_of (mark ∷ [])) ≡ length mark.changed + 1 =
          ap length (append-nil (item_log mark)) ∙ length-append mark.changed (record { slot = length mark.changed; operand = Operand.Cell 1 n } ∷ []) in
          let number : x₁.emitter.cells ≡ n + 1 + length w.cells = omega (arith, t.emitted.counted) in
          let turned : onward g.done (onward (item_forward count d selector entry p n) (forward count d selector entry (fields_left next) (n + 1 + length w.cells)))
          ≡ forward count d selector entry all x₀.emitter.cells = rw (first, is) at g.whole in
          record {
            done = onward g.done (item_forward count d selector entry p n);
            forwards = forwards_then g.forwards t;
            same = t.left;
            room = record {
              few = omega (arith, ap length t.left, few);
              short = omega (arith, t.grown.long, g.room.short);
              free = omega (arith, t.grown.long, t.grown.height, logged, small, g.room.free, size);
              numbers = omega (arith, number, cells, g.room.numbers, size);
              places = omega (arith, emits_past t.emitted, cells, g.room.places, size);
            };
            whole = onward_twice g.done (item_forward count d selector entry p n) (forward count d selector entry (fields_left next) x₁.emitter.cells)
                ∙ ap (λ (k : ℕ). onward g.done (onward (item_forward count d selector entry p n) (forward count d selector entry (fields_left next) k))) number ∙ turned;
          }

-- the forward loop keeps the table's length
forward_long : (count d : ℕ) (selector : Operand) (l : List (Placed fields.Field)) (table : List Operand) (n : ℕ) →
    length (forward_items (write_item count d) (write_block count d) selector l table n).table ≡ length table
unfolding forward_items
forward_long count d selector [] table n = refl
forward_long count d selector (f ∷ l) table n =
    let p : List ℕ = f.what.payload in
    branch_holds (λ (g : Forward). length g.table ≡ length table) f.what.sort
    (forward_long count d selector l table (n + 1 + length (write_item count d p table (n + 1)).cells))
    (block_bounded count d f.what.sort p table n).kept refl

-- how many cells it adds
forward_few : (count d : ℕ) (selector : Operand) (l : List ℕ) (table : List Operand) (n : ℕ) → length table ≤ 128 →
    length (forward_items (write_item count d) (write_block count d) selector (fields_at 0 l) table n).cells ≤ 128 * length l
forward_few count d selector l table n few =
    let f : Forward = forward_items (write_item count d) (write_block count d) selector (fields_at 0 l) table n in
    let bound = items_bounded (write_item count d) (write_block count d) (item_bounded count d) (block_bounded count d) selector (fields_at 0 l) table n in
    omega (
      arith,
      bound.cells few,
      ap (λ (w : Written). length w.cells) (case_by_loops count d (write_block count d) selector (fields_at 0 l) table n),
      length-append f.cells (backward_items table f.marks f.table (n + length f.cells)).cells,
      fields_within 0 l,
    )

-- the backward loop has room
module _ (count d : ℕ) (selector : Operand) (l : List ℕ) {entry table table₁ : List Operand} {x x₁ : Work} (copied : entry ≡ table) (room : Room (length l + 3) table x)
    (f : Forwards (forward_items (write_item count d) (write_block count d) selector (fields_at 0 l) entry x.emitter.cells) x x₁ table₁) where
  abbrev found : Forward
  found = forward_items (write_item count d) (write_block count d) selector (fields_at 0 l) entry x.emitter.cells

  entry_few : length entry ≤ 128
  entry_few = omega (arith, ap length copied, room.few)

  log_few : 3 * length (log_of found.marks) ≤ length l
  log_few = case_log_lem count d (write_block count d) selector 0 l entry x.emitter.cells

  pub top_within : x₁.log.top ≤ length x₁.log.entries.now
  top_within = omega (arith, f.grown.height, f.grown.long, log_few, room.free)

  pub unwind_room : (length entry ≤ 128) × (length table₁ ≡ length entry) × ((marks : List Mark) × Filed x₁.log x.log.top marks) × (length x₁.log.entries.now ≤ 2 ^ 20)
      × (x₁.emitter.cells + 128 * x₁.log.top ≤ 2 ^ 31 + 128 * x.log.top) × (x₁.emitter.at + 2816 * x₁.log.top ≤ 2 ^ 40 + 2816 * x.log.top)
  unwind_room =
      let cells = forward_few count d selector l entry x.emitter.cells entry_few in (
        entry_few,
        ap length f.left ∙ forward_long count d selector (fields_at 0 l) entry x.emitter.cells,
        (found.marks, filed_grown (omega (arith, room.free)) f.grown top_within),
        omega (arith, f.grown.long, room.short),
        omega (arith, f.emitted.counted, cells, f.grown.height, log_few, room.numbers),
        omega (arith, emits_past f.emitted, cells, f.grown.height, log_few, room.places),
      )

-- an item: its equal cell, its block, and its changes into the log

module _ (d : ℕ) (p : List ℕ) {entry table table₂ : List Operand} {x x₂ : Work} {e₁ : Emitter} (copied : entry ≡ table) (own : ℕ) where
  -- there is room for its changes in the log
  pub log_room_lem : (k : ℕ) → Room (length p + 3) table x → Translates (write_item own d p table k) (record { emitter = e₁; log = x.log }) x₂ table₂ →
      (length table₂ ≡ length entry) × (length entry ≤ 128) × (length x₂.log.entries.now ≤ 2 ^ 20) × (x₂.log.top + changes entry table₂ + 1 ≤ length x₂.log.entries.now)
  log_room_lem k room t =
      let bound : Bounded (length p) table (write_item own d p table k) = item_bounded own d p table k in
      let changed : changes entry table₂ ≡ changes table (write_item own d p table k).operands = ap₂ changes copied t.left in (
        ap length t.left ∙ bound.kept ∙ ap length (sym copied),
        omega (arith, ap length copied, room.few),
        omega (arith, t.kept.long, room.short),
        omega (arith, t.kept.long, t.kept.height, room.free, changed, bound.changed),
      )

  -- an item is done
  pub item_marked : {count : ℕ} → own ≡ count → (selector : Operand) {constant : Operand} → constant ≡ item_operand p → Emits x.emitter (Cell.Two two_operand.Equal 1 selector constant ∷ []) e₁ →
      Translates (write_item own d p table e₁.cells) (record { emitter = e₁; log = x.log }) x₂ table₂ → {table₃ : List Operand} {log₃ : Log} → table₃ ≡ entry →
      Grown x₂.log (item_log (record { equal = x.emitter.cells; changed = changes_of entry table₂ })) log₃ →
      Forwards (forward_item selector p entry x.emitter.cells (write_item count d p entry (x.emitter.cells + 1))) x (record { emitter = x₂.emitter; log = log₃ }) table₃
  unfolding log_of
  item_marked {count} counted selector value e t {log₃ = log₃} back logged =
      let n : ℕ = x.emitter.cells in
      let w : Written = write_item count d p entry (n + 1) in
      let same : write_item own d p table e₁.cells ≡ w = rw (counted, ← copied, e.counted) in
      let left : table₂ ≡ w.operands = t.left ∙ ap (λ (v : Written). v.operands) same in
      record {
        emitted = emits_then (emits_as (ap (λ (o : Operand). Cell.Two two_operand.Equal 1 selector o ∷ []) (sym value)) e)
            (emits_as (ap (λ (v : Written). v.cells) (sym same)) t.emitted);
        left = back;
        grown = grown_as (append-nil (item_log (mark_of entry n w)))
            (subst (λ (o : List Operand). Grown x.log (item_log (record { equal = n; changed = changes_of entry o })) log₃) left (grown_then t.kept logged));
      }
