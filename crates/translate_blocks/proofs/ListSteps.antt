-- One turn of a loop over the fields of a list, each translated by itself: what is done, and behind it what the fields that are left give, is what the whole list
-- gives, and the room that is left is for them. By the first field that is left. Assumes nothing.
use mathlib.Core.Path.{◌≡◌, refl, sym, ap, ◌∙◌, subst}
use mathlib.Core.List.{List, [], ◌∷◌, append_assoc}
use Prim.Native.Nat.{ℕ, ◌+◌}
use native.Mathlib.Omega.{arith}
use lib.ListN.{length}
use Rattle.tagged.specs.Fields.{Placed, fields_at}
use Rattle.tagged.specs.Fields as fields
use Rattle.tagged.specs.Walk.{placed, fields_left}
use Rattle.tagged.specs.declared.walk.Field.{Field}
use Rattle.tagged.specs.declared.walk.Fields.{Fields}
use Rattle.netlist.specs.declared.Operand.{Operand}
use Rattle.netlist.specs.declared.Cell.{Cell}
use Rattle.translate_blocks.specs.Writing.{variables_in, Written, Translator, behind, untouched, write_all}
use Rattle.translate_blocks.specs.Working.{Work, Translates, Room}
use Rattle.translate_blocks.proofs.Bounds.{Bounded}
use Rattle.translate_blocks.proofs.WorkLaws.{translates_none, translates_as, translates_then, room_less, room_after}

module _ (by_count : ℕ → Translator) (all : List (Placed fields.Field)) (table₀ : List Operand) (x₀ : Work) where
  -- the fields passed are translated
  pub record ListGoing (left : Fields) (table : List Operand) (x : Work) : Type 0 where
    pub done : Written
    pub translated : Translates done x₀ x table
    pub long : length table ≡ length table₀
    pub room : Room (length left.rest.now) table x
    pub whole : behind done.cells (write_all (by_count (variables_in table₀)) (fields_left left) table x.emitter.cells) ≡ write_all (by_count (variables_in table₀)) all table₀ x₀.emitter.cells

-- a walk that has begun at a list
pub walk_begun : {left walk : Fields} {l : List ℕ} → left ≡ walk → walk.rest.now ≡ l → walk.place ≡ 0 → fields_left left ≡ fields_at 0 l
walk_begun e rest place = rw (e, rest, place)

pub room_begun : {left walk : Fields} {l : List ℕ} {table : List Operand} {x : Work} → left ≡ walk → walk.rest.now ≡ l → Room (length l) table x → Room (length left.rest.now) table x
room_begun {table = table} {x} e rest room = subst (λ (k : ℕ). Room k table x) (sym (ap (λ (s : Fields). length s.rest.now) e ∙ ap length rest)) room

pub list_start : {by_count : ℕ → Translator} {l : List ℕ} {table₀ : List Operand} {x₀ : Work} {left walk : Fields} → left ≡ walk → walk.rest.now ≡ l → walk.place ≡ 0 →
    Room (length l) table₀ x₀ → ListGoing by_count (fields_at 0 l) table₀ x₀ left table₀ x₀
list_start {by_count} {l} {table₀} {x₀} e rest place room = record {
  done = untouched table₀;
  translated = translates_none refl;
  long = refl;
  room = room_begun e rest room;
  whole = ap (λ (m : List (Placed fields.Field)). write_all (by_count (variables_in table₀)) m table₀ x₀.emitter.cells) (walk_begun e rest place);
}

module _ {by_count : ℕ → Translator} {all : List (Placed fields.Field)} {table₀ : List Operand} {x₀ : Work} where
  module _ {left : Fields} {table : List Operand} {x : Work} (g : ListGoing by_count all table₀ x₀ left table x) where
    -- no field is left
    pub list_done : fields_left left ≡ [] → Translates (write_all (by_count (variables_in table₀)) all table₀ x₀.emitter.cells) x₀ x table
    unfolding write_all
    list_done e =
        let rest : behind g.done.cells (untouched table) ≡ write_all (by_count (variables_in table₀)) all table₀ x₀.emitter.cells = rw e at g.whole in
        translates_as (sym rest) (translates_then g.translated (translates_none refl))

    module _ (f : Field) (next : Fields) (first : fields_left left ≡ placed f ∷ fields_left next) (size : 3 + length f.payload.now + length next.rest.now ≡ length left.rest.now) where
      pub list_room : Room (length f.payload.now + 3) table x
      list_room = room_less (omega (arith, size)) g.room

      -- one field more
      pub list_turn : ((table : List Operand) (n : ℕ) → Bounded (length f.payload.now + 3) table (by_count (variables_in table₀) f.sort f.payload.now table n)) → {table₁ : List Operand} {x₁ : Work} →
          Translates (by_count (variables_in table) f.sort f.payload.now table x.emitter.cells) x x₁ table₁ → ListGoing by_count all table₀ x₀ next table₁ x₁
      unfolding write_all
      list_turn bound {table₁} {x₁} given =
          let own : Written = by_count (variables_in table₀) f.sort f.payload.now table x.emitter.cells in
          let same : own ≡ by_count (variables_in table) f.sort f.payload.now table x.emitter.cells = rw g.long in
          let t : Translates own x x₁ table₁ = translates_as same given in
          let rest : Written = write_all (by_count (variables_in table₀)) (fields_left next) own.operands (x.emitter.cells + length own.cells) in
          let turned : behind g.done.cells (behind own.cells rest) ≡ write_all (by_count (variables_in table₀)) all table₀ x₀.emitter.cells = rw first at g.whole in
          record {
            done = behind g.done.cells own;
            translated = translates_then g.translated t;
            long = ap length t.left ∙ (bound table x.emitter.cells).kept ∙ g.long;
            room = room_after g.room t (bound table x.emitter.cells) (omega (arith, size));
            whole = rw (t.left, t.emitted.counted) (ap (λ (cells : List Cell). record { cells = cells; operands = rest.operands }) (append_assoc g.done.cells own.cells rest.cells) ∙ turned);
          }
