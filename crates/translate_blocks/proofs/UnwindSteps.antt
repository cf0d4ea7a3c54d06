-- Backward over the items that stand in the log: the last one is merged, and those below it stay. By the log's last item. Assumes nothing.
use mathlib.Core.Path.{◌≡◌, refl, sym, ap, ap₂, ◌∙◌, subst}
use mathlib.Core.List.{List, [], ◌∷◌, ◌++◌, append_assoc, append-nil}
use Prim.Native.Nat.{ℕ, ◌+◌, ◌≤◌, ◌<◌}
use native.Mathlib.Omega.{arith}
use lib.ListN.{length, take, length-append}
use lib.Seq.{length-take-le, take-take, take_at}
use Rattle.netlist.specs.declared.Operand.{Operand}
use Rattle.translate.specs.Tables.{merge}
use Rattle.translate_blocks.specs.declared.emit.Emitter.{Emitter}
use Rattle.translate_blocks.specs.declared.case_log.Entry.{Entry}
use Rattle.translate_blocks.specs.declared.case_log.Log.{Log}
use Rattle.translate_blocks.specs.Emitting.{Emits}
use Rattle.translate_blocks.specs.Writing.{Written}
use Rattle.translate_blocks.specs.Log.{patched, Mark, item_log, log_of, merge_mark, backward_items}
use Rattle.translate_blocks.specs.Working.{Work, Lowered, Last, Filed, Unwinds}
use Rattle.translate_blocks.proofs.ChangeCounts.{merged_length, merged_few}
use Rattle.translate_blocks.proofs.EmitLaws.{emits_none, emits_then, emits_as}
use Rattle.translate_blocks.proofs.LogLaws.{log_append, patched_length}

-- one merge

pub mark_few : (entry : List Operand) (m : Mark) (table : List Operand) (n : ℕ) → length (merge_mark entry m table n).cells ≤ length entry
mark_few entry m table n = omega (arith, merged_few (Operand.Cell 1 m.equal) n (patched m.changed entry) table, patched_length m.changed entry)

pub mark_long : (entry : List Operand) (m : Mark) (table : List Operand) (n : ℕ) → length table ≡ length entry → length (merge_mark entry m table n).operands ≡ length entry
mark_long entry m table n e =
    let long = patched_length m.changed entry in
    merged_length (Operand.Cell 1 m.equal) n (patched m.changed entry) table (e ∙ sym long) ∙ long

pub last_merged : {x : Work} {e : Emitter} {log : Log} {side table₁ : List Operand} {condition : Operand} (entry table : List Operand) (below : List Entry) (m : Mark) →
    condition ≡ Operand.Cell 1 m.equal → side ≡ patched m.changed entry → Lowered x.log (length below) log →
    Emits x.emitter (merge condition x.emitter.cells side table).cells e → table₁ ≡ (merge condition x.emitter.cells side table).operands →
    Unwinds (merge_mark entry m table x.emitter.cells) (length below) x (record { emitter = e; log = log }) table₁
last_merged {x} entry table below m is put low emits left =
    let same = ap₂ (λ (c : Operand) (s : List Operand). merge c x.emitter.cells s table) is put in
    record { emitted = emits_as (ap (λ (w : Written). w.cells) (sym same)) emits; left = left ∙ ap (λ (w : Written). w.operands) same; lowered = low }

-- the last of some items

pub record LastMark (marks : List Mark) : Type 0 where
  pub front : List Mark
  pub last : Mark
  pub split : marks ≡ front ++ (last ∷ [])

last_of : (m : Mark) (marks : List Mark) → LastMark (m ∷ marks)
last_of m [] = record { front = []; last = m; split = refl }
last_of m (k ∷ marks) =
    let rest = last_of k marks in
    record { front = m ∷ rest.front; last = rest.last; split = ap (λ (l : List Mark). m ∷ l) rest.split }

held_long : {log : Log} {bottom : ℕ} {marks : List Mark} → Filed log bottom marks → log.top ≡ bottom + length (log_of marks)
held_long {log} {marks = marks} f =
    omega (arith, length-take-le log.top log.entries.now f.within, ap length f.stands, length-append f.below (log_of marks), f.deep)

some_mark : {log : Log} {bottom : ℕ} (marks : List Mark) → Filed log bottom marks → bottom < log.top → LastMark marks
unfolding log_of
some_mark [] f h = absurd (omega (arith, held_long f))
some_mark (m ∷ marks) f h = last_of m marks

no_mark : {log : Log} {bottom : ℕ} (marks : List Mark) → Filed log bottom marks → log.top ≤ bottom → marks ≡ []
unfolding log_of
no_mark [] f h = refl
no_mark (m ∷ marks) f h =
    absurd (omega (arith, held_long f, length-append (item_log m) (log_of marks), length-append m.changed (record { slot = length m.changed; operand = Operand.Cell 1 m.equal } ∷ [])))

module _ {log : Log} {bottom : ℕ} (front : List Mark) (m : Mark) (f : Filed log bottom (front ++ (m ∷ []))) where
  abbrev pub under : List Entry
  under = f.below ++ log_of front

  pub filed_last : Last log under m
  unfolding log_of
  filed_last = record {
    stands = f.stands ∙ ap (λ (l : List Entry). f.below ++ l) (log_append front (m ∷ []) ∙ ap (λ (l : List Entry). log_of front ++ l) (append-nil (item_log m)))
        ∙ sym (append_assoc f.below (log_of front) (item_log m));
    within = f.within;
  }

  last_height : log.top ≡ length under + length (item_log m)
  last_height = omega (arith, length-take-le log.top log.entries.now f.within, ap length filed_last.stands, length-append under (item_log m))

  pub last_falls : length under < log.top
  last_falls = omega (arith, last_height, length-append m.changed (record { slot = length m.changed; operand = Operand.Cell 1 m.equal } ∷ []))

  -- the items below stand in the lowered log
  pub filed_lowered : {log₁ : Log} → Lowered log (length under) log₁ → Filed log₁ bottom front
  filed_lowered {log₁} low = record {
    below = f.below;
    deep = f.deep;
    stands = ap (λ (k : ℕ). take k log₁.entries.now) low.height ∙ ap (take (length under)) low.same
        ∙ sym (take-take (length under) log.top log.entries.now (omega (arith, last_falls)))
        ∙ ap (take (length under)) filed_last.stands ∙ take_at under (item_log m) (length under) refl;
    within = omega (arith, low.height, ap length low.same, last_falls, f.within);
  }

-- the loop

module _ (entry table₀ : List Operand) (x₀ : Work) (bottom : ℕ) (marks : List Mark) where
  -- the items above are merged, and the others are left
  pub record Unwinding (table : List Operand) (x : Work) : Type 0 where
    pub left : List Mark
    pub done : List Mark
    pub all : left ++ done ≡ marks
    pub filed : Filed x.log bottom left
    pub unwound : Unwinds (backward_items entry done table₀ x₀.emitter.cells) x.log.top x₀ x table

  pub unwind_start : Filed x₀.log bottom marks → Unwinding table₀ x₀
  unfolding backward_items
  unwind_start f = record {
    left = marks;
    done = [];
    all = append-nil marks;
    filed = f;
    unwound = record { emitted = emits_none x₀.emitter; left = refl; lowered = record { same = refl; height = refl; same_buffer = refl } };
  }

  module _ {table : List Operand} {x : Work} (u : Unwinding table x) where
    module _ (some : bottom < x.log.top) where
      pub split : LastMark u.left
      split = some_mark u.left u.filed some

      pub split_filed : Filed x.log bottom (split.front ++ (split.last ∷ []))
      split_filed = subst (λ (l : List Mark). Filed x.log bottom l) split.split u.filed

      -- one item more
      pub unwind_turn : {table₁ : List Operand} {x₁ : Work} →
          Unwinds (merge_mark entry split.last table x.emitter.cells) (length (under split.front split.last split_filed)) x x₁ table₁ → Unwinding table₁ x₁
      unfolding backward_items
      unwind_turn {table₁} {x₁} t =
          let m : Mark = split.last in
          let rest : Written = backward_items entry u.done table₀ x₀.emitter.cells in
          let same : merge_mark entry m table x.emitter.cells ≡ merge_mark entry m rest.operands (x₀.emitter.cells + length rest.cells) =
          ap₂ (λ (l : List Operand) (k : ℕ). merge_mark entry m l k) u.unwound.left u.unwound.emitted.counted in
          record {
            left = split.front;
            done = m ∷ u.done;
            all = sym (append_assoc split.front (m ∷ []) u.done) ∙ ap (λ (l : List Mark). l ++ u.done) (sym split.split) ∙ u.all;
            filed = filed_lowered split.front split.last split_filed t.lowered;
            unwound = record {
              emitted = emits_then u.unwound.emitted (emits_as (ap (λ (w : Written). w.cells) (sym same)) t.emitted);
              left = t.left ∙ ap (λ (w : Written). w.operands) same;
              lowered = record {
                same = t.lowered.same ∙ u.unwound.lowered.same;
                height = refl;
                same_buffer = t.lowered.same_buffer ∙ u.unwound.lowered.same_buffer;
              };
            };
          }

    -- no item is left
    pub unwind_done : x.log.top ≤ bottom → Unwinds (backward_items entry marks table₀ x₀.emitter.cells) bottom x₀ x table
    unwind_done h =
        let none : u.left ≡ [] = no_mark u.left u.filed h in
        let done : u.done ≡ marks = ap (λ (l : List Mark). l ++ u.done) (sym none) ∙ u.all in
        let end : x.log.top ≡ bottom = omega (arith, h, held_long u.filed) in
        subst (λ (k : ℕ). Unwinds (backward_items entry marks table₀ x₀.emitter.cells) k x₀ x table) end
        (subst (λ (l : List Mark). Unwinds (backward_items entry l table₀ x₀.emitter.cells) x.log.top x₀ x table) done u.unwound)
