-- The log: entries are put above others; what a table has where it differs from the entry table, entry by entry; and the last item that stands in it. From the laws
-- of lists. Assumes nothing.
use mathlib.Core.Path.{◌≡◌, refl, sym, ap, ◌∙◌, subst}
use mathlib.Core.Bool.{Bool, true, false, cond}
use mathlib.Core.List.{List, [], ◌∷◌, ◌++◌, append_assoc, append-nil}
use Prim.Native.Nat.{ℕ, suc, ◌+◌, ◌-◌, ◌≤◌, ◌<◌}
use native.Mathlib.Numerals.{add-one}
use native.Mathlib.Nat.{add-zero}
use native.Mathlib.Omega.{arith}
use lib.ListN.{length, get_or, take, drop, set, length-append, length-set, take-append-drop, drop_of_length-le}
use lib.Seq.{drop-cons, take-suc, take_all, length-take-le, take-take, take_at, drop_at, get_or-append-add, get_or-append_seam}
use Rattle.netlist.specs.declared.Operand.{Operand}
use Rattle.translate.specs.Tables.{same_operand}
use Rattle.translate_blocks.specs.declared.case_log.Entry.{Entry}
use Rattle.translate_blocks.specs.declared.case_log.Log.{Log}
use Rattle.translate_blocks.specs.Log.{unlike, changes, changes_from, changes_of, patched, Mark, item_log, log_of}
use Rattle.translate_blocks.specs.Working.{held, Grown, Lowered, Last, Filed}
use Rattle.translate_blocks.proofs.FrontTurns.{front_here, front_set, front_all}
use Rattle.translate_blocks.proofs.CaseLoops.{changes_counted}

-- entries above others

pub grown_none : (log : Log) → Grown log [] log
grown_none log = record { stands = sym (append-nil (held log)); height = sym (add-zero log.top); long = refl; same_buffer = refl }

pub grown_then : {log log₁ log₂ : Log} {a b : List Entry} → Grown log a log₁ → Grown log₁ b log₂ → Grown log (a ++ b) log₂
grown_then {log} {a = a} {b} g h = record {
  stands = h.stands ∙ ap (λ (l : List Entry). l ++ b) g.stands ∙ append_assoc (held log) a b;
  height = omega (arith, g.height, h.height, length-append a b);
  long = h.long ∙ g.long;
  same_buffer = h.same_buffer ∙ g.same_buffer;
}

pub grown_as : {log log₁ : Log} {a b : List Entry} → a ≡ b → Grown log b log₁ → Grown log a log₁
grown_as {log} {log₁} e g = subst (λ (l : List Entry). Grown log l log₁) (sym e) g

-- what the log of two lists of items is
pub log_append : (a b : List Mark) → log_of (a ++ b) ≡ log_of a ++ log_of b
unfolding log_of
log_append [] b = refl
log_append (m ∷ a) b = ap (λ (l : List Entry). item_log m ++ l) (log_append a b) ∙ sym (append_assoc (item_log m) (log_of a) (log_of b))

-- the first entries, and then the others

changes_append : (slot : ℕ) (a b c d : List Operand) → length a ≡ length b → changes_from slot (a ++ c) (b ++ d) ≡ changes_from slot a b ++ changes_from (slot + length a) c d
unfolding changes_from
changes_append slot [] [] c d e = ap (λ (k : ℕ). changes_from k c d) (omega arith)
changes_append slot [] (y ∷ b) c d e = absurd (omega arith)
changes_append slot (x ∷ a) [] c d e = absurd (omega arith)
changes_append slot (x ∷ a) (y ∷ b) c d e =
    go (same_operand x y) (changes_append (slot + 1) a b c d (omega arith) ∙ ap (λ (k : ℕ). changes_from (slot + 1) a b ++ changes_from k c d) (omega arith))
  where
    go : (t : Bool) → changes_from (slot + 1) (a ++ c) (b ++ d) ≡ changes_from (slot + 1) a b ++ changes_from (slot + length (x ∷ a)) c d →
        cond t (changes_from (slot + 1) (a ++ c) (b ++ d)) (record { slot = slot; operand = y } ∷ changes_from (slot + 1) (a ++ c) (b ++ d)) ≡
        cond t (changes_from (slot + 1) a b) (record { slot = slot; operand = y } ∷ changes_from (slot + 1) a b) ++ changes_from (slot + length (x ∷ a)) c d
    go true later = later
    go false later = ap (λ (l : List Entry). record { slot = slot; operand = y } ∷ l) later

changes_both : (a b c d : List Operand) → length a ≡ length b → changes (a ++ c) (b ++ d) ≡ changes a b + changes c d
unfolding changes
changes_both [] [] c d e = omega arith
changes_both [] (y ∷ b) c d e = absurd (omega arith)
changes_both (x ∷ a) [] c d e = absurd (omega arith)
changes_both (x ∷ a) (y ∷ b) c d e = omega (arith, changes_both a b c d (omega arith))

module _ (entry table₀ : List Operand) (log₀ : Log) where
  -- the entries before the index are logged and set back, and the others are as they were
  pub record LogGoing (index : ℕ) (table : List Operand) (log : Log) : Type 0 where
    pub grown : Grown log₀ (changes_of (take index entry) (take index table₀)) log
    pub entries : table ≡ take index entry ++ drop index table₀
    pub long : length table ≡ length table₀

  pub log_start : LogGoing 0 table₀ log₀
  unfolding changes_from
  log_start = record { grown = grown_none log₀; entries = refl; long = refl }

  module _ (same : length table₀ ≡ length entry) {index : ℕ} {table : List Operand} {log : Log} (g : LogGoing index table log) where
    module _ (h : index < length entry) (o : Operand) where
      entry_long : length (take index entry) ≡ index
      entry_long = length-take-le index entry (omega arith)

      both_long : length (take index entry) ≡ length (take index table₀)
      both_long = entry_long ∙ sym (length-take-le index table₀ (omega (arith, same)))

      here : get_or table index o ≡ get_or table₀ index o
      here = ap (λ (l : List Operand). get_or l index o) g.entries ∙ front_here (take index entry) table₀ index entry_long (omega (arith, same)) o

      -- there is room for the entry's change
      pub log_room : log.top + changes (get_or entry index o ∷ []) (get_or table index o ∷ []) ≤ log₀.top + changes entry table₀
      unfolding changes
      log_room =
          let rest : List Operand = drop (suc index) entry in
          let rest₀ : List Operand = drop (suc index) table₀ in
          let cut : entry ≡ take index entry ++ get_or entry index o ∷ rest = sym (rw (drop-cons entry index o h) at (take-append-drop index entry)) in
          let cut₀ : table₀ ≡ take index table₀ ++ get_or table₀ index o ∷ rest₀ =
          sym (rw (drop-cons table₀ index o (omega (arith, same))) at (take-append-drop index table₀)) in
          let whole : changes entry table₀ ≡ changes (take index entry) (take index table₀) + (unlike (get_or entry index o) (get_or table₀ index o) + changes rest rest₀) =
          ap (λ (l : List Operand). changes l table₀) cut ∙ ap (changes (take index entry ++ get_or entry index o ∷ rest)) cut₀
          ∙ changes_both (take index entry) (take index table₀) (get_or entry index o ∷ rest) (get_or table₀ index o ∷ rest₀) both_long in
          let own : unlike (get_or entry index o) (get_or table index o) ≡ unlike (get_or entry index o) (get_or table₀ index o) = ap (unlike (get_or entry index o)) here in
          omega (arith, whole, own, g.grown.height, changes_counted 0 (take index entry) (take index table₀))

      -- one entry more
      pub log_turn : {table' : List Operand} {log' : Log} → Grown log (changes_from index (get_or entry index o ∷ []) (get_or table index o ∷ [])) log' →
          table' ≡ set table index (get_or entry index o) → LogGoing (index + 1) table' log'
      log_turn {table'} {log'} more put =
          let x : Operand = get_or entry index o in
          let y : Operand = get_or table₀ index o in
          let inside : index < length table₀ = omega (arith, same) in
          let step : changes_of (take (index + 1) entry) (take (index + 1) table₀) ≡
          changes_of (take index entry) (take index table₀) ++ changes_from index (x ∷ []) (get_or table index o ∷ []) =
          rw (add-one index, take-suc entry index o h, take-suc table₀ index o inside)
          (changes_append 0 (take index entry) (take index table₀) (x ∷ []) (y ∷ []) both_long
          ∙ ap (λ (k : ℕ). changes_of (take index entry) (take index table₀) ++ changes_from k (x ∷ []) (y ∷ [])) (omega (arith, entry_long))
          ∙ ap (λ (z : Operand). changes_of (take index entry) (take index table₀) ++ changes_from index (x ∷ []) (z ∷ [])) (sym here)) in
          record {
            grown = grown_as step (grown_then g.grown more);
            entries = put ∙ ap (λ (l : List Operand). set l index x) g.entries
                ∙ front_set (take index entry) table₀ index entry_long inside o x
                ∙ ap (λ (l : List Operand). l ++ drop (index + 1) table₀) (sym (ap (λ (k : ℕ). take k entry) (add-one index) ∙ take-suc entry index o h));
            long = ap length put ∙ length-set table index x ∙ g.long;
          }

    -- no entry is left
    pub log_done : index ≡ length entry → (table ≡ entry) × Grown log₀ (changes_of entry table₀) log
    log_done h =
        let all : take index entry ≡ entry = take_all index entry (omega arith) in
        let all₀ : take index table₀ ≡ table₀ = take_all index table₀ (omega (arith, same)) in (
          g.entries ∙ front_all (take index entry) table₀ index (length-take-le index entry (omega arith)) (omega (arith, same)) ∙ all,
          grown_as (rw (all, all₀)) g.grown,
        )

-- changes put on a table: one more, and the end

pub patch_turn : (changed : List Entry) (side last : List Operand) (index : ℕ) (o : Entry) {side' : List Operand} → index < length changed →
    patched (drop index changed) side ≡ last → {slot : ℕ} → slot ≡ (get_or changed index o).slot → side' ≡ set side slot (get_or changed index o).operand → patched (drop (index + 1) changed) side' ≡ last
unfolding patched
patch_turn changed side last index o h e is put = rw (add-one index, put, is) (rw (drop-cons changed index o h) at e)

pub patch_done : (changed : List Entry) (side last : List Operand) (index : ℕ) → length changed ≤ index → patched (drop index changed) side ≡ last → side ≡ last
unfolding patched
patch_done changed side last index h e = rw (drop_of_length-le changed h) at e

pub patched_length : (changed : List Entry) (table : List Operand) → length (patched changed table) ≡ length table
unfolding patched
patched_length [] table = refl
patched_length (e ∷ changed) table = patched_length changed (set table e.slot e.operand) ∙ length-set table e.slot e.operand

-- the last item of a log

abbrev pub mark_entry : Mark → Entry
mark_entry m = record { slot = length m.changed; operand = Operand.Cell 1 m.equal }

module _ {log : Log} {below : List Entry} {m : Mark} (last : Last log below m) where
  pub last_top : log.top ≡ length below + length m.changed + 1
  last_top =
      omega (
        arith,
        length-take-le log.top log.entries.now last.within,
        ap length last.stands,
        length-append below (item_log m),
        length-append m.changed (mark_entry m ∷ []),
      )

  last_whole : log.entries.now ≡ below ++ (m.changed ++ mark_entry m ∷ drop log.top log.entries.now)
  last_whole =
      let rest : List Entry = drop log.top log.entries.now in
      sym (take-append-drop log.top log.entries.now) ∙ ap (λ (l : List Entry). l ++ rest) last.stands ∙ append_assoc below (item_log m) rest
      ∙ ap (λ (l : List Entry). below ++ l) (append_assoc m.changed (mark_entry m ∷ []) rest)

  -- its mark, and its changes below that
  pub last_mark : (o : Entry) → get_or log.entries.now (log.top - 1) o ≡ mark_entry m
  last_mark o =
      let rest : List Entry = drop log.top log.entries.now in
      let place : log.top - 1 ≡ length below + length m.changed = omega (arith, last_top) in
      ap (λ (l : List Entry). get_or l (log.top - 1) o) last_whole
      ∙ ap (λ (k : ℕ). get_or (below ++ (m.changed ++ mark_entry m ∷ rest)) k o) place
      ∙ get_or-append-add below (m.changed ++ mark_entry m ∷ rest) (length m.changed) o ∙ get_or-append_seam m.changed (mark_entry m) rest o

  pub last_changes : (size start : ℕ) → size ≡ length m.changed → start ≡ length below → take size (drop start log.entries.now) ≡ m.changed
  last_changes size start s b =
      let rest : List Entry = drop log.top log.entries.now in
      ap (λ (l : List Entry). take size (drop start l)) last_whole ∙ ap (take size) (drop_at below (m.changed ++ mark_entry m ∷ rest) start (sym b))
      ∙ take_at m.changed (mark_entry m ∷ rest) size (sym s)

-- a log that is lowered again is what it was
pub grown_lowered : {log log₁ log₂ : Log} {more : List Entry} → log.top ≤ length log.entries.now → Grown log more log₁ → Lowered log₁ log.top log₂ → Grown log [] log₂
grown_lowered {log} {log₁} {log₂} {more} within g low = record {
  stands = ap (λ (k : ℕ). take k log₂.entries.now) low.height ∙ ap (take log.top) low.same
      ∙ sym (take-take log.top log₁.top log₁.entries.now (omega (arith, g.height)))
      ∙ ap (take log.top) g.stands ∙ take_at (held log) more log.top (length-take-le log.top log.entries.now within) ∙ sym (append-nil (held log));
  height = omega (arith, low.height);
  long = ap length low.same ∙ g.long;
  same_buffer = low.same_buffer ∙ g.same_buffer;
}

-- items that were put into a log stand in it
pub filed_grown : {log log₁ : Log} {marks : List Mark} → log.top ≤ length log.entries.now → Grown log (log_of marks) log₁ → log₁.top ≤ length log₁.entries.now → Filed log₁ log.top marks
filed_grown {log} within g room = record { below = held log; deep = length-take-le log.top log.entries.now within; stands = g.stands; within = room }

-- the mark above an item's changes
abbrev pub closing : ℕ → ℕ → List Entry
closing count equal = record { slot = count; operand = Operand.Cell 1 equal } ∷ []
