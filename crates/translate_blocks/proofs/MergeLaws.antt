-- Merging two tables: one entry, and one entry more behind those that are merged. By induction on the tables.
use mathlib.Core.Path.{◌≡◌, refl, sym, ap, ◌∙◌}
use mathlib.Core.Bool.{Bool, true, false, cond}
use mathlib.Core.List.{List, [], ◌∷◌, ◌++◌}
use Prim.Native.Nat.{ℕ, ◌+◌, ◌*◌, ◌≤◌, ◌<◌}
use native.Mathlib.Numerals.{add-one}
use native.Mathlib.Omega.{arith}
use lib.ListN.{length, take, drop, get_or, set, length-set}
use lib.Seq.{take-suc, take_all, length-take-le}
use Rattle.netlist.specs.Lists.{operand_width}
use Rattle.netlist.specs.declared.Operand.{Operand}
use Rattle.netlist.specs.declared.Cell.{Cell}
use Rattle.translate.specs.Tables.{same_operand, Merged, kept, muxed, merge}
use Rattle.translate_blocks.specs.declared.emit.Emitter.{Emitter}
use Rattle.translate_blocks.specs.Emitting.{Emits}
use Rattle.translate_blocks.proofs.SameOperands.{operands_same, operands_differ}
use Rattle.translate_blocks.proofs.ChangeCounts.{merged_length, merged_few}
use Rattle.translate_blocks.proofs.FrontTurns.{front_here, front_set, front_all}
use Rattle.translate_blocks.proofs.EmitLaws.{emits_none, emits_then, emits_as, emits_past}

-- one merge after the other, the numbers of the cells going on
abbrev pub both_merged : Merged → Merged → Merged
both_merged first second = record { cells = first.cells ++ second.cells; operands = first.operands ++ second.operands }

module _ (condition : Operand) where
  abbrev pub merge_both : ℕ → List Operand → List Operand → List Operand → List Operand → Merged
  merge_both n a b c d =
      let first : Merged = merge condition n a b in
      both_merged first (merge condition (n + length first.cells) c d)

  pub merge_append : (n : ℕ) (a b c d : List Operand) → length a ≡ length b → merge condition n (a ++ c) (b ++ d) ≡ merge_both n a b c d
  unfolding merge
  merge_append n [] [] c d e = ap (λ (k : ℕ). merge condition k c d) (omega arith)
  merge_append n [] (y ∷ b) c d e = absurd (omega arith)
  merge_append n (x ∷ a) [] c d e = absurd (omega arith)
  merge_append n (x ∷ a) (y ∷ b) c d e =
      rw (merge_append n a b c d (omega arith), merge_append (n + 1) a b c d (omega arith)) (go (same_operand x y))
    where
      go : (t : Bool) →
          cond t (kept x (merge_both n a b c d)) (muxed condition n x y (merge_both (n + 1) a b c d)) ≡
          (let first : Merged = cond t (kept x (merge condition n a b)) (muxed condition n x y (merge condition (n + 1) a b)) in
          both_merged first (merge condition (n + length first.cells) c d))
      go true = refl
      go false =
          let more : Merged = merge condition (n + 1) a b in
          ap (λ (k : ℕ). muxed condition n x y (both_merged more (merge condition k c d))) (omega arith)

  -- operands that are the same, and operands that differ
  pub merge_same : (n : ℕ) (a b : Operand) → a ≡ b → merge condition n (a ∷ []) (b ∷ []) ≡ record { cells = []; operands = a ∷ [] }
  unfolding merge
  merge_same n a b e = rw (operands_same a b e)

  pub merge_other : (n : ℕ) (a b : Operand) → (a ≡ b → ⊥) →
      merge condition n (a ∷ []) (b ∷ []) ≡ record { cells = Cell.Mux (operand_width a) condition a b ∷ []; operands = Operand.Cell (operand_width a) n ∷ [] }
  unfolding merge
  merge_other n a b ne = rw (operands_differ a b ne)

  module _ (first table₀ : List Operand) (e₀ : Emitter) where
    -- the merge of so many entries
    abbrev merged : ℕ → Merged
    merged index = merge condition e₀.cells (take index first) (take index table₀)

    -- the entries before the index are merged, and the others are as they were
    pub record MergeGoing (index : ℕ) (table : List Operand) (e : Emitter) : Type 0 where
      pub emitted : Emits e₀ (merged index).cells e
      pub entries : table ≡ (merged index).operands ++ drop index table₀
      pub long : length table ≡ length table₀

    pub merge_start : MergeGoing 0 table₀ e₀
    unfolding merge
    merge_start = record { emitted = emits_none e₀; entries = refl; long = refl }

    -- how far the entries so far have moved the index in the buffer, and the count of cells
    pub merge_room : {index : ℕ} {table : List Operand} {e : Emitter} → index ≤ length first → MergeGoing index table e →
        (e.at ≤ e₀.at + 22 * index) × (e.cells ≤ e₀.cells + index)
    merge_room {index} h g =
        let few : length (merged index).cells ≤ length (take index first) = merged_few condition e₀.cells (take index first) (take index table₀) in
        omega (arith, emits_past g.emitted, g.emitted.counted, few, length-take-le index first h)

    module _ (same : length table₀ ≡ length first) where
      merged_long : (index : ℕ) → index ≤ length first → length (merged index).operands ≡ index
      merged_long index h =
          let front : length (take index first) ≡ index = length-take-le index first h in
          let other : length (take index table₀) ≡ index = length-take-le index table₀ (omega (arith, same)) in
          merged_length condition e₀.cells (take index first) (take index table₀) (other ∙ sym front) ∙ front

      -- what stands at the index yet
      merge_here : {index : ℕ} {table : List Operand} {e : Emitter} → index < length first → MergeGoing index table e → (o : Operand) → get_or table index o ≡ get_or table₀ index o
      merge_here {index} h g o =
          ap (λ (l : List Operand). get_or l index o) g.entries
          ∙ front_here (merged index).operands table₀ index (merged_long index (omega arith)) (omega (arith, same)) o

      -- one entry more
      pub merge_turn : {index : ℕ} {table table' : List Operand} {e e' : Emitter} {one : Operand} (o : Operand) → index < length first → MergeGoing index table e →
          Emits e (merge condition e.cells (get_or first index o ∷ []) (get_or table index o ∷ [])).cells e' →
          one ∷ [] ≡ (merge condition e.cells (get_or first index o ∷ []) (get_or table index o ∷ [])).operands →
          table' ≡ set table index one → MergeGoing (index + 1) table' e'
      merge_turn {index} {table} {table'} {e} {e'} {one} o h g emits is put =
          let inside : index < length table₀ = omega (arith, same) in
          let x : Operand = get_or first index o in
          let y : Operand = get_or table₀ index o in
          let turn : Merged = merge condition (e₀.cells + length (merged index).cells) (x ∷ []) (y ∷ []) in
          let sizes : length (take index first) ≡ length (take index table₀) = length-take-le index first (omega arith) ∙ sym (length-take-le index table₀ (omega arith)) in
          let step : merged (index + 1) ≡ both_merged (merged index) turn =
          rw (add-one index, take-suc first index o h, take-suc table₀ index o inside)
          (merge_append e₀.cells (take index first) (take index table₀) (x ∷ []) (y ∷ []) sizes) in
          let here : merge condition e.cells (x ∷ []) (get_or table index o ∷ []) ≡ turn = rw (g.emitted.counted, merge_here h g o) in
          record {
            emitted = emits_as (ap (λ (m : Merged). m.cells) step) (emits_then g.emitted (emits_as (ap (λ (m : Merged). m.cells) (sym here)) emits));
            entries = put ∙ ap (λ (l : List Operand). set l index one) g.entries
                ∙ front_set (merged index).operands table₀ index (merged_long index (omega arith)) inside o one
                ∙ ap (λ (l : List Operand). ((merged index).operands ++ l) ++ drop (index + 1) table₀) (is ∙ ap (λ (m : Merged). m.operands) here)
                ∙ ap (λ (m : Merged). m.operands ++ drop (index + 1) table₀) (sym step);
            long = ap length put ∙ length-set table index one ∙ g.long;
          }

      -- no entry is left
      pub merge_done : {index : ℕ} {table : List Operand} {e : Emitter} → index ≡ length first → MergeGoing index table e →
          Emits e₀ (merge condition e₀.cells first table₀).cells e × (table ≡ (merge condition e₀.cells first table₀).operands)
      merge_done {index} h g =
          let whole : merged index ≡ merge condition e₀.cells first table₀ = rw (take_all index first (omega arith), take_all index table₀ (omega (arith, same))) in (
            emits_as (ap (λ (m : Merged). m.cells) (sym whole)) g.emitted,
            g.entries ∙ front_all (merged index).operands table₀ index (merged_long index (omega arith)) (omega (arith, same)) ∙ ap (λ (m : Merged). m.operands) whole,
          )
