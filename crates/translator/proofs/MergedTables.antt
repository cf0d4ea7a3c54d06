-- Merging two tables that hold the current operands and behind them the pending ones is merging the current and then the pending operands. By induction on the
-- current ones. Assumes nothing.
use mathlib.Core.Path.{◌≡◌, refl, sym, ap, ◌∙◌}
use mathlib.Core.Bool.{Bool, true, false, cond}
use mathlib.Core.List.{List, [], ◌∷◌, ◌++◌}
use Prim.Native.Nat.{ℕ, ◌+◌}
use native.Mathlib.Omega.{arith}
use lib.ListN.{length}
use Rattle.netlist.specs.declared.Operand.{Operand}
use Rattle.translate.specs.Tables.{Tables, same_operand, Merged, kept, muxed, merge, Translated, merge_tables}
use Rattle.translate_blocks.specs.Writing.{Written}
use Rattle.translate_blocks.proofs.ChangeCounts.{merged_length}
use Rattle.translator.proofs.OperandTables.{one_table, Sized}

-- what a part of a module adds, its tables as one
abbrev pub as_written : Translated → Written
as_written t = record { cells = t.cells; operands = one_table t.tables }

-- one merge after the other, the numbers of the cells going on
abbrev both_merged : Merged → Merged → Merged
both_merged first second = record { cells = first.cells ++ second.cells; operands = first.operands ++ second.operands }

abbrev merge_both : Operand → ℕ → List Operand → List Operand → List Operand → List Operand → Merged
merge_both condition n a b c d =
    let first : Merged = merge condition n a b in
    both_merged first (merge condition (n + length first.cells) c d)

merge_append : (condition : Operand) (n : ℕ) (a b c d : List Operand) → length a ≡ length b →
    merge condition n (a ++ c) (b ++ d) ≡ merge_both condition n a b c d
unfolding merge
merge_append condition n [] [] c d e = ap (λ (k : ℕ). merge condition k c d) (omega arith)
merge_append condition n [] (y ∷ b) c d e = absurd (omega arith)
merge_append condition n (x ∷ a) [] c d e = absurd (omega arith)
merge_append condition n (x ∷ a) (y ∷ b) c d e =
    rw (merge_append condition n a b c d (omega arith), merge_append condition (n + 1) a b c d (omega arith)) (go (same_operand x y))
  where
    go : (t : Bool) →
        cond t (kept x (merge_both condition n a b c d)) (muxed condition n x y (merge_both condition (n + 1) a b c d)) ≡
        (let first : Merged = cond t (kept x (merge condition n a b)) (muxed condition n x y (merge condition (n + 1) a b)) in
        both_merged first (merge condition (n + length first.cells) c d))
    go true = refl
    go false =
        let more : Merged = merge condition (n + 1) a b in
        ap (λ (k : ℕ). muxed condition n x y (both_merged more (merge condition k c d))) (omega arith)

-- so with two tables, whose current operands are as many
pub merge_one_table : (condition : Operand) (n : ℕ) (a b : Tables) → length a.current ≡ length b.current →
    merge condition n (one_table a) (one_table b) ≡ as_written (merge_tables condition n a b)
unfolding merge_tables
merge_one_table condition n a b e = merge_append condition n a.current b.current a.pending b.pending e

-- and the tables keep their length
pub merge_sized : (condition : Operand) (n : ℕ) {count : ℕ} {a b : Tables} → Sized count a → Sized count b → Sized count (merge_tables condition n a b).tables
unfolding merge_tables
merge_sized condition n {a = a} {b} first second = record {
  current = merged_length condition n a.current b.current (second.current ∙ sym first.current) ∙ first.current;
  pending =
      merged_length condition (n + length (merge condition n a.current b.current).cells) a.pending b.pending (second.pending ∙ sym first.pending)
      ∙ first.pending;
}
