-- What the code gives over one table, against what the translation gives over tables of operands: after some cells, and joined with a second side. From the laws
-- of merges. Assumes nothing.
use mathlib.Core.Path.{◌≡◌, sym, ap, ◌∙◌}
use mathlib.Core.List.{List, ◌++◌}
use Prim.Native.Nat.{ℕ, ◌+◌}
use lib.ListN.{length}
use Rattle.netlist.specs.declared.Operand.{Operand}
use Rattle.netlist.specs.declared.Cell.{Cell}
use Rattle.translate.specs.Tables.{Translated}
use Rattle.translate.specs.Translation.{after, joined}
use Rattle.translate_blocks.specs.Writing.{Written, behind, join_sides}
use Rattle.translator.proofs.OperandTables.{Sized}
use Rattle.translator.proofs.MergedTables.{as_written, merge_one_table, merge_sized}

-- what the code gives is what the translation gives, and the tables after it are of so many variables
pub record Gives (count : ℕ) (w : Written) (t : Translated) : Type 0 where
  pub same : w ≡ as_written t
  pub sized : Sized count t.tables

pub gives_by : {count : ℕ} {w v : Written} {t : Translated} → w ≡ v → Gives count v t → Gives count w t
gives_by e g = record { same = e ∙ g.same; sized = g.sized }

pub behind_gives : {count : ℕ} {w : Written} {t : Translated} (cells : List Cell) → Gives count w t → Gives count (behind cells w) (after cells t)
behind_gives cells g = record { same = ap (behind cells) g.same; sized = g.sized }

-- two sides and the merge of what they left; the second one's numbers go on from the first's
pub joined_gives : {count : ℕ} {first : Written} (second : ℕ → Written) {a b : Translated} (condition : Operand) (n : ℕ) →
    Gives count first a → Gives count (second (n + length a.cells)) b →
    Gives count (join_sides condition n first (second (n + length first.cells))) (joined condition n a b)
joined_gives second {a} {b} condition n p q =
    let start : ℕ = n + length a.cells + length b.cells in
    record {
      same =
          ap (λ (w : Written). join_sides condition n w (second (n + length w.cells))) p.same
          ∙ ap (join_sides condition n (as_written a)) q.same
          ∙ ap (behind (a.cells ++ b.cells)) (merge_one_table condition start a.tables b.tables (p.sized.current ∙ sym q.sized.current));
      sized = merge_sized condition start p.sized q.sized;
    }
