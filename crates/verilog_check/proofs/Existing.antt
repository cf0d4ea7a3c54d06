-- What a field that does not break rule 6 reads or assigns is a variable that exists: two tests of reads, or of assignments, that agree on these agree on the field.
-- By cases on the field.
use mathlib.Core.Path.{◌≡◌, refl}
use mathlib.Core.Bool.{Bool, false}
use mathlib.Core.List.{List}
use Prim.Native.Nat.{ℕ, ◌<◌}
use lib.ListN.{length}
use borrow.Author.Tests.{leb-false, not-false}
use Rattle.tagged.specs.Declarations.{Declaration, register_at}
use Rattle.tagged.specs.declared.sorts.Kind.{Kind}
use Rattle.tagged.specs.declared.answers.Rule.TheVariants as Rule
use Rattle.verilog.specs.Tree.{constant, variable, fixed_bit, chosen_bit, one, two, assign, assign_bit, if_else, case}
use Rattle.verilog.specs.Nodes.{What, declaration, process, expression, statement, item_of, Node}
use Rattle.verilog.specs.Rules.{is_assignment, is_read, breaks}
use Rattle.verilog.proofs.BreaksLaws.{register_exists}

module _ (ds : List Declaration) (all earlier : List Node) (n : Node) (passes : breaks ds all Rule.Reference earlier n ≡ false) where
  abbrev same : What → Node
  same w = record { in_process = n.in_process; what = w }

  pub reads_same : (f g : ℕ → Bool) → ((v : ℕ) → v < length ds → f v ≡ g v) → is_read f n ≡ is_read g n
  unfolding breaks
  reads_same f g agree = go n.what passes
    where
      go : (w : What) → breaks ds all Rule.Reference earlier (same w) ≡ false → is_read f (same w) ≡ is_read g (same w)
      go (declaration d) e = refl
      go process e = refl
      go (expression (constant w v)) e = refl
      go (expression (variable v)) e = agree v (leb-false (length ds) v e)
      go (expression (fixed_bit v k)) e = agree v (leb-false (length ds) v e)
      go (expression (chosen_bit v x)) e = agree v (leb-false (length ds) v e)
      go (expression (one op a)) e = refl
      go (expression (two op a b)) e = refl
      go (statement s) e = refl
      go (item_of x w) e = refl

  pub assignments_same : (f g : Kind → ℕ → Bool) → ((kind : Kind) (v : ℕ) → v < length ds → f kind v ≡ g kind v) → is_assignment f n ≡ is_assignment g n
  unfolding breaks
  assignments_same f g agree = go n.what passes
    where
      go : (w : What) → breaks ds all Rule.Reference earlier (same w) ≡ false → is_assignment f (same w) ≡ is_assignment g (same w)
      go (declaration d) e = refl
      go process e = refl
      go (expression x) e = refl
      go (statement (assign kind v x)) e = agree kind v (register_exists ds v (not-false (register_at ds v) e))
      go (statement (assign_bit kind v k x)) e = agree kind v (register_exists ds v (not-false (register_at ds v) e))
      go (statement (if_else c a b)) e = refl
      go (statement (case x items)) e = refl
      go (item_of x w) e = refl
