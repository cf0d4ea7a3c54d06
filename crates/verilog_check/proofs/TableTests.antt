-- Rules 6 to 8 ask of the declarations for what the tables have: how many there are, their widths, and which are registers. By cases on the field.
use Rattle.std.specs.Prelude.{Option}
use mathlib.Core.Path.{◌≡◌, refl, sym, ap, ap₂, fun_ext, ◌∙◌}
use mathlib.Core.Bool.{Bool, false, not}
use mathlib.Core.List.{List, [], ◌∷◌, map}
use Prim.Native.Nat.{ℕ}
use lib.Dec.{leb, eqb}
use lib.ListN.{length, get_or, length-map}
use Rattle.words.specs.Widths.{index_within}
use Rattle.words.specs.Operators.{one_width, two_width}
use Rattle.tagged.specs.Declarations.{Declaration, width_of, variable_width, is_register, declaration_breaks}
use Rattle.tagged.specs.declared.sorts.Kind.{Kind}
use Rattle.tagged.specs.declared.answers.Rule.{Rule}
use Rattle.verilog.specs.Tree.{Expression, constant, variable, fixed_bit, chosen_bit, one, two, Statement, assign, assign_bit, if_else, case}
use Rattle.verilog.specs.Nodes.{Node}
use Rattle.verilog.specs.Rules.{expression_width, by_field, reads_by, assigns_by, operands_differ, statement_differs, read_outside, write_outside, breaks}
use Rattle.verilog_check.specs.declared.assignments.First.{First}
use Rattle.verilog_check.specs.Tables.{variables_of}
use Rattle.verilog_check.specs.Judged.{judged}

-- variables of the same widths give an expression the same width
width_by_widths : (cs ds : List Declaration) → map width_of cs ≡ map width_of ds → (e : Expression) → expression_width cs e ≡ expression_width ds e
unfolding expression_width
width_by_widths cs ds same (constant w v) = refl
width_by_widths cs ds same (variable v) = ap (λ (l : List ℕ). get_or l v 0) same
width_by_widths cs ds same (fixed_bit v k) = refl
width_by_widths cs ds same (chosen_bit v e) = refl
width_by_widths cs ds same (one op a) = ap (one_width op) (width_by_widths cs ds same a)
width_by_widths cs ds same (two op a b) = ap (two_width op) (width_by_widths cs ds same a)

variables_widths : (l : List ℕ) → map width_of (variables_of l) ≡ l
variables_widths [] = refl
variables_widths (w ∷ l) = ap (λ (k : List ℕ). w ∷ k) (variables_widths l)

-- 7 and 8 ask of the declarations for their widths alone
module _ (ds cs : List Declaration) (same : map width_of ds ≡ map width_of cs) where
  abbrev wide : (e : Expression) → expression_width ds e ≡ expression_width cs e
  wide = width_by_widths ds cs same

  abbrev wide_variable : (v : ℕ) → variable_width ds v ≡ variable_width cs v
  wide_variable v = ap (λ (l : List ℕ). get_or l v 0) same

  operands_same : (e : Expression) → operands_differ ds e ≡ operands_differ cs e
  operands_same (constant w v) = refl
  operands_same (variable v) = refl
  operands_same (fixed_bit v k) = refl
  operands_same (chosen_bit v e) = refl
  operands_same (one op a) = refl
  operands_same (two op a b) = ap₂ (λ (x y : ℕ). not (eqb x y)) (wide a) (wide b)

  statement_same : (s : Statement) → statement_differs ds s ≡ statement_differs cs s
  statement_same (assign kind v e) = ap₂ (λ (x y : ℕ). not (eqb x y)) (wide e) (wide_variable v)
  statement_same (assign_bit kind v k e) = ap (λ (x : ℕ). not (eqb x 1)) (wide e)
  statement_same (if_else c a b) = ap (λ (x : ℕ). not (eqb x 1)) (wide c)
  statement_same (case e items) = refl

  read_same : (e : Expression) → read_outside ds e ≡ read_outside cs e
  read_same (constant w v) = refl
  read_same (variable v) = refl
  read_same (fixed_bit v k) = ap (λ (x : ℕ). leb x k) (wide_variable v)
  read_same (chosen_bit v e) = ap₂ (λ (x y : ℕ). not (index_within x y)) (wide e) (wide_variable v)
  read_same (one op a) = refl
  read_same (two op a b) = refl

  write_same : (s : Statement) → write_outside ds s ≡ write_outside cs s
  write_same (assign kind v e) = refl
  write_same (assign_bit kind v k e) = ap (λ (x : ℕ). leb x k) (wide_variable v)
  write_same (if_else c a b) = refl
  write_same (case e items) = refl

-- rules 6 to 8, whose tests by tables ask for the declarations alone
pub data OfDeclarations : Rule → Type 0 where
  of_reference : OfDeclarations Rule.Reference
  of_widths : OfDeclarations Rule.Widths
  of_bit_number : OfDeclarations Rule.BitNumber

pub no_declaration : {rule : Rule} → OfDeclarations rule → (earlier : List Declaration) (d : Declaration) → declaration_breaks rule earlier d ≡ false
unfolding declaration_breaks
no_declaration of_reference earlier d = refl
no_declaration of_widths earlier d = refl
no_declaration of_bit_number earlier d = refl

module _ (ds : List Declaration) (widths : List ℕ) (marks : List Bool) (firsts : List (Option First)) (sized : widths ≡ map width_of ds)
    (marked : marks ≡ map is_register ds) where
  table_same : map width_of ds ≡ map width_of (variables_of widths)
  table_same = sym sized ∙ sym (variables_widths widths)

  pub test_same : {rule : Rule} → OfDeclarations rule → (all earlier : List Node) (n : Node) → breaks ds all rule earlier n ≡ judged widths marks firsts rule n
  unfolding breaks judged
  test_same of_reference all earlier n =
      ap₂ (λ (reads : ℕ → Bool) (writes : Kind → ℕ → Bool). by_field (λ d. false) false (reads_by reads) (assigns_by writes) (λ e w. false) n.what)
      (fun_ext (λ v. ap (λ (k : ℕ). leb k v) (sym (ap length sized ∙ length-map ds width_of))))
      (fun_ext (λ kind. fun_ext (λ v. ap (λ (l : List Bool). not (get_or l v false)) (sym marked))))
  test_same of_widths all earlier n = λ i.
      by_field (λ d. false) false (λ e. operands_same ds (variables_of widths) table_same e i) (λ s. statement_same ds (variables_of widths) table_same s i)
      (λ e w. not (eqb w (wide ds (variables_of widths) table_same e i))) n.what
  test_same of_bit_number all earlier n =
      ap₂ (λ (reads : Expression → Bool) (writes : Statement → Bool). by_field (λ d. false) false reads writes (λ e w. false) n.what)
      (fun_ext (read_same ds (variables_of widths) table_same)) (fun_ext (write_same ds (variables_of widths) table_same))
