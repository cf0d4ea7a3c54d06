-- The laws of the table of tags: what each range begins, that tags and sorts give each other back, and that the test of one sort names it.
use mathlib.Core.Path.{◌≡◌, refl, sym, ap, ◌∙◌}
use mathlib.Core.Bool.{Bool, true, false, ◌&&◌, ◌||◌, false≢true}
use Prim.Native.Nat.{ℕ, zero, suc, ◌≤◌, ◌<◌}
use native.Mathlib.Decide.{dec_lt}
use native.Mathlib.Omega.{arith}
use lib.Dec.{eqb}
use borrow.Author.Tests.{eqb-true, eq-eqb, ne_eqb}
use Rattle.words.specs.declared.OneOperand.TheVariants as one
use Rattle.words.specs.declared.TwoOperand.TheVariants as two
use Rattle.tagged.specs.declared.sorts.DeclarationSort.{DeclarationSort}
use Rattle.tagged.specs.declared.sorts.Kind.TheVariants as Kind
use Rattle.tagged.specs.declared.sorts.StatementSort.{StatementSort}
use Rattle.tagged.specs.declared.sorts.ExpressionSort.{ExpressionSort}
use Rattle.tagged.specs.declared.sorts.CellSort.{CellSort}
use Rattle.tagged.specs.declared.sorts.Sort.{Sort}
use Rattle.tagged.proofs.RangeLaws.{range_above, range_below, range_within}
use Rattle.tagged.specs.Sorts.{declaration_sort, statement_sort, expression_sort, cell_sort, sort_of, tag_of, is_sort, declaration_tag, statement_tag, expression_tag, cell_tag}

-- what a range begins
pub sort_declaration : (t : ℕ) → 0x02 ≤ t → t < 0x04 → sort_of t ≡ Sort.Declaration (declaration_sort t)
unfolding sort_of
sort_declaration t h k = rw (range_above t 0x01 0x01 (omega arith), range_within t 0x02 0x03 (omega arith) (omega arith))

pub sort_statement : (t : ℕ) → 0x10 ≤ t → t < 0x16 → sort_of t ≡ Sort.Statement (statement_sort t)
unfolding sort_of
sort_statement t h k = rw (range_above t 0x01 0x01 (omega arith), range_above t 0x02 0x03 (omega arith), range_above t 0x04 0x04 (omega arith), range_within t 0x10 0x15 (omega arith) (omega arith))

pub sort_expression : (t : ℕ) → 0x20 ≤ t → t < 0x2B → sort_of t ≡ Sort.Expression (expression_sort t)
unfolding sort_of
sort_expression t h k =
    rw
    (range_above t 0x01 0x01 (omega arith), range_above t 0x02 0x03 (omega arith), range_above t 0x04 0x04 (omega arith), range_above t 0x10 0x15 (omega arith), range_above t 0x16 0x16 (omega arith), range_above t 0x17 0x17 (omega arith), range_within t 0x20 0x2A (omega arith) (omega arith))

pub sort_cell : (t : ℕ) → 0x30 ≤ t → t < 0x3B → sort_of t ≡ Sort.Cell (cell_sort t)
unfolding sort_of
sort_cell t h k =
    rw
    (range_above t 0x01 0x01 (omega arith), range_above t 0x02 0x03 (omega arith), range_above t 0x04 0x04 (omega arith), range_above t 0x10 0x15 (omega arith), range_above t 0x16 0x16 (omega arith), range_above t 0x17 0x17 (omega arith), range_above t 0x20 0x2A (omega arith), range_within t 0x30 0x3A (omega arith) (omega arith))

-- what lies between the ranges is unknown
pub unknown_05 : (t : ℕ) → 0x05 ≤ t → t < 0x10 → sort_of t ≡ Sort.Unknown
unfolding sort_of
unknown_05 t h k =
    rw
    (range_above t 0x01 0x01 (omega arith), range_above t 0x02 0x03 (omega arith), range_above t 0x04 0x04 (omega arith), range_below t 0x10 0x15 (omega arith), range_below t 0x16 0x16 (omega arith), range_below t 0x17 0x17 (omega arith), range_below t 0x20 0x2A (omega arith), range_below t 0x30 0x3A (omega arith), range_below t 0x40 0x40 (omega arith), range_below t 0x81 0x81 (omega arith))

pub unknown_18 : (t : ℕ) → 0x18 ≤ t → t < 0x20 → sort_of t ≡ Sort.Unknown
unfolding sort_of
unknown_18 t h k =
    rw
    (range_above t 0x01 0x01 (omega arith), range_above t 0x02 0x03 (omega arith), range_above t 0x04 0x04 (omega arith), range_above t 0x10 0x15 (omega arith), range_above t 0x16 0x16 (omega arith), range_above t 0x17 0x17 (omega arith), range_below t 0x20 0x2A (omega arith), range_below t 0x30 0x3A (omega arith), range_below t 0x40 0x40 (omega arith), range_below t 0x81 0x81 (omega arith))

pub unknown_2B : (t : ℕ) → 0x2B ≤ t → t < 0x30 → sort_of t ≡ Sort.Unknown
unfolding sort_of
unknown_2B t h k =
    rw
    (range_above t 0x01 0x01 (omega arith), range_above t 0x02 0x03 (omega arith), range_above t 0x04 0x04 (omega arith), range_above t 0x10 0x15 (omega arith), range_above t 0x16 0x16 (omega arith), range_above t 0x17 0x17 (omega arith), range_above t 0x20 0x2A (omega arith), range_below t 0x30 0x3A (omega arith), range_below t 0x40 0x40 (omega arith), range_below t 0x81 0x81 (omega arith))

pub unknown_3B : (t : ℕ) → 0x3B ≤ t → t < 0x40 → sort_of t ≡ Sort.Unknown
unfolding sort_of
unknown_3B t h k =
    rw
    (range_above t 0x01 0x01 (omega arith), range_above t 0x02 0x03 (omega arith), range_above t 0x04 0x04 (omega arith), range_above t 0x10 0x15 (omega arith), range_above t 0x16 0x16 (omega arith), range_above t 0x17 0x17 (omega arith), range_above t 0x20 0x2A (omega arith), range_above t 0x30 0x3A (omega arith), range_below t 0x40 0x40 (omega arith), range_below t 0x81 0x81 (omega arith))

pub unknown_41 : (t : ℕ) → 0x41 ≤ t → t < 0x81 → sort_of t ≡ Sort.Unknown
unfolding sort_of
unknown_41 t h k =
    rw
    (range_above t 0x01 0x01 (omega arith), range_above t 0x02 0x03 (omega arith), range_above t 0x04 0x04 (omega arith), range_above t 0x10 0x15 (omega arith), range_above t 0x16 0x16 (omega arith), range_above t 0x17 0x17 (omega arith), range_above t 0x20 0x2A (omega arith), range_above t 0x30 0x3A (omega arith), range_above t 0x40 0x40 (omega arith), range_below t 0x81 0x81 (omega arith))

pub unknown_82 : (t : ℕ) → 0x82 ≤ t → sort_of t ≡ Sort.Unknown
unfolding sort_of
unknown_82 t h =
    rw
    (range_above t 0x01 0x01 (omega arith), range_above t 0x02 0x03 (omega arith), range_above t 0x04 0x04 (omega arith), range_above t 0x10 0x15 (omega arith), range_above t 0x16 0x16 (omega arith), range_above t 0x17 0x17 (omega arith), range_above t 0x20 0x2A (omega arith), range_above t 0x30 0x3A (omega arith), range_above t 0x40 0x40 (omega arith), range_above t 0x81 0x81 (omega arith))

-- above the cells, all but a drive and a netlist are unknown
pub unknown_high : (t : ℕ) → 0x3B ≤ t → (t ≡ 0x40 → ⊥) → (t ≡ 0x81 → ⊥) → sort_of t ≡ Sort.Unknown
unknown_high t h n m = go (dec_lt t 0x40) (dec_lt t 0x81)
  where
    go : Dec (t < 0x40) → Dec (t < 0x81) → sort_of t ≡ Sort.Unknown
    go (yes k) _ = unknown_3B t h k
    go (no k) (yes j) = unknown_41 t (omega arith) j
    go (no k) (no j) = unknown_82 t (omega arith)

-- a tag's sort, for each sort that has a tag
pub declaration_back : (d : DeclarationSort) → sort_of (declaration_tag d) ≡ Sort.Declaration d
unfolding sort_of declaration_sort
declaration_back DeclarationSort.Input = refl
declaration_back DeclarationSort.Register = refl

pub statement_back : (s : StatementSort) → sort_of (statement_tag s) ≡ Sort.Statement s
unfolding sort_of statement_sort
statement_back (StatementSort.Assign Kind.Blocking) = refl
statement_back (StatementSort.Assign Kind.NonBlocking) = refl
statement_back (StatementSort.AssignBit Kind.Blocking) = refl
statement_back (StatementSort.AssignBit Kind.NonBlocking) = refl
statement_back StatementSort.If = refl
statement_back StatementSort.Case = refl

pub expression_back : (e : ExpressionSort) → sort_of (expression_tag e) ≡ Sort.Expression e
unfolding sort_of expression_sort
expression_back ExpressionSort.Constant = refl
expression_back ExpressionSort.Variable = refl
expression_back ExpressionSort.FixedBit = refl
expression_back ExpressionSort.ChosenBit = refl
expression_back (ExpressionSort.One one.Not) = refl
expression_back (ExpressionSort.One one.Parity) = refl
expression_back (ExpressionSort.Two two.And) = refl
expression_back (ExpressionSort.Two two.Or) = refl
expression_back (ExpressionSort.Two two.Xor) = refl
expression_back (ExpressionSort.Two two.Add) = refl
expression_back (ExpressionSort.Two two.Equal) = refl

pub cell_back : (c : CellSort) → sort_of (cell_tag c) ≡ Sort.Cell c
unfolding sort_of cell_sort
cell_back (CellSort.One one.Not) = refl
cell_back (CellSort.One one.Parity) = refl
cell_back (CellSort.Two two.And) = refl
cell_back (CellSort.Two two.Or) = refl
cell_back (CellSort.Two two.Xor) = refl
cell_back (CellSort.Two two.Add) = refl
cell_back (CellSort.Two two.Equal) = refl
cell_back CellSort.Mux = refl
cell_back CellSort.Put = refl
cell_back CellSort.FixedBit = refl
cell_back CellSort.ChosenBit = refl

-- every sort is that of its tag: the tag 0 of unknown is unknown
pub sort_back : (s : Sort) → sort_of (tag_of s) ≡ s
unfolding sort_of tag_of
sort_back Sort.Module = refl
sort_back (Sort.Declaration d) = declaration_back d
sort_back Sort.Process = refl
sort_back (Sort.Statement s) = statement_back s
sort_back Sort.Item = refl
sort_back Sort.Block = refl
sort_back (Sort.Expression e) = expression_back e
sort_back (Sort.Cell c) = cell_back c
sort_back Sort.Drive = refl
sort_back Sort.Netlist = refl
sort_back Sort.Unknown = refl

-- a computed test over the whole table, for the way back
agrees : ℕ → Bool
agrees t = eqb (tag_of (sort_of t)) t || eqb (tag_of (sort_of t)) 0

all_below : ℕ → Bool
all_below zero = true
all_below (suc n) = agrees n && all_below n

all_agree_lem : all_below 0x82 ≡ true
unfolding all_below agrees sort_of tag_of declaration_sort statement_sort expression_sort cell_sort
all_agree_lem = refl

agrees_below : (n t : ℕ) → all_below n ≡ true → t < n → agrees t ≡ true
unfolding all_below
agrees_below zero t e h = absurd (omega arith)
agrees_below (suc n) t e h = go (agrees n) refl (all_below n) refl e (λ q k. agrees_below n t q k)
  where
    go : (a : Bool) → agrees n ≡ a → (b : Bool) → all_below n ≡ b → a && b ≡ true → (all_below n ≡ true → t < n → agrees t ≡ true) → agrees t ≡ true
    go true p true q r ih = last (dec_lt t n)
      where
        last : Dec (t < n) → agrees t ≡ true
        last (yes k) = ih q k
        last (no k) = let z : t ≡ n = omega arith in ap agrees z ∙ p
    go true p false q r ih = absurd (false≢true r)
    go false p b q r ih = absurd (false≢true r)

-- a tag whose sort is known is the tag of that sort
pub tag_back : (t : ℕ) → (tag_of (sort_of t) ≡ 0 → ⊥) → tag_of (sort_of t) ≡ t
unfolding agrees tag_of
tag_back t known = go (dec_lt t 0x82)
  where
    pick : (b : Bool) → eqb (tag_of (sort_of t)) t ≡ b → b || eqb (tag_of (sort_of t)) 0 ≡ true → tag_of (sort_of t) ≡ t
    pick true e r = eqb-true _ _ e
    pick false e r = absurd (known (eqb-true _ _ r))

    go : Dec (t < 0x82) → tag_of (sort_of t) ≡ t
    go (yes k) = pick (eqb (tag_of (sort_of t)) t) refl (agrees_below 0x82 t all_agree_lem k)
    go (no k) = absurd (known (ap tag_of (unknown_82 t (omega arith))))

-- the test that names one sort
pub is_itself : (a : Sort) → is_sort a a ≡ true
is_itself a = eq-eqb (tag_of a) (tag_of a) refl

-- a sort with the tag of another is that
pub same_sort : (a b : Sort) → is_sort a b ≡ true → b ≡ a
same_sort a b is = sym (sort_back b) ∙ ap sort_of (sym (eqb-true (tag_of a) (tag_of b) is)) ∙ sort_back a

-- another sort has another tag
pub other_sort : (a b : Sort) → (b ≡ a → ⊥) → is_sort a b ≡ false
other_sort a b other = ne_eqb (tag_of a) (tag_of b) (λ same. other (same_sort a b (eq-eqb (tag_of a) (tag_of b) same)))
