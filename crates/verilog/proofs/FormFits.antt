-- The tree that is read from a file without a fault is within the limits: its numbers fit their bytes and it is not too deep.
-- By induction on the levels that may be opened.
use Rattle.tagged.specs.Answers.{fault_at}
use Rattle.std.specs.Prelude.{Ok}
use mathlib.Core.Path.{◌≡◌, refl, sym, subst}
use mathlib.Core.Bool.{Bool, true, false}
use mathlib.Core.List.{List, [], ◌∷◌}
use Prim.Native.Nat.{ℕ, zero, suc, ◌+◌, ◌^◌, ◌≤◌, ◌<◌}
use native.Mathlib.Omega.{arith}
use lib.Dec.{lit<}
use lib.ListN.{get_or, drop}
use Rattle.tagged.specs.Limits.{longest_module}
use Rattle.tagged.specs.Bytes.{AllBytes, four_of}
use Rattle.tagged.specs.Sorts.{is_statement, is_sort, is_declaration}
use Rattle.tagged.specs.Fields.{faultless, Judge, field_by, then_by, ended, many, until_end, read_placed, unplaced}
use Rattle.tagged.specs.Files.{file_answer}
use Rattle.tagged.specs.Declarations.{Declaration, input, declaration_body, declaration_in, declaration_read, declarations_step, declarations_at, declarations_in, after_declarations}
use Rattle.tagged.specs.declared.sorts.DeclarationSort.{DeclarationSort}
use Rattle.tagged.specs.declared.sorts.StatementSort.{StatementSort}
use Rattle.tagged.specs.declared.sorts.ExpressionSort.{ExpressionSort}
use Rattle.tagged.specs.declared.sorts.Sort.{Sort}
use Rattle.tagged.specs.Answers.{acceptance}
use Rattle.tagged.proofs.ByteLaws.{bytes_drop, four_lt}
use Rattle.tagged.proofs.FileLaws.{file_fits}
use Rattle.tagged.proofs.DeclarationLaws.{declaration_sort_lem, other_sort}
use Rattle.tagged.proofs.DeclarationBytes.{after_declared_lem}
use Rattle.verilog.specs.Tree.{Expression, Statement, Block, end, Items}
use Rattle.verilog.specs.Form.{expression_body, expression_parts, constant_body, statement_parts, statement_body, block_body, item_body, process_body, module_form}
use Rattle.verilog.specs.Reading.{no_expression, front_by, after_front, block_front, expression_with, expression_in, block_from, ReadItem, items_from, after_items, statement_with, statement_in, block_in, item_in, tree_in, module_in}
use Rattle.verilog.specs.Fits.{FitsOne, FitsFour, FitsExpression, FitsStatement, FitsBlock, FitsItems, FitsDeclaration, All, expression_depth, statement_depth, statements_depth, items_depth, declarations_depth, processes_depth, module_depth, FitsModule}
use Rattle.tagged.proofs.JudgeLaws.{then_tells, fixed_tells, sort_fine}
use Rattle.verilog.proofs.SortChoices.{expression_fine, statement_fine}
use Rattle.verilog.proofs.FineLaws.{Holds, HoldsNext, next_holds, many_holds, until_holds}
use Rattle.verilog.proofs.ExpressionBytes.{expression_at, expression_front}
use Rattle.verilog.proofs.ModuleBytes.{process_returns, form_opened, form_written}
use Rattle.verilog.proofs.StatementBytes.{constant_at, block_at, constant_front, after_items_lem, level_returns}

pub four_fits : (l : List ℕ) → AllBytes l → four_of l < 2 ^ 32
unfolding four_of
four_fits l h = four_lt (get_or l 0 0) (get_or l 1 0) (get_or l 2 0) (get_or l 3 0) (h 0) (h 1) (h 2) (h 3)

-- expressions

pub record ExpressionWithin (d : ℕ) (e : Expression) : Type 0 where
  pub fits : FitsExpression e
  pub deep : expression_depth e ≤ d

abbrev ExpressionsWithin : ℕ → Type 0
ExpressionsWithin d = Holds (expression_body d) (expression_at d) (ExpressionWithin d)

-- the expression at the front, and then more
module _ (d : ℕ) (inner : ExpressionsWithin d) (next : Judge) (base owner : ℕ) (l : List ℕ) (h : AllBytes l)
    (fine : then_by (field_by (expression_body d)) next base owner l ≡ faultless) where
  expression_next : HoldsNext (expression_body d) (expression_at d) (ExpressionWithin d) inner no_expression owner l next
  expression_next = next_holds (expression_body d) (expression_at d) (ExpressionWithin d) inner no_expression base owner l next h fine

  expression_here : ExpressionWithin d (expression_in d l)
  expression_here = rw (expression_front d l) at expression_next.here

parts_within : (d : ℕ) → ExpressionsWithin d → (e : ExpressionSort) (base owner : ℕ) (l : List ℕ) → AllBytes l →
    expression_parts (field_by (expression_body d)) e base owner l ≡ faultless → ExpressionWithin (suc d) (expression_with (expression_in d) e l)
unfolding FitsExpression expression_depth
parts_within d inner ExpressionSort.Constant base owner l h fine = record { fits = (h 0, four_fits (drop 1 l) (bytes_drop 1 l h)); deep = omega arith }
parts_within d inner ExpressionSort.Variable base owner l h fine = record { fits = h 0; deep = omega arith }
parts_within d inner ExpressionSort.FixedBit base owner l h fine = record { fits = (h 0, h 1); deep = omega arith }
parts_within d inner ExpressionSort.ChosenBit base owner l h fine =
    let f = fixed_tells 1 (then_by (field_by (expression_body d)) ended) base owner l fine in
    let x = expression_here d inner ended (base + 1) owner (drop 1 l) (bytes_drop 1 l h) f.1 in
    let deep = x.deep in
    record { fits = (h 0, x.fits); deep = omega arith }
parts_within d inner (ExpressionSort.One op) base owner l h fine =
    let x = expression_here d inner ended base owner l h fine in
    let deep = x.deep in
    record { fits = x.fits; deep = omega arith }
parts_within d inner (ExpressionSort.Two op) base owner l h fine =
    let n = expression_next d inner (then_by (field_by (expression_body d)) ended) base owner l h fine in
    let x = expression_here d inner (then_by (field_by (expression_body d)) ended) base owner l h fine in
    let y = expression_here d inner ended n.place owner (after_front l) n.left n.rest in
    let left = x.deep in
    let right = y.deep in
    record { fits = (x.fits, y.fits); deep = omega arith }

pub expressions_within : (d : ℕ) → ExpressionsWithin d
unfolding expression_body
expressions_within zero base s l h fine = absurd (let z : ◌≡◌ {A = ℕ} 0 1 = cc in omega arith)
expressions_within (suc d) base s l h fine =
    let c = expression_fine s (λ e. expression_parts (field_by (expression_body d)) e (base + 3) base l) (fault_at base) fine in
    rw c.1 (parts_within d (expressions_within d) c.0 (base + 3) base l h c.2)

-- statements, blocks, items

pub record StatementWithin (d : ℕ) (s : Statement) : Type 0 where
  pub fits : FitsStatement s
  pub deep : statement_depth s ≤ d

pub record BlockWithin (d : ℕ) (b : Block) : Type 0 where
  pub fits : FitsBlock b
  pub deep : suc (statements_depth b) ≤ d

pub record ItemWithin (d : ℕ) (i : ReadItem) : Type 0 where
  pub width : FitsOne i.width
  pub value : FitsFour i.value
  pub fits : FitsBlock i.block
  pub deep : suc (suc (statements_depth i.block)) ≤ d

pub record LevelWithin (d : ℕ) : Type 0 where
  pub statement : Holds (statement_body d) (λ s l. statement_in d s l) (StatementWithin d)
  pub block : Holds (block_body d) (block_at d) (BlockWithin d)
  pub item : Holds (item_body d) (λ s l. item_in d s l) (ItemWithin d)

-- lists of them
from_statements : (d : ℕ) (l : List Statement) → All (StatementWithin d) l → BlockWithin (suc d) (block_from l)
unfolding All FitsBlock statements_depth
from_statements d [] all = record { fits = tt; deep = omega arith }
from_statements d (s ∷ l) all =
    let later = from_statements d l all.1 in
    let deep = later.deep in
    let here = all.0.deep in
    record { fits = (all.0.fits, later.fits); deep = omega arith }

record ItemsWithin (d : ℕ) (items : Items) : Type 0 where
  fits : FitsItems items
  deep : items_depth items ≤ d

from_items : (d : ℕ) (l : List ReadItem) (b : Block) → All (ItemWithin d) l → BlockWithin d b → ItemsWithin d (items_from l b)
unfolding All FitsItems items_depth
from_items d [] b all last = record { fits = last.fits; deep = last.deep }
from_items d (i ∷ l) b all last =
    let later = from_items d l b all.1 last in
    let deep = later.deep in
    let here = all.0.deep in
    record { fits = (all.0.width, all.0.value, all.0.fits, later.fits); deep = omega arith }

-- a payload's statements
statements_within : (d : ℕ) → LevelWithin d → (base owner : ℕ) (l : List ℕ) → AllBytes l → until_end (field_by (statement_body d)) base owner l ≡ faultless →
    BlockWithin (suc d) (block_in (suc d) l)
unfolding block_in
statements_within d level base owner l h fine =
    from_statements d (unplaced (read_placed is_statement (λ s p. statement_in d s p) 0 l))
    (until_holds (statement_body d) (λ s p. statement_in d s p) (StatementWithin d) level.statement is_statement
    (λ b s p all e. ((level_returns d).statement b s p all e).is) base owner l h fine)

constants_within : (d : ℕ) → Holds (constant_body d) constant_at FitsExpression
unfolding FitsExpression
constants_within d base s l h fine = (h 0, four_fits (drop 1 l) (bytes_drop 1 l h))

module _ (d : ℕ) (level : LevelWithin d) where
  block_next : (next : Judge) (base owner : ℕ) (l : List ℕ) → AllBytes l → then_by (field_by (block_body d)) next base owner l ≡ faultless →
      HoldsNext (block_body d) (block_at d) (BlockWithin d) level.block end owner l next
  block_next next base owner l h fine = next_holds (block_body d) (block_at d) (BlockWithin d) level.block end base owner l next h fine

  items_within : (base owner : ℕ) (l : List ℕ) → AllBytes l →
      then_by (many (is_sort Sort.Item) (field_by (item_body d))) (then_by (field_by (block_body d)) ended) base owner l ≡ faultless →
      ItemsWithin d (items_from (unplaced (read_placed (is_sort Sort.Item) (λ s p. item_in d s p) 0 l)) (block_front (λ p. block_in d p) (after_items d l)))
  items_within base owner l h fine =
      let t = then_tells (many (is_sort Sort.Item) (field_by (item_body d))) (then_by (field_by (block_body d)) ended) base owner l fine in
      let m = t.size in
      let after : after_items d l ≡ drop m l = after_items_lem d base owner l m t.passed in
      let last = (block_next ended (base + m) owner (drop m l) (bytes_drop m l h) t.rest).here in
      from_items d (unplaced (read_placed (is_sort Sort.Item) (λ s p. item_in d s p) 0 l)) (block_front (λ p. block_in d p) (after_items d l))
      (many_holds (item_body d) (λ s p. item_in d s p) (ItemWithin d) level.item (is_sort Sort.Item) base owner l m h t.passed)
      (subst (λ (x : List ℕ). BlockWithin d (block_front (λ p. block_in d p) x)) (sym after) last)

  statement_parts_lem : (t : StatementSort) (base owner : ℕ) (l : List ℕ) → AllBytes l →
      statement_parts (field_by (expression_body d)) (field_by (block_body d)) (field_by (item_body d)) t base owner l ≡ faultless →
      StatementWithin (suc d) (statement_with d (expression_in d) (λ p. block_in d p) (λ u p. item_in d u p) t l)
  unfolding FitsStatement statement_depth
  statement_parts_lem (StatementSort.Assign kind) base owner l h fine =
      let f = fixed_tells 1 (then_by (field_by (expression_body d)) ended) base owner l fine in
      let x = expression_here d (expressions_within d) ended (base + 1) owner (drop 1 l) (bytes_drop 1 l h) f.1 in
      let deep = x.deep in
      record { fits = (h 0, x.fits); deep = omega arith }
  statement_parts_lem (StatementSort.AssignBit kind) base owner l h fine =
      let f = fixed_tells 2 (then_by (field_by (expression_body d)) ended) base owner l fine in
      let x = expression_here d (expressions_within d) ended (base + 2) owner (drop 2 l) (bytes_drop 2 l h) f.1 in
      let deep = x.deep in
      record { fits = (h 0, h 1, x.fits); deep = omega arith }
  statement_parts_lem StatementSort.If base owner l h fine =
      let n = expression_next d (expressions_within d) (then_by (field_by (block_body d)) (then_by (field_by (block_body d)) ended)) base owner l h fine in
      let c = expression_here d (expressions_within d) (then_by (field_by (block_body d)) (then_by (field_by (block_body d)) ended)) base owner l h fine in
      let a = block_next (then_by (field_by (block_body d)) ended) n.place owner (after_front l) n.left n.rest in
      let b = block_next ended a.place owner (after_front (after_front l)) a.left a.rest in
      let first = c.deep in
      let second = a.here.deep in
      let third = b.here.deep in
      record { fits = (c.fits, a.here.fits, b.here.fits); deep = omega arith }
  statement_parts_lem StatementSort.Case base owner l h fine =
      let next = then_by (many (is_sort Sort.Item) (field_by (item_body d))) (then_by (field_by (block_body d)) ended) in
      let n = expression_next d (expressions_within d) next base owner l h fine in
      let e = expression_here d (expressions_within d) next base owner l h fine in
      let items = items_within n.place owner (after_front l) n.left n.rest in
      let first = e.deep in
      let second = items.deep in
      record { fits = (e.fits, items.fits); deep = omega arith }

  item_parts_lem : (base : ℕ) (s : Sort) (l : List ℕ) → AllBytes l →
      then_by (field_by (constant_body d)) (then_by (field_by (block_body d)) ended) (base + 3) base l ≡ faultless →
      ItemWithin (suc d) (item_in (suc d) s l)
  unfolding item_in FitsExpression
  item_parts_lem base s l h fine =
      let n = next_holds (constant_body d) constant_at FitsExpression (constants_within d) no_expression (base + 3) base l (then_by (field_by (block_body d)) ended) h fine in
      let numbers : FitsOne (front_by (λ t p. get_or p 0 0) 0 l) × FitsFour (front_by (λ t p. four_of (drop 1 p)) 0 l) = subst FitsExpression (constant_front l) n.here in
      let b = block_next ended n.place base (after_front l) n.left n.rest in
      let deep = b.here.deep in
      record { width = numbers.0; value = numbers.1; fits = b.here.fits; deep = omega arith }

pub level_within : (d : ℕ) → LevelWithin d
unfolding statement_body block_body item_body statement_in
level_within zero = record {
  statement = λ base s l h fine. absurd (let z : ◌≡◌ {A = ℕ} 0 1 = cc in omega arith);
  block = λ base s l h fine. absurd (let z : ◌≡◌ {A = ℕ} 0 1 = cc in omega arith);
  item = λ base s l h fine. absurd (let z : ◌≡◌ {A = ℕ} 0 1 = cc in omega arith);
}
level_within (suc d) =
    let inner = level_within d in
    record {
      statement = λ base s l h fine.
          let c = statement_fine s (λ t. statement_parts (field_by (expression_body d)) (field_by (block_body d)) (field_by (item_body d)) t (base + 3) base l) (fault_at base) fine in
          rw c.1 (statement_parts_lem d inner c.0 (base + 3) base l h c.2);
      block = λ base s l h fine.
          let c = sort_fine Sort.Block s (until_end (field_by (statement_body d)) (base + 3) base l) (fault_at base) fine in
          rw c.0 (statements_within d inner (base + 3) base l h c.1);
      item = λ base s l h fine.
          let c = sort_fine Sort.Item s (then_by (field_by (constant_body d)) (then_by (field_by (block_body d)) ended) (base + 3) base l) (fault_at base) fine in
          item_parts_lem d inner base s l h c.1;
    }

-- declarations

in_within : (d : DeclarationSort) (l : List ℕ) → AllBytes l → FitsDeclaration (declaration_in d l)
unfolding FitsDeclaration
in_within DeclarationSort.Input l h = (h 0, lit< tt, bytes_drop 1 l h)
in_within DeclarationSort.Register l h = (h 0, four_fits (drop 1 l) (bytes_drop 1 l h), bytes_drop 5 l h)

none_within : FitsDeclaration (input 0 [])
unfolding FitsDeclaration
none_within = (lit< tt, lit< tt, λ i. lit< tt)

declaration_within : Holds declaration_body declaration_read FitsDeclaration
unfolding declaration_read
declaration_within base s l h fine = go (is_declaration s) refl
  where
    go : (t : Bool) → is_declaration s ≡ t → FitsDeclaration (declaration_read s l)
    go true is = let f = declaration_sort_lem s is in rw f.1 (in_within f.0 l h)
    go false off = rw (other_sort s (λ d. declaration_in d l) (input 0 []) off) none_within

declarations_within : (base owner : ℕ) (l : List ℕ) (m : ℕ) → AllBytes l → declarations_step base owner l ≡ Ok m → All FitsDeclaration (declarations_in l)
unfolding declarations_step declarations_at
declarations_within base owner l m h e = many_holds declaration_body declaration_read FitsDeclaration declaration_within is_declaration base owner l m h e

-- the whole module

process_within : Holds (process_body 31) (λ s p. block_in 31 p) (BlockWithin 31)
process_within base s l h fine =
    let c = sort_fine Sort.Process s (until_end (field_by (statement_body 30)) (base + 3) base l) (fault_at base) fine in
    statements_within 30 (level_within 30) (base + 3) base l h c.1

blocks_fit : (l : List Block) → All (BlockWithin 31) l → All FitsBlock l
unfolding All
blocks_fit [] all = tt
blocks_fit (b ∷ l) all = (all.0.fits, blocks_fit l all.1)

blocks_deep : (l : List Block) → All (BlockWithin 31) l → processes_depth l ≤ 31
unfolding All processes_depth
blocks_deep [] all = omega arith
blocks_deep (b ∷ l) all = let here = all.0.deep in omega (arith, blocks_deep l all.1)

shallow : (l : List Declaration) → declarations_depth l ≤ 1
unfolding declarations_depth
shallow [] = omega arith
shallow (d ∷ l) = omega arith

-- no fault means that the tree is within the limits
pub form_fits : (file : List ℕ) → AllBytes file → file_answer longest_module file ≡ acceptance → (m : ℕ) → module_form file ≡ Ok m → FitsModule (module_in file)
unfolding tree_in module_depth
form_fits file h accepted m e =
    let l = drop 3 file in
    let all = bytes_drop 3 file h in
    let t = then_tells declarations_step (until_end (field_by (process_body 31))) 3 0 l (form_opened file h accepted m e).fine in
    let left : All (BlockWithin 31) (unplaced (read_placed (is_sort Sort.Process) (λ s p. block_in 31 p) 0 (drop t.size l))) =
    until_holds (process_body 31) (λ s p. block_in 31 p) (BlockWithin 31) process_within (is_sort Sort.Process) (λ b s p k f. (process_returns 30 b s p k f).is)
    (3 + t.size) 0 (drop t.size l) (bytes_drop t.size l all) t.rest in
    let processes : All (BlockWithin 31) (unplaced (read_placed (is_sort Sort.Process) (λ s p. block_in 31 p) 0 (after_declarations l))) =
    subst (λ (x : List ℕ). All (BlockWithin 31) (unplaced (read_placed (is_sort Sort.Process) (λ s p. block_in 31 p) 0 x)))
    (sym (after_declared_lem 3 0 l t.size t.passed)) left in
    let first = shallow (declarations_in l) in
    let second = blocks_deep (unplaced (read_placed (is_sort Sort.Process) (λ s p. block_in 31 p) 0 (after_declarations l))) processes in
    record {
      declarations = declarations_within 3 0 l t.size all t.passed;
      processes = blocks_fit (unplaced (read_placed (is_sort Sort.Process) (λ s p. block_in 31 p) 0 (after_declarations l))) processes;
      deep = omega arith;
      long = rw (form_written file h accepted m e) at (file_fits longest_module file accepted).short;
    }
