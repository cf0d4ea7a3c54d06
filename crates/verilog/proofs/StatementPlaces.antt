-- Whether statements, blocks and items have a fault does not depend on where they stand; by induction on the levels that may be opened.
use Rattle.tagged.specs.Answers.{fault_at}
use Rattle.std.specs.Prelude.{Err}
use mathlib.Core.Path.{◌≡◌}
use mathlib.Core.Bool.{cond}
use Prim.Native.Nat.{ℕ, zero, suc, ◌+◌}
use native.Mathlib.Omega.{arith}
use Rattle.tagged.specs.Sorts.{is_sort}
use Rattle.tagged.specs.Fields.{Judge, Stepper, field_by, then_by, fixed_then, ended, many}
use Rattle.tagged.specs.declared.sorts.StatementSort.{StatementSort}
use Rattle.tagged.specs.declared.sorts.ExpressionSort.TheVariants as ExpressionSort
use Rattle.tagged.specs.declared.sorts.Sort.{Sort}
use Rattle.verilog.specs.Form.{expression_body, constant_body, statement_parts, statement_body, block_body, item_body}
use Rattle.tagged.proofs.AnyPlace.{AnywhereBody, AnywhereJudge, AnywhereStep, field_anywhere, then_anywhere, fixed_anywhere, ended_anywhere, many_anywhere, until_anywhere}
use Rattle.tagged.proofs.JudgeLaws.{sort_fine}
use Rattle.verilog.proofs.SortChoices.{statement_fine}
use Rattle.verilog.proofs.ExpressionBytes.{expression_anywhere}

-- a judge of one sort
pub sort_anywhere : (k : Sort) (judge : Judge) → AnywhereJudge judge → AnywhereBody (λ at s l. cond (is_sort k s) (judge (at + 3) at l) (Err (fault_at at)))
sort_anywhere k judge any a b s l fine =
    let c = sort_fine k s (judge (a + 3) a l) (fault_at a) fine in
    rw c.0 (any (a + 3) a (b + 3) b l c.1)

pub constant_anywhere : (d : ℕ) → AnywhereBody (constant_body d)
unfolding constant_body
constant_anywhere zero a b s l fine = absurd (let z : ◌≡◌ {A = ℕ} 0 1 = cc in omega arith)
constant_anywhere (suc d) a b s l fine = sort_anywhere (Sort.Expression ExpressionSort.Constant) (fixed_then 5 ended)
    (fixed_anywhere 5 ended ended_anywhere) a b s l fine

-- what a statement holds, by what it may hold
parts_anywhere : (e b i : Stepper) → AnywhereStep e → AnywhereStep b → AnywhereStep i → (t : StatementSort) → AnywhereJudge (statement_parts e b i t)
parts_anywhere e b i ae ab ai (StatementSort.Assign kind) = fixed_anywhere 1 (then_by e ended) (then_anywhere e ended ae ended_anywhere)
parts_anywhere e b i ae ab ai (StatementSort.AssignBit kind) = fixed_anywhere 2 (then_by e ended) (then_anywhere e ended ae ended_anywhere)
parts_anywhere e b i ae ab ai StatementSort.If =
    then_anywhere e (then_by b (then_by b ended)) ae (then_anywhere b (then_by b ended) ab (then_anywhere b ended ab ended_anywhere))
parts_anywhere e b i ae ab ai StatementSort.Case =
    then_anywhere e (then_by (many (is_sort Sort.Item) i) (then_by b ended)) ae
    (then_anywhere (many (is_sort Sort.Item) i) (then_by b ended) (many_anywhere (is_sort Sort.Item) i ai) (then_anywhere b ended ab ended_anywhere))

pub record LevelAnywhere (d : ℕ) : Type 0 where
  pub statement : AnywhereBody (statement_body d)
  pub block : AnywhereBody (block_body d)
  pub item : AnywhereBody (item_body d)

pub level_anywhere : (d : ℕ) → LevelAnywhere d
unfolding statement_body block_body item_body
level_anywhere zero = record {
  statement = λ a b s l fine. absurd (let z : ◌≡◌ {A = ℕ} 0 1 = cc in omega arith);
  block = λ a b s l fine. absurd (let z : ◌≡◌ {A = ℕ} 0 1 = cc in omega arith);
  item = λ a b s l fine. absurd (let z : ◌≡◌ {A = ℕ} 0 1 = cc in omega arith);
}
level_anywhere (suc d) =
    let inner = level_anywhere d in
    let block-step = field_anywhere (block_body d) inner.block in
    let parts = parts_anywhere (field_by (expression_body d)) (field_by (block_body d)) (field_by (item_body d))
    (field_anywhere (expression_body d) (expression_anywhere d)) block-step (field_anywhere (item_body d) inner.item) in
    record {
      statement = λ a b s l fine.
          let c = statement_fine s (λ t. statement_parts (field_by (expression_body d)) (field_by (block_body d)) (field_by (item_body d)) t (a + 3) a l) (fault_at a) fine in
          rw c.1 (parts c.0 (a + 3) a (b + 3) b l c.2);
      block = sort_anywhere Sort.Block _ (until_anywhere (field_by (statement_body d)) (field_anywhere (statement_body d) inner.statement));
      item = sort_anywhere Sort.Item _ (then_anywhere (field_by (constant_body d)) (then_by (field_by (block_body d)) ended)
          (field_anywhere (constant_body d) (constant_anywhere d)) (then_anywhere (field_by (block_body d)) ended block-step ended_anywhere));
    }
