-- Where no variable is assigned by both kinds, the table of first assignments tells which are assigned by non-blocking anywhere. The cycle asks the tree for that:
-- some field of the tree is such an assignment, by induction on the tree, and all assignments to a variable are of the first one's kind.
use Rattle.std.specs.Prelude.{Option, None}
use mathlib.Core.Path.{◌≡◌, refl, ap, ap₂, fun_ext, ◌∙◌, sym}
use mathlib.Core.Bool.{Bool, false, ◌&&◌, ◌||◌, or-false}
use mathlib.Core.List.Memᴰ
use mathlib.Core.List.{List, [], ◌∷◌, ◌++◌, map}
use Prim.Native.Nat.{ℕ, ◌+◌, ◌<◌}
use lib.Dec.{eqb}
use lib.ListN.{length, get_or}
use borrow.Author.Tests.{eq-eqb}
use Rattle.tagged.specs.Limits.{most_variables}
use Rattle.tagged.specs.Fields.{Placed, unplaced}
use Rattle.tagged.specs.declared.sorts.Kind.{Kind}
use Rattle.tagged.specs.declared.answers.Rule.TheVariants as Rule
use Rattle.verilog.specs.Tree.{Expression, Statement, assign, assign_bit, if_else, case, Block, end, ◌then◌, Items, default, item, Module}
use Rattle.verilog.specs.Form.{expression_bytes, statement_bytes, block_payload, process_bytes}
use Rattle.verilog.specs.Nodes.{Node, past, expression_nodes, statement_nodes, block_nodes, items_nodes, process_nodes}
use Rattle.verilog.specs.Rules.{is_assignment, some_node, module_broken}
use Rattle.verilog.specs.Cycle.{is_non_blocking, delays, delays_block, delays_items, delays_any}
use Rattle.verilog.proofs.DeclarationsKept.{declaration_node}
use Rattle.verilog_check.specs.declared.assignments.First.{First}
use Rattle.verilog_check.specs.Tables.{kind_of}
use Rattle.verilog_check.proofs.Firsts.{as_first, first_in}
use Rattle.verilog_check.proofs.AssignedFirsts.{assignment_first}
use Rattle.verilog_check.proofs.EachField.{each_expression}
use Rattle.verilog_check.proofs.SomeField.{some_joined, each_none, first_decides}
use Rattle.verilog_check.proofs.RulesByTables.{after_declared, process_fields}
use Rattle.verilog_check.proofs.TestsByFirst.{of_both_kinds}
use Rattle.verilog_check.proofs.FirstAssignments.{part_of_first}

module _ (v : ℕ) where
  -- an assignment to v by non-blocking
  abbrev delaying : Node → Bool
  delaying = is_assignment (λ kind u. is_non_blocking kind && eqb u v)

  abbrev among : List (Placed Node) → Bool
  among l = some_node delaying (unplaced l)

  none_in : (p at : ℕ) (e : Expression) → among (expression_nodes p at e) ≡ false
  none_in p at e = each_none delaying (each_expression p (λ e. refl) at e)

  mutual
    unfolding delays delays_block delays_items statement_nodes block_nodes items_nodes

    statement_delays : (p at : ℕ) (s : Statement) → among (statement_nodes p at s) ≡ delays v s
    statement_delays p at (assign kind u e) = rw (none_in p (at + 4) e) (or-false (is_non_blocking kind && eqb u v))
    statement_delays p at (assign_bit kind u k e) = rw (none_in p (at + 5) e) (or-false (is_non_blocking kind && eqb u v))
    statement_delays p at (if_else c a b) =
        let first : ℕ = at + 3 + length (expression_bytes c) in
        let condition : List (Placed Node) = expression_nodes p (at + 3) c in
        let yes : List (Placed Node) = block_nodes p (first + 3) a in
        let no : List (Placed Node) = block_nodes p (past first (block_payload a) + 3) b in
        some_joined delaying (condition ++ yes) no
        ∙ ap₂ ◌||◌ (some_joined delaying condition yes ∙ ap₂ ◌||◌ (none_in p (at + 3) c) (block_delays p (first + 3) a)) (block_delays p (past first (block_payload a) + 3) b)
    statement_delays p at (case e items) =
        let after : ℕ = at + 3 + length (expression_bytes e) in
        some_joined delaying (expression_nodes p (at + 3) e) (items_nodes p after e items) ∙ ap₂ ◌||◌ (none_in p (at + 3) e) (items_delay p after e items)

    block_delays : (p at : ℕ) (b : Block) → among (block_nodes p at b) ≡ delays_block v b
    block_delays p at end = refl
    block_delays p at (s then b) =
        let next : ℕ = at + length (statement_bytes s) in
        some_joined delaying (statement_nodes p at s) (block_nodes p next b) ∙ ap₂ ◌||◌ (statement_delays p at s) (block_delays p next b)

    items_delay : (p at : ℕ) (e : Expression) (items : Items) → among (items_nodes p at e items) ≡ delays_items v items
    items_delay p at e (default b) = block_delays p (at + 3) b
    items_delay p at e (item w n b items) =
        let next : ℕ = past (at + 11) (block_payload b) in
        some_joined delaying (block_nodes p (at + 14) b) (items_nodes p next e items) ∙ ap₂ ◌||◌ (block_delays p (at + 14) b) (items_delay p next e items)

  processes_delay : (p at : ℕ) (l : List Block) → among (process_nodes p at l) ≡ delays_any l v
  unfolding delays_any process_nodes
  processes_delay p at [] = refl
  processes_delay p at (b ∷ l) =
      let next : ℕ = at + length (process_bytes b) in
      some_joined delaying (block_nodes p (at + 3) b) (process_nodes (p + 1) next l) ∙ ap₂ ◌||◌ (block_delays p (at + 3) b) (processes_delay (p + 1) next l)

  -- the same by first assignments
  delaying_first : (n : Node) → delaying n ≡ is_non_blocking (kind_of (as_first v n))
  delaying_first n = assignment_first n v (λ first. is_non_blocking (kind_of first)) refl (λ kind u. is_non_blocking kind && eqb u v) here another
    where
      here : (kind : Kind) → (is_non_blocking kind && eqb v v) ≡ is_non_blocking kind
      here Kind.Blocking = refl
      here Kind.NonBlocking = eq-eqb v v refl

      another : (kind : Kind) (u : ℕ) → eqb u v ≡ false → (is_non_blocking kind && eqb u v) ≡ false
      another Kind.Blocking u e = refl
      another Kind.NonBlocking u e = e

-- a variable is assigned by non-blocking anywhere just where its first assignment in the table is non-blocking
pub delayed_by_first : (base : ℕ) (m : Module) (firsts : List (Option First)) →
    ((v : ℕ) → v < most_variables → get_or firsts v None ≡ first_in v (unplaced (process_fields base m))) →
    module_broken base m Rule.BothKinds ≡ None → (v : ℕ) → v < most_variables → delays_any m.processes v ≡ is_non_blocking (kind_of (get_or firsts v None))
delayed_by_first base m firsts tabled kinds v few =
    let fields : List Node = unplaced (process_fields base m) in
    sym (processes_delay v 0 (after_declared base m) m.processes) ∙ ap (λ (test : Node → Bool). some_node test fields) (fun_ext (delaying_first v))
    ∙ first_decides v (λ first. is_non_blocking (kind_of first)) refl fields
    (λ n i some. ap is_non_blocking (part_of_first base m of_both_kinds kinds v n (Memᴰ.append_right (map declaration_node m.declarations) i) some))
    ∙ ap (λ (first : Option First). is_non_blocking (kind_of first)) (sym (tabled v few))
