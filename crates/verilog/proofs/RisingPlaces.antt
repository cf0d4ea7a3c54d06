-- The places of a module's fields rise strictly in the order of `module_nodes`. By induction over the tree, from the lengths of the bytes: each field has at least 3.
use mathlib.Core.List.{List, [], ◌∷◌, ◌++◌}
use mathlib.Core.Logic.{◌↔◌}
use Prim.Native.Nat.{ℕ, suc, ◌+◌, ◌≤◌, ◌<◌}
use native.Mathlib.Omega.{arith}
use lib.ListN.{length, length-append}
use Rattle.tagged.specs.Bytes.{two_bytes, four_bytes}
use Rattle.tagged.specs.Fields.{Placed, field_bytes, all_bytes_of}
use Rattle.tagged.specs.Stands.{Stands}
use Rattle.tagged.specs.Declarations.{Declaration, declaration_bytes}
use Rattle.tagged.proofs.RiseLaws.{Rise, none, more, rise_from, rise_to, rise_append, earlier_smaller, smaller_earlier}
use Rattle.verilog.specs.Tree.{Expression, constant, variable, fixed_bit, chosen_bit, one, two, Statement, assign, assign_bit, if_else, case, Block, end, ◌then◌, Items, default, item, Module}
use Rattle.verilog.specs.Form.{expression_bytes, statement_bytes, block_payload, items_bytes, process_bytes}
use Rattle.verilog.specs.Nodes.{What, Node, node_at, past, expression_nodes, statement_nodes, block_nodes, items_nodes, process_nodes, declaration_nodes, module_nodes}

rise_none : (at n : ℕ) → Rise {A = Node} at [] (at + n)
rise_none at n = let h : at ≤ at + n = omega arith in none h

-- a field, then those that start at least 3 bytes after its start
rise_node : {at low high stop p : ℕ} {w : What} {l : List (Placed Node)} → Rise low l high → at + 3 ≤ low → high ≤ stop → Rise at (node_at p at w ∷ l) stop
rise_node {at} {low} r h k = let n : suc at ≤ low = omega arith in let same : at ≤ at = omega arith in more same (rise_to k (rise_from n r))

pub rise_expression : (p at : ℕ) (e : Expression) → Rise at (expression_nodes p at e) (at + length (expression_bytes e))
unfolding expression_nodes expression_bytes field_bytes two_bytes four_bytes
rise_expression p at (constant w v) = rise_node (rise_none (at + 3) 0) (omega arith) (omega arith)
rise_expression p at (variable v) = rise_node (rise_none (at + 3) 0) (omega arith) (omega arith)
rise_expression p at (fixed_bit v k) = rise_node (rise_none (at + 3) 0) (omega arith) (omega arith)
rise_expression p at (chosen_bit v e) = rise_node (rise_expression p (at + 4) e) (omega arith) (omega arith)
rise_expression p at (one op a) = rise_node (rise_expression p (at + 3) a) (omega arith) (omega arith)
rise_expression p at (two op a b) =
    rise_node (rise_append (rise_expression p (at + 3) a) (rise_expression p (at + 3 + length (expression_bytes a)) b))
    (omega arith) (simp length-append (omega arith))

mutual
  unfolding statement_nodes statement_bytes block_nodes block_payload items_nodes items_bytes field_bytes two_bytes four_bytes

  pub rise_statement : (p at : ℕ) (s : Statement) → Rise at (statement_nodes p at s) (at + length (statement_bytes s))
  rise_statement p at (assign kind v e) = rise_node (rise_expression p (at + 4) e) (omega arith) (omega arith)
  rise_statement p at (assign_bit kind v k e) = rise_node (rise_expression p (at + 5) e) (omega arith) (omega arith)
  rise_statement p at (if_else c a b) =
      let first : ℕ = at + 3 + length (expression_bytes c) in
      let second : ℕ = first + 3 + length (block_payload a) in
      let x : first ≤ first + 3 = omega arith in
      let y : second ≤ second + 3 = omega arith in
      rise_node
      (rise_append (rise_append (rise_expression p (at + 3) c) (rise_from x (rise_block p (first + 3) a))) (rise_from y (rise_block p (second + 3) b)))
      (omega arith) (simp length-append (omega arith))
  rise_statement p at (case e items) =
      rise_node (rise_append (rise_expression p (at + 3) e) (rise_items p (at + 3 + length (expression_bytes e)) e items))
      (omega arith) (simp length-append (omega arith))

  pub rise_block : (p at : ℕ) (b : Block) → Rise at (block_nodes p at b) (at + length (block_payload b))
  rise_block p at end = rise_none at 0
  rise_block p at (s then b) =
      let h : at + length (statement_bytes s) + length (block_payload b) ≤ at + length (statement_bytes s ++ block_payload b) = simp length-append (omega arith) in
      rise_to h (rise_append (rise_statement p at s) (rise_block p (at + length (statement_bytes s)) b))

  pub rise_items : (p at : ℕ) (e : Expression) (items : Items) → Rise at (items_nodes p at e items) (at + length (items_bytes items))
  rise_items p at e (default b) =
      let h : at ≤ at + 3 = omega arith in
      let k : at + 3 + length (block_payload b) ≤ at + length (items_bytes (default b)) = omega arith in
      rise_to k (rise_from h (rise_block p (at + 3) b))
  rise_items p at e (item w v b items) =
      let after : ℕ = past (at + 11) (block_payload b) in
      let h : at + 14 + length (block_payload b) ≤ after = omega arith in
      let inner : Rise (at + 14) (block_nodes p (at + 14) b ++ items_nodes p after e items) (after + length (items_bytes items)) =
      rise_append (rise_to h (rise_block p (at + 14) b)) (rise_items p after e items) in
      rise_node (rise_node {stop = after + length (items_bytes items)} inner (omega arith) (omega arith)) (omega arith) (simp length-append (omega arith))

pub rise_processes : (p at : ℕ) (l : List Block) → Rise at (process_nodes p at l) (at + length (all_bytes_of process_bytes l))
unfolding process_nodes all_bytes_of process_bytes field_bytes two_bytes
rise_processes p at [] = rise_none at 0
rise_processes p at (b ∷ l) =
    let h : at + 3 + length (block_payload b) ≤ at + length (process_bytes b) = omega arith in
    rise_node (rise_append (rise_to h (rise_block p (at + 3) b)) (rise_processes (p + 1) (at + length (process_bytes b)) l))
    (omega arith) (simp length-append (omega arith))

pub rise_declarations : (at : ℕ) (l : List Declaration) → Rise at (declaration_nodes at l) (at + length (all_bytes_of declaration_bytes l))
unfolding declaration_nodes all_bytes_of declaration_bytes field_bytes two_bytes
rise_declarations at [] = rise_none at 0
rise_declarations at (d ∷ l) = rise_node (rise_declarations (at + length (declaration_bytes d)) l) (omega arith) (simp length-append (omega arith))

-- all of them
pub places_rise : (at : ℕ) (m : Module) →
    Rise at (module_nodes at m) (at + length (all_bytes_of declaration_bytes m.declarations) + length (all_bytes_of process_bytes m.processes))
unfolding module_nodes
places_rise at m =
    rise_append (rise_declarations at m.declarations) (rise_processes 0 (at + length (all_bytes_of declaration_bytes m.declarations)) m.processes)

-- of two fields of a module the one that stands earlier in the list, after fewer others, is the one at the smaller place
pub earlier_smaller_place : (m : Module) {b c : List Node} {p q : ℕ} {x y : Node} → Stands (module_nodes 3 m) b q y → Stands (module_nodes 3 m) c p x →
    length b < length c ↔ q < p
earlier_smaller_place m s t = (λ h. earlier_smaller (places_rise 3 m) s t h, λ h. smaller_earlier (places_rise 3 m) s t h)
