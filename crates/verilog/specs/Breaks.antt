-- Refusals 3 to 11 on a module in words: which field breaks which rule. One constructor for each phrase of document 01's table, to be held against it;
-- those on declarations stand in the crate tagged.
use Rattle.std.specs.Prelude.{◌≡◌, List, ◌∷◌, ℕ, suc, ◌^◌, ◌≤◌, ◌<◌, length}
use Rattle.words.specs.declared.TwoOperand.{TwoOperand}
use Rattle.tagged.specs.Limits.{most_processes}
use Rattle.tagged.specs.Stands.{Stands}
use Rattle.tagged.specs.Declarations.{Declaration, input, variable_width}
use Rattle.tagged.specs.DeclarationPhrases.{NoWidth, DeclarationPhrase}
use Rattle.tagged.specs.declared.sorts.Kind.{Kind}
use Rattle.tagged.specs.declared.answers.Rule.{Rule}
use Rattle.verilog.specs.Tree.{Expression, constant, variable, fixed_bit, chosen_bit, two, Statement, assign, assign_bit, if_else, Block, Module}
use Rattle.verilog.specs.Nodes.{What, declaration, process, expression, statement, item_of, Node, module_nodes}
use Rattle.verilog.specs.Rules.{expression_width, declarations_of, count_processes}

-- in the file of a module the field at p is `what`, in process number i; `before` are the fields that start before it
pub record FieldAt (m : Module) (p i : ℕ) (what : What) : Type 0 where
  pub before : List Node
  pub stands : Stands (module_nodes 3 m) before p (record { in_process = i; what = what })

-- variable number v is declared by d: variables are numbered from 0 in declaration order
pub data Declares : List Declaration → ℕ → Declaration → Type 0 where
  number_zero : {d : Declaration} {ds : List Declaration} → Declares (d ∷ ds) 0 d
  number_more : {c d : Declaration} {ds : List Declaration} {v : ℕ} → Declares ds v d → Declares (c ∷ ds) (suc v) d

-- a read of variable v: 21, 22 or 23
pub data Reads (v : ℕ) : Expression → Type 0 where
  reads_whole : Reads v (variable v)
  reads_fixed : {k : ℕ} → Reads v (fixed_bit v k)
  reads_chosen : {index : Expression} → Reads v (chosen_bit v index)

-- an assignment to variable v of one kind: 10 or 12 blocking, 11 or 13 non-blocking
pub data Assigns (kind : Kind) (v : ℕ) : Statement → Type 0 where
  assigns_whole : {e : Expression} → Assigns kind v (assign kind v e)
  assigns_bit : {k : ℕ} {e : Expression} → Assigns kind v (assign_bit kind v k e)

-- the field at p breaks a rule. A variable that does not exist counts as 0 wide in 7 and 8, which are looked for after 6
pub data Breaks (m : Module) : Rule → ℕ → Type 0 where
  -- 3 to 5: a declaration, by the phrases on declarations, after the declarations before it
  declared : {k : Rule} {p i : ℕ} {d : Declaration} (f : FieldAt m p i (declaration d)) → DeclarationPhrase (declarations_of f.before) d k → Breaks m k p
  -- 3: width 0 or over 32, of a constant
  constant_width : {p i w v : ℕ} → FieldAt m p i (expression (constant w v)) → NoWidth w → Breaks m Rule.Value p
  -- 3: a value not below 2 to its width: a constant's
  constant_value : {p i w v : ℕ} → FieldAt m p i (expression (constant w v)) → 2 ^ w ≤ v → Breaks m Rule.Value p
  -- 5: a 9th process
  process_over : {p i : ℕ} (f : FieldAt m p i process) → most_processes ≤ count_processes f.before → Breaks m Rule.Count p
  -- 6: a variable number that does not exist: read
  read_missing : {p i v : ℕ} {e : Expression} → FieldAt m p i (expression e) → Reads v e → length m.declarations ≤ v → Breaks m Rule.Reference p
  -- 6: a variable number that does not exist: assigned
  assigned_missing : {p i v : ℕ} {kind : Kind} {s : Statement} → FieldAt m p i (statement s) → Assigns kind v s → length m.declarations ≤ v →
      Breaks m Rule.Reference p
  -- 6: an assignment to an input
  assigned_input : {p i v width : ℕ} {name : List ℕ} {kind : Kind} {s : Statement} → FieldAt m p i (statement s) → Assigns kind v s →
      Declares m.declarations v (input width name) → Breaks m Rule.Reference p
  -- 7: widths differ: value and target
  value_target : {p i v : ℕ} {kind : Kind} {e : Expression} → FieldAt m p i (statement (assign kind v e)) →
      (expression_width m.declarations e ≡ variable_width m.declarations v → ⊥) → Breaks m Rule.Widths p
  -- 7: widths differ: both operands
  both_operands : {p i : ℕ} {op : TwoOperand} {a b : Expression} → FieldAt m p i (expression (two op a b)) →
      (expression_width m.declarations a ≡ expression_width m.declarations b → ⊥) → Breaks m Rule.Widths p
  -- 7: widths differ: item and selector
  item_selector : {p i w : ℕ} {selector : Expression} → FieldAt m p i (item_of selector w) →
      (w ≡ expression_width m.declarations selector → ⊥) → Breaks m Rule.Widths p
  -- 7: a condition not of width 1
  condition_wide : {p i : ℕ} {c : Expression} {a b : Block} → FieldAt m p i (statement (if_else c a b)) →
      (expression_width m.declarations c ≡ 1 → ⊥) → Breaks m Rule.Widths p
  -- 7: or a value for one bit not of width 1
  bit_value_wide : {p i v k : ℕ} {kind : Kind} {e : Expression} → FieldAt m p i (statement (assign_bit kind v k e)) →
      (expression_width m.declarations e ≡ 1 → ⊥) → Breaks m Rule.Widths p
  -- 8: bit number not below the vector's width n: read
  bit_read : {p i v k : ℕ} → FieldAt m p i (expression (fixed_bit v k)) → variable_width m.declarations v ≤ k → Breaks m Rule.BitNumber p
  -- 8: bit number not below the vector's width n: assigned
  bit_assigned : {p i v k : ℕ} {kind : Kind} {e : Expression} → FieldAt m p i (statement (assign_bit kind v k e)) → variable_width m.declarations v ≤ k →
      Breaks m Rule.BitNumber p
  -- 8: an index of width k with 2^k above n, constants included
  index_wide : {p i v : ℕ} {index : Expression} → FieldAt m p i (expression (chosen_bit v index)) →
      variable_width m.declarations v < 2 ^ expression_width m.declarations index → Breaks m Rule.BitNumber p
  -- 9: a variable assigned by both kinds (place: the first assignment unlike an earlier one)
  both_kinds : {p i q j v : ℕ} {kind other : Kind} {s t : Statement} → FieldAt m p i (statement s) → Assigns kind v s →
      FieldAt m q j (statement t) → Assigns other v t → q < p → (other ≡ kind → ⊥) → Breaks m Rule.BothKinds p
  -- 10: a variable assigned in two processes (place: the first in the later one)
  two_processes : {p i q j v : ℕ} {kind other : Kind} {s t : Statement} → FieldAt m p i (statement s) → Assigns kind v s →
      FieldAt m q j (statement t) → Assigns other v t → q < p → (j ≡ i → ⊥) → Breaks m Rule.TwoProcesses p
  -- 11: a variable assigned by blocking in one process and read in another (place: the first such read)
  read_elsewhere : {p i q j v : ℕ} {e : Expression} {t : Statement} → FieldAt m p i (expression e) → Reads v e →
      FieldAt m q j (statement t) → Assigns Kind.Blocking v t → (j ≡ i → ⊥) → Breaks m Rule.ReadElsewhere p
