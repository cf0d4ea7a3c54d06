-- The relation `Breaks`, in the words of document 01, holds of a place exactly when the test `breaks` is true of the field that stands there.
-- By the constructors one way, by the rule and the field's shape the other (declarations by DeclarationTests); "earlier" and "at a smaller place" agree, since places rise.
use mathlib.Core.Path.{◌≡◌, refl, sym, ap}
use mathlib.Core.Bool.{Bool, true, false, ◌&&◌, not, false≢true, true≢false, and-eq-true_iff}
use mathlib.Core.List.{List, [], ◌∷◌, Memᴰ}
use mathlib.Core.Logic.{◌⊎◌, inl, inr, ◌↔◌}
use Prim.Native.Nat.{ℕ, zero, suc, ◌^◌, ◌≤◌, ◌<◌}
use native.Mathlib.Omega.{arith}
use lib.Dec.{leb, eqb}
use lib.ListN.{length}
use borrow.Author.Tests.{leb-true, leb-false, eqb-true, not-true, le-leb, lt-leb, eq-eqb, ne_eqb}
use Rattle.words.specs.Widths.{is_width, fits_width, index_within}
use Rattle.tagged.specs.Limits.{most_processes}
use Rattle.tagged.specs.Fields.{unplaced}
use Rattle.tagged.specs.Stands.{Stands}
use Rattle.tagged.specs.Declarations.{Declaration, input, register, is_register, register_at, variable_width, value_broken, name_broken, count_broken, declaration_breaks}
use Rattle.tagged.specs.declared.sorts.Kind.{Kind}
use Rattle.tagged.specs.declared.answers.Rule.{Rule}
use Rattle.tagged.proofs.TestLaws.{or_left, or_right, or_cases, unlike, unlike_ne}
use Rattle.tagged.proofs.DeclarationTests.{no_width, width_no, not_fits, fits_not, phrase_tested, tested_phrase}
use Rattle.tagged.proofs.RiseLaws.{before_earlier, earlier_before, stands_in, in_stands}
use Rattle.verilog.specs.Tree.{Expression, constant, variable, fixed_bit, chosen_bit, one, two, Statement, assign, assign_bit, if_else, case, Module}
use Rattle.verilog.specs.Nodes.{What, declaration, process, expression, statement, item_of, Node, module_nodes}
use Rattle.verilog.specs.Rules.{expression_width, declarations_of, count_processes, some_node, assigns_by, reads_by, by_field, is_assignment, is_blocking, same_kind, constant_broken, missing_variable, operands_differ, statement_differs, read_outside, write_outside, breaks}
use Rattle.verilog.specs.Breaks.{FieldAt, Declares, number_zero, number_more, Reads, reads_whole, reads_fixed, reads_chosen, Assigns, assigns_whole, assigns_bit, Breaks, declared, constant_width, constant_value, process_over, read_missing, assigned_missing, assigned_input, value_target, both_operands, item_selector, condition_wide, bit_value_wide, bit_read, bit_assigned, index_wide, both_kinds, two_processes, read_elsewhere}
use Rattle.verilog.proofs.RisingPlaces.{earlier_smaller_place}

-- 6
declares_register : {ds : List Declaration} {v : ℕ} {d : Declaration} → Declares ds v d → register_at ds v ≡ is_register d
declares_register number_zero = refl
declares_register (number_more h) = declares_register h

-- a register is a variable that there is
pub register_exists : (ds : List Declaration) (v : ℕ) → register_at ds v ≡ true → v < length ds
register_exists [] v h = absurd (let z : ◌≡◌ {A = ℕ} 0 1 = cc in omega arith)
register_exists (d ∷ ds) zero h = omega arith
register_exists (d ∷ ds) (suc v) h = let l : v < length ds = register_exists ds v h in omega arith

pub missing_register : (ds : List Declaration) (v : ℕ) → length ds ≤ v → register_at ds v ≡ false
missing_register [] v h = refl
missing_register (d ∷ ds) zero h = absurd (omega arith)
missing_register (d ∷ ds) (suc v) h = missing_register ds v (omega arith)

no_register : (ds : List Declaration) (v : ℕ) → register_at ds v ≡ false →
    (length ds ≤ v) ⊎ ((width : ℕ) × (name : List ℕ) × Declares ds v (input width name))
no_register [] v e = inl (omega arith)
no_register (input width name ∷ ds) zero e = inr (width, name, number_zero)
no_register (register width initial name ∷ ds) zero e = absurd (true≢false e)
no_register (d ∷ ds) (suc v) e = go (no_register ds v e)
  where
    go : (length ds ≤ v) ⊎ ((width : ℕ) × (name : List ℕ) × Declares ds v (input width name)) →
        (length (d ∷ ds) ≤ suc v) ⊎ ((width : ℕ) × (name : List ℕ) × Declares (d ∷ ds) (suc v) (input width name))
    go (inl h) = inl (omega arith)
    go (inr h) = inr (h.0, h.1, number_more h.2)

-- assignments and reads
module _ (test : Kind → ℕ → Bool) where
  assigns_by_lem : (s : Statement) → assigns_by test s ≡ true → (kind : Kind) × (v : ℕ) × Assigns kind v s × (test kind v ≡ true)
  assigns_by_lem (assign kind v e) h = (kind, v, assigns_whole, h)
  assigns_by_lem (assign_bit kind v k e) h = (kind, v, assigns_bit, h)
  assigns_by_lem (if_else c a b) h = absurd (false≢true h)
  assigns_by_lem (case e items) h = absurd (false≢true h)

  by_assigns : {kind : Kind} {v : ℕ} {s : Statement} → Assigns kind v s → test kind v ≡ true → assigns_by test s ≡ true
  by_assigns assigns_whole h = h
  by_assigns assigns_bit h = h

  assignment_is : (w : What) → by_field (λ d. false) false (λ e. false) (assigns_by test) (λ e w. false) w ≡ true →
      (s : Statement) × (w ≡ statement s) × (assigns_by test s ≡ true)
  assignment_is (declaration d) h = absurd (false≢true h)
  assignment_is process h = absurd (false≢true h)
  assignment_is (expression e) h = absurd (false≢true h)
  assignment_is (statement s) h = (s, refl, h)
  assignment_is (item_of e w) h = absurd (false≢true h)

module _ (test : ℕ → Bool) where
  reads_by_lem : (e : Expression) → reads_by test e ≡ true → (v : ℕ) × Reads v e × (test v ≡ true)
  reads_by_lem (constant w v) h = absurd (false≢true h)
  reads_by_lem (variable v) h = (v, reads_whole, h)
  reads_by_lem (fixed_bit v k) h = (v, reads_fixed, h)
  reads_by_lem (chosen_bit v e) h = (v, reads_chosen, h)
  reads_by_lem (one op a) h = absurd (false≢true h)
  reads_by_lem (two op a b) h = absurd (false≢true h)

  by_reads : {v : ℕ} {e : Expression} → Reads v e → test v ≡ true → reads_by test e ≡ true
  by_reads reads_whole h = h
  by_reads reads_fixed h = h
  by_reads reads_chosen h = h

  read_is : (w : What) → by_field (λ d. false) false (reads_by test) (λ s. false) (λ e w. false) w ≡ true →
      (e : Expression) × (w ≡ expression e) × (reads_by test e ≡ true)
  read_is (declaration d) h = absurd (false≢true h)
  read_is process h = absurd (false≢true h)
  read_is (expression e) h = (e, refl, h)
  read_is (statement s) h = absurd (false≢true h)
  read_is (item_of e w) h = absurd (false≢true h)

-- some field is an assignment that passes a test
abbrev assigning : ℕ → Statement → Node
assigning i s = record { in_process = i; what = statement s }

record Assigned (test : Node → Kind → ℕ → Bool) (l : List Node) : Type 0 where
  number : ℕ
  text : Statement
  kind : Kind
  target : ℕ
  among : Memᴰ (assigning number text) l
  assigns : Assigns kind target text
  passes : test (assigning number text) kind target ≡ true

module _ (test : Node → Kind → ℕ → Bool) where
  assigned_among : (l : List Node) → some_node (λ n. is_assignment (test n) n) l ≡ true → Assigned test l
  assigned_among [] h = absurd (false≢true h)
  assigned_among (n ∷ l) h = or_cases (is_assignment (test n) n) (some_node (λ n. is_assignment (test n) n) l) h here (λ h. later (assigned_among l h))
    where
      here : is_assignment (test n) n ≡ true → Assigned test (n ∷ l)
      here h =
          let s = assignment_is (test n) n.what h in
          let a = assigns_by_lem (test n) s.0 s.2 in
          let same : assigning n.in_process s.0 ≡ n = ap (λ (w : What). record { in_process = n.in_process; what = w }) (sym s.1) in
          record {
            number = n.in_process;
            text = s.0;
            kind = a.0;
            target = a.1;
            among = Memᴰ.head same;
            assigns = a.2;
            passes = rw same a.3;
          }

      later : Assigned test l → Assigned test (n ∷ l)
      later f = record {
        number = f.number;
        text = f.text;
        kind = f.kind;
        target = f.target;
        among = Memᴰ.tail f.among;
        assigns = f.assigns;
        passes = f.passes;
      }

  among_assigned : (l : List Node) → Assigned test l → some_node (λ n. is_assignment (test n) n) l ≡ true
  among_assigned l f = go l f.among
    where
      here : is_assignment (test (assigning f.number f.text)) (assigning f.number f.text) ≡ true
      here = by_assigns (test (assigning f.number f.text)) f.assigns f.passes

      go : (l : List Node) → Memᴰ (assigning f.number f.text) l → some_node (λ n. is_assignment (test n) n) l ≡ true
      go [] m = elim m [ ]
      go (n ∷ l) (Memᴰ.head e) = let h : is_assignment (test n) n ≡ true = rw (← e) here in rw h
      go (n ∷ l) (Memᴰ.tail m) = or_right (is_assignment (test n) n) (go l m)

-- kinds
other_kind_lem : (a b : Kind) → same_kind a b ≡ false → a ≡ b → ⊥
other_kind_lem Kind.Blocking Kind.Blocking h e = true≢false h
other_kind_lem Kind.Blocking Kind.NonBlocking h e = true≢false (ap is_blocking e)
other_kind_lem Kind.NonBlocking Kind.Blocking h e = false≢true (ap is_blocking e)
other_kind_lem Kind.NonBlocking Kind.NonBlocking h e = true≢false h

kind_other : (a b : Kind) → (a ≡ b → ⊥) → same_kind a b ≡ false
kind_other Kind.Blocking Kind.Blocking h = absurd (h refl)
kind_other Kind.Blocking Kind.NonBlocking h = refl
kind_other Kind.NonBlocking Kind.Blocking h = refl
kind_other Kind.NonBlocking Kind.NonBlocking h = absurd (h refl)

is_blocking_lem : (a : Kind) → is_blocking a ≡ true → a ≡ Kind.Blocking
is_blocking_lem Kind.Blocking h = refl
is_blocking_lem Kind.NonBlocking h = absurd (false≢true h)

-- a field of the module for which the test of this rule is true stands at p
pub record BrokenAt (m : Module) (k : Rule) (p : ℕ) : Type 0 where
  pub before : List Node
  pub node : Node
  pub stands : Stands (module_nodes 3 m) before p node
  pub broken : breaks m.declarations (unplaced (module_nodes 3 m)) k before node ≡ true

module _ (m : Module) where
  -- the module's declarations and fields
  abbrev ds : List Declaration
  ds = m.declarations

  abbrev all : List Node
  all = unplaced (module_nodes 3 m)

  -- what stands among those before a field stands at a smaller place, and the other way round
  among_smaller : {before : List Node} {p i : ℕ} {w : What} {n : Node} → Stands (module_nodes 3 m) before p n →
      Memᴰ (record { in_process = i; what = w }) before → (q : ℕ) × FieldAt m q i w × (q < p)
  among_smaller s among =
      let f = before_earlier s among in
      (f.place, record { before = f.before; stands = f.stands }, (earlier_smaller_place m f.stands s).0 f.fewer)

  smaller_among : {p q i : ℕ} {w : What} {n : Node} {before : List Node} → FieldAt m q i w → Stands (module_nodes 3 m) before p n → q < p →
      Memᴰ (record { in_process = i; what = w }) before
  smaller_among f s less = earlier_before f.stands s ((earlier_smaller_place m f.stands s).1 less)

  -- from the test to the relation, rule by rule
  module _ (p i : ℕ) where
    value_breaks : (w : What) → FieldAt m p i w → by_field value_broken false constant_broken (λ s. false) (λ e w. false) w ≡ true → Breaks m Rule.Value p
    unfolding declaration_breaks
    value_breaks (declaration d) f e = declared f (tested_phrase Rule.Value (declarations_of f.before) d e)
    value_breaks process f e = absurd (false≢true e)
    value_breaks (expression (constant w v)) f e =
        or_cases (not (is_width w)) (not (fits_width w v)) e (λ h. constant_width f (width_no w h)) (λ h. constant_value f (fits_not w v h))
    value_breaks (expression (variable v)) f e = absurd (false≢true e)
    value_breaks (expression (fixed_bit v k)) f e = absurd (false≢true e)
    value_breaks (expression (chosen_bit v x)) f e = absurd (false≢true e)
    value_breaks (expression (one op a)) f e = absurd (false≢true e)
    value_breaks (expression (two op a b)) f e = absurd (false≢true e)
    value_breaks (statement s) f e = absurd (false≢true e)
    value_breaks (item_of x w) f e = absurd (false≢true e)

    name_breaks : (w : What) (f : FieldAt m p i w) → by_field (name_broken (declarations_of f.before)) false (λ e. false) (λ s. false) (λ e w. false) w ≡ true →
        Breaks m Rule.Name p
    unfolding declaration_breaks
    name_breaks (declaration d) f e = declared f (tested_phrase Rule.Name (declarations_of f.before) d e)
    name_breaks process f e = absurd (false≢true e)
    name_breaks (expression x) f e = absurd (false≢true e)
    name_breaks (statement s) f e = absurd (false≢true e)
    name_breaks (item_of x w) f e = absurd (false≢true e)

    count_breaks : (w : What) (f : FieldAt m p i w) →
        by_field (count_broken (declarations_of f.before)) (leb most_processes (count_processes f.before)) (λ e. false) (λ s. false) (λ e w. false) w ≡ true →
        Breaks m Rule.Count p
    unfolding declaration_breaks
    count_breaks (declaration d) f e = declared f (tested_phrase Rule.Count (declarations_of f.before) d e)
    count_breaks process f e = process_over f (leb-true most_processes (count_processes f.before) e)
    count_breaks (expression x) f e = absurd (false≢true e)
    count_breaks (statement s) f e = absurd (false≢true e)
    count_breaks (item_of x w) f e = absurd (false≢true e)

    reference_breaks : (w : What) → FieldAt m p i w →
        by_field (λ d. false) false (reads_by (missing_variable ds)) (assigns_by (λ kind v. not (register_at ds v))) (λ e w. false) w ≡ true →
        Breaks m Rule.Reference p
    reference_breaks (declaration d) f e = absurd (false≢true e)
    reference_breaks process f e = absurd (false≢true e)
    reference_breaks (expression x) f e = let r = reads_by_lem (missing_variable ds) x e in read_missing f r.1 (leb-true (length ds) r.0 r.2)
    reference_breaks (statement s) f e =
        let a = assigns_by_lem (λ kind v. not (register_at ds v)) s e in
        go a.2 (no_register ds a.1 (not-true (register_at ds a.1) a.3))
      where
        go : {kind : Kind} {v : ℕ} → Assigns kind v s → (length ds ≤ v) ⊎ ((width : ℕ) × (name : List ℕ) × Declares ds v (input width name)) →
            Breaks m Rule.Reference p
        go a (inl h) = assigned_missing f a h
        go a (inr h) = assigned_input f a h.2
    reference_breaks (item_of x w) f e = absurd (false≢true e)

    widths_breaks : (w : What) → FieldAt m p i w →
        by_field (λ d. false) false (operands_differ ds) (statement_differs ds) (λ e w. not (eqb w (expression_width ds e))) w ≡ true → Breaks m Rule.Widths p
    widths_breaks (declaration d) f e = absurd (false≢true e)
    widths_breaks process f e = absurd (false≢true e)
    widths_breaks (expression (constant w v)) f e = absurd (false≢true e)
    widths_breaks (expression (variable v)) f e = absurd (false≢true e)
    widths_breaks (expression (fixed_bit v k)) f e = absurd (false≢true e)
    widths_breaks (expression (chosen_bit v x)) f e = absurd (false≢true e)
    widths_breaks (expression (one op a)) f e = absurd (false≢true e)
    widths_breaks (expression (two op a b)) f e = both_operands f (unlike_ne (expression_width ds a) (expression_width ds b) e)
    widths_breaks (statement (assign kind v x)) f e = value_target f (unlike_ne (expression_width ds x) (variable_width ds v) e)
    widths_breaks (statement (assign_bit kind v k x)) f e = bit_value_wide f (unlike_ne (expression_width ds x) 1 e)
    widths_breaks (statement (if_else c a b)) f e = condition_wide f (unlike_ne (expression_width ds c) 1 e)
    widths_breaks (statement (case x items)) f e = absurd (false≢true e)
    widths_breaks (item_of x w) f e = item_selector f (unlike_ne w (expression_width ds x) e)

    bit_breaks : (w : What) → FieldAt m p i w → by_field (λ d. false) false (read_outside ds) (write_outside ds) (λ e w. false) w ≡ true → Breaks m Rule.BitNumber p
    bit_breaks (declaration d) f e = absurd (false≢true e)
    bit_breaks process f e = absurd (false≢true e)
    bit_breaks (expression (constant w v)) f e = absurd (false≢true e)
    bit_breaks (expression (variable v)) f e = absurd (false≢true e)
    bit_breaks (expression (fixed_bit v k)) f e = bit_read f (leb-true (variable_width ds v) k e)
    bit_breaks (expression (chosen_bit v x)) f e =
        index_wide f (leb-false (2 ^ expression_width ds x) (variable_width ds v) (not-true (index_within (expression_width ds x) (variable_width ds v)) e))
    bit_breaks (expression (one op a)) f e = absurd (false≢true e)
    bit_breaks (expression (two op a b)) f e = absurd (false≢true e)
    bit_breaks (statement (assign kind v x)) f e = absurd (false≢true e)
    bit_breaks (statement (assign_bit kind v k x)) f e = bit_assigned f (leb-true (variable_width ds v) k e)
    bit_breaks (statement (if_else c a b)) f e = absurd (false≢true e)
    bit_breaks (statement (case x items)) f e = absurd (false≢true e)
    bit_breaks (item_of x w) f e = absurd (false≢true e)

    -- an assignment at p: what the test of rule 9 or 10 on it says of an earlier one
    kinds_breaks : {kind : Kind} {v : ℕ} {s : Statement} (f : FieldAt m p i (statement s)) → Assigns kind v s →
        Assigned (λ n other u. eqb u v && not (same_kind other kind)) f.before → Breaks m Rule.BothKinds p
    kinds_breaks {kind} {v} f a g =
        let h = among_smaller f.stands g.among in
        let t = (and-eq-true_iff (eqb g.target v) (not (same_kind g.kind kind))).0 g.passes in
        both_kinds f a h.1 (rw (eqb-true g.target v t.0) at g.assigns) h.2 (other_kind_lem g.kind kind (not-true (same_kind g.kind kind) t.1))

    processes_breaks : {kind : Kind} {v : ℕ} {s : Statement} (f : FieldAt m p i (statement s)) → Assigns kind v s →
        Assigned (λ n other u. eqb u v && not (eqb n.in_process i)) f.before → Breaks m Rule.TwoProcesses p
    processes_breaks {kind} {v} f a g =
        let h = among_smaller f.stands g.among in
        let t = (and-eq-true_iff (eqb g.target v) (not (eqb g.number i))).0 g.passes in
        two_processes f a h.1 (rw (eqb-true g.target v t.0) at g.assigns) h.2 (unlike_ne g.number i t.1)

    -- a read at p: what the test of rule 11 on it says of an assignment elsewhere
    elsewhere_breaks : {v : ℕ} {x : Expression} (f : FieldAt m p i (expression x)) → Reads v x →
        Assigned (λ n other u. is_blocking other && eqb u v && not (eqb n.in_process i)) all → Breaks m Rule.ReadElsewhere p
    elsewhere_breaks {v} f r g =
        let h = in_stands (module_nodes 3 m) g.among in
        let t = (and-eq-true_iff (is_blocking g.kind && eqb g.target v) (not (eqb g.number i))).0 g.passes in
        let u = (and-eq-true_iff (is_blocking g.kind) (eqb g.target v)).0 t.0 in
        let a = rw (is_blocking_lem g.kind u.0, eqb-true g.target v u.1) at g.assigns in
        read_elsewhere f r (record { before = h.0; stands = h.2 }) a (unlike_ne g.number i t.1)

  -- a node seen as what it is
  seen_as : {before : List Node} {p : ℕ} (n : Node) {w : What} → n.what ≡ w → Stands (module_nodes 3 m) before p n →
      Stands (module_nodes 3 m) before p (record { in_process = n.in_process; what = w })
  seen_as n e s = rw (← e) s

  test_breaks : (k : Rule) (p : ℕ) (before : List Node) (n : Node) → Stands (module_nodes 3 m) before p n → breaks ds all k before n ≡ true → Breaks m k p
  unfolding breaks
  test_breaks Rule.Value p before n s e = value_breaks p n.in_process n.what (record { before = before; stands = s }) e
  test_breaks Rule.Name p before n s e = name_breaks p n.in_process n.what (record { before = before; stands = s }) e
  test_breaks Rule.Count p before n s e = count_breaks p n.in_process n.what (record { before = before; stands = s }) e
  test_breaks Rule.Reference p before n s e = reference_breaks p n.in_process n.what (record { before = before; stands = s }) e
  test_breaks Rule.Widths p before n s e = widths_breaks p n.in_process n.what (record { before = before; stands = s }) e
  test_breaks Rule.BitNumber p before n s e = bit_breaks p n.in_process n.what (record { before = before; stands = s }) e
  test_breaks Rule.BothKinds p before n s e =
      let test : Kind → ℕ → Bool = λ kind v. some_node (is_assignment (λ other u. eqb u v && not (same_kind other kind))) before in
      let x = assignment_is test n.what e in
      let a = assigns_by_lem test x.0 x.2 in
      kinds_breaks p n.in_process (record { before = before; stands = seen_as n x.1 s }) a.2
      (assigned_among (λ n other u. eqb u a.1 && not (same_kind other a.0)) before a.3)
  test_breaks Rule.TwoProcesses p before n s e =
      let i : ℕ = n.in_process in
      let test : Kind → ℕ → Bool = λ kind v. some_node (λ m. is_assignment (λ other u. eqb u v && not (eqb m.in_process i)) m) before in
      let x = assignment_is test n.what e in
      let a = assigns_by_lem test x.0 x.2 in
      processes_breaks p i (record { before = before; stands = seen_as n x.1 s }) a.2
      (assigned_among (λ n other u. eqb u a.1 && not (eqb n.in_process i)) before a.3)
  test_breaks Rule.ReadElsewhere p before n s e =
      let i : ℕ = n.in_process in
      let test : ℕ → Bool = λ v. some_node (λ m. is_assignment (λ other u. is_blocking other && eqb u v && not (eqb m.in_process i)) m) all in
      let x = read_is test n.what e in
      let r = reads_by_lem test x.0 x.2 in
      elsewhere_breaks p i (record { before = before; stands = seen_as n x.1 s }) r.1
      (assigned_among (λ n other u. is_blocking other && eqb u r.0 && not (eqb n.in_process i)) all r.2)
  test_breaks Rule.FileLength p before n s e = absurd (false≢true e)
  test_breaks Rule.Form p before n s e = absurd (false≢true e)
  test_breaks Rule.Cells p before n s e = absurd (false≢true e)
  test_breaks Rule.Buffer p before n s e = absurd (false≢true e)
  test_breaks Rule.Row p before n s e = absurd (false≢true e)

  -- from the relation to the test
  broken_by : (k : Rule) {p i : ℕ} {w : What} (f : FieldAt m p i w) → breaks ds all k f.before (record { in_process = i; what = w }) ≡ true → BrokenAt m k p
  broken_by k {p} {i} {w} f e = record { before = f.before; node = record { in_process = i; what = w }; stands = f.stands; broken = e }

  -- on a declaration, the tests of a module's field are those of the declaration, or none
  declared_test : (k : Rule) {p i : ℕ} {d : Declaration} (f : FieldAt m p i (declaration d)) → declaration_breaks k (declarations_of f.before) d ≡ true → BrokenAt m k p
  unfolding breaks declaration_breaks
  declared_test Rule.Value f e = broken_by Rule.Value f e
  declared_test Rule.Name f e = broken_by Rule.Name f e
  declared_test Rule.Count f e = broken_by Rule.Count f e
  declared_test Rule.FileLength f e = absurd (false≢true e)
  declared_test Rule.Form f e = absurd (false≢true e)
  declared_test Rule.Reference f e = absurd (false≢true e)
  declared_test Rule.Widths f e = absurd (false≢true e)
  declared_test Rule.BitNumber f e = absurd (false≢true e)
  declared_test Rule.BothKinds f e = absurd (false≢true e)
  declared_test Rule.TwoProcesses f e = absurd (false≢true e)
  declared_test Rule.ReadElsewhere f e = absurd (false≢true e)
  declared_test Rule.Cells f e = absurd (false≢true e)
  declared_test Rule.Buffer f e = absurd (false≢true e)
  declared_test Rule.Row f e = absurd (false≢true e)

  breaks_test : {k : Rule} {p : ℕ} → Breaks m k p → BrokenAt m k p
  unfolding breaks
  breaks_test {k} (declared f h) = declared_test k f (phrase_tested h)
  breaks_test (constant_width {w = w} f h) = broken_by Rule.Value f (or_left (not (is_width w)) _ (no_width h))
  breaks_test (constant_value {w = w} {v = v} f h) = broken_by Rule.Value f (or_right (not (is_width w)) (not_fits w v h))
  breaks_test (process_over f h) = broken_by Rule.Count f (le-leb most_processes (count_processes f.before) h)
  breaks_test (read_missing {v = v} f r h) = broken_by Rule.Reference f (by_reads (missing_variable ds) r (le-leb (length ds) v h))
  breaks_test (assigned_missing {v = v} f a h) =
      broken_by Rule.Reference f (by_assigns (λ kind v. not (register_at ds v)) a (rw (missing_register ds v h)))
  breaks_test (assigned_input {v = v} f a h) =
      broken_by Rule.Reference f (by_assigns (λ kind v. not (register_at ds v)) a (rw (declares_register h)))
  breaks_test (value_target {v = v} {e = e} f n) = broken_by Rule.Widths f (unlike (expression_width ds e) (variable_width ds v) n)
  breaks_test (both_operands {a = a} {b = b} f n) = broken_by Rule.Widths f (unlike (expression_width ds a) (expression_width ds b) n)
  breaks_test (item_selector {w = w} {selector = x} f n) = broken_by Rule.Widths f (unlike w (expression_width ds x) n)
  breaks_test (condition_wide {c = c} f n) = broken_by Rule.Widths f (unlike (expression_width ds c) 1 n)
  breaks_test (bit_value_wide {e = e} f n) = broken_by Rule.Widths f (unlike (expression_width ds e) 1 n)
  breaks_test (bit_read {v = v} {k = k} f h) = broken_by Rule.BitNumber f (le-leb (variable_width ds v) k h)
  breaks_test (bit_assigned {v = v} {k = k} f h) = broken_by Rule.BitNumber f (le-leb (variable_width ds v) k h)
  breaks_test (index_wide {v = v} {index = x} f h) = broken_by Rule.BitNumber f (rw (lt-leb (2 ^ expression_width ds x) (variable_width ds v) h))
  breaks_test (both_kinds {j = j} {v = v} {kind = kind} {other = other} {t = t} f a g b less n) =
      let earlier : Assigned (λ n other u. eqb u v && not (same_kind other kind)) f.before = record {
        number = j;
        text = t;
        kind = other;
        target = v;
        among = smaller_among g f.stands less;
        assigns = b;
        passes = rw (eq-eqb v v refl, kind_other other kind n);
      } in
      broken_by Rule.BothKinds f (by_assigns (λ kind v. some_node (is_assignment (λ other u. eqb u v && not (same_kind other kind))) f.before) a
      (among_assigned (λ n other u. eqb u v && not (same_kind other kind)) f.before earlier))
  breaks_test (two_processes {i = i} {j = j} {v = v} {other = other} {t = t} f a g b less n) =
      let earlier : Assigned (λ n other u. eqb u v && not (eqb n.in_process i)) f.before = record {
        number = j;
        text = t;
        kind = other;
        target = v;
        among = smaller_among g f.stands less;
        assigns = b;
        passes = rw (eq-eqb v v refl, ne_eqb j i n);
      } in
      broken_by Rule.TwoProcesses f
      (by_assigns (λ kind v. some_node (λ m. is_assignment (λ other u. eqb u v && not (eqb m.in_process i)) m) f.before) a
      (among_assigned (λ n other u. eqb u v && not (eqb n.in_process i)) f.before earlier))
  breaks_test (read_elsewhere {i = i} {j = j} {v = v} {t = t} f r g b n) =
      let elsewhere : Assigned (λ n other u. is_blocking other && eqb u v && not (eqb n.in_process i)) all = record {
        number = j;
        text = t;
        kind = Kind.Blocking;
        target = v;
        among = stands_in g.stands;
        assigns = b;
        passes = rw (eq-eqb v v refl, ne_eqb j i n);
      } in
      broken_by Rule.ReadElsewhere f
      (by_reads (λ v. some_node (λ m. is_assignment (λ other u. is_blocking other && eqb u v && not (eqb m.in_process i)) m) all) r
      (among_assigned (λ n other u. is_blocking other && eqb u v && not (eqb n.in_process i)) all elsewhere))

-- the field at p breaks rule k, in 01's words, exactly when a field stands there for which the test is true
pub breaks_node : (m : Module) (k : Rule) (p : ℕ) → Breaks m k p ↔ BrokenAt m k p
breaks_node m k p = (λ b. breaks_test m b, λ f. test_breaks m k p f.before f.node f.stands f.broken)
