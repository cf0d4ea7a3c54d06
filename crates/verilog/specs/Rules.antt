-- Refusals 3 to 11 on a module: each rule is a test of one field, given those before it and all of them.
use Rattle.std.specs.Prelude.{Bool, true, false, ◌&&◌, ◌||◌, not, List, [], ◌∷◌, ℕ, ◌+◌, leb, eqb, length}
use Rattle.words.specs.Widths.{is_width, fits_width, index_within}
use Rattle.words.specs.Operators.{one_width, two_width}
use Rattle.tagged.specs.Limits.{most_processes}
use Rattle.tagged.specs.Fields.{unplaced}
use Rattle.tagged.specs.Refusals.{first_broken}
use Rattle.tagged.specs.Declarations.{Declaration, variable_width, register_at, value_broken, name_broken, count_broken}
use Rattle.tagged.specs.declared.sorts.Kind.{Kind}
use Rattle.tagged.specs.declared.answers.Rule.{Rule}
use Rattle.tagged.specs.Answers.{Found}
use Rattle.verilog.specs.Tree.{Expression, constant, variable, fixed_bit, chosen_bit, one, two, Statement, assign, assign_bit, if_else, case, Module}
use Rattle.verilog.specs.Nodes.{What, declaration, process, expression, statement, item_of, Node, module_nodes}

-- width of an expression: a constant's or variable's own; 1 for 22, 23, 29, 2A; otherwise that of its first operand
unfoldable pub expression_width : List Declaration → Expression → ℕ
expression_width ds (constant w v) = w
expression_width ds (variable v) = variable_width ds v
expression_width ds (fixed_bit v k) = 1
expression_width ds (chosen_bit v e) = 1
expression_width ds (one op a) = one_width op (expression_width ds a)
expression_width ds (two op a b) = two_width op (expression_width ds a)

-- the declarations among some fields
abbrev pub with_declaration : What → List Declaration → List Declaration
with_declaration (declaration d) ds = d ∷ ds
with_declaration process ds = ds
with_declaration (expression e) ds = ds
with_declaration (statement s) ds = ds
with_declaration (item_of e w) ds = ds

abbrev pub declarations_of : List Node → List Declaration
declarations_of [] = []
declarations_of (n ∷ l) = with_declaration n.what (declarations_of l)

-- does one of the fields pass the test?
abbrev pub some_node : (Node → Bool) → List Node → Bool
some_node test [] = false
some_node test (n ∷ l) = test n || some_node test l

-- is a statement an assignment of a kind to a variable that pass the test?
abbrev pub assigns_by : (Kind → ℕ → Bool) → Statement → Bool
assigns_by test (assign kind v e) = test kind v
assigns_by test (assign_bit kind v k e) = test kind v
assigns_by test (if_else c a b) = false
assigns_by test (case e items) = false

-- is an expression a read of a variable that passes the test?
abbrev pub reads_by : (ℕ → Bool) → Expression → Bool
reads_by test (constant w v) = false
reads_by test (variable v) = test v
reads_by test (fixed_bit v k) = test v
reads_by test (chosen_bit v e) = test v
reads_by test (one op a) = false
reads_by test (two op a b) = false

-- by what the field is: a test for each
abbrev pub by_field : (Declaration → Bool) → Bool → (Expression → Bool) → (Statement → Bool) → (Expression → ℕ → Bool) → What → Bool
by_field d p e s i (declaration x) = d x
by_field d p e s i process = p
by_field d p e s i (expression x) = e x
by_field d p e s i (statement x) = s x
by_field d p e s i (item_of x w) = i x w

abbrev pub is_assignment : (Kind → ℕ → Bool) → Node → Bool
is_assignment test n = by_field (λ d. false) false (λ e. false) (assigns_by test) (λ e w. false) n.what

abbrev pub is_read : (ℕ → Bool) → Node → Bool
is_read test n = by_field (λ d. false) false (reads_by test) (λ s. false) (λ e w. false) n.what

abbrev pub is_blocking : Kind → Bool
is_blocking Kind.Blocking = true
is_blocking Kind.NonBlocking = false

abbrev pub same_kind : Kind → Kind → Bool
same_kind Kind.Blocking k = is_blocking k
same_kind Kind.NonBlocking k = not (is_blocking k)

-- one more where the test holds
abbrev pub one_more : Bool → ℕ → ℕ
one_more true n = n + 1
one_more false n = n

-- how many processes there are among some fields
abbrev pub count_processes : List Node → ℕ
count_processes [] = 0
count_processes (n ∷ l) = one_more (by_field (λ d. false) true (λ e. false) (λ s. false) (λ e w. false) n.what) (count_processes l)

-- 3: width 0 or over 32; a value not below 2 to its width
abbrev pub constant_broken : Expression → Bool
constant_broken (constant w v) = not (is_width w) || not (fits_width w v)
constant_broken (variable v) = false
constant_broken (fixed_bit v k) = false
constant_broken (chosen_bit v e) = false
constant_broken (one op a) = false
constant_broken (two op a b) = false

-- 6: a variable number that does not exist; an assignment to what is no register
abbrev pub missing_variable : List Declaration → ℕ → Bool
missing_variable ds v = leb (length ds) v

-- 7: operands that differ; an assignment's value against its target, or for one bit not of width 1; a condition not of width 1
abbrev pub operands_differ : List Declaration → Expression → Bool
operands_differ ds (constant w v) = false
operands_differ ds (variable v) = false
operands_differ ds (fixed_bit v k) = false
operands_differ ds (chosen_bit v e) = false
operands_differ ds (one op a) = false
operands_differ ds (two op a b) = not (eqb (expression_width ds a) (expression_width ds b))

abbrev pub statement_differs : List Declaration → Statement → Bool
statement_differs ds (assign kind v e) = not (eqb (expression_width ds e) (variable_width ds v))
statement_differs ds (assign_bit kind v k e) = not (eqb (expression_width ds e) 1)
statement_differs ds (if_else c a b) = not (eqb (expression_width ds c) 1)
statement_differs ds (case e items) = false

-- 8: a bit number not below the vector's width; an index that could name a bit outside
abbrev pub read_outside : List Declaration → Expression → Bool
read_outside ds (constant w v) = false
read_outside ds (variable v) = false
read_outside ds (fixed_bit v k) = leb (variable_width ds v) k
read_outside ds (chosen_bit v e) = not (index_within (expression_width ds e) (variable_width ds v))
read_outside ds (one op a) = false
read_outside ds (two op a b) = false

abbrev pub write_outside : List Declaration → Statement → Bool
write_outside ds (assign kind v e) = false
write_outside ds (assign_bit kind v k e) = leb (variable_width ds v) k
write_outside ds (if_else c a b) = false
write_outside ds (case e items) = false

-- does a field, after those before it and among all of them, break this rule?
unfoldable pub breaks : List Declaration → List Node → Rule → List Node → Node → Bool
breaks ds all Rule.Value earlier n = by_field value_broken false constant_broken (λ s. false) (λ e w. false) n.what
breaks ds all Rule.Name earlier n = by_field (name_broken (declarations_of earlier)) false (λ e. false) (λ s. false) (λ e w. false) n.what
breaks ds all Rule.Count earlier n =
    by_field (count_broken (declarations_of earlier)) (leb most_processes (count_processes earlier)) (λ e. false) (λ s. false) (λ e w. false) n.what
breaks ds all Rule.Reference earlier n =
    by_field (λ d. false) false (reads_by (missing_variable ds)) (assigns_by (λ kind v. not (register_at ds v))) (λ e w. false) n.what
breaks ds all Rule.Widths earlier n =
    by_field (λ d. false) false (operands_differ ds) (statement_differs ds) (λ e w. not (eqb w (expression_width ds e))) n.what
breaks ds all Rule.BitNumber earlier n = by_field (λ d. false) false (read_outside ds) (write_outside ds) (λ e w. false) n.what
breaks ds all Rule.BothKinds earlier n =
    is_assignment (λ kind v. some_node (is_assignment (λ other u. eqb u v && not (same_kind other kind))) earlier) n
breaks ds all Rule.TwoProcesses earlier n =
    is_assignment (λ kind v. some_node (λ m. is_assignment (λ other u. eqb u v && not (eqb m.in_process n.in_process)) m) earlier) n
breaks ds all Rule.ReadElsewhere earlier n =
    is_read (λ v. some_node (λ m. is_assignment (λ other u. is_blocking other && eqb u v && not (eqb m.in_process n.in_process)) m) all) n
breaks ds all Rule.FileLength earlier n = false
breaks ds all Rule.Form earlier n = false
breaks ds all Rule.Cells earlier n = false
breaks ds all Rule.Buffer earlier n = false
breaks ds all Rule.Row earlier n = false

-- the first place that breaks a rule, of a module whose payload starts at `base`
unfoldable pub module_broken : ℕ → Module → Rule → Found
module_broken base m rule =
    first_broken (breaks m.declarations (unplaced (module_nodes base m)) rule) [] (module_nodes base m)
