-- The survey of the bytes of processes puts their assignments into the table, so that it tells the first assignment to each variable.
-- By induction on the tree, over its bytes with whatever follows them: a field that holds statements is stepped into, every other is passed over.
use Rattle.std.specs.Prelude.{Option, None}
use mathlib.Core.Path.{◌≡◌, refl, sym, ap, ◌∙◌, subst}
use mathlib.Core.List.{List, [], ◌∷◌, ◌++◌, append_assoc}
use Prim.Native.Nat.{ℕ, ◌+◌, ◌≤◌, ◌<◌}
use native.Mathlib.Omega.{arith}
use lib.ListN.{length, get_or, length-append}
use Rattle.tagged.specs.Bytes.{two_bytes, four_bytes}
use Rattle.tagged.specs.Sorts.{tag_of}
use Rattle.tagged.specs.Fields.{field_bytes, all_bytes_of, Placed, unplaced}
use Rattle.tagged.specs.declared.sorts.Kind.{Kind}
use Rattle.tagged.specs.declared.sorts.StatementSort.TheVariants as StatementSort
use Rattle.tagged.specs.declared.sorts.ExpressionSort.{ExpressionSort}
use Rattle.tagged.specs.declared.sorts.Sort.{Sort}
use Rattle.tagged.proofs.SortLaws.{sort_back}
use Rattle.tagged.proofs.FieldLaws.{Whole}
use Rattle.tagged.proofs.ListBytes.{field_whole, field_after, field_length}
use Rattle.verilog.specs.Tree.{Expression, constant, variable, fixed_bit, chosen_bit, one, two, Statement, assign, assign_bit, if_else, case, Block, end, ◌then◌, Items, default, item}
use Rattle.verilog.specs.Form.{expression_field, expression_bytes, statement_bytes, block_payload, items_bytes, process_bytes}
use Rattle.verilog.specs.Nodes.{What, Node, node_at, past, expression_nodes, statement_nodes, block_nodes, items_nodes, process_nodes}
use Rattle.verilog.specs.Fits.{longest_field}
use Rattle.verilog_check.specs.declared.assignments.First.{First}
use Rattle.verilog_check.specs.Tables.{first_by, with_first}
use Rattle.verilog_check.specs.Survey.{step_over, begun_after, noted, survey_from}
use Rattle.verilog_check.proofs.Firsts.{first_in}
use Rattle.verilog_check.proofs.FirstTables.{with_what, with_nodes, nodes_append, table_told}
use Rattle.verilog_check.proofs.SurveySteps.{survey_field, noted_within}

-- bytes that fit into one field, and their parts
abbrev Short : List ℕ → Type 0
Short l = length l ≤ longest_field

short_payload : (tag : ℕ) (payload : List ℕ) → Short (field_bytes tag payload) → Short payload
short_payload tag payload h = omega (arith, h, field_length tag payload)

short_first : (a b : List ℕ) → Short (a ++ b) → Short a
short_first a b h = omega (arith, h, length-append a b)

short_second : (a b : List ℕ) → Short (a ++ b) → Short b
short_second a b h = omega (arith, h, length-append a b)

-- a field that is written, in front of whatever follows: it is passed over, or stepped into
module _ (s : Sort) (payload : List ℕ) (short : Short (field_bytes (tag_of s) payload)) (begun : ℕ) (after : List ℕ) (firsts : List (Option First)) where
  written : Whole (field_bytes (tag_of s) payload ++ after) s (length payload)
  written =
      let h : length payload < 65536 = omega (arith, short, field_length (tag_of s) payload) in
      subst (λ (x : Sort). Whole (field_bytes (tag_of s) payload ++ after) x (length payload)) (sort_back s) (field_whole (tag_of s) payload after h)

  passed_over : step_over s (length payload) ≡ length payload + 3 → begun_after s begun ≡ begun →
      survey_from 0 begun (field_bytes (tag_of s) payload ++ after) firsts ≡ survey_from 0 begun after (noted s (get_or (payload ++ after) 0 0) begun firsts)
  unfolding field_bytes two_bytes
  passed_over over same = survey_field begun _ firsts written ∙ rw (over, same, field_after (tag_of s) payload after)

  stepped_into : step_over s (length payload) ≡ 3 → ((v : ℕ) → noted s v begun firsts ≡ firsts) →
      survey_from 0 begun (field_bytes (tag_of s) payload ++ after) firsts ≡ survey_from 0 (begun_after s begun) (payload ++ after) firsts
  unfolding field_bytes two_bytes
  stepped_into over none = survey_field begun _ firsts written ∙ rw (over, none)

-- the survey of these bytes, in process number p, puts the assignments of these fields into the table
record Surveyed (p : ℕ) (bytes : List ℕ) (nodes : List (Placed Node)) : Type 0 where
  told : (after : List ℕ) (firsts : List (Option First)) → survey_from 0 (p + 1) (bytes ++ after) firsts ≡ survey_from 0 (p + 1) after (with_nodes firsts nodes)

module _ {p : ℕ} where
  -- nothing, or one after the other
  nothing : Surveyed p [] []
  unfolding with_nodes
  nothing = record { told = λ after firsts. refl }

  both : {a b : List ℕ} {m n : List (Placed Node)} → Surveyed p a m → Surveyed p b n → Surveyed p (a ++ b) (m ++ n)
  both {a} {b} {m} {n} x y =
      record {
        told =
            λ after firsts.
            ap (λ (l : List ℕ). survey_from 0 (p + 1) l firsts) (append_assoc a b after) ∙ x.told (b ++ after) firsts ∙ y.told after (with_nodes firsts m)
            ∙ ap (survey_from 0 (p + 1) after) (sym (nodes_append firsts m n));
      }

  -- a field that is no assignment adds nothing
  silent : {at : ℕ} {w : What} {bytes : List ℕ} {nodes : List (Placed Node)} → ((firsts : List (Option First)) → with_what firsts p w ≡ firsts) →
      Surveyed p bytes nodes → Surveyed p bytes (node_at p at w ∷ nodes)
  unfolding with_nodes
  silent {nodes = nodes} none x =
      record { told = λ after firsts. x.told after firsts ∙ ap (λ (t : List (Option First)). survey_from 0 (p + 1) after (with_nodes t nodes)) (sym (none firsts)) }

  -- a field that is stepped into adds what its payload adds
  entered : {payload : List ℕ} {nodes : List (Placed Node)} (s : Sort) → Short (field_bytes (tag_of s) payload) → step_over s (length payload) ≡ 3 →
      begun_after s (p + 1) ≡ p + 1 → ((v : ℕ) (firsts : List (Option First)) → noted s v (p + 1) firsts ≡ firsts) → Surveyed p payload nodes →
      Surveyed p (field_bytes (tag_of s) payload) nodes
  entered {payload} s h over same none x =
      record {
        told =
            λ after firsts.
            stepped_into s payload h (p + 1) after firsts over (λ v. none v firsts)
            ∙ ap (λ (k : ℕ). survey_from 0 k (payload ++ after) firsts) same ∙ x.told after firsts;
      }

  block_entered : (b : Block) {nodes : List (Placed Node)} → Short (field_bytes (tag_of Sort.Block) (block_payload b)) →
      (Short (block_payload b) → Surveyed p (block_payload b) nodes) → Surveyed p (field_bytes (tag_of Sort.Block) (block_payload b)) nodes
  unfolding step_over begun_after noted
  block_entered b h x = entered Sort.Block h refl refl (λ v firsts. refl) (x (short_payload _ (block_payload b) h))

-- an expression holds no assignment
nodes_expression : (p at : ℕ) (e : Expression) (firsts : List (Option First)) → with_nodes firsts (expression_nodes p at e) ≡ firsts
unfolding expression_nodes with_nodes
nodes_expression p at (constant w v) firsts = refl
nodes_expression p at (variable v) firsts = refl
nodes_expression p at (fixed_bit v k) firsts = refl
nodes_expression p at (chosen_bit v e) firsts = nodes_expression p (at + 4) e firsts
nodes_expression p at (one op a) firsts = nodes_expression p (at + 3) a firsts
nodes_expression p at (two op a b) firsts =
    let second : ℕ = at + 3 + length (expression_bytes a) in
    nodes_append firsts (expression_nodes p (at + 3) a) (expression_nodes p second b)
    ∙ ap (λ (t : List (Option First)). with_nodes t (expression_nodes p second b)) (nodes_expression p (at + 3) a firsts)
    ∙ nodes_expression p second b firsts

-- and is passed over
survey_expression : (e : Expression) (p at : ℕ) → Short (expression_bytes e) → Surveyed p (expression_bytes e) (expression_nodes p at e)
unfolding expression_bytes step_over begun_after noted
survey_expression e p at h = record { told = λ after firsts. go e h after firsts ∙ ap (survey_from 0 (p + 1) after) (sym (nodes_expression p at e firsts)) }
  where
    by : (s : ExpressionSort) (payload : List ℕ) → Short (expression_field s payload) → (after : List ℕ) (firsts : List (Option First)) →
        survey_from 0 (p + 1) (expression_field s payload ++ after) firsts ≡ survey_from 0 (p + 1) after firsts
    by s payload h after firsts = passed_over (Sort.Expression s) payload h (p + 1) after firsts refl refl

    go : (e : Expression) → Short (expression_bytes e) → (after : List ℕ) (firsts : List (Option First)) →
        survey_from 0 (p + 1) (expression_bytes e ++ after) firsts ≡ survey_from 0 (p + 1) after firsts
    go (constant w v) h = by ExpressionSort.Constant (w ∷ four_bytes v) h
    go (variable v) h = by ExpressionSort.Variable (v ∷ []) h
    go (fixed_bit v k) h = by ExpressionSort.FixedBit (v ∷ k ∷ []) h
    go (chosen_bit v e) h = by ExpressionSort.ChosenBit (v ∷ expression_bytes e) h
    go (one op a) h = by (ExpressionSort.One op) (expression_bytes a) h
    go (two op a b) h = by (ExpressionSort.Two op) (expression_bytes a ++ expression_bytes b) h

-- an assignment is noted and passed over
survey_assign : (kind : Kind) (v : ℕ) (e : Expression) (p at : ℕ) → Short (statement_bytes (assign kind v e)) →
    Surveyed p (statement_bytes (assign kind v e)) (statement_nodes p at (assign kind v e))
unfolding statement_bytes statement_nodes with_nodes step_over begun_after noted
survey_assign kind v e p at h =
    record {
      told =
          λ after firsts.
          passed_over (Sort.Statement (StatementSort.Assign kind)) (v ∷ expression_bytes e) h (p + 1) after firsts refl refl
          ∙ ap (survey_from 0 (p + 1) after) (noted_within firsts v p kind)
          ∙ ap (survey_from 0 (p + 1) after) (sym (nodes_expression p (at + 4) e (with_first firsts v (first_by (p + 1) kind))));
    }

survey_assign_bit : (kind : Kind) (v k : ℕ) (e : Expression) (p at : ℕ) → Short (statement_bytes (assign_bit kind v k e)) →
    Surveyed p (statement_bytes (assign_bit kind v k e)) (statement_nodes p at (assign_bit kind v k e))
unfolding statement_bytes statement_nodes with_nodes step_over begun_after noted
survey_assign_bit kind v k e p at h =
    record {
      told =
          λ after firsts.
          passed_over (Sort.Statement (StatementSort.AssignBit kind)) (v ∷ k ∷ expression_bytes e) h (p + 1) after firsts refl refl
          ∙ ap (survey_from 0 (p + 1) after) (noted_within firsts v p kind)
          ∙ ap (survey_from 0 (p + 1) after) (sym (nodes_expression p (at + 5) e (with_first firsts v (first_by (p + 1) kind))));
    }

-- statements, blocks and items, by their parts
mutual
  unfolding expression_bytes expression_nodes statement_bytes block_payload items_bytes statement_nodes block_nodes items_nodes step_over begun_after noted

  survey_statement : (s : Statement) (p at : ℕ) → Short (statement_bytes s) → Surveyed p (statement_bytes s) (statement_nodes p at s)
  survey_statement (assign kind v e) p at h = survey_assign kind v e p at h
  survey_statement (assign_bit kind v k e) p at h = survey_assign_bit kind v k e p at h
  survey_statement (if_else c a b) p at h =
      let condition = expression_bytes c in
      let taken = field_bytes (tag_of Sort.Block) (block_payload a) in
      let otherwise = field_bytes (tag_of Sort.Block) (block_payload b) in
      let all : Short (condition ++ taken ++ otherwise) = short_payload _ (condition ++ taken ++ otherwise) h in
      let front : Short (condition ++ taken) = short_first (condition ++ taken) otherwise all in
      let first : ℕ = at + 3 + length condition in
      let second : ℕ = past first (block_payload a) in
      silent (λ firsts. refl)
      (entered (Sort.Statement StatementSort.If) h refl refl (λ v firsts. refl)
      (both
      (both (survey_expression c p (at + 3) (short_first condition taken front)) (block_entered a (short_second condition taken front) (λ k. survey_block a p (first + 3) k)))
      (block_entered b (short_second (condition ++ taken) otherwise all) (λ k. survey_block b p (second + 3) k))))
  survey_statement (case e items) p at h =
      let selector = expression_bytes e in
      let all : Short (selector ++ items_bytes items) = short_payload _ (selector ++ items_bytes items) h in
      silent (λ firsts. refl)
      (entered (Sort.Statement StatementSort.Case) h refl refl (λ v firsts. refl)
      (both (survey_expression e p (at + 3) (short_first selector (items_bytes items) all))
      (survey_items items e p (at + 3 + length selector) (short_second selector (items_bytes items) all))))

  survey_block : (b : Block) (p at : ℕ) → Short (block_payload b) → Surveyed p (block_payload b) (block_nodes p at b)
  survey_block end p at h = nothing
  survey_block (s then b) p at h =
      both (survey_statement s p at (short_first (statement_bytes s) (block_payload b) h))
      (survey_block b p (at + length (statement_bytes s)) (short_second (statement_bytes s) (block_payload b) h))

  survey_items : (items : Items) (e : Expression) (p at : ℕ) → Short (items_bytes items) → Surveyed p (items_bytes items) (items_nodes p at e items)
  survey_items (default b) e p at h = block_entered b h (λ k. survey_block b p (at + 3) k)
  survey_items (item w v b items) e p at h =
      let number = expression_bytes (constant w v) in
      let block = field_bytes (tag_of Sort.Block) (block_payload b) in
      let this = field_bytes (tag_of Sort.Item) (number ++ block) in
      let whole : Short this = short_first this (items_bytes items) h in
      let all : Short (number ++ block) = short_payload _ (number ++ block) whole in
      both
      (silent (λ firsts. refl)
      (entered Sort.Item whole refl refl (λ v firsts. refl)
      (both (survey_expression (constant w v) p (at + 3) (short_first number block all)) (block_entered b (short_second number block all) (λ k. survey_block b p (at + 14) k)))))
      (survey_items items e p (past (at + 11) (block_payload b)) (short_second this (items_bytes items) h))

-- processes, from number p on, which is how many have begun
survey_processes : (ps : List Block) (p at : ℕ) → Short (all_bytes_of process_bytes ps) → (firsts : List (Option First)) →
    survey_from 0 p (all_bytes_of process_bytes ps) firsts ≡ with_nodes firsts (process_nodes p at ps)
unfolding survey_from all_bytes_of process_bytes process_nodes with_nodes step_over begun_after noted
survey_processes [] p at h firsts = refl
survey_processes (b ∷ ps) p at h firsts =
    let later = all_bytes_of process_bytes ps in
    let whole : Short (process_bytes b) = short_first (process_bytes b) later h in
    let next : ℕ = at + length (process_bytes b) in
    stepped_into Sort.Process (block_payload b) whole p later firsts refl (λ v. refl)
    ∙ (survey_block b p (at + 3) (short_payload _ (block_payload b) whole)).told later firsts
    ∙ survey_processes ps (p + 1) next (short_second (process_bytes b) later h) (with_nodes firsts (block_nodes p (at + 3) b))
    ∙ sym (nodes_append firsts (block_nodes p (at + 3) b) (process_nodes (p + 1) next ps))

-- the survey of processes, from a table without assignments, tells the first assignment to each variable that the table has room for
pub survey_firsts : (at : ℕ) (ps : List Block) → length (all_bytes_of process_bytes ps) ≤ longest_field → (firsts : List (Option First)) → ((v : ℕ) → get_or firsts v None ≡ None) →
    (v : ℕ) → v < length firsts → get_or (survey_from 0 0 (all_bytes_of process_bytes ps) firsts) v None ≡ first_in v (unplaced (process_nodes 0 at ps))
survey_firsts at ps h firsts none v within =
    ap (λ (t : List (Option First)). get_or t v None) (survey_processes ps 0 at h firsts) ∙ table_told firsts v (none v) within (process_nodes 0 at ps)
