-- A tree that is accepted is typed: acceptance leaves no field that breaks refusal 3, 6, 7 or 8, and by the shape of the tree that is `TypedModule`.
-- By induction on the tree, splitting its list of fields. Assumes nothing.
use mathlib.Core.Path.{◌≡◌, refl}
use mathlib.Core.Bool.{Bool, true, false, not}
use mathlib.Core.List.Memᴰ
use mathlib.Core.List.{List, [], ◌∷◌, ◌++◌, Memᴰ}
use Prim.Native.Nat.{ℕ, ◌+◌}
use lib.Dec.{eqb}
use lib.ListN.{length}
use borrow.Author.Tests.{eqb-true, leb-false, not-false}
use Rattle.words.specs.Widths.{is_width, fits_width, index_within}
use Rattle.tagged.specs.Fields.{Placed, unplaced, all_bytes_of}
use Rattle.tagged.specs.Declarations.{Declaration, input, register, width_of, variable_width, register_at, declaration_bytes, value_broken}
use Rattle.tagged.specs.declared.answers.Rule.{Rule}
use Rattle.tagged.specs.Answers.{acceptance}
use Rattle.verilog.specs.Tree.{Expression, constant, variable, fixed_bit, chosen_bit, one, two, Statement, assign, assign_bit, if_else, case, Block, end, ◌then◌, Items, default, item, Module}
use Rattle.verilog.specs.Form.{expression_bytes, statement_bytes, block_payload, process_bytes}
use Rattle.verilog.specs.Nodes.{Node, past, expression_nodes, statement_nodes, block_nodes, items_nodes, process_nodes, declaration_nodes, module_nodes}
use Rattle.verilog.specs.Rules.{expression_width, breaks, module_broken}
use Rattle.verilog.specs.Answer.{tree_answer, module_rules}
use Rattle.verilog.proofs.Typed.{Typed, constant_fits, variable_there, bit_inside, index_inside, one_typed, two_typed, TypedStatement, assign_typed, assign_bit_typed, if_else_typed, case_typed, TypedBlock, end_typed, then_typed, TypedItems, default_typed, item_typed, TypedAll, none_typed, more_typed, WidthsFit, no_widths, more_widths, TypedModule}
use Rattle.tagged.proofs.TestLaws.{neither}
use Rattle.tagged.proofs.RefusalLaws.{nowhere_passes, NoneBroken, more, accepted_none}
use Rattle.tagged.proofs.PlaceLaws.{placed_stands}

-- a field that breaks none of the four rules; the fields before it and all of them do not matter
pub record Fine (ds : List Declaration) (n : Node) : Type 0 where
  pub value : breaks ds [] Rule.Value [] n ≡ false
  pub reference : breaks ds [] Rule.Reference [] n ≡ false
  pub widths : breaks ds [] Rule.Widths [] n ≡ false
  pub bit_number : breaks ds [] Rule.BitNumber [] n ≡ false

-- so for each of these fields
abbrev pub AllFine : List Declaration → List (Placed Node) → Type 0
AllFine ds l = (n : Placed Node) → Memᴰ n l → Fine ds n.what

module _ {ds : List Declaration} where
  fine_first : {n : Placed Node} {l : List (Placed Node)} → AllFine ds (n ∷ l) → Fine ds n.what
  fine_first {n} h = h n (Memᴰ.head refl)

  fine_rest : {n : Placed Node} {l : List (Placed Node)} → AllFine ds (n ∷ l) → AllFine ds l
  fine_rest h n m = h n (Memᴰ.tail m)

  fine_split : (a : List (Placed Node)) {b : List (Placed Node)} → AllFine ds (a ++ b) → AllFine ds a × AllFine ds b
  fine_split a {b} h = (λ n m. h n (Memᴰ.append_left b m), λ n m. h n (Memᴰ.append_right a m))

pub fine_expression_typed : {ds : List Declaration} (e : Expression) (p at : ℕ) → AllFine ds (expression_nodes p at e) → Typed ds e
unfolding expression_nodes breaks
fine_expression_typed (constant w v) p at h =
    let both = neither (not (is_width w)) (not (fits_width w v)) (fine_first h).value in
    constant_fits (not-false (is_width w) both.0) (not-false (fits_width w v) both.1)
fine_expression_typed {ds} (variable v) p at h = variable_there (leb-false (length ds) v (fine_first h).reference)
fine_expression_typed {ds} (fixed_bit v k) p at h =
    bit_inside (leb-false (length ds) v (fine_first h).reference) (leb-false (variable_width ds v) k (fine_first h).bit_number)
fine_expression_typed {ds} (chosen_bit v e) p at h =
    index_inside (leb-false (length ds) v (fine_first h).reference) (fine_expression_typed e p (at + 4) (fine_rest h))
    (not-false (index_within (expression_width ds e) (variable_width ds v)) (fine_first h).bit_number)
fine_expression_typed (one op a) p at h = one_typed (fine_expression_typed a p (at + 3) (fine_rest h))
fine_expression_typed {ds} (two op a b) p at h =
    let both = fine_split (expression_nodes p (at + 3) a) (fine_rest h) in
    two_typed (fine_expression_typed a p (at + 3) both.0) (fine_expression_typed b p (at + 3 + length (expression_bytes a)) both.1)
    (eqb-true (expression_width ds a) (expression_width ds b) (not-false (eqb (expression_width ds a) (expression_width ds b)) (fine_first h).widths))

mutual
  unfolding statement_nodes block_nodes items_nodes breaks

  pub fine_statement_typed : {ds : List Declaration} (s : Statement) (p at : ℕ) → AllFine ds (statement_nodes p at s) → TypedStatement ds s
  fine_statement_typed {ds} (assign kind v e) p at h =
      assign_typed (not-false (register_at ds v) (fine_first h).reference) (fine_expression_typed e p (at + 4) (fine_rest h))
      (eqb-true (expression_width ds e) (variable_width ds v) (not-false (eqb (expression_width ds e) (variable_width ds v)) (fine_first h).widths))
  fine_statement_typed {ds} (assign_bit kind v k e) p at h =
      assign_bit_typed (not-false (register_at ds v) (fine_first h).reference) (leb-false (variable_width ds v) k (fine_first h).bit_number)
      (fine_expression_typed e p (at + 5) (fine_rest h)) (eqb-true (expression_width ds e) 1 (not-false (eqb (expression_width ds e) 1) (fine_first h).widths))
  fine_statement_typed {ds} (if_else c a b) p at h =
      let first : ℕ = at + 3 + length (expression_bytes c) in
      let outer = fine_split (expression_nodes p (at + 3) c ++ block_nodes p (first + 3) a) (fine_rest h) in
      let inner = fine_split (expression_nodes p (at + 3) c) outer.0 in
      if_else_typed (fine_expression_typed c p (at + 3) inner.0) (eqb-true (expression_width ds c) 1 (not-false (eqb (expression_width ds c) 1) (fine_first h).widths))
      (fine_block_typed a p (first + 3) inner.1) (fine_block_typed b p (past first (block_payload a) + 3) outer.1)
  fine_statement_typed {ds} (case e items) p at h =
      let both = fine_split (expression_nodes p (at + 3) e) (fine_rest h) in
      case_typed (fine_expression_typed e p (at + 3) both.0) (fine_items_typed items e p (at + 3 + length (expression_bytes e)) both.1)

  pub fine_block_typed : {ds : List Declaration} (b : Block) (p at : ℕ) → AllFine ds (block_nodes p at b) → TypedBlock ds b
  fine_block_typed end p at h = end_typed
  fine_block_typed (s then b) p at h =
      let both = fine_split (statement_nodes p at s) h in
      then_typed (fine_statement_typed s p at both.0) (fine_block_typed b p (at + length (statement_bytes s)) both.1)

  pub fine_items_typed : {ds : List Declaration} (items : Items) (e : Expression) (p at : ℕ) → AllFine ds (items_nodes p at e items) →
      TypedItems ds (expression_width ds e) items
  fine_items_typed (default b) e p at h = default_typed (fine_block_typed b p (at + 3) h)
  fine_items_typed {ds} (item w v b items) e p at h =
      let fits = neither (not (is_width w)) (not (fits_width w v)) (fine_first (fine_rest h)).value in
      let both = fine_split (block_nodes p (at + 14) b) (fine_rest (fine_rest h)) in
      item_typed (not-false (is_width w) fits.0) (not-false (fits_width w v) fits.1)
      (eqb-true w (expression_width ds e) (not-false (eqb w (expression_width ds e)) (fine_first h).widths))
      (fine_block_typed b p (at + 14) both.0) (fine_items_typed items e p (past (at + 11) (block_payload b)) both.1)

pub fine_processes_typed : {ds : List Declaration} (l : List Block) (p at : ℕ) → AllFine ds (process_nodes p at l) → TypedAll ds l
unfolding process_nodes
fine_processes_typed [] p at h = none_typed
fine_processes_typed (b ∷ l) p at h =
    let both = fine_split (block_nodes p (at + 3) b) (fine_rest h) in
    more_typed (fine_block_typed b p (at + 3) both.0) (fine_processes_typed l (p + 1) (at + length (process_bytes b)) both.1)

fine_width : (d : Declaration) → value_broken d ≡ false → is_width (width_of d) ≡ true
unfolding value_broken
fine_width (input w name) e = not-false (is_width w) e
fine_width (register w initial name) e = not-false (is_width w) (neither (not (is_width w)) (not (fits_width w initial)) e).0

pub fine_declarations_fit : {ds : List Declaration} (l : List Declaration) (at : ℕ) → AllFine ds (declaration_nodes at l) → WidthsFit l
unfolding declaration_nodes breaks
fine_declarations_fit [] at h = no_widths
fine_declarations_fit (d ∷ l) at h =
    more_widths (fine_width d (fine_first h).value) (fine_declarations_fit l (at + length (declaration_bytes d)) (fine_rest h))

-- no rule has a place in a module that is accepted, so each field passes after those before it
pub accepted_fine : (base : ℕ) (m : Module) → tree_answer base m ≡ acceptance → AllFine m.declarations (module_nodes base m)
unfolding tree_answer module_broken breaks
accepted_fine base m e = go (accepted_none (module_broken base m) module_rules e)
  where
    test : Rule → List Node → Node → Bool
    test = breaks m.declarations (unplaced (module_nodes base m))

    go : NoneBroken (module_broken base m) module_rules → AllFine m.declarations (module_nodes base m)
    go (more value (more name (more count (more reference (more widths (more bits others)))))) n i =
        let s = placed_stands (module_nodes base m) i in
        record {
          value = nowhere_passes (test Rule.Value) [] s.1 value;
          reference = nowhere_passes (test Rule.Reference) [] s.1 reference;
          widths = nowhere_passes (test Rule.Widths) [] s.1 widths;
          bit_number = nowhere_passes (test Rule.BitNumber) [] s.1 bits;
        }

pub accepted_typed : (base : ℕ) (m : Module) → tree_answer base m ≡ acceptance → TypedModule m
unfolding module_nodes
accepted_typed base m e =
    let both = fine_split (declaration_nodes base m.declarations) (accepted_fine base m e) in
    record {
      widths = fine_declarations_fit m.declarations base both.0;
      processes = fine_processes_typed m.processes 0 (base + length (all_bytes_of declaration_bytes m.declarations)) both.1;
    }
