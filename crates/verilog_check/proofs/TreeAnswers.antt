-- The answer that the code gives for a file to which refusals 1 and 2 do not apply is the tree's: its parts are the declarations and the processes,
-- the walk over the bytes comes to the tree's fields, and by the tables each rule has its own first place, as long as no lower one has any.
use Rattle.std.specs.Prelude.{Option, Ok, None}
use mathlib.Core.Path.{◌≡◌, refl, sym, ap, ap₂, ◌∙◌}
use mathlib.Core.Bool.{Bool, false}
use mathlib.Core.List.{List, [], ◌∷◌, map}
use Prim.Native.Nat.{ℕ, ◌+◌, ◌≤◌, ◌<◌}
use native.Mathlib.Omega.{arith}
use lib.ListN.{length, get_or, take, drop, length-append, length-drop}
use lib.Seq.{take-append_seam}
use Rattle.tagged.specs.Limits.{longest_module, most_variables}
use Rattle.tagged.specs.Bytes.{AllBytes}
use Rattle.tagged.specs.Fields.{Placed, all_bytes_of, fields_at, passed_bytes, unplaced, placed_by}
use Rattle.tagged.specs.Files.{file_answer}
use Rattle.tagged.specs.Refusals.{first_broken, or_else, found_if, first_refusal, lower_refusal}
use Rattle.tagged.specs.Answers.{acceptance, number_of, Found, Answer}
use Rattle.tagged.specs.Declarations.{Declaration, width_of, is_register, declaration_bytes, declaration_breaks, declaration_broken, declaration_rules, declarations_answer, declarations_step, declarations_at, declarations_in, variable_table}
use Rattle.tagged.specs.declared.declarations.VariableTable.{VariableTable}
use Rattle.tagged.specs.declared.answers.Rule.{Rule}
use Rattle.tagged.proofs.FileLaws.{file_fits}
use Rattle.tagged.proofs.RefusalLaws.{Agrees, agree_none, agree_more, same_refusal, passes_nowhere, Rising, order_rising}
use Rattle.tagged.proofs.LowerLaws.{refusal_both, refusal_same}
use Rattle.tagged.proofs.FoundLaws.{or_nowhere}
use Rattle.tagged.proofs.DeclarationSizes.{variables_few}
use Rattle.tagged.proofs.DeclarationRules.{declared_only}
use Rattle.tagged.proofs.TableLaws.{widths_known, marks_known}
use Rattle.verilog.specs.Tree.{Expression, constant, Module}
use Rattle.verilog.specs.Form.{process_bytes, module_payload, module_form}
use Rattle.verilog.specs.Reading.{tree_in, module_in}
use Rattle.verilog.specs.Nodes.{item_of}
use Rattle.verilog.specs.Rules.{expression_width, breaks, module_broken}
use Rattle.verilog.specs.Answer.{module_rules, tree_answer}
use Rattle.verilog.specs.Fits.{FitsModule, module_depth, processes_depth}
use Rattle.verilog.proofs.FormFits.{form_fits}
use Rattle.verilog.proofs.DeclarationsKept.{declarations_kept}
use Rattle.verilog.proofs.ModuleBytes.{PayloadRead, form_read}
use Rattle.verilog_check.specs.declared.assignments.First.{First}
use Rattle.verilog_check.specs.Tables.{variables_of}
use Rattle.verilog_check.specs.Judged.{judged, judged_in, field_answer}
use Rattle.verilog_check.specs.Walk.{walk_processes}
use Rattle.verilog_check.specs.Survey.{survey_from}
use Rattle.verilog_check.proofs.Firsts.{first_in}
use Rattle.verilog_check.proofs.WalkFields.{lowest_first}
use Rattle.verilog_check.proofs.WalkLaws.{walk_processes_lem}
use Rattle.verilog_check.proofs.SurveyLaws.{survey_firsts}
use Rattle.verilog_check.proofs.TableTests.{of_reference, of_widths, of_bit_number}
use Rattle.verilog_check.proofs.TestsByFirst.{of_both_kinds, of_two_processes}
use Rattle.verilog_check.proofs.RulesByTables.{after_declared, process_fields, found_by, value_found, name_found, count_found, tables_found}
use Rattle.verilog_check.proofs.FirstAssignments.{assignments_found, reads_found}

-- an item's test asks for no more of its case's selector than the width
like_selector : (widths : List ℕ) (marks : List Bool) (firsts : List (Option First)) (rule : Rule) (p : ℕ) (e : Expression) (w : ℕ) →
    judged_in widths marks firsts rule p (item_of e w) ≡ judged_in widths marks firsts rule p (item_of (constant (expression_width (variables_of widths) e) 0) w)
unfolding judged breaks expression_width
like_selector widths marks firsts Rule.FileLength p e w = refl
like_selector widths marks firsts Rule.Form p e w = refl
like_selector widths marks firsts Rule.Value p e w = refl
like_selector widths marks firsts Rule.Name p e w = refl
like_selector widths marks firsts Rule.Count p e w = refl
like_selector widths marks firsts Rule.Reference p e w = refl
like_selector widths marks firsts Rule.Widths p e w = refl
like_selector widths marks firsts Rule.BitNumber p e w = refl
like_selector widths marks firsts Rule.BothKinds p e w = refl
like_selector widths marks firsts Rule.TwoProcesses p e w = refl
like_selector widths marks firsts Rule.ReadElsewhere p e w = refl
like_selector widths marks firsts Rule.Cells p e w = refl
like_selector widths marks firsts Rule.Buffer p e w = refl
like_selector widths marks firsts Rule.Row p e w = refl

-- so for the answer
like_answer : (widths : List ℕ) (marks : List Bool) (firsts : List (Option First)) (p : ℕ) (e : Expression) (w at : ℕ) →
    field_answer widths marks firsts p (item_of e w) at ≡ field_answer widths marks firsts p (item_of (constant (expression_width (variables_of widths) e) 0) w) at
like_answer widths marks firsts p e w at =
    refusal_same _ _ (λ rule. ap (λ (broken : Bool). found_if broken at) (like_selector widths marks firsts rule p e w)) module_rules

-- the rules of document 01 are looked for in rising order
in_order_lem : Rising 0 module_rules
unfolding number_of
in_order_lem = order_rising 0 module_rules refl

-- the parts of a file
module _ (file : List ℕ) (bytes : AllBytes file) (accepted : file_answer longest_module file ≡ acceptance) (formed : module_form file ≡ Ok (length file))
    (payload : List ℕ) (part : payload ≡ drop 3 file) where
  abbrev m : Module
  m = module_in file

  pub payload_long : length payload ≤ 16381
  payload_long = let fits = file_fits longest_module file accepted in omega (arith, ap length part, length-drop 3 file, fits.short)

  read : PayloadRead 3 (drop 3 file)
  read = form_read file bytes accepted (length file) formed

  pub tree_fits : FitsModule (module_in file)
  tree_fits = form_fits file bytes accepted (length file) formed

  pub processes_deep : processes_depth (module_in file).processes ≤ 31
  unfolding module_depth
  processes_deep = omega (arith, tree_fits.deep)

  -- what follows the declarations
  module _ (taken : ℕ) (count : taken ≡ passed_bytes (declarations_step 0 0 payload)) (list : List ℕ) (rest : list ≡ drop taken payload) where
    pub taken_is : taken ≡ length (all_bytes_of declaration_bytes (module_in file).declarations)
    taken_is = count ∙ ap (λ (l : List ℕ). passed_bytes (declarations_step 0 0 l)) part ∙ read.declared

    pub list_is : list ≡ all_bytes_of process_bytes (module_in file).processes
    list_is =
        let bytes-taken : taken ≡ passed_bytes (declarations_step 0 0 (drop 3 file)) = count ∙ ap (λ (l : List ℕ). passed_bytes (declarations_step 0 0 l)) part in
        rest ∙ ap₂ (λ (k : ℕ) (l : List ℕ). drop k l) bytes-taken part ∙ read.processes

    pub declared_is : (front : List ℕ) → front ≡ take taken payload → front ≡ all_bytes_of declaration_bytes (module_in file).declarations
    unfolding module_payload
    declared_is front head =
        head ∙ ap₂ take taken_is (part ∙ sym read.written)
        ∙ take-append_seam (all_bytes_of declaration_bytes (module_in file).declarations) (all_bytes_of process_bytes (module_in file).processes)

    whole_length : length (all_bytes_of declaration_bytes (module_in file).declarations) + length (all_bytes_of process_bytes (module_in file).processes) ≡ length (drop 3 file)
    unfolding module_payload
    whole_length =
        sym (length-append (all_bytes_of declaration_bytes (module_in file).declarations) (all_bytes_of process_bytes (module_in file).processes)) ∙ ap length read.written

    pub list_long : 3 + taken + length list ≤ 16384
    list_long = omega (arith, taken_is, ap length list_is, whole_length, ap length part, payload_long)

    -- what the code finds, by any tables
    module _ (widths : List ℕ) (marks : List Bool) (firsts : List (Option First)) where
      -- the first place of a rule
      abbrev looked : Rule → Found
      looked rule = or_else (declaration_broken rule 3 m.declarations) (found_by widths marks firsts 3 m rule)

      declared_answer : declarations_answer 3 payload ≡ first_refusal (λ rule. declaration_broken rule 3 m.declarations) module_rules
      unfolding number_of
      declared_answer =
          ap (λ (l : List (Placed Declaration)). first_refusal (λ rule. first_broken (declaration_breaks rule) [] l) declaration_rules) (ap (declarations_at 3) part ∙ read.places)
          ∙ sym (declared_only (Rule.Reference ∷ Rule.Widths ∷ Rule.BitNumber ∷ Rule.BothKinds ∷ Rule.TwoProcesses ∷ Rule.ReadElsewhere ∷ []) refl
          (placed_by declaration_bytes 3 m.declarations))

      walked : walk_processes (field_answer widths marks firsts) (expression_width (variables_of widths)) 0 (fields_at (3 + taken) list) ≡ first_refusal (found_by widths marks firsts 3 m) module_rules
      walked =
          ap₂ (λ (base : ℕ) (l : List ℕ). walk_processes (field_answer widths marks firsts) (expression_width (variables_of widths)) 0 (fields_at base l))
          (ap (λ (k : ℕ). 3 + k) taken_is) list_is
          ∙ walk_processes_lem (field_answer widths marks firsts) (expression_width (variables_of widths)) (like_answer widths marks firsts) (after_declared 3 m) m.processes
          tree_fits.processes processes_deep (omega (arith, list_long, ap length list_is))
          ∙ lowest_first (judged widths marks firsts) in_order_lem (process_fields 3 m)

      found : lower_refusal (declarations_answer 3 payload)
          (walk_processes (field_answer widths marks firsts) (expression_width (variables_of widths)) 0 (fields_at (3 + taken) list)) ≡ first_refusal looked module_rules
      found = ap₂ lower_refusal declared_answer walked ∙ sym (refusal_both (λ rule. declaration_broken rule 3 m.declarations) (found_by widths marks firsts 3 m) in_order_lem)

    -- the first assignments that the code finds
    module _ (empty : List (Option First)) (room : length empty ≡ most_variables) (none : (v : ℕ) → get_or empty v None ≡ None) (firsts : List (Option First))
        (surveyed : firsts ≡ survey_from 0 0 list empty) where
      pub firsts_told : (v : ℕ) → v < most_variables → get_or firsts v None ≡ first_in v (unplaced (process_fields 3 m))
      firsts_told v few =
          ap (λ (l : List (Option First)). get_or l v None) (surveyed ∙ ap (λ (l : List ℕ). survey_from 0 0 l empty) list_is)
          ∙ survey_firsts (after_declared 3 m) m.processes (omega (arith, list_long, ap length list_is)) empty none v (omega (arith, room))

    -- the tables that the code makes
    module _ (table : VariableTable) (made : table ≡ variable_table (declarations_in payload)) (told : ℕ) (whole : table.count ≤ most_variables → told ≡ table.count)
        (empty : List (Option First)) (room : length empty ≡ most_variables) (none : (v : ℕ) → get_or empty v None ≡ None) (firsts : List (Option First)) (surveyed : firsts ≡ survey_from 0 0 list empty) where
      known : (v : ℕ) → v < most_variables → get_or firsts v None ≡ first_in v (unplaced (process_fields 3 m))
      known = firsts_told empty room none firsts surveyed

      declared : declarations_in payload ≡ m.declarations
      unfolding tree_in
      declared = ap declarations_in part

      made_of : table ≡ variable_table m.declarations
      made_of = made ∙ ap variable_table declared

      abbrev widths : List ℕ
      widths = take told table.widths

      abbrev marks : List Bool
      marks = take told table.registers

      -- a rule that no declaration breaks is looked for among the processes
      among_processes : (rule : Rule) → ((earlier : List Declaration) (d : Declaration) → declaration_breaks rule earlier d ≡ false) →
          looked widths marks firsts rule ≡ found_by widths marks firsts 3 m rule
      among_processes rule never =
          ap (λ (f : Found). or_else f (found_by widths marks firsts 3 m rule))
          (passes_nowhere (declaration_breaks rule) [] (placed_by declaration_bytes 3 m.declarations) (λ before p d s. never before d))

      -- rules 9 to 11, after rule 6
      late : length m.declarations ≤ most_variables → module_broken 3 m Rule.Reference ≡ None →
          Agrees (module_broken 3 m) (looked widths marks firsts) (Rule.BothKinds ∷ Rule.TwoProcesses ∷ Rule.ReadElsewhere ∷ [])
      unfolding declaration_breaks
      late few existing =
          agree_more (assignments_found 3 m widths marks firsts known few existing of_both_kinds ∙ sym (among_processes Rule.BothKinds (λ earlier d. refl)))
          (λ kinds. agree_more (assignments_found 3 m widths marks firsts known few existing of_two_processes ∙ sym (among_processes Rule.TwoProcesses (λ earlier d. refl)))
          (λ processes. agree_more (reads_found 3 m widths marks firsts known few existing kinds processes ∙ sym (among_processes Rule.ReadElsewhere (λ earlier d. refl)))
          (λ reads. agree_none)))

      -- rules 6 to 8, after rule 5
      middle : length m.declarations ≤ most_variables → Agrees (module_broken 3 m) (looked widths marks firsts)
          (Rule.Reference ∷ Rule.Widths ∷ Rule.BitNumber ∷ Rule.BothKinds ∷ Rule.TwoProcesses ∷ Rule.ReadElsewhere ∷ [])
      unfolding declaration_breaks
      middle few =
          let sized : widths ≡ map width_of m.declarations = sym (widths_known m.declarations table made_of told whole few) in
          let marked : marks ≡ map is_register m.declarations = sym (marks_known m.declarations table made_of told whole few) in
          agree_more (tables_found 3 m widths marks firsts sized marked of_reference ∙ sym (among_processes Rule.Reference (λ earlier d. refl)))
          (λ existing. agree_more (tables_found 3 m widths marks firsts sized marked of_widths ∙ sym (among_processes Rule.Widths (λ earlier d. refl)))
          (λ like. agree_more (tables_found 3 m widths marks firsts sized marked of_bit_number ∙ sym (among_processes Rule.BitNumber (λ earlier d. refl)))
          (λ inside. late few existing)))

      -- rule 4 is looked for among the declarations; no field of a process breaks it
      named : module_broken 3 m Rule.Name ≡ looked widths marks firsts Rule.Name
      unfolding judged
      named =
          name_found 3 m
          ∙ sym (ap (or_else (declaration_broken Rule.Name 3 m.declarations)) (passes_nowhere (λ earlier n. judged widths marks firsts Rule.Name n) [] (process_fields 3 m) (λ before p n s. refl))
          ∙ or_nowhere (declaration_broken Rule.Name 3 m.declarations))

      all_agree_lem : Agrees (module_broken 3 m) (looked widths marks firsts) module_rules
      all_agree_lem =
          agree_more (value_found 3 m widths marks firsts)
          (λ values. agree_more named
          (λ names. agree_more (count_found 3 m widths marks firsts)
          (λ counts. middle (variables_few 3 m.declarations (declarations_kept m 3 Rule.Count counts)))))

      pub answered : (declared walked answer : Answer) →
          declared ≡ declarations_answer 3 payload →
          walked ≡ walk_processes (field_answer widths marks firsts) (expression_width (variables_of widths)) 0 (fields_at (3 + taken) list) →
          answer ≡ lower_refusal declared walked → answer ≡ tree_answer 3 (module_in file)
      unfolding tree_answer
      answered declared walked answer of-declarations of-processes joined =
          joined ∙ ap₂ lower_refusal of-declarations of-processes ∙ found widths marks firsts ∙ sym (same_refusal all_agree_lem)
