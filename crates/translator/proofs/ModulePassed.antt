-- What a pass over the parts of an accepted module writes is the module's netlist: the parts are its declarations and processes, the tables are as the
-- definitions have them, so what the code gives over bytes is the translation of the tree, and the drives by first assignments are the specified ones.
use Rattle.std.specs.Prelude.{Option, None}
use mathlib.Core.Path.{◌≡◌, refl, sym, ap, ap₂, ◌∙◌}
use mathlib.Core.Bool.{Bool}
use mathlib.Core.List.{List, ◌∷◌, ◌++◌, map, append_assoc}
use Prim.Native.Nat.{ℕ, ◌+◌, ◌-◌, ◌≤◌, ◌<◌}
use native.Mathlib.Omega.{arith}
use lib.ListN.{length, get_or, take, drop, length-take, length-map}
use Rattle.tagged.specs.Limits.{longest_module, most_variables}
use Rattle.tagged.specs.Bytes.{AllBytes, two_bytes}
use Rattle.tagged.specs.Sorts.{tag_of}
use Rattle.tagged.specs.Fields.{field_bytes, all_bytes_of, passed_bytes, unplaced}
use Rattle.tagged.specs.Answers.{acceptance, Promise, Translation}
use Rattle.tagged.specs.Declarations.{width_of, is_register, declaration_bytes, declarations_in, declarations_step, variable_table}
use Rattle.tagged.specs.declared.declarations.VariableTable.{VariableTable}
use Rattle.tagged.specs.declared.sorts.Sort.TheVariants as Sort
use Rattle.tagged.proofs.ListBytes.{field_length}
use Rattle.tagged.proofs.TableLaws.{widths_known, marks_known}
use Rattle.netlist.specs.Lists.{Netlist}
use Rattle.netlist.specs.Form.{cell_bytes, drive_bytes, netlist_payload, netlist_bytes}
use Rattle.netlist.specs.declared.Cell.{Cell}
use Rattle.netlist.specs.declared.Drive.{Drive}
use Rattle.netlist.specs.declared.Operand.{Operand}
use Rattle.verilog.specs.Tree.{Module}
use Rattle.verilog.specs.Form.{process_bytes}
use Rattle.verilog.specs.Fits.{FitsModule, processes_depth}
use Rattle.verilog.specs.Reading.{module_in}
use Rattle.verilog.specs.Answer.{tree_answer, module_answer}
use Rattle.verilog.proofs.AcceptedTyped.{accepted_typed}
use Rattle.verilog.proofs.AcceptedModule.{accepted_tree}
use Rattle.verilog_check.specs.Survey.{survey_from}
use Rattle.verilog_check.specs.declared.assignments.First.{First}
use Rattle.verilog_check.proofs.Firsts.{first_in}
use Rattle.verilog_check.proofs.RulesByTables.{process_fields}
use Rattle.verilog_check.proofs.Delayed.{delayed_by_first}
use Rattle.verilog_check.proofs.TreeAnswers.{tree_fits, processes_deep, declared_is, list_is, list_long, firsts_told}
use Rattle.verilog_check.proofs.AcceptedFile.{one_kind, length_accepted, form_passed, few_variables, payload_declared}
use Rattle.translate.specs.Translation.{translated_module, netlist_of}
use Rattle.translate.specs.Answer.{netlist_of_file, translated_bytes, cell_count, after_check, translate_answer, buffer_after, translate_buffer}
use Rattle.translate.proofs.FittingTables.{FitsTables, start_fits}
use Rattle.translate.proofs.CellBounds.{FewOperands, all_cells}
use Rattle.translate_blocks.specs.Writing.{Written, write_processes}
use Rattle.translate_blocks.specs.Ends.{start_table, drives_by}
use Rattle.translator.specs.declared.parts.Parts.{Parts}
use Rattle.translator.specs.Passes.{passed, passed_cells, rest_of, whole_of, length_of, pass_answer, pass_buffer}
use Rattle.translator.proofs.OperandTables.{one_table}
use Rattle.translator.proofs.JoinedTables.{Gives, gives_by}
use Rattle.translator.proofs.WrittenTrees.{GivesAll, processes_written}
use Rattle.translator.proofs.StartTable.{start_tables, start_table_lem, start_sized}
use Rattle.translator.proofs.DriveTables.{drives_of_table}
use Rattle.translator.proofs.PassSteps.{whole_long}

-- the header of a netlist's payload, and the payload, are its bytes
bytes_whole : (n : Netlist) (size : ℕ) → size ≡ length (netlist_payload n) →
    (tag_of Sort.Netlist ∷ two_bytes size) ++ (all_bytes_of declaration_bytes n.declarations ++ (all_bytes_of cell_bytes n.cells ++ all_bytes_of drive_bytes n.drives))
    ≡ netlist_bytes n
unfolding netlist_bytes netlist_payload field_bytes
bytes_whole n size e =
    let declared : List ℕ = all_bytes_of declaration_bytes n.declarations in
    let cells : List ℕ = all_bytes_of cell_bytes n.cells in
    let drives : List ℕ = all_bytes_of drive_bytes n.drives in
    ap₂ (λ (k : ℕ) (l : List ℕ). (tag_of Sort.Netlist ∷ two_bytes k) ++ l) e (sym (append_assoc declared cells drives))

-- a tree that is accepted
module _ (m : Module) (accepted : tree_answer 3 m ≡ acceptance) (few : length m.declarations ≤ most_variables) (fits : FitsModule m)
    (deep : processes_depth m.processes ≤ 31) where
  written : length (all_bytes_of process_bytes m.processes) ≤ longest_module →
      GivesAll (length m.declarations) 0 (start_tables m.declarations)
      (write_processes (length m.declarations) (all_bytes_of process_bytes m.processes) (one_table (start_tables m.declarations)) 0) (translated_module m)
  unfolding translated_module
  written long =
      processes_written m.declarations (length m.declarations) refl m.processes (accepted_typed 3 m accepted).processes fits.processes deep (omega arith)
      (start_tables m.declarations) (start_sized m.declarations) 0

  -- its last operands fit their bytes: the variables do, and there are few cells
  pub operands_fit : length (all_bytes_of process_bytes m.processes) ≤ longest_module → FitsTables (length m.declarations) (translated_module m).tables
  unfolding translated_module
  operands_fit long =
      let start : FitsTables (length m.declarations) (start_tables m.declarations) = start_fits m.declarations fits.declarations (omega arith) in
      let small : FewOperands (start_tables m.declarations) = record { current = omega (arith, start.current_count); pending = omega (arith, start.pending_count) } in
      (written long).fits start (omega (arith, all_cells m.processes (start_tables m.declarations) 0 small))

  -- parts of it: the widths and marks of its declarations, the bytes of its processes, and a table of first assignments
  module _ (p : Parts) (widths : p.widths.now ≡ map width_of m.declarations) (marks : p.marks.now ≡ map is_register m.declarations)
      (list : p.list.now ≡ all_bytes_of process_bytes m.processes)
      (told : (v : ℕ) → v < most_variables → get_or p.firsts.now v None ≡ first_in v (unplaced (process_fields 3 m))) where
    given : Gives (length m.declarations) (passed p) (translated_module m)
    given =
        gives_by
        (ap₂ (λ (w l : List ℕ). write_processes (length w) l (start_table w) 0) widths list
        ∙ ap₂ (λ (k : ℕ) (t : List Operand). write_processes k (all_bytes_of process_bytes m.processes) t 0) (length-map m.declarations width_of)
        (start_table_lem m.declarations))
        (written (omega (arith, p.short, ap length list))).gives

    drives_are : drives_by p.marks.now p.firsts.now (one_table (translated_module m).tables) ≡ (netlist_of m).drives
    unfolding netlist_of
    drives_are =
        ap (λ (k : List Bool). drives_by k p.firsts.now (one_table (translated_module m).tables)) marks
        ∙ drives_of_table m m.declarations given.sized few p.firsts.now (delayed_by_first 3 m p.firsts.now told (one_kind m accepted))

    pub cells_passed : passed_cells p ≡ (netlist_of m).cells
    unfolding netlist_of
    cells_passed = ap (λ (w : Written). w.cells) given.same

    pub rest_netlist : rest_of p ≡ all_bytes_of cell_bytes (netlist_of m).cells ++ all_bytes_of drive_bytes (netlist_of m).drives
    unfolding rest_of
    rest_netlist =
        ap₂ (λ (cells : List Cell) (drives : List Drive). all_bytes_of cell_bytes cells ++ all_bytes_of drive_bytes drives) cells_passed
        (ap (λ (w : Written). drives_by p.marks.now p.firsts.now w.operands) given.same ∙ drives_are)

-- the parts of a file that is accepted, and the tables that the code makes of them
module _ (file : List ℕ) (bytes : AllBytes file) (accepted : module_answer file ≡ acceptance) (payload : List ℕ) (part : payload ≡ drop 3 file)
    (taken : ℕ) (count : taken ≡ passed_bytes (declarations_step 0 0 payload)) where
  abbrev tree : Module
  tree = module_in file

  module _ (list : List ℕ) (rest : list ≡ drop taken payload) where
    pub list_short : length list ≤ longest_module
    list_short = omega (arith, list_long file bytes (length_accepted file accepted) (form_passed file accepted) payload part taken count list rest)

    pub parts_short : (front : List ℕ) → front ≡ take taken payload → length front + length list ≤ longest_module
    parts_short front head =
        omega (
          arith,
          list_long file bytes (length_accepted file accepted) (form_passed file accepted) payload part taken count list rest,
          ap length head,
          length-take taken payload,
        )

  module _ (p : Parts) (head : p.declared.now ≡ take taken payload) (rest : p.list.now ≡ drop taken payload) (table : VariableTable)
      (made : table ≡ variable_table (declarations_in payload)) (widths : p.widths.now ≡ take table.count table.widths)
      (marks : p.marks.now ≡ take table.count table.registers) (empty : List (Option First)) (room : length empty ≡ most_variables)
      (none : (v : ℕ) → get_or empty v None ≡ None) (surveyed : p.firsts.now ≡ survey_from 0 0 p.list.now empty) where
    made_of : table ≡ variable_table tree.declarations
    made_of = made ∙ ap variable_table (payload_declared file accepted payload part)

    widths_are : p.widths.now ≡ map width_of tree.declarations
    widths_are = widths ∙ sym (widths_known tree.declarations table made_of table.count (λ h. refl) (few_variables file accepted))

    marks_are : p.marks.now ≡ map is_register tree.declarations
    marks_are = marks ∙ sym (marks_known tree.declarations table made_of table.count (λ h. refl) (few_variables file accepted))

    declared_are : p.declared.now ≡ all_bytes_of declaration_bytes tree.declarations
    declared_are = declared_is file bytes (length_accepted file accepted) (form_passed file accepted) payload part taken count p.list.now rest p.declared.now head

    processes_are : p.list.now ≡ all_bytes_of process_bytes tree.processes
    processes_are = list_is file bytes (length_accepted file accepted) (form_passed file accepted) payload part taken count p.list.now rest

    abbrev told : (v : ℕ) → v < most_variables → get_or p.firsts.now v None ≡ first_in v (unplaced (process_fields 3 tree))
    told = firsts_told file bytes (length_accepted file accepted) (form_passed file accepted) payload part taken count p.list.now rest empty room none p.firsts.now surveyed

    abbrev deep : processes_depth tree.processes ≤ 31
    deep = processes_deep file bytes (length_accepted file accepted) (form_passed file accepted) payload part

    abbrev fits : FitsModule tree
    fits = tree_fits file bytes (length_accepted file accepted) (form_passed file accepted) payload part

    cells_are : passed_cells p ≡ (netlist_of_file file).cells
    cells_are = cells_passed tree (accepted_tree file accepted) (few_variables file accepted) fits deep p widths_are marks_are processes_are told

    rest_is : rest_of p ≡ all_bytes_of cell_bytes (netlist_of_file file).cells ++ all_bytes_of drive_bytes (netlist_of_file file).drives
    rest_is = rest_netlist tree (accepted_tree file accepted) (few_variables file accepted) fits deep p widths_are marks_are processes_are told

    -- whatever stands in the header, the whole is the header and the netlist's payload
    whole_is : (size : ℕ) → size ≡ length (netlist_payload (netlist_of_file file)) → whole_of size p ≡ translated_bytes file
    unfolding whole_of netlist_of
    whole_is size e =
        ap₂ (λ (d r : List ℕ). (tag_of Sort.Netlist ∷ two_bytes size) ++ (d ++ r)) declared_are rest_is ∙ bytes_whole (netlist_of_file file) size e

    length_is : length_of p ≡ length (translated_bytes file)
    length_is =
        let size : ℕ = length (netlist_payload (netlist_of_file file)) in
        whole_long p 0 ∙ sym (whole_long p size) ∙ ap length (whole_is size refl)

    size_is : length_of p - 3 ≡ length (netlist_payload (netlist_of_file file))
    unfolding netlist_bytes
    size_is = omega (arith, length_is, field_length (tag_of Sort.Netlist) (netlist_payload (netlist_of_file file)))

    answer_is : (space : ℕ) → pass_answer p space ≡ translate_answer file space
    unfolding pass_answer translate_answer
    answer_is space =
        ap₂ (λ (cells : List Cell) (size : ℕ). after_check acceptance (length cells) size space) cells_are length_is
        ∙ ap (λ a. after_check a (cell_count file) (length (translated_bytes file)) space) (sym accepted)

    -- so what both passes promise is what translating promises
    pub module_passed : (out : List ℕ) {answer : Translation} {left : List ℕ} →
        Promise (pass_answer p (length out)) (pass_buffer p out) answer left →
        Promise (translate_answer file (length out)) (translate_buffer file out) answer left
    unfolding pass_buffer translate_buffer
    module_passed out passes = record {
      answered = passes.answered ∙ answer_is (length out);
      leaves = passes.leaves ∙ ap₂ (λ (t : Translation) (l : List ℕ). buffer_after t l out) (answer_is (length out)) (whole_is (length_of p - 3) size_is);
    }
