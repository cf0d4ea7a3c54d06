-- Document 01, "Errors the course keeps meeting": each as a closed example that goes the right way, under one theorem, which antt computes.
use mathlib.Core.Path.{◌≡◌, refl}
use mathlib.Core.Bool.{Bool, true, ◌&&◌}
use mathlib.Core.List.{List, [], ◌∷◌}
use Prim.Native.Nat.{ℕ}
use Rattle.words.specs.Bits as bits
use Rattle.words.specs.Operators as operators
use Rattle.tagged.specs.Answers.{number_of}
use Rattle.tagged.specs.Bytes as bytes
use Rattle.tagged.specs.Sorts as sorts
use Rattle.tagged.specs.Fields as fields
use Rattle.tagged.specs.Files as files
use Rattle.tagged.specs.Names as names
use Rattle.tagged.specs.Refusals as refusals
use Rattle.tagged.specs.Declarations as declarations
use Rattle.tagged.specs.Declarations.{input, register}
use Rattle.tagged.specs.declared.sorts.Kind.{Kind}
use Rattle.netlist.specs.Form as netlist_form
use Rattle.netlist.specs.Reading as netlist_reading
use Rattle.netlist.specs.Rules as netlist_rules
use Rattle.netlist.specs.Answer.{lists_answer, netlist_answer}
use Rattle.netlist.specs.Cycle as netlist_cycles
use Rattle.verilog.specs.Tree.{constant, variable, assign, if_else, case, end, ◌then◌, default, item, Module}
use Rattle.verilog.specs.Form as form
use Rattle.verilog.specs.Reading as reading
use Rattle.verilog.specs.Nodes as nodes
use Rattle.verilog.specs.Rules as rules
use Rattle.verilog.specs.Answer.{tree_answer, module_answer}
use Rattle.verilog.specs.Cycle as cycle
use Rattle.translate.specs.Tables as tables
use Rattle.translate.specs.Translation as translation
use Rattle.lines.proofs.Lines.{accepts, refuses, gives, pair, copy, all}

-- the run of the module and the run of its netlist both give this row
abbrev both : Module → List ℕ → List ℕ → Bool
both m row next = gives next (cycle.module_cycle m row) && gives next (netlist_cycles.netlist_cycle (translation.netlist_of m) row)

-- the lost flag: input done, register held; a non-blocking clear inside an if, below it a blocking set
abbrev held_module : Module
held_module = record {
  declarations = input 1 (0x64 ∷ 0x6F ∷ 0x6E ∷ 0x65 ∷ []) ∷ register 1 0 (0x68 ∷ 0x65 ∷ 0x6C ∷ 0x64 ∷ []) ∷ [];
  processes = (if_else (variable 0) (assign Kind.NonBlocking 1 (constant 1 0) then end) end then assign Kind.Blocking 1 (constant 1 1) then end) ∷ [];
}

-- input c, registers a and b: if c, a = 1; else b = a
abbrev branches : Module
branches = record {
  declarations = input 1 (0x63 ∷ []) ∷ pair;
  processes = (if_else (variable 0) (assign Kind.Blocking 1 (constant 4 1) then end) (copy Kind.Blocking 2 1 end) then end) ∷ [];
}

-- a <= 1; b = a
abbrev read_back : Module
read_back = record { declarations = pair; processes = (assign Kind.NonBlocking 0 (constant 4 1) then copy Kind.Blocking 1 0 end) ∷ [] }

-- case a: 2 gives b 1, 2 gives b 5, else b stays
abbrev equal_items : Module
equal_items = record {
  declarations = pair;
  processes = (case (variable 0)
      (item 4 2 (assign Kind.Blocking 1 (constant 4 1) then end)
      (item 4 2 (assign Kind.Blocking 1 (constant 4 5) then end) (default end))) then end) ∷ [];
}

pub table : List Bool
table =
    -- letting pending hide current in one merge: rule 9 refuses the module, at the later assignment
    refuses 9 51 (tree_answer 3 held_module)
    ∷ refuses 9 51 (module_answer (form.module_bytes held_module))
    -- translating the else block from the operands left by the first block: b takes a's old value, not 1
    ∷ accepts (tree_answer 3 branches)
    ∷ both branches (0 ∷ 7 ∷ 3 ∷ []) (0 ∷ 7 ∷ 7 ∷ [])
    ∷ both branches (1 ∷ 7 ∷ 3 ∷ []) (1 ∷ 1 ∷ 3 ∷ [])
    -- a non-blocking value read back in the same cycle: b takes a's old value
    ∷ accepts (tree_answer 3 read_back)
    ∷ both read_back (0 ∷ 7 ∷ []) (1 ∷ 0 ∷ [])
    -- taking the last equal case item: the first is taken
    ∷ accepts (tree_answer 3 equal_items)
    ∷ both equal_items (2 ∷ 9 ∷ []) (2 ∷ 1 ∷ [])
    ∷ both equal_items (3 ∷ 9 ∷ []) (3 ∷ 9 ∷ [])
    ∷ []

pub course : all table ≡ true
unfolding table module_answer tree_answer netlist_answer lists_answer number_of refusals.first_broken refusals.first_refusal files.file_answer files.outer_answer fields.open_of fields.field_by fields.then_by fields.fixed_then fields.ended fields.many_from fields.read_from fields.field_bytes fields.all_bytes_of fields.placed_by bytes.number_of_two bytes.number_of_four bytes.four_of bytes.two_bytes bytes.four_bytes sorts.sort_of sorts.tag_of sorts.declaration_sort sorts.statement_sort sorts.expression_sort sorts.cell_sort names.is_name names.is_name_byte names.all_name_bytes names.same_name declarations.declaration_bytes declarations.declaration_body declarations.declarations_step declarations.declaration_read declarations.declarations_at declarations.value_broken declarations.name_taken declarations.name_broken declarations.count_broken declarations.declaration_breaks form.module_bytes form.module_payload form.module_form form.expression_body form.statement_body form.block_body form.item_body form.constant_body form.expression_bytes form.statement_bytes form.block_payload form.items_bytes form.process_bytes reading.tree_in reading.expression_in reading.statement_in reading.block_in reading.item_in nodes.expression_nodes nodes.statement_nodes nodes.block_nodes nodes.items_nodes nodes.process_nodes nodes.declaration_nodes nodes.module_nodes rules.expression_width rules.breaks rules.module_broken cycle.evaluate cycle.execute cycle.execute_block cycle.execute_items cycle.execute_all cycle.delays cycle.delays_block cycle.delays_items cycle.delays_any cycle.settled cycle.module_cycle bits.sum bits.bit bits.ones_below bits.parity bits.mux operators.two_number operators.two_width operators.one_width operators.one_number netlist_form.operand_bytes netlist_form.cell_bytes netlist_form.drive_bytes netlist_form.netlist_payload netlist_form.netlist_bytes netlist_form.slots_by netlist_form.cell_body netlist_form.drive_body netlist_form.cells_step netlist_form.drives_judge netlist_form.netlist_body netlist_form.netlist_form netlist_reading.operand_in netlist_reading.cell_read netlist_reading.drive_read netlist_reading.cells_at netlist_reading.drives_at netlist_reading.lists_in netlist_rules.operand_value_broken netlist_rules.operand_missing netlist_rules.operand_unlike netlist_rules.cell_unlike netlist_rules.cell_outside netlist_rules.cell_breaks netlist_rules.registers_from netlist_rules.not_next netlist_rules.drive_breaks netlist_rules.whole_broken netlist_rules.netlist_broken netlist_cycles.operand_value netlist_cycles.cell_value netlist_cycles.cell_values netlist_cycles.driven netlist_cycles.netlist_cycle tables.themselves tables.same_operand tables.merge tables.merge_tables translation.translate_expression translation.translate_statement translation.translate_block translation.translate_items translation.translate_all translation.drives_of translation.translated_module translation.netlist_of bits.same
course = refl
