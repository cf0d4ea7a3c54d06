-- A module of 1.5 KB on closed input: the check, the translation and both runs compute, and agree. It is here to see that the definitions stay quick.
use mathlib.Core.Path.{◌≡◌, refl}
use mathlib.Core.Bool.{Bool, true, ◌&&◌}
use mathlib.Core.List.{List, [], ◌∷◌}
use Rattle.words.specs.declared.TwoOperand.TheVariants as two_operand
use Prim.Native.Nat.{ℕ, zero, suc}
use lib.Dec.{eqb}
use lib.ListN.{length}
use Rattle.words.specs.Bits as bits
use Rattle.words.specs.Operators as operators
use Rattle.tagged.specs.Answers.{number_of}
use Rattle.tagged.specs.Bytes as bytes
use Rattle.tagged.specs.Sorts as sorts
use Rattle.tagged.specs.Fields as fields
use Rattle.tagged.specs.Files as files
use Rattle.tagged.specs.Names as names
use Rattle.tagged.specs.Refusals as refusals
use Rattle.tagged.specs.Declarations as declarations
use Rattle.tagged.specs.Declarations.{input}
use Rattle.tagged.specs.declared.sorts.Kind.{Kind}
use Rattle.netlist.specs.Form as netlist_form
use Rattle.netlist.specs.Reading as netlist_reading
use Rattle.netlist.specs.Rules as netlist_rules
use Rattle.netlist.specs.Answer.{lists_answer, netlist_answer}
use Rattle.netlist.specs.Cycle as netlist_cycles
use Rattle.verilog.specs.Tree.{variable, two, assign, if_else, end, ◌then◌, Block, Module}
use Rattle.verilog.specs.Form as form
use Rattle.verilog.specs.Reading as reading
use Rattle.verilog.specs.Nodes as nodes
use Rattle.verilog.specs.Rules as rules
use Rattle.verilog.specs.Answer.{tree_answer, module_answer}
use Rattle.verilog.specs.Cycle as cycle
use Rattle.translate.specs.Tables as tables
use Rattle.translate.specs.Translation as translation
use Rattle.lines.proofs.Lines.{accepts, gives, pair, all}

-- the run of the module and the run of its netlist both give this row
abbrev both : Module → List ℕ → List ℕ → Bool
both m row next = gives next (cycle.module_cycle m row) && gives next (netlist_cycles.netlist_cycle (translation.netlist_of m) row)

-- if c, a <= a + b; else b = b ^ a; and so k times
repeated : ℕ → Block
repeated zero = end
repeated (suc k) =
    if_else (variable 0) (assign Kind.NonBlocking 1 (two two_operand.Add (variable 1) (variable 2)) then end)
    (assign Kind.Blocking 2 (two two_operand.Xor (variable 2) (variable 1)) then end)
    then repeated k

large : Module
large = record { declarations = input 1 (0x63 ∷ []) ∷ pair; processes = repeated 35 ∷ [] }

pub table : List Bool
table =
    eqb (length (form.module_bytes large)) 1534
    ∷ accepts (module_answer (form.module_bytes large))
    ∷ eqb (length (translation.netlist_of large).cells) 140
    ∷ accepts (netlist_answer (netlist_form.netlist_bytes (translation.netlist_of large)))
    -- a takes the sum once, since its pending value is not read back
    ∷ both large (1 ∷ 7 ∷ 3 ∷ []) (1 ∷ 10 ∷ 3 ∷ [])
    -- thirty-five times b ^ a is b ^ a
    ∷ both large (0 ∷ 7 ∷ 3 ∷ []) (0 ∷ 7 ∷ 4 ∷ [])
    ∷ []

pub large_computes : all table ≡ true
unfolding table repeated large module_answer tree_answer netlist_answer lists_answer number_of refusals.first_broken refusals.first_refusal files.file_answer files.outer_answer fields.open_of fields.field_by fields.then_by fields.fixed_then fields.ended fields.many_from fields.read_from fields.field_bytes fields.all_bytes_of fields.placed_by bytes.number_of_two bytes.number_of_four bytes.four_of bytes.two_bytes bytes.four_bytes sorts.sort_of sorts.tag_of sorts.declaration_sort sorts.statement_sort sorts.expression_sort sorts.cell_sort names.is_name names.is_name_byte names.all_name_bytes names.same_name declarations.declaration_bytes declarations.declaration_body declarations.declarations_step declarations.declaration_read declarations.declarations_at declarations.value_broken declarations.name_taken declarations.name_broken declarations.count_broken declarations.declaration_breaks form.module_bytes form.module_payload form.module_form form.expression_body form.statement_body form.block_body form.item_body form.constant_body form.expression_bytes form.statement_bytes form.block_payload form.items_bytes form.process_bytes reading.tree_in reading.expression_in reading.statement_in reading.block_in reading.item_in nodes.expression_nodes nodes.statement_nodes nodes.block_nodes nodes.items_nodes nodes.process_nodes nodes.declaration_nodes nodes.module_nodes rules.expression_width rules.breaks rules.module_broken cycle.evaluate cycle.execute cycle.execute_block cycle.execute_items cycle.execute_all cycle.delays cycle.delays_block cycle.delays_items cycle.delays_any cycle.settled cycle.module_cycle bits.sum bits.bit bits.ones_below bits.parity bits.mux operators.two_number operators.two_width operators.one_width operators.one_number netlist_form.operand_bytes netlist_form.cell_bytes netlist_form.drive_bytes netlist_form.netlist_payload netlist_form.netlist_bytes netlist_form.slots_by netlist_form.cell_body netlist_form.drive_body netlist_form.cells_step netlist_form.drives_judge netlist_form.netlist_body netlist_form.netlist_form netlist_reading.operand_in netlist_reading.cell_read netlist_reading.drive_read netlist_reading.cells_at netlist_reading.drives_at netlist_reading.lists_in netlist_rules.operand_value_broken netlist_rules.operand_missing netlist_rules.operand_unlike netlist_rules.cell_unlike netlist_rules.cell_outside netlist_rules.cell_breaks netlist_rules.registers_from netlist_rules.not_next netlist_rules.drive_breaks netlist_rules.whole_broken netlist_rules.netlist_broken netlist_cycles.operand_value netlist_cycles.cell_value netlist_cycles.cell_values netlist_cycles.driven netlist_cycles.netlist_cycle tables.themselves tables.same_operand tables.merge tables.merge_tables translation.translate_expression translation.translate_statement translation.translate_block translation.translate_items translation.translate_all translation.drives_of translation.translated_module translation.netlist_of bits.same
large_computes = refl
