-- Document 01, "Either side of each line": the cases marked (P), and "One case whole" from bytes to bytes, as one table under one theorem, which antt computes.
use Rattle.std.specs.Prelude.{Ok, Err}
use mathlib.Core.Path.{◌≡◌, refl}
use mathlib.Core.Bool.{Bool, true, false, ◌&&◌}
use mathlib.Core.List.{List, [], ◌∷◌}
use Prim.Native.Nat.{ℕ}
use lib.Dec.{eqb}
use lib.ListN.{length}
use Rattle.words.specs.Bits as bits
use Rattle.words.specs.Operators as operators
use Rattle.words.specs.Values.{Outcome, stopped, got}
use Rattle.tagged.specs.Answers.{number_of, Answer}
use Rattle.tagged.specs.Bytes as bytes
use Rattle.tagged.specs.Sorts as sorts
use Rattle.tagged.specs.Fields as fields
use Rattle.tagged.specs.Files as files
use Rattle.tagged.specs.Names as names
use Rattle.tagged.specs.Refusals as refusals
use Rattle.tagged.specs.Declarations as declarations
use Rattle.tagged.specs.Declarations.{Declaration, register}
use Rattle.tagged.specs.declared.sorts.Kind.{Kind}
use Rattle.netlist.specs.Form as netlist_form
use Rattle.netlist.specs.Reading as netlist_reading
use Rattle.netlist.specs.Rules as netlist_rules
use Rattle.netlist.specs.Answer.{lists_answer, netlist_answer}
use Rattle.netlist.specs.Cycle as netlist_cycles
use Rattle.verilog.specs.Tree.{constant, variable, assign, case, end, ◌then◌, default, item, Block, Module}
use Rattle.verilog.specs.Form as form
use Rattle.verilog.specs.Reading as reading
use Rattle.verilog.specs.Nodes as nodes
use Rattle.verilog.specs.Rules as rules
use Rattle.verilog.specs.Answer.{tree_answer, module_answer}
use Rattle.verilog.specs.Cycle as cycle
use Rattle.translate.specs.Tables as tables
use Rattle.translate.specs.Translation as translation
use Rattle.translate.specs.Answer.{translated_bytes, cell_count}

-- the two lists are the same
abbrev pub same : List ℕ → List ℕ → Bool
same [] [] = true
same [] (b ∷ m) = false
same (a ∷ l) [] = false
same (a ∷ l) (b ∷ m) = eqb a b && same l m

-- the answer is acceptance, or a refusal with this number and place
abbrev pub accepts : Answer → Bool
accepts (Ok _) = true
accepts (Err e) = false

abbrev pub refuses : ℕ → ℕ → Answer → Bool
refuses number at (Ok _) = false
refuses number at (Err e) = eqb (number_of e.rule) number && eqb e.place at

-- the run gives this row
abbrev pub gives : List ℕ → Outcome (List ℕ) → Bool
gives row stopped = false
gives row (got next) = same next row

-- "One case whole": input en (1 bit), register n (4 bits, 0); if en, n <= n + 1
abbrev counter : List ℕ
counter =
    0x01 ∷ 0x00 ∷ 0x32 ∷ 0x02 ∷ 0x00 ∷ 0x03 ∷ 0x01 ∷ 0x65 ∷ 0x6E ∷ 0x03 ∷ 0x00 ∷ 0x06 ∷ 0x04 ∷ 0x00 ∷ 0x00 ∷ 0x00 ∷ 0x00 ∷ 0x6E
    ∷ 0x04 ∷ 0x00 ∷ 0x20 ∷ 0x14 ∷ 0x00 ∷ 0x1D ∷ 0x21 ∷ 0x00 ∷ 0x01 ∷ 0x00 ∷ 0x17 ∷ 0x00 ∷ 0x13 ∷ 0x11 ∷ 0x00 ∷ 0x10 ∷ 0x01
    ∷ 0x28 ∷ 0x00 ∷ 0x0C ∷ 0x21 ∷ 0x00 ∷ 0x01 ∷ 0x01 ∷ 0x20 ∷ 0x00 ∷ 0x05 ∷ 0x04 ∷ 0x00 ∷ 0x00 ∷ 0x00 ∷ 0x01 ∷ 0x17 ∷ 0x00 ∷ 0x00 ∷ []

-- its netlist, 66 bytes, two cells
abbrev counter_netlist : List ℕ
counter_netlist =
    0x81 ∷ 0x00 ∷ 0x3F ∷ 0x02 ∷ 0x00 ∷ 0x03 ∷ 0x01 ∷ 0x65 ∷ 0x6E ∷ 0x03 ∷ 0x00 ∷ 0x06 ∷ 0x04 ∷ 0x00 ∷ 0x00 ∷ 0x00 ∷ 0x00 ∷ 0x6E
    ∷ 0x34 ∷ 0x00 ∷ 0x0D ∷ 0x04 ∷ 0x01 ∷ 0x04 ∷ 0x00 ∷ 0x00 ∷ 0x00 ∷ 0x01 ∷ 0x00 ∷ 0x04 ∷ 0x00 ∷ 0x00 ∷ 0x00 ∷ 0x01
    ∷ 0x36 ∷ 0x00 ∷ 0x13 ∷ 0x04 ∷ 0x01 ∷ 0x01 ∷ 0x00 ∷ 0x00 ∷ 0x00 ∷ 0x00 ∷ 0x02 ∷ 0x04 ∷ 0x00 ∷ 0x00 ∷ 0x00 ∷ 0x00
    ∷ 0x01 ∷ 0x04 ∷ 0x00 ∷ 0x00 ∷ 0x00 ∷ 0x01 ∷ 0x40 ∷ 0x00 ∷ 0x07 ∷ 0x01 ∷ 0x02 ∷ 0x04 ∷ 0x00 ∷ 0x00 ∷ 0x00 ∷ 0x01 ∷ []

-- two registers of 4 bits, a and b
abbrev pub pair : List Declaration
pair = register 4 0 (0x61 ∷ []) ∷ register 4 0 (0x62 ∷ []) ∷ []

-- a = b and b = a, or with <=
abbrev pub copy : Kind → ℕ → ℕ → Block → Block
copy kind v u rest = assign kind v (variable u) then rest

abbrev in_one : Kind → Module
in_one kind = record { declarations = pair; processes = copy kind 0 1 (copy kind 1 0 end) ∷ [] }

abbrev in_two : Kind → Module
in_two kind = record { declarations = pair; processes = copy kind 0 1 end ∷ copy kind 1 0 end ∷ [] }

-- case a: two items 2 giving b 1 and 5
abbrev two_items : Module
two_items = record {
  declarations = pair;
  processes = (case (variable 0)
      (item 4 2 (assign Kind.Blocking 1 (constant 4 1) then end)
      (item 4 2 (assign Kind.Blocking 1 (constant 4 5) then end) (default end))) then end) ∷ [];
}

-- the cases, in 01's order
pub table : List Bool
table =
    -- 01 00 00 gives 81 00 00, no cells; empty file: 1; 01 00 01: 1
    (accepts (module_answer (0x01 ∷ 0 ∷ 0 ∷ [])) && same (translated_bytes (0x01 ∷ 0 ∷ 0 ∷ [])) (0x81 ∷ 0 ∷ 0 ∷ []) && eqb (cell_count (0x01 ∷ 0 ∷ 0 ∷ [])) 0)
    ∷ refuses 1 0 (module_answer [])
    ∷ refuses 1 0 (module_answer (0x01 ∷ 0 ∷ 1 ∷ []))
    -- one case whole, byte for byte, and the netlist's bytes are accepted
    ∷ accepts (module_answer counter)
    ∷ (same (translated_bytes counter) counter_netlist && eqb (length (translated_bytes counter)) 66 && eqb (cell_count counter) 2)
    ∷ accepts (netlist_answer counter_netlist)
    -- row (1, 15) gives (1, 0); (0, 7) gives (0, 7); by both runs
    ∷ gives (1 ∷ 0 ∷ []) (cycle.module_cycle (reading.module_in counter) (1 ∷ 15 ∷ []))
    ∷ gives (0 ∷ 7 ∷ []) (cycle.module_cycle (reading.module_in counter) (0 ∷ 7 ∷ []))
    ∷ gives (1 ∷ 0 ∷ []) (netlist_cycles.netlist_cycle (netlist_reading.netlist_in counter_netlist) (1 ∷ 15 ∷ []))
    ∷ gives (0 ∷ 7 ∷ []) (netlist_cycles.netlist_cycle (netlist_reading.netlist_in counter_netlist) (0 ∷ 7 ∷ []))
    -- a = b; b = a from 1, 2 gives 2, 2; with <= gives 2, 1
    ∷ gives (2 ∷ 2 ∷ []) (cycle.module_cycle (in_one Kind.Blocking) (1 ∷ 2 ∷ []))
    ∷ gives (2 ∷ 1 ∷ []) (cycle.module_cycle (in_one Kind.NonBlocking) (1 ∷ 2 ∷ []))
    -- in two processes, <= swaps; = is refused 11, at the first read of what the other assigns: 3 + two declarations of 9, a process's header, an assignment's 4
    ∷ (accepts (tree_answer 3 (in_two Kind.NonBlocking)) && gives (2 ∷ 1 ∷ []) (cycle.module_cycle (in_two Kind.NonBlocking) (1 ∷ 2 ∷ [])))
    ∷ refuses 11 28 (module_answer (form.module_bytes (in_two Kind.Blocking)))
    -- two items 2 giving 1 and 5, selector 2: 1
    ∷ gives (2 ∷ 1 ∷ []) (cycle.module_cycle two_items (2 ∷ 0 ∷ []))
    -- parity of 1011 is 1, of thirty-two ones 0
    ∷ eqb (bits.parity 0b1011) 1
    ∷ eqb (bits.parity 0xffff_ffff) 0
    ∷ []

abbrev pub all : List Bool → Bool
all [] = true
all (t ∷ l) = t && all l

pub lines : all table ≡ true
unfolding table module_answer tree_answer netlist_answer lists_answer number_of refusals.first_broken refusals.first_refusal files.file_answer files.outer_answer fields.open_of fields.field_by fields.then_by fields.fixed_then fields.ended fields.many_from fields.read_from fields.field_bytes fields.all_bytes_of fields.placed_by bytes.number_of_two bytes.number_of_four bytes.four_of bytes.two_bytes bytes.four_bytes sorts.sort_of sorts.tag_of sorts.declaration_sort sorts.statement_sort sorts.expression_sort sorts.cell_sort names.is_name names.is_name_byte names.all_name_bytes names.same_name declarations.declaration_bytes declarations.declaration_body declarations.declarations_step declarations.declaration_read declarations.declarations_at declarations.value_broken declarations.name_taken declarations.name_broken declarations.count_broken declarations.declaration_breaks form.module_bytes form.module_payload form.module_form form.expression_body form.statement_body form.block_body form.item_body form.constant_body form.expression_bytes form.statement_bytes form.block_payload form.items_bytes form.process_bytes reading.tree_in reading.expression_in reading.statement_in reading.block_in reading.item_in nodes.expression_nodes nodes.statement_nodes nodes.block_nodes nodes.items_nodes nodes.process_nodes nodes.declaration_nodes nodes.module_nodes rules.expression_width rules.breaks rules.module_broken cycle.evaluate cycle.execute cycle.execute_block cycle.execute_items cycle.execute_all cycle.delays cycle.delays_block cycle.delays_items cycle.delays_any cycle.settled cycle.module_cycle bits.sum bits.bit bits.ones_below bits.parity bits.mux operators.two_number operators.two_width operators.one_width operators.one_number netlist_form.operand_bytes netlist_form.cell_bytes netlist_form.drive_bytes netlist_form.netlist_payload netlist_form.netlist_bytes netlist_form.slots_by netlist_form.cell_body netlist_form.drive_body netlist_form.cells_step netlist_form.drives_judge netlist_form.netlist_body netlist_form.netlist_form netlist_reading.operand_in netlist_reading.cell_read netlist_reading.drive_read netlist_reading.cells_at netlist_reading.drives_at netlist_reading.lists_in netlist_rules.operand_value_broken netlist_rules.operand_missing netlist_rules.operand_unlike netlist_rules.cell_unlike netlist_rules.cell_outside netlist_rules.cell_breaks netlist_rules.registers_from netlist_rules.not_next netlist_rules.drive_breaks netlist_rules.whole_broken netlist_rules.netlist_broken netlist_cycles.operand_value netlist_cycles.cell_value netlist_cycles.cell_values netlist_cycles.driven netlist_cycles.netlist_cycle tables.themselves tables.same_operand tables.merge tables.merge_tables translation.translate_expression translation.translate_statement translation.translate_block translation.translate_items translation.translate_all translation.drives_of translation.translated_module translation.netlist_of
lines = refl
