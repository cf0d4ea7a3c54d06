-- The translation on closed input: document 01's worked example byte for byte, and small merges, under one theorem, which antt computes.
use mathlib.Core.Path.{◌≡◌, refl}
use mathlib.Core.Bool.{Bool, true, false, ◌&&◌}
use mathlib.Core.List.{List, [], ◌∷◌}
use Prim.Native.Nat.{ℕ}
use lib.Dec.{eqb}
use lib.ListN.{length}
use Rattle.words.specs.Bits as bits
use Rattle.words.specs.Operators as operators
use Rattle.words.specs.Values.{Outcome, stopped, got}
use Rattle.tagged.specs.Answers.{number_of}
use Rattle.tagged.specs.Bytes as bytes
use Rattle.tagged.specs.Sorts as sorts
use Rattle.tagged.specs.Fields as fields
use Rattle.tagged.specs.Files as files
use Rattle.tagged.specs.Refusals as refusals
use Rattle.tagged.specs.Declarations as declarations
use Rattle.tagged.specs.Declarations.{Declaration, input, register}
use Rattle.tagged.specs.declared.sorts.Kind.{Kind}
use Rattle.netlist.specs.Form as netlist_form
use Rattle.netlist.specs.Rules as netlist_rules
use Rattle.netlist.specs.Answer.{lists_answer, netlist_answer}
use Rattle.netlist.specs.Cycle as netlist_cycles
use Rattle.verilog.specs.Tree.{constant, variable, assign, if_else, end, ◌then◌, Block, Module}
use Rattle.verilog.specs.Form as form
use Rattle.verilog.specs.Reading as reading
use Rattle.verilog.specs.Nodes as nodes
use Rattle.verilog.specs.Rules as rules
use Rattle.verilog.specs.Answer.{tree_answer, module_answer}
use Rattle.verilog.specs.Cycle as cycle
use Rattle.translate.specs.Tables as tables
use Rattle.translate.specs.Translation as translation

-- the two lists are the same
abbrev same : List ℕ → List ℕ → Bool
same [] [] = true
same [] (b ∷ m) = false
same (a ∷ l) [] = false
same (a ∷ l) (b ∷ m) = eqb a b && same l m

-- the run gives this row
abbrev gives : List ℕ → Outcome (List ℕ) → Bool
gives row stopped = false
gives row (got next) = same next row

-- input en (1 bit), register n (4 bits, 0); if en, n <= n + 1
abbrev counter : List ℕ
counter =
    0x01 ∷ 0x00 ∷ 0x32 ∷ 0x02 ∷ 0x00 ∷ 0x03 ∷ 0x01 ∷ 0x65 ∷ 0x6E ∷ 0x03 ∷ 0x00 ∷ 0x06 ∷ 0x04 ∷ 0x00 ∷ 0x00 ∷ 0x00 ∷ 0x00 ∷ 0x6E
    ∷ 0x04 ∷ 0x00 ∷ 0x20 ∷ 0x14 ∷ 0x00 ∷ 0x1D ∷ 0x21 ∷ 0x00 ∷ 0x01 ∷ 0x00 ∷ 0x17 ∷ 0x00 ∷ 0x13 ∷ 0x11 ∷ 0x00 ∷ 0x10 ∷ 0x01
    ∷ 0x28 ∷ 0x00 ∷ 0x0C ∷ 0x21 ∷ 0x00 ∷ 0x01 ∷ 0x01 ∷ 0x20 ∷ 0x00 ∷ 0x05 ∷ 0x04 ∷ 0x00 ∷ 0x00 ∷ 0x00 ∷ 0x01 ∷ 0x17 ∷ 0x00 ∷ 0x00 ∷ []

-- its netlist, 66 bytes, two cells
abbrev counter_netlist : List ℕ
counter_netlist =
    0x81 ∷ 0x00 ∷ 0x3F ∷ 0x02 ∷ 0x00 ∷ 0x03 ∷ 0x01 ∷ 0x65 ∷ 0x6E ∷ 0x03 ∷ 0x00 ∷ 0x06 ∷ 0x04 ∷ 0x00 ∷ 0x00 ∷ 0x00 ∷ 0x00 ∷ 0x6E
    ∷ 0x34 ∷ 0x00 ∷ 0x0D ∷ 0x04 ∷ 0x01 ∷ 0x04 ∷ 0x00 ∷ 0x00 ∷ 0x00 ∷ 0x01 ∷ 0x00 ∷ 0x04 ∷ 0x00 ∷ 0x00 ∷ 0x00 ∷ 0x01
    ∷ 0x36 ∷ 0x00 ∷ 0x13 ∷ 0x04 ∷ 0x01 ∷ 0x01 ∷ 0x00 ∷ 0x00 ∷ 0x00 ∷ 0x00 ∷ 0x02 ∷ 0x04 ∷ 0x00 ∷ 0x00 ∷ 0x00 ∷ 0x00
    ∷ 0x01 ∷ 0x04 ∷ 0x00 ∷ 0x00 ∷ 0x00 ∷ 0x01 ∷ 0x40 ∷ 0x00 ∷ 0x07 ∷ 0x01 ∷ 0x02 ∷ 0x04 ∷ 0x00 ∷ 0x00 ∷ 0x00 ∷ 0x01 ∷ []

-- input c, registers a and b of 4 bits
abbrev declared : List Declaration
declared = input 1 (0x63 ∷ []) ∷ register 4 0 (0x61 ∷ []) ∷ register 4 0 (0x62 ∷ []) ∷ []

abbrev of : Block → Module
of b = record { declarations = declared; processes = b ∷ [] }

-- v = u or v <= u
abbrev copy : Kind → ℕ → ℕ → Block → Block
copy kind v u rest = assign kind v (variable u) then rest

abbrev cells_of : Module → ℕ
cells_of m = length (translation.netlist_of m).cells

pub table : List Bool
table =
    same (netlist_form.netlist_bytes (translation.netlist_of (reading.module_in counter))) counter_netlist
    -- an if whose blocks leave the same operands adds no cell
    ∷ eqb (cells_of (of (if_else (variable 0) (copy Kind.Blocking 1 2 end) (copy Kind.Blocking 1 2 end) then end))) 0
    -- one that leaves one register different adds one mux, in the current operands or in the pending ones
    ∷ eqb (cells_of (of (if_else (variable 0) (copy Kind.Blocking 1 2 end) end then end))) 1
    ∷ eqb (cells_of (of (if_else (variable 0) (copy Kind.NonBlocking 1 2 end) end then end))) 1
    -- the else block starts from the operands before the if
    ∷ gives (0 ∷ 7 ∷ 7 ∷ []) (netlist_cycles.netlist_cycle (translation.netlist_of (of (if_else (variable 0) (assign Kind.Blocking 1 (constant 4 1) then end) (copy Kind.Blocking 2 1 end) then end))) (0 ∷ 7 ∷ 3 ∷ []))
    -- a drive takes the pending operand of a register that is assigned by non-blocking: a <= b; b <= a swaps
    ∷ gives (0 ∷ 3 ∷ 7 ∷ []) (netlist_cycles.netlist_cycle (translation.netlist_of (of (copy Kind.NonBlocking 1 2 (copy Kind.NonBlocking 2 1 end)))) (0 ∷ 7 ∷ 3 ∷ []))
    ∷ []

abbrev all : List Bool → Bool
all [] = true
all (t ∷ l) = t && all l

pub cases : all table ≡ true
unfolding table module_answer tree_answer netlist_answer lists_answer number_of refusals.first_broken refusals.first_refusal files.file_answer files.outer_answer fields.open_of fields.field_by fields.then_by fields.fixed_then fields.ended fields.many_from fields.read_from fields.field_bytes fields.all_bytes_of fields.placed_by bytes.number_of_two bytes.number_of_four bytes.four_of bytes.two_bytes bytes.four_bytes sorts.sort_of sorts.tag_of sorts.declaration_sort sorts.statement_sort sorts.expression_sort sorts.cell_sort declarations.declaration_bytes declarations.declaration_body declarations.declarations_step declarations.declaration_read declarations.declarations_at declarations.value_broken declarations.name_taken declarations.name_broken declarations.count_broken declarations.declaration_breaks form.module_bytes form.module_payload form.module_form form.expression_body form.statement_body form.block_body form.item_body form.constant_body form.expression_bytes form.statement_bytes form.block_payload form.items_bytes form.process_bytes reading.tree_in reading.expression_in reading.statement_in reading.block_in reading.item_in nodes.expression_nodes nodes.statement_nodes nodes.block_nodes nodes.items_nodes nodes.process_nodes nodes.declaration_nodes nodes.module_nodes rules.expression_width rules.breaks rules.module_broken cycle.evaluate cycle.execute cycle.execute_block cycle.execute_items cycle.execute_all cycle.delays cycle.delays_block cycle.delays_items cycle.delays_any cycle.settled cycle.module_cycle bits.sum bits.bit bits.ones_below bits.parity bits.mux operators.two_number operators.two_width operators.one_width operators.one_number netlist_form.operand_bytes netlist_form.cell_bytes netlist_form.drive_bytes netlist_form.netlist_payload netlist_form.netlist_bytes netlist_form.slots_by netlist_form.cell_body netlist_form.drive_body netlist_form.cells_step netlist_form.drives_judge netlist_form.netlist_body netlist_form.netlist_form netlist_cycles.operand_value netlist_cycles.cell_value netlist_cycles.cell_values netlist_cycles.driven netlist_cycles.netlist_cycle tables.themselves tables.same_operand tables.merge tables.merge_tables translation.translate_expression translation.translate_statement translation.translate_block translation.translate_items translation.translate_all translation.drives_of translation.translated_module translation.netlist_of netlist_rules.registers_from
cases = refl
