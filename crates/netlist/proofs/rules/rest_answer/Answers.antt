-- `netlist::rules::rest_answer` meets its contract: the parts of the file are those of its lists, the tables tell of the first 64 variables. Assumes nothing.
use Rattle.std.proofs.Common.{refl, ◌∙◌, rules, take}
use Rattle.tagged.specs.Limits.{most_variables}
use Rattle.tagged.proofs.AllBytesLaws.{read_bytes}
use Rattle.netlist.specs.Reading.{netlist_in}
use Rattle.netlist.specs.WalkAnswers.{declaring}
use Rattle.netlist.proofs.RuleParts.{first_known, after_asked, netlist_cells, netlist_drives, rest_placed}
use Rattle.netlist.proofs.rules.rest_answer.Goals as goal

pub cells_answer-requires : goal.cells_answer-requires
cells_answer-requires c =
    let bytes = read_bytes c.args.file.now (search rules) in
    after_asked c.args.file.now bytes c.requires.0 c.requires.1 c.from-payload.result.now c.from-payload.ensures
    c.declared_bytes-bytes.result c.declared_bytes-bytes.ensures c.from.result.now c.from.ensures

pub returns : goal.returns
returns c =
    let bytes = read_bytes c.args.file.now (search rules) in
    let ds = take most_variables (netlist_in c.args.file.now).declarations in
    rest_placed c.args.file.now bytes c.requires.0 c.requires.1 c.from-payload.result.now c.from-payload.ensures
    c.declared_bytes-bytes.result c.declared_bytes-bytes.ensures c.from.result.now c.from.ensures ds
    (c.cells_answer.ensures (declaring ds (netlist_in c.args.file.now))
    (first_known c.args.file.now bytes c.requires.0 c.requires.1 c.from-payload.result.now c.from-payload.ensures
    c.variable_table-table.ensures c.widths.ensures c.registers.ensures (λ ds e. c.listed.ensures ∙ c.register_numbers-registers.ensures ds e) refl)
    (netlist_cells c.args.file.now bytes c.requires.0 c.requires.1 c.from-payload.result.now c.from-payload.ensures
    c.declared_bytes-bytes.result c.declared_bytes-bytes.ensures c.from.result.now c.from.ensures)
    (netlist_drives c.args.file.now bytes c.requires.0 c.requires.1 c.from-payload.result.now c.from-payload.ensures
    c.declared_bytes-bytes.result c.declared_bytes-bytes.ensures c.from.result.now c.from.ensures))
