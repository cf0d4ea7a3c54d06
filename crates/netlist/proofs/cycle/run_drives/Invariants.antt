use mathlib.Core.Path.{◌≡◌}
use Rattle.tagged.specs.Fields.{unplaced}
use Rattle.tagged.specs.Walk.{fields_left}
use Rattle.netlist.specs.Reading.{drives_at}
use Rattle.netlist.specs.Numbers.{driven_numbers}
use Rattle.netlist.proofs.Listed.{driving}
use Rattle.netlist.proofs.cycle.run_drives.Given as goal

abbrev pub invariant-loop-field : goal.invariant-loop-field
invariant-loop-field l = driven_numbers l.numbers.row.now l.numbers.cells.now l.next (unplaced (driving (fields_left l.field-iterator)))
    ≡ driven_numbers l.numbers.row.now l.numbers.cells.now l.initial.next (unplaced (drives_at 0 l.list))
