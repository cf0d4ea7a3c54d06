-- A listing shows the bytes behind an operand: for a variable the name, a part of the module file; for a cell its field, a part of the netlist file. It gives
-- an empty part where the file in question is refused or the operand (kind and number) names nothing.
use Rattle.std.specs.Prelude.{Ok, Err, cond, List, ℕ, ◌-◌, eqb, take, drop}
use Rattle.tagged.specs.Answers.{Answer}
use Rattle.tagged.specs.declared.parts.Part.{Part}
use Rattle.netlist.specs.Answer.{netlist_answer}
use Rattle.netlist.specs.Parts.{cell_part}
use Rattle.verilog.specs.Answer.{module_answer}
use Rattle.verilog.specs.Parts.{name_part}
use Rattle.listing.specs.declared.Listed.{Listed}

-- the empty part, at the front of a file
abbrev pub empty_part : Part
empty_part = record { start = 0; end = 0 }

-- a part that holds nothing is that one
unfoldable pub settled_part : Part → Part
settled_part p = cond (eqb p.start p.end) empty_part p

-- of an accepted file this part, of a refused one the empty one
abbrev pub of_accepted : Answer → Part → Part
of_accepted (Ok _) p = settled_part p
of_accepted (Err e) p = empty_part

-- a variable's name in the module file, a cell's field in the netlist file
unfoldable pub module_part : List ℕ → ℕ → Part
module_part file number = of_accepted (module_answer file) (name_part number file)

unfoldable pub netlist_part : List ℕ → ℕ → Part
netlist_part file number = of_accepted (netlist_answer file) (cell_part number file)

abbrev pub in_module : Part → Listed
in_module p = Listed.Module p.start p.end

abbrev pub in_netlist : Part → Listed
in_netlist p = Listed.Netlist p.start p.end

-- by the operand's kind: 1 a variable, 2 a cell; nothing stands behind a constant or another kind
unfoldable pub listed_part : (module' netlist : List ℕ) (kind number : ℕ) → Listed
listed_part module' netlist kind number =
    cond (eqb kind 1) (in_module (module_part module' number))
    (cond (eqb kind 2) (in_netlist (netlist_part netlist number)) (in_module empty_part))

-- the bytes of a part
abbrev pub part_bytes : List ℕ → ℕ → ℕ → List ℕ
part_bytes file start end = take (end - start) (drop start file)

abbrev pub bytes_in : (module' netlist : List ℕ) → Listed → List ℕ
bytes_in module' netlist (Listed.Module start end) = part_bytes module' start end
bytes_in module' netlist (Listed.Netlist start end) = part_bytes netlist start end

unfoldable pub listed_bytes : (module' netlist : List ℕ) (kind number : ℕ) → List ℕ
listed_bytes module' netlist kind number = bytes_in module' netlist (listed_part module' netlist kind number)
