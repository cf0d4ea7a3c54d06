-- DEMAND 3, about files. For every file that the check accepts and that gives at most 1,024 cells: its netlist, read from its bytes, is accepted with the
-- lists of the translation; and for every starting row that fits and every list of input rows that fit, of any length, neither run ever stops, the blocks
-- not taken would not stop either, and after each cycle both runs have the same whole row, which fits.
use mathlib.Core.Path.{◌≡◌, ap, ◌∙◌}
use mathlib.Core.Bool.{true}
use mathlib.Core.List.{List, map, Memᴰ}
use Prim.Native.Nat.{ℕ, ◌≤◌}
use lib.ListN.{length}
use Rattle.words.specs.Values.{got}
use Rattle.tagged.specs.Answers.{acceptance}
use Rattle.tagged.specs.Limits.{most_cells}
use Rattle.tagged.specs.Declarations.{Declaration, width_of}
use Rattle.tagged.specs.Rows.{all_fit}
use Rattle.tagged.specs.Cycles.{inputs_fit, cycles_by}
use Rattle.netlist.specs.Answer.{netlist_answer}
use Rattle.netlist.specs.Reading.{netlist_in}
use Rattle.netlist.specs.Cycle.{netlist_cycle}
use Rattle.netlist.proofs.NetlistBytes.{read_written}
use Rattle.netlist.proofs.Accepted.{accepted_bytes}
use Rattle.netlist.proofs.RulesFit.{lists_accepted}
use Rattle.verilog.specs.Reading.{module_in}
use Rattle.verilog.specs.Answer.{module_answer}
use Rattle.verilog.specs.Cycle.{module_cycle}
use Rattle.verilog.specs.Quiet.{quiet_cycles}
use Rattle.verilog.proofs.Typed.{TypedModule}
use Rattle.netlist.specs.Fits.{WithoutRefusal}
use Rattle.verilog.proofs.AcceptedTyped.{accepted_typed}
use Rattle.verilog.proofs.NeverStops.{typed_cycles_run, typed_cycles_quiet}
use Rattle.translate.specs.Answer.{netlist_of_file, translated_bytes, cell_count}
use Rattle.verilog.proofs.AcceptedModule.{accepted_tree}
use Rattle.translate.proofs.NetlistAccepted.{file_netlist_accepted}
use Rattle.translate.proofs.AgreesAlways.{agrees_always}

-- the variables that a module file declares, and their widths
abbrev pub declared : List ℕ → List Declaration
declared file = (module_in file).declarations

abbrev pub widths : List ℕ → List ℕ
widths file = map width_of (declared file)

-- both runs from a row with some input rows
pub record Agreement (file row : List ℕ) (inputs : List (List ℕ)) : Type 0 where
  -- the rows after each cycle, the same for both: neither run stops
  pub rows : List (List ℕ)
  pub module_gives : cycles_by (module_cycle (module_in file)) (declared file) row inputs ≡ got rows
  pub netlist_gives : cycles_by (netlist_cycle (netlist_in (translated_bytes file))) (declared file) row inputs ≡ got rows
  -- one for each cycle, and each fits
  pub one_each : length rows ≡ length inputs
  pub each_fits : (r : List ℕ) → Memᴰ r rows → all_fit (widths file) r ≡ true
  -- blocks not taken would not stop either, at any depth
  pub quiet : quiet_cycles (module_in file) row inputs ≡ true

pub record Demand3 (file : List ℕ) : Type 0 where
  -- the netlist's bytes are accepted, and read back as the lists of the translation
  pub accepted : netlist_answer (translated_bytes file) ≡ acceptance
  pub lists : netlist_in (translated_bytes file) ≡ netlist_of_file file
  -- every start, every fitting input, every number of cycles
  pub cycles : (row : List ℕ) → all_fit (widths file) row ≡ true → (inputs : List (List ℕ)) →
      ((i : List ℕ) → Memᴰ i inputs → inputs_fit (declared file) i ≡ true) → Agreement file row inputs

pub demand_3 : (file : List ℕ) → module_answer file ≡ acceptance → cell_count file ≤ most_cells → Demand3 file
demand_3 file accepted small = record {
  accepted = accepted_bytes (netlist_of_file file) unrefused;
  lists = back;
  cycles = λ row fits inputs each.
      let both = agrees_always (module_in file) typed row fits inputs each in
      let run = typed_cycles_run (module_in file) typed row fits inputs each in
      let same : both.rows ≡ run.rows = cc (both.module_gives, run.runs) in
      record {
        rows = run.rows;
        module_gives = run.runs;
        netlist_gives = ap (λ n. cycles_by (netlist_cycle n) (declared file) row inputs) back ∙ both.netlist_gives ∙ ap got same;
        one_each = run.many;
        each_fits = run.fit;
        quiet = typed_cycles_quiet (module_in file) typed row fits inputs each;
      };
}
  where
    typed : TypedModule (module_in file)
    typed = accepted_typed 3 (module_in file) (accepted_tree file accepted)

    unrefused : WithoutRefusal (netlist_of_file file)
    unrefused = lists_accepted (netlist_of_file file) (file_netlist_accepted file accepted typed small)

    back : netlist_in (translated_bytes file) ≡ netlist_of_file file
    back = (read_written (netlist_of_file file) unrefused.fits).1
