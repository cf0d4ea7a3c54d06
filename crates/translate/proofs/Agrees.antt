-- THE THEOREM: the netlist of a typed module agrees with the module, in one cycle from any row that fits and in any number of cycles.
-- All processes are simulated from the start, where each variable stands for itself; then the drives settle what the processes left.
use mathlib.Core.Path.{◌≡◌, refl, ◌∙◌}
use mathlib.Core.Bool.{true}
use mathlib.Core.List.{List, [], map}
use Prim.Native.Nat.{ℕ}
use lib.ListN.{length, length-map}
use borrow.Author.Tests.{eq-eqb}
use Rattle.words.specs.Values.{got}
use Rattle.tagged.specs.Declarations.{Declaration, width_of}
use Rattle.tagged.specs.Rows.{all_fit}
use Rattle.tagged.proofs.RowLaws.{fits_length}
use Rattle.netlist.specs.Cycle.{netlist_cycle}
use Rattle.verilog.specs.Tree.{Module}
use Rattle.verilog.specs.Cycle.{State, execute_all, delays_any, settled, module_cycle}
use Rattle.verilog.proofs.Typed.{TypedModule}
use Rattle.translate.specs.Tables.{Tables, themselves}
use Rattle.translate.specs.Translation.{translate_all, translated_module, netlist_of}
use Rattle.translate.proofs.Tracks.{from_start, Stands, stands_start}
use Rattle.translate.proofs.Statements.{Executed, all_simulated}
use Rattle.translate.proofs.Drives.{settled_fit, drives_settle}

-- from this row, the module and its netlist both go on, to the same row, which fits
pub record Agree (m : Module) (row : List ℕ) : Type 0 where
  pub next : List ℕ
  pub module_gives : module_cycle m row ≡ got next
  pub netlist_gives : netlist_cycle (netlist_of m) row ≡ got next
  pub fits : all_fit (map width_of m.declarations) next ≡ true

-- one operand and one number for each variable, both at first the variable's own
abbrev start_tables : Module → Tables
start_tables m = record { current = themselves 0 m.declarations; pending = themselves 0 m.declarations }

abbrev start_state : List ℕ → State
start_state row = record { current = row; pending = row }

processes_simulated : (m : Module) → TypedModule m → (row : List ℕ) → all_fit (map width_of m.declarations) row ≡ true →
    Executed m.declarations row [] (execute_all m.declarations (start_state row) m.processes) (translate_all (start_tables m) 0 m.processes)
processes_simulated m typed row e =
    let ds : List Declaration = m.declarations in
    let start : Stands ds row [] ds row (themselves 0 ds) row = stands_start ds row [] 0 ds row from_start from_start e in
    all_simulated ds row typed.processes [] 0 (start_tables m) (start_state row) refl (record { current = start; pending = start })

-- the module's cycle from what the processes left, and the netlist's
module_settles : (m : Module) (row : List ℕ) (s : State) → length row ≡ length m.declarations →
    execute_all m.declarations (start_state row) m.processes ≡ got s →
    module_cycle m row ≡ got (settled (delays_any m.processes) 0 s.current s.pending)
unfolding module_cycle
module_settles m row s count e = rw (eq-eqb (length row) (length m.declarations) count, e)

netlist_settles : (m : Module) (row : List ℕ) → length row ≡ length m.declarations →
    (x : Executed m.declarations row [] (execute_all m.declarations (start_state row) m.processes) (translate_all (start_tables m) 0 m.processes)) →
    netlist_cycle (netlist_of m) row ≡ got (settled (delays_any m.processes) 0 x.state.current x.state.pending)
unfolding netlist_cycle netlist_of translated_module
netlist_settles m row count x =
    rw (eq-eqb (length row) (length m.declarations) count, x.reaches.run.runs)
    (drives_settle m.declarations row x.reaches.later m (translate_all (start_tables m) 0 m.processes).tables
    x.reaches.tracked.current x.reaches.tracked.pending 0 [] refl from_start from_start from_start)

-- ONE CYCLE
pub agrees : (m : Module) → TypedModule m → (row : List ℕ) → all_fit (map width_of m.declarations) row ≡ true → Agree m row
agrees m typed row e =
    let count : length row ≡ length m.declarations = fits_length (map width_of m.declarations) row e ∙ length-map m.declarations width_of in
    let x = processes_simulated m typed row e in
    record {
      next = settled (delays_any m.processes) 0 x.state.current x.state.pending;
      module_gives = module_settles m row x.state count x.executes;
      netlist_gives = netlist_settles m row count x;
      fits = settled_fit (delays_any m.processes) 0 x.reaches.tracked.current x.reaches.tracked.pending;
    }
