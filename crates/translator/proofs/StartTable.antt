-- The table that the code begins with is the one that the translation begins with: each variable itself. By induction on the declarations. Assumes nothing.
use mathlib.Core.Path.{◌≡◌, refl, ap}
use mathlib.Core.List.{List, [], ◌∷◌, ◌++◌, map}
use Prim.Native.Nat.{ℕ, ◌+◌}
use lib.ListN.{length}
use Rattle.tagged.specs.Declarations.{Declaration, width_of}
use Rattle.netlist.specs.declared.Operand.{Operand}
use Rattle.translate.specs.Tables.{Tables, themselves}
use Rattle.translate.proofs.FittingTables.{themselves_count}
use Rattle.translate_blocks.specs.Ends.{start_from, start_table}
use Rattle.translator.proofs.OperandTables.{one_table, Sized}

start_from_lem : (v : ℕ) (ds : List Declaration) → start_from v (map width_of ds) ≡ themselves v ds
unfolding start_from themselves
start_from_lem v [] = refl
start_from_lem v (d ∷ ds) = ap (λ (l : List Operand). Operand.Variable (width_of d) v ∷ l) (start_from_lem (v + 1) ds)

-- each variable itself, as current and as pending operand
abbrev pub start_tables : List Declaration → Tables
start_tables ds = record { current = themselves 0 ds; pending = themselves 0 ds }

pub start_table_lem : (ds : List Declaration) → start_table (map width_of ds) ≡ one_table (start_tables ds)
start_table_lem ds = ap (λ (l : List Operand). l ++ l) (start_from_lem 0 ds)

pub start_sized : (ds : List Declaration) → Sized (length ds) (start_tables ds)
start_sized ds = record { current = themselves_count 0 ds; pending = themselves_count 0 ds }
