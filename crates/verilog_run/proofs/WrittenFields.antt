-- A field that was written, at the front of bytes: how a run of statements or of items goes on past it.
-- From the laws of written fields in crate verilog. Assumes nothing.
use mathlib.Core.Path.{◌≡◌, refl, sym, ap, ◌∙◌}
use mathlib.Core.List.{List, [], ◌++◌, append-nil}
use Prim.Native.Nat.{ℕ, ◌+◌, ◌<◌}
use lib.Dec.{eqb}
use lib.ListN.{length}
use Rattle.tagged.specs.Choice.{choose}
use Rattle.tagged.specs.Sorts.{tag_of}
use Rattle.tagged.specs.Fields.{field_bytes, Placed, Field, read_from, fields_at}
use Rattle.tagged.specs.declared.sorts.Sort.{Sort}
use Rattle.verilog.specs.Cycle.{State}
use Rattle.verilog.proofs.WrittenFields.{fields_field}
use Rattle.verilog_run.specs.Execution.{Runner, run_all, item_value, run_items}

-- these bytes are one field, whose run leads from one state to the other
pub record Leads (run : Runner) (bytes : List ℕ) (from to : State) : Type 0 where
  pub sort : Sort
  pub payload : List ℕ
  pub field : bytes ≡ field_bytes (tag_of sort) payload
  pub short : length payload < 65536
  pub runs : run sort payload from ≡ to

-- and then the fields that follow
pub leads_on : {run : Runner} {bytes : List ℕ} {s t u : State} → Leads run bytes s t → (after : List ℕ) → ((base : ℕ) → run_all run (fields_at base after) t ≡ u) →
    (base : ℕ) → run_all run (fields_at base (bytes ++ after)) s ≡ u
unfolding run_all
leads_on {run} {s} x after rest base =
    let next : ℕ = base + (length x.payload + 3) in
    ap (λ (l : List ℕ). run_all run (fields_at base (l ++ after)) s) x.field
    ∙ ap (λ (l : List (Placed Field)). run_all run l s) (fields_field x.sort x.payload after x.short base)
    ∙ ap (λ (y : State). run_all run (fields_at next after) y) x.runs
    ∙ rest next

-- no field follows
pub runs_none : (run : Runner) (s : State) (base : ℕ) → run_all run (fields_at base []) s ≡ s
unfolding run_all fields_at read_from
runs_none run s base = refl

-- the items of a case: an item is taken or passed over, and the block that ends them is run
module _ (item : List ℕ → State → State) (block : Runner) (number : ℕ) (p : List ℕ) (short : length p < 65536) (base : ℕ) (s : State) where
  pub item_runs : (after : List ℕ) → run_items item block number (fields_at base (field_bytes (tag_of Sort.Item) p ++ after)) s ≡
      choose (eqb (item_value p) number) (λ _. item p s) (λ _. run_items item block number (fields_at (base + (length p + 3)) after) s)
  unfolding run_items
  item_runs after = ap (λ (l : List (Placed Field)). run_items item block number l s) (fields_field Sort.Item p after short base)

  pub default_runs : run_items item block number (fields_at base (field_bytes (tag_of Sort.Block) p)) s ≡ block Sort.Block p s
  unfolding run_items
  default_runs =
      ap (λ (l : List ℕ). run_items item block number (fields_at base l) s) (sym (append-nil (field_bytes (tag_of Sort.Block) p)))
      ∙ ap (λ (l : List (Placed Field)). run_items item block number l s) (fields_field Sort.Block p [] short base)
