-- The variables in a list of them: what is read of one is that of the widths or of the values, and what is written changes one value alone.
use mathlib.Core.Path.{◌≡◌, refl, sym, ap₂, ◌∙◌}
use mathlib.Core.List.{List, map}
use Prim.Native.Nat.{ℕ, ◌+◌, ◌≤◌, ◌<◌}
use native.Mathlib.Numerals.{add-one}
use native.Mathlib.Omega.{arith}
use lib.ListN.{length, get_or, set, take, get_or-map, length-map}
use lib.Seq.{map-set_same, take_all, take-suc, take-suc-set}
use Rattle.std.proofs.lemmas.List.{map-set}
use Rattle.tagged.specs.declared.sorts.Kind.{Kind}
use Rattle.verilog.specs.Cycle.{changed}
use Rattle.verilog_run.specs.declared.variables.Variable.{Variable}
use Rattle.verilog_run.specs.Execution.{widths_of, state_of}

-- what is read where there is no such variable
abbrev pub nothing : Variable
nothing = record { width = 0; current = 0; pending = 0 }

pub width_at : (l : List Variable) (v : ℕ) → get_or (widths_of l) v 0 ≡ (get_or l v nothing).width
width_at l v = get_or-map (λ (v : Variable). v.width) l v nothing

pub current_at : (l : List Variable) (v : ℕ) → get_or (state_of l).current v 0 ≡ (get_or l v nothing).current
current_at l v = get_or-map (λ (v : Variable). v.current) l v nothing

pub pending_at : (l : List Variable) (v : ℕ) → get_or (state_of l).pending v 0 ≡ (get_or l v nothing).pending
pending_at l v = get_or-map (λ (v : Variable). v.pending) l v nothing

-- an assignment of each kind, where there is such a variable
pub current_changed : (kind : Kind) → kind ≡ Kind.Blocking → (l : List Variable) (v number : ℕ) →
    state_of (set l v (record { width = (get_or l v nothing).width; current = number; pending = (get_or l v nothing).pending })) ≡ changed kind (state_of l) v number
current_changed kind is l v number =
    let put : Variable = record { width = (get_or l v nothing).width; current = number; pending = (get_or l v nothing).pending } in
    rw is (ap₂ (λ (c p : List ℕ). record { current = c; pending = p }) (map-set (λ (v : Variable). v.current) l v put) (map-set_same (λ (v : Variable). v.pending) l v put nothing refl))

pub pending_changed : (kind : Kind) → kind ≡ Kind.NonBlocking → (l : List Variable) (v number : ℕ) →
    state_of (set l v (record { width = (get_or l v nothing).width; current = (get_or l v nothing).current; pending = number })) ≡ changed kind (state_of l) v number
pending_changed kind is l v number =
    let put : Variable = record { width = (get_or l v nothing).width; current = (get_or l v nothing).current; pending = number } in
    rw is (ap₂ (λ (c p : List ℕ). record { current = c; pending = p }) (map-set_same (λ (v : Variable). v.current) l v put nothing refl) (map-set (λ (v : Variable). v.pending) l v put))

pub width_changed : (l : List Variable) (v current pending : ℕ) → widths_of (set l v (record { width = (get_or l v nothing).width; current = current; pending = pending })) ≡ widths_of l
width_changed l v current pending =
    map-set_same (λ (v : Variable). v.width) l v (record { width = (get_or l v nothing).width; current = current; pending = pending }) nothing refl

-- the variables begin: one turn of the loop that sets them, for what each shows, and its end
module _ (show : Variable → ℕ) (values : List Variable) (column : List ℕ) (at : ℕ) (going : take at (map show values) ≡ take at column) where
  pub column_turn : at < length values → at < length column → (h : Variable) → show h ≡ get_or column at 0 →
      take (at + 1) (map show (set values at h)) ≡ take (at + 1) column
  column_turn within inside h is =
      rw (map-set, add-one, take-suc-set (map show values) at (show h) (omega (arith, length-map values show)), going, is, take-suc column at 0 inside)

  pub column_done : length values ≤ at → length column ≤ at → map show values ≡ column
  column_done past over =
      sym (take_all at (map show values) (omega (arith, length-map values show))) ∙ going ∙ take_all at column over
