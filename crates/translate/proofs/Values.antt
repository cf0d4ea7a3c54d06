-- Cells that run to values, and operands that denote numbers: a run is followed by another, and what an operand denotes is kept while values grow.
-- By induction on the cells, and by the test that reading a cell's value makes. Assumes nothing.
use mathlib.Core.Path.{◌≡◌, refl, sym, ◌∙◌}
use mathlib.Core.Bool.{Bool, true, false}
use mathlib.Core.List.{List, [], ◌∷◌, ◌++◌}
use Prim.Native.Nat.{ℕ, ◌+◌, ◌^◌, ◌≤◌, ◌<◌}
use native.Mathlib.Omega.{arith}
use lib.Dec.{ltb}
use lib.ListN.{length, get_or, length-append, get_or-append}
use lib.Seq.{get_or_at}
use borrow.Author.Tests.{ltb-true, lt-ltb, eq-eqb}
use Rattle.words.specs.Values.{Value, Outcome, stopped, got, ◌>>=◌, provided}
use Rattle.tagged.specs.Declarations.{Declaration}
use Rattle.netlist.specs.Lists.{operand_width}
use Rattle.netlist.specs.Cycle.{stated_width, operand_value, cell_value, cell_values}
use Rattle.netlist.specs.declared.Operand.{Operand}
use Rattle.netlist.specs.declared.Cell.{Cell}

pub stopped_not : {A B : Type 0} {a : A} → stopped ≡ got a → B
stopped_not e = absurd (let z : ◌≡◌ {A = ℕ} 0 1 = cc in omega arith)

-- what stands for a missing cell's value
abbrev pub no_value : Value
no_value = record { width = 0; number = 0 }

-- the later values begin with the earlier ones
pub record Grows (values later : List Value) : Type 0 where
  pub longer : length values ≤ length later
  pub same : (k : ℕ) → k < length values → get_or later k no_value ≡ get_or values k no_value

pub grows_not : {values : List Value} → Grows values values
grows_not = record { longer = omega arith; same = λ k h. refl }

pub grows_twice : {a b c : List Value} → Grows a b → Grows b c → Grows a c
grows_twice p q = record { longer = omega arith; same = λ k h. q.same k (omega arith) ∙ p.same k h }

grows_append : (values more : List Value) → Grows values (values ++ more)
grows_append values more = record { longer = simp length-append (omega arith); same = λ k h. get_or-append values more no_value k h }

-- an operand reads this number, of this width, and the number fits
pub record Denotes (ds : List Declaration) (row : List ℕ) (values : List Value) (o : Operand) (w x : ℕ) : Type 0 where
  pub is : operand_value ds row values o ≡ got (record { width = w; number = x })
  pub wide : operand_width o ≡ w
  pub fits : x < 2 ^ w

value_kept : (ds : List Declaration) (row : List ℕ) {values later : List Value} (o : Operand) {x : Value} → Grows values later →
    operand_value ds row values o ≡ got x → operand_value ds row later o ≡ got x
unfolding operand_value
value_kept ds row (Operand.Constant w n) g e = e
value_kept ds row (Operand.Variable w n) g e = e
value_kept ds row {values} {later} (Operand.Cell w n) {x} g e = go (ltb n (length values)) refl e
  where
    go : (t : Bool) → ltb n (length values) ≡ t → provided t (stated_width w (get_or values n no_value)) ≡ got x →
        provided (ltb n (length later)) (stated_width w (get_or later n no_value)) ≡ got x
    go false h i = stopped_not i
    go true h i =
        let below : n < length values = ltb-true n (length values) h in
        rw (lt-ltb n (length later) (omega arith), g.same n below) i

pub denotes_kept : {ds : List Declaration} {row : List ℕ} {values later : List Value} {o : Operand} {w x : ℕ} → Grows values later →
    Denotes ds row values o w x → Denotes ds row later o w x
denotes_kept {ds} {row} {o = o} g d = record { is = value_kept ds row o g d.is; wide = d.wide; fits = d.fits }

-- the cells run from some values to later ones, one for each cell
pub record Run (ds : List Declaration) (row : List ℕ) (values : List Value) (cells : List Cell) (later : List Value) : Type 0 where
  pub runs : cell_values ds row values cells ≡ got later
  pub grows : Grows values later
  pub count : length later ≡ length values + length cells

pub run_none : {ds : List Declaration} {row : List ℕ} {values : List Value} → Run ds row values [] values
unfolding cell_values
run_none = record { runs = refl; grows = grows_not; count = omega arith }

pub run_one : {ds : List Declaration} {row : List ℕ} {values : List Value} {c : Cell} {x : Value} →
    cell_value ds row values c ≡ got x → Run ds row values (c ∷ []) (values ++ (x ∷ []))
unfolding cell_values
run_one {values = values} {x = x} e = record {
  runs = rw e;
  grows = grows_append values (x ∷ []);
  count = simp length-append (omega arith);
}

cells_append : (ds : List Declaration) (row : List ℕ) (values : List Value) (a b : List Cell) →
    cell_values ds row values (a ++ b) ≡ (cell_values ds row values a >>= λ later. cell_values ds row later b)
unfolding cell_values
cells_append ds row values [] b = refl
cells_append ds row values (c ∷ a) b = go (cell_value ds row values c) (λ x. cells_append ds row (values ++ (x ∷ [])) a b)
  where
    go : (o : Outcome Value) →
        ((x : Value) → cell_values ds row (values ++ (x ∷ [])) (a ++ b) ≡ (cell_values ds row (values ++ (x ∷ [])) a >>= λ later. cell_values ds row later b)) →
        (o >>= λ x. cell_values ds row (values ++ (x ∷ [])) (a ++ b)) ≡
        ((o >>= λ x. cell_values ds row (values ++ (x ∷ [])) a) >>= λ later. cell_values ds row later b)
    go stopped h = refl
    go (got x) h = h x

pub run_append : {ds : List Declaration} {row : List ℕ} {values mid later : List Value} {a b : List Cell} →
    Run ds row values a mid → Run ds row mid b later → Run ds row values (a ++ b) later
run_append {ds} {row} {values} {a = a} {b = b} p q = record {
  runs = cells_append ds row values a b ∙ rw p.runs q.runs;
  grows = grows_twice p.grows q.grows;
  count = simp length-append (omega arith);
}

-- the operand of the cell that was run last
pub denotes_last : {ds : List Declaration} {row : List ℕ} (values : List Value) {w x : ℕ} (n : ℕ) → n ≡ length values → x < 2 ^ w →
    Denotes ds row (values ++ (record { width = w; number = x } ∷ [])) (Operand.Cell w n) w x
unfolding operand_value
denotes_last values {w} {x} n e h =
    let v : Value = record { width = w; number = x } in
    let below : n < length (values ++ (v ∷ [])) = simp length-append (omega arith) in
    record {
      is = rw (lt-ltb n (length (values ++ (v ∷ []))) below, get_or_at values v [] no_value n (sym e), eq-eqb w w refl);
      wide = refl;
      fits = h;
    }
