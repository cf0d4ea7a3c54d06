-- Many cycles: if one cycle never stops on a row that fits and leaves one that fits, then no run of cycles with fitting input rows stops.
-- By induction on the declarations and on the input rows. It speaks of any cycle, of a module's or a netlist's.
use mathlib.Core.Path.{◌≡◌, refl, ap}
use mathlib.Core.Bool.{true, false≢true}
use mathlib.Core.List.{List, [], ◌∷◌, map, Memᴰ}
use Prim.Native.Nat.{ℕ, zero, suc, ◌^◌, ◌<◌}
use lib.ListN.{length, get_or, set}
use borrow.Author.Tests.{lt-ltb}
use Rattle.words.specs.Widths.{fits_width}
use Rattle.words.specs.Values.{Outcome, got}
use Rattle.tagged.specs.Declarations.{Declaration, input, register, width_of}
use Rattle.tagged.specs.Rows.{all_fit}
use Rattle.tagged.specs.Cycles.{with_inputs, input_widths, inputs_fit, cycles_by}
use Rattle.tagged.proofs.TestLaws.{both}

-- a row that fits, with inputs that fit, fits
pub with_inputs_fits : (ds : List Declaration) (inputs row : List ℕ) → inputs_fit ds inputs ≡ true → all_fit (map width_of ds) row ≡ true →
    all_fit (map width_of ds) (with_inputs ds inputs row) ≡ true
unfolding inputs_fit input_widths with_inputs all_fit
with_inputs_fits [] inputs row e f = refl
with_inputs_fits (d ∷ ds) inputs [] e f = absurd (false≢true f)
with_inputs_fits (input w name ∷ ds) [] (v ∷ row) e f = absurd (false≢true e)
with_inputs_fits (input w name ∷ ds) (u ∷ inputs) (v ∷ row) e f =
    let i = both (fits_width w u) _ e in
    let j = both (fits_width w v) _ f in
    rw i.0 (with_inputs_fits ds inputs row i.1 j.1)
with_inputs_fits (register w initial name ∷ ds) inputs (v ∷ row) e f =
    let j = both (fits_width w v) _ f in
    rw j.0 (with_inputs_fits ds inputs row e j.1)

-- a row that fits, with another number that fits, fits
pub fits_set : (widths row : List ℕ) (i v : ℕ) → all_fit widths row ≡ true → v < 2 ^ get_or widths i 0 → all_fit widths (set row i v) ≡ true
unfolding all_fit
fits_set [] [] i v e h = refl
fits_set [] (x ∷ row) i v e h = absurd (false≢true e)
fits_set (w ∷ widths) [] i v e h = absurd (false≢true e)
fits_set (w ∷ widths) (x ∷ row) zero v e h = rw (lt-ltb v (2 ^ w) h) (both (fits_width w x) _ e).1
fits_set (w ∷ widths) (x ∷ row) (suc i) v e h = let j = both (fits_width w x) _ e in rw j.0 (fits_set widths row i v j.1 h)

-- a cycle of these declarations from this row does not stop, and leaves a row that fits
pub record Steps (cycle : List ℕ → Outcome (List ℕ)) (ds : List Declaration) (row : List ℕ) : Type 0 where
  pub after : List ℕ
  pub runs : cycle row ≡ got after
  pub fits : all_fit (map width_of ds) after ≡ true

-- the cycles from this row with these inputs do not stop: one row for each, and each fits
pub record Runs (cycle : List ℕ → Outcome (List ℕ)) (ds : List Declaration) (row : List ℕ) (inputs : List (List ℕ)) : Type 0 where
  pub rows : List (List ℕ)
  pub runs : cycles_by cycle ds row inputs ≡ got rows
  pub many : length rows ≡ length inputs
  pub fit : (r : List ℕ) → Memᴰ r rows → all_fit (map width_of ds) r ≡ true

module _ (cycle : List ℕ → Outcome (List ℕ)) (ds : List Declaration) (one : (row : List ℕ) → all_fit (map width_of ds) row ≡ true → Steps cycle ds row) where
  pub cycles_run : (row : List ℕ) (inputs : List (List ℕ)) → all_fit (map width_of ds) row ≡ true →
      ((i : List ℕ) → Memᴰ i inputs → inputs_fit ds i ≡ true) → Runs cycle ds row inputs
  unfolding cycles_by
  cycles_run row [] e f = record { rows = []; runs = refl; many = refl; fit = λ r m. elim m [ ] }
  cycles_run row (i ∷ inputs) e f =
      let s = one (with_inputs ds i row) (with_inputs_fits ds i row (f i (Memᴰ.head refl)) e) in
      let r = cycles_run s.after inputs s.fits (λ j m. f j (Memᴰ.tail m)) in
      record {
        rows = s.after ∷ r.rows;
        runs = rw (s.runs, r.runs);
        many = ap suc r.many;
        fit = each s.fits r.fit;
      }
    where
      each : {next : List ℕ} {rows : List (List ℕ)} → all_fit (map width_of ds) next ≡ true → ((r : List ℕ) → Memᴰ r rows → all_fit (map width_of ds) r ≡ true) →
          (r : List ℕ) → Memᴰ r (next ∷ rows) → all_fit (map width_of ds) r ≡ true
      each h g r (Memᴰ.head e) = rw e h
      each h g r (Memᴰ.tail m) = g r m
