-- Calling a run cycle after cycle gives the rows of its cycles, whatever the contract leaves open: if one cycle never stops on a row that fits and leaves one
-- that fits, each call is accepted and leaves the bytes of the next row. By induction on the calls. It speaks of any run, of a module's or a netlist's.
use mathlib.Core.Path.{◌≡◌, refl, sym, ap, ap₂, ◌∙◌, subst}
use mathlib.Core.Bool.{true}
use mathlib.Core.List.{List, [], ◌∷◌, map, append-nil, Memᴰ}
use Prim.Native.Nat.{ℕ, ◌*◌, ◌^◌, ◌<◌}
use lib.ListN.{length, get_or, length-map}
use borrow.Author.Tests.{eq-eqb}
use Rattle.words.specs.Values.{Outcome, got}
use Rattle.tagged.specs.Answers.{acceptance, Promise, Answer}
use Rattle.tagged.specs.Declarations.{Declaration, width_of}
use Rattle.tagged.specs.Rows.{row_bytes, row_numbers, all_fit, rows_fit, row_answer}
use Rattle.tagged.specs.Runs.{run_answer_of, row_left}
use Rattle.tagged.specs.Cycles.{with_inputs, inputs_fit, cycles_by}
use Rattle.tagged.proofs.RowLaws.{row_back, bytes_length, fits_length}
use Rattle.tagged.proofs.CycleLaws.{with_inputs_fits, Steps}
use Rattle.translator.specs.Calls.{RunCall, Calls, no_call, call}

-- the numbers of a row's bytes are the row
numbers_back : (row : List ℕ) → ((i : ℕ) → get_or row i 0 < 2 ^ 32) → row_numbers (length row) (row_bytes row) ≡ row
numbers_back row small = ap (row_numbers (length row)) (sym (append-nil (row_bytes row))) ∙ row_back row [] small

pub numbers_given : (widths row : List ℕ) → all_fit widths row ≡ true → ((i : ℕ) → get_or row i 0 < 2 ^ 32) → row_numbers (length widths) (row_bytes row) ≡ row
numbers_given widths row fits small = ap (λ (n : ℕ). row_numbers n (row_bytes row)) (sym (fits_length widths row fits)) ∙ numbers_back row small

-- a call on the bytes of a row that fits is accepted, and leaves the bytes of the next row
pub run_given : (answer : Answer) (widths row next after : List ℕ) (cycle : Outcome (List ℕ)) → answer ≡ acceptance → all_fit widths row ≡ true →
    ((i : ℕ) → get_or row i 0 < 2 ^ 32) → length next ≡ 4 * length widths → cycle ≡ got after → {given : Answer} {left : List ℕ} →
    Promise (run_answer_of answer widths (row_bytes row) (length next)) (row_left (run_answer_of answer widths (row_bytes row) (length next)) cycle next) given left →
    (given ≡ acceptance) × (left ≡ row_bytes after)
unfolding run_answer_of row_answer rows_fit
run_given answer widths row next after cycle accepted fits small long ran p =
    let count : length row ≡ length widths = fits_length widths row fits in
    let back : row_numbers (length widths) (row_bytes row) ≡ row = numbers_given widths row fits small in
    let row-long : length (row_bytes row) ≡ 4 * length widths = bytes_length row ∙ ap (λ (n : ℕ). 4 * n) count in
    let yes : run_answer_of answer widths (row_bytes row) (length next) ≡ acceptance =
    rw (accepted, eq-eqb (length (row_bytes row)) (4 * length widths) row-long, eq-eqb (length next) (4 * length widths) long, back, fits) in
    (p.answered ∙ yes, p.leaves ∙ ap₂ (λ (a : Answer) (o : Outcome (List ℕ)). row_left a o next) yes ran)

-- what the calls from a row with some input rows give
pub record Gives (cycle : List ℕ → Outcome (List ℕ)) (ds : List Declaration) (row : List ℕ) (inputs : List (List ℕ)) (answers : List Answer) (lefts : List (List ℕ)) : Type 0 where
  pub rows : List (List ℕ)
  pub runs : cycles_by cycle ds row inputs ≡ got rows
  pub accepted : (a : Answer) → Memᴰ a answers → a ≡ acceptance
  pub held : lefts ≡ map row_bytes rows

module _ (run : RunCall) (cycle : List ℕ → Outcome (List ℕ)) (ds : List Declaration)
    (small : (row : List ℕ) → all_fit (map width_of ds) row ≡ true → (i : ℕ) → get_or row i 0 < 2 ^ 32)
    (steps : (row : List ℕ) → all_fit (map width_of ds) row ≡ true → Steps cycle ds row)
    (one : (row next after : List ℕ) → all_fit (map width_of ds) row ≡ true → length next ≡ 4 * length ds → cycle row ≡ got after → (answer : Answer) (left : List ℕ) →
    run (row_bytes row) next answer left → (answer ≡ acceptance) × (left ≡ row_bytes after)) where
  each_accepted : {answer : Answer} {answers : List Answer} → answer ≡ acceptance → ((a : Answer) → Memᴰ a answers → a ≡ acceptance) →
      (a : Answer) → Memᴰ a (answer ∷ answers) → a ≡ acceptance
  each_accepted e later a (Memᴰ.head h) = h ∙ e
  each_accepted e later a (Memᴰ.tail m) = later a m

  pub calls_give : (row : List ℕ) (inputs : List (List ℕ)) → all_fit (map width_of ds) row ≡ true → ((i : List ℕ) → Memᴰ i inputs → inputs_fit ds i ≡ true) →
      {answers : List Answer} {lefts : List (List ℕ)} → Calls run ds row inputs answers lefts → Gives cycle ds row inputs answers lefts
  unfolding cycles_by
  calls_give row [] fits each no_call = record { rows = []; runs = refl; accepted = λ a m. elim m [ ]; held = refl }
  calls_give row (now ∷ later) fits each (call {answer = answer} {left} {answers} {lefts} next long made rest) =
      let from : List ℕ = with_inputs ds now row in
      let from-fits = with_inputs_fits ds now row (each now (Memᴰ.head refl)) fits in
      let step = steps from from-fits in
      let given = one from next step.after from-fits long step.runs answer left made in
      let count : length ds ≡ length step.after = sym (fits_length (map width_of ds) step.after step.fits ∙ length-map ds width_of) in
      let back : row_numbers (length ds) left ≡ step.after =
      ap₂ row_numbers count given.1 ∙ numbers_back step.after (small step.after step.fits) in
      let others = calls_give step.after later step.fits (λ i m. each i (Memᴰ.tail m)) (subst (λ (r : List ℕ). Calls run ds r later answers lefts) back rest) in
      record {
        rows = step.after ∷ others.rows;
        runs = rw (step.runs, others.runs);
        accepted = each_accepted given.0 others.accepted;
        held = ap₂ (λ (l : List ℕ) (ls : List (List ℕ)). l ∷ ls) given.1 others.held;
      }
