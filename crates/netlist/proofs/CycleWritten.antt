-- What the code writes for one cycle of an accepted netlist is what its cycle gives: the parts of the file are its lists, and the lengths fit.
use Rattle.std.specs.Prelude.{Ok}
use mathlib.Core.Path.{◌≡◌, sym, ap, ap₂, ◌∙◌}
use mathlib.Core.List.{List}
use Prim.Native.Nat.{ℕ, ◌+◌, ◌*◌, ◌/◌, ◌≤◌}
use native.Mathlib.Omega.{arith}
use lib.ListN.{length, take, drop, length-drop, length-map}
use lib.Seq.{sets, take_all}
use Rattle.tagged.specs.Answers.{acceptance}
use Rattle.tagged.specs.Limits.{longest_netlist}
use Rattle.tagged.specs.Fields.{then_by, passed_bytes, unplaced, size_of}
use Rattle.tagged.specs.Declarations.{width_of, declarations_step, after_declarations}
use Rattle.tagged.specs.Runs.{row_left}
use Rattle.tagged.specs.Rows.{row_bytes, row_numbers, row_answer}
use Rattle.tagged.proofs.FieldLaws.{field_passed}
use Rattle.tagged.proofs.JudgeLaws.{then_tells}
use Rattle.tagged.proofs.FileLaws.{file_fits}
use Rattle.tagged.proofs.DeclarationBytes.{after_declared_lem}
use Rattle.tagged.proofs.DeclarationSizes.{variables_few}
use Rattle.tagged.proofs.WriteLaws.{sets_all}
use Rattle.tagged.proofs.RowLaws.{bytes_length, fits_length, numbers_front, RowAccepted, row_accepted}
use Rattle.words.specs.Values.{Outcome}
use Rattle.netlist.specs.Lists.{Netlist}
use Rattle.netlist.specs.Form.{cells_step, drives_judge, netlist_body, netlist_form}
use Rattle.netlist.specs.Reading.{cells_at, drives_at, lists_in, netlist_in}
use Rattle.netlist.specs.Answer.{netlist_answer}
use Rattle.netlist.specs.Run.{file_widths, cycle_of}
use Rattle.netlist.specs.Numbers.{cell_numbers, driven_numbers}
use Rattle.netlist.proofs.NetlistBytes.{cells_anywhere, body_fine}
use Rattle.netlist.proofs.Accepted.{AnswerParts, answer_parts}
use Rattle.netlist.proofs.PassedRules.{accepted_rules}
use Rattle.netlist.proofs.RulesFit.{cells_count}
use Rattle.netlist.proofs.NeverStops.{never_stops}
use Rattle.netlist.proofs.NumberLaws.{cycle_counts}

-- the cells of a file without a fault are passed
cells_passed : (file : List ℕ) → AnswerParts file → (k : ℕ) × (cells_step 0 0 (after_declarations (drop 3 file)) ≡ Ok k)
unfolding netlist_form
cells_passed file p =
    let l = drop 3 file in
    let fits = file_fits longest_netlist file p.fits in
    let f = field_passed netlist_body 0 0 file p.bytes p.form in
    let size : f.size ≡ size_of file = f.whole.size in
    let whole : take f.size l ≡ l = take_all f.size l (omega (arith, fits.outer, length-drop 3 file)) in
    let body = body_fine 0 f.sort l (ap (netlist_body 0 f.sort) (sym whole) ∙ f.fine) in
    let d = then_tells declarations_step (then_by cells_step drives_judge) 3 0 l body.1 in
    let g = then_tells cells_step drives_judge (3 + d.size) 0 (drop d.size l) d.rest in
    let from : after_declarations l ≡ drop d.size l = after_declared_lem 3 0 l d.size d.passed in
    (g.size, rw from (cells_anywhere (3 + d.size) 0 (drop d.size l) g.size g.passed))

-- what follows in a short part is short
pub part_short : (l : List ℕ) (k : ℕ) (r : List ℕ) → r ≡ drop k l → length l ≤ longest_netlist → length r ≤ longest_netlist
part_short l k r e h = omega (arith, ap length e, length-drop k l)

-- an accepted file has at most 64 variables
pub few_declared : (file : List ℕ) → netlist_answer file ≡ acceptance → length (netlist_in file).declarations ≤ 64
few_declared file accepted =
    let n = netlist_in file in
    variables_few 3 n.declarations (accepted_rules 3 n (answer_parts file accepted).lists).count.declarations

-- one cycle of a file that is accepted, from a row that fits
module _ (file row next : List ℕ) (accepted : netlist_answer file ≡ acceptance) (rows : row_answer (file_widths file) row (length next) ≡ acceptance) where
  abbrev n : Netlist
  n = netlist_in file

  parts : AnswerParts file
  parts = answer_parts file accepted

  fit : RowAccepted (file_widths file) row (length next)
  fit = row_accepted (file_widths file) row (length next) rows

  variables : length (file_widths file) ≡ length n.declarations
  variables = length-map n.declarations width_of

  pub file_short : length file ≤ longest_netlist
  file_short = (file_fits longest_netlist file parts.fits).short

  few_variables : length n.declarations ≤ 64
  few_variables = few_declared file accepted

  few_cells : length n.cells ≤ 1024
  few_cells = cells_count n (accepted_rules 3 n parts.lists).cells.whole

  count_is : length row / 4 ≡ length n.declarations
  count_is = omega (arith, fit.long, variables)

  pub count_few : length row / 4 ≤ 64
  count_few = omega (arith, count_is, few_variables)

  module _ (cells : List ℕ) (from : cells ≡ after_declarations (drop 3 file)) (end : ℕ) (ends : (m : ℕ) → cells_step 0 0 cells ≡ Ok m → end ≡ m)
      (numbers : List ℕ) (read : numbers ≡ row_numbers 64 row) (before values : List ℕ) (room : length before ≡ 1024)
      (ran : values ≡ cell_numbers numbers before 0 (unplaced (cells_at 0 cells))) (drives : List ℕ) (rest : drives ≡ drop end cells)
      (after : List ℕ) (drove : after ≡ driven_numbers numbers values numbers (unplaced (drives_at 0 drives))) where
    the_cells : unplaced (cells_at 0 cells) ≡ n.cells
    unfolding lists_in
    the_cells = ap (λ (l : List ℕ). unplaced (cells_at 0 l)) from

    the_end : end ≡ passed_bytes (cells_step 0 0 (after_declarations (drop 3 file)))
    the_end =
        let p = cells_passed file parts in
        ends p.0 (ap (λ (l : List ℕ). cells_step 0 0 l) from ∙ p.1) ∙ ap passed_bytes (sym p.1)

    the_drives : unplaced (drives_at 0 drives) ≡ n.drives
    unfolding lists_in
    the_drives = ap (λ (l : List ℕ). unplaced (drives_at 0 l)) (rest ∙ ap₂ (λ (k : ℕ) (l : List ℕ). drop k l) the_end from)

    counted : after ≡ driven_numbers (row_numbers 64 row) (cell_numbers (row_numbers 64 row) before 0 n.cells) (row_numbers 64 row) n.drives
    counted = rw (drove, ran, read, the_cells, the_drives)

    pub cycle_written : (left : List ℕ) → left ≡ sets next 0 (row_bytes (take (length row / 4) after)) → left ≡ row_left acceptance (cycle_of file row) next
    cycle_written left e =
        let s = never_stops 3 n parts.lists (row_numbers (length (file_widths file)) row) fit.fits in
        let front : take (length n.declarations) (row_numbers 64 row) ≡ row_numbers (length (file_widths file)) row =
        numbers_front (length n.declarations) 64 row few_variables ∙ ap (λ (k : ℕ). row_numbers k row) (sym variables) in
        let same = cycle_counts n (row_numbers (length (file_widths file)) row) fit.fits (row_numbers 64 row) front before (omega (arith, few_cells)) 3 parts.lists
        s.after s.runs in
        let new : take (length row / 4) after ≡ s.after = ap₂ (λ (k : ℕ) (l : List ℕ). take k l) count_is counted ∙ same in
        let long : length (row_bytes s.after) ≡ length next =
        bytes_length s.after ∙ ap (λ (k : ℕ). 4 * k) (fits_length (file_widths file) s.after s.fits) ∙ sym fit.next in
        e ∙ ap (λ (l : List ℕ). sets next 0 (row_bytes l)) new ∙ sets_all next (row_bytes s.after) long
        ∙ ap (λ (o : Outcome (List ℕ)). row_left acceptance o next) (sym s.runs)
