-- One pass writes the header, the declarations, the cells and the drives, one after the other; two passes measure, decide refusals 12 and 13, and then write.
-- By the laws of writing bytes, and by the bounds on cells and drives, which hold on any bytes.
use Rattle.std.specs.Prelude.{Ok, Err}
use mathlib.Core.Path.{◌≡◌, refl, sym, ap, ap₂, ◌∙◌, subst}
use mathlib.Core.Bool.{Bool, true, false, cond}
use mathlib.Core.List.{List, ◌∷◌, ◌++◌}
use Prim.Native.Nat.{ℕ, ◌+◌, ◌-◌, ◌*◌, ◌^◌, ◌≤◌}
use native.Mathlib.Nat.{zero-add}
use native.Mathlib.Omega.{arith}
use lib.Dec.{ltb}
use lib.ListN.{length, drop, length-append}
use borrow.Author.Tests.{ltb-false}
use Rattle.tagged.specs.Answers.{acceptance, refused, written, Translation, Promise}
use Rattle.tagged.specs.Limits.{most_cells}
use Rattle.tagged.specs.Bytes.{two_bytes, Wrote}
use Rattle.tagged.specs.Sorts.{tag_of}
use Rattle.tagged.specs.Fields.{all_bytes_of}
use Rattle.tagged.specs.declared.sorts.Sort.TheVariants as Sort
use Rattle.tagged.specs.declared.answers.Rule.TheVariants as Rule
use Rattle.tagged.specs.declared.answers.Refusal.{Refusal}
use Rattle.tagged.specs.declared.answers.Written.{Written}
use Rattle.tagged.proofs.AllBytesLaws.{all_length}
use Rattle.tagged.proofs.WriteLaws.{wrote_then, wrote_roomy}
use Rattle.netlist.specs.Form.{cell_bytes, drive_bytes}
use Rattle.netlist.specs.declared.Operand.{Operand}
use Rattle.netlist.specs.declared.Drive.{Drive}
use Rattle.netlist.proofs.CellBytes.{cell_length, drive_length}
use Rattle.translate.specs.Answer.{after_check, buffer_after}
use Rattle.translate_blocks.specs.declared.case_log.Log.{Log}
use Rattle.translate_blocks.specs.declared.emit.Emitter.{Emitter}
use Rattle.translate_blocks.specs.Emitting.{Drives}
use Rattle.translate_blocks.specs.Writing.{variables_in, write_processes}
use Rattle.translate_blocks.specs.Working.{work, Translates}
use Rattle.translate_blocks.specs.Ends.{start_from, start_table, drives_by}
use Rattle.translate_blocks.proofs.Bounds.{processes_bounded}
use Rattle.translate_blocks.proofs.EmitLaws.{emits_past}
use Rattle.translate_blocks.proofs.StartTurns.{start_count}
use Rattle.translate_blocks.proofs.DriveTurns.{drives_few}
use Rattle.translate_blocks.proofs.WorkLaws.{translates_as}
use Rattle.translator.specs.declared.parts.Parts.{Parts}
use Rattle.translator.specs.Passes.{passed, passed_cells, rest_of, whole_of, Passed, length_of, pass_answer, pass_buffer}

-- how much a pass writes

start_length : (widths : List ℕ) → length (start_table widths) ≡ 2 * length widths
start_length widths = omega (arith, length-append (start_from 0 widths) (start_from 0 widths), start_count 0 widths)

module _ (p : Parts) where
  cells_bounded : length (passed_cells p) ≤ 128 * length p.list.now
  cells_bounded =
      (processes_bounded (length p.widths.now) p.list.now (start_table p.widths.now) 0).cells (omega (arith, start_length p.widths.now, p.few_widths))

  rest_long : length (rest_of p) ≤ 2 ^ 27
  unfolding rest_of
  rest_long =
      let drives : List Drive = drives_by p.marks.now p.firsts.now (passed p).operands in
      omega (
        arith,
        length-append (all_bytes_of cell_bytes (passed_cells p)) (all_bytes_of drive_bytes drives),
        all_length cell_bytes 22 (passed_cells p) (λ c m. cell_length c),
        cells_bounded,
        all_length drive_bytes 10 drives (λ d m. omega (arith, drive_length d)),
        drives_few (length p.marks.now) p.firsts.now (passed p).operands 0 p.marks.now,
        p.short,
        p.few_marks,
      )

  pub whole_long : (size : ℕ) → length (whole_of size p) ≡ 3 + length p.declared.now + length (rest_of p)
  unfolding whole_of two_bytes
  whole_long size = omega (arith, length-append p.declared.now (rest_of p))

-- the table is the one in which each variable is itself
module _ (p : Parts) {table : List Operand} (start : table ≡ start_table p.widths.now) where
  table_length : length table ≡ 2 * length p.widths.now
  table_length = ap length start ∙ start_length p.widths.now

  begun : write_processes (variables_in table) p.list.now table 0 ≡ passed p
  begun =
      ap (λ (k : ℕ). write_processes k p.list.now table 0) (omega (arith, table_length))
      ∙ ap (λ (t : List Operand). write_processes (length p.widths.now) p.list.now t 0) start

  module _ {e e₁ : Emitter} {log log₁ : Log} {table₁ : List Operand} (none : e.cells ≡ 0)
      (translated : Translates (write_processes (variables_in table) p.list.now table e.cells) (work e log) (work e₁ log₁) table₁) where
    given : Translates (passed p) (work e log) (work e₁ log₁) table₁
    given = translates_as (sym (ap (λ (n : ℕ). write_processes (variables_in table) p.list.now table n) none ∙ begun)) translated

    -- how far the index has moved past the cells
    pub cells_reach : e₁.at ≤ e.at + 2 ^ 26
    cells_reach = omega (arith, emits_past given.emitted, cells_bounded p, p.short)

    -- cells, then drives
    pub rest_passed : {e₂ : Emitter} → Drives e₁ (drives_by p.marks.now p.firsts.now table₁) e₂ →
        Passed e.out.now e.at (rest_of p) (passed_cells p) e₂.out.now e₂.at e₂.cells
    unfolding rest_of
    rest_passed {e₂} drives =
        let drawn : Drives e₁ (drives_by p.marks.now p.firsts.now (passed p).operands) e₂ =
        subst (λ (t : List Operand). Drives e₁ (drives_by p.marks.now p.firsts.now t) e₂) given.left drives in
        record {
          wrote = wrote_then given.emitted.appends.wrote drawn.appends.wrote;
          counted = omega (arith, drives.same_count, given.emitted.counted, none);
        }

-- where the declarations begin
pub head_past : {out out₁ : List ℕ} {at₁ tag : ℕ} (size : ℕ) → Wrote out 0 (tag ∷ two_bytes size) out₁ at₁ → at₁ ≡ 3
unfolding two_bytes
head_past size head = omega (arith, head.past)

-- the header, the declarations, and the rest
pub whole_passed : (p : Parts) {out out₁ out₂ out₃ : List ℕ} {at₁ at₂ at₃ count : ℕ} (size : ℕ) → Wrote out 0 (tag_of Sort.Netlist ∷ two_bytes size) out₁ at₁ →
    Wrote out₁ at₁ p.declared.now out₂ at₂ → Passed out₂ at₂ (rest_of p) (passed_cells p) out₃ at₃ count →
    Passed out 0 (whole_of size p) (passed_cells p) out₃ at₃ count
unfolding whole_of
whole_passed p size head part rest = record { wrote = wrote_then head (wrote_then part rest.wrote); counted = rest.counted }

-- what the first pass measures
module _ (p : Parts) {buffer left : List ℕ} {at count : ℕ} (measured : Passed buffer 0 (whole_of 0 p) (passed_cells p) left at count) where
  pub at_least : 3 ≤ at
  at_least = omega (arith, measured.wrote.past, whole_long p 0)

  pub at_most : at ≤ 2 ^ 28
  at_most = omega (arith, measured.wrote.past, whole_long p 0, rest_long p, p.short)

-- where neither 12 nor 13 applies there is room, and the answer is what was measured
decided : (cells size room : ℕ) {w : Written} → Ok w ≡ after_check acceptance cells size room →
    (size ≤ room) × (after_check acceptance cells size room ≡ Ok (written size cells))
decided cells size room {w} e = go (ltb most_cells cells) (ltb room size) refl (sym e)
  where
    go : (many short : Bool) → ltb room size ≡ short →
        cond many (Err (refused Rule.Cells 0)) (cond {A = Translation} short (Err (refused Rule.Buffer 0)) (Ok (written size cells))) ≡ Ok w →
        (size ≤ room) × (cond many (Err (refused Rule.Cells 0)) (cond short (Err (refused Rule.Buffer 0)) (Ok (written size cells))) ≡ Ok (written size cells))
    go true short t p = absurd (let z : ◌≡◌ {A = ℕ} 0 1 = cc in omega arith)
    go false true t p = absurd (let z : ◌≡◌ {A = ℕ} 0 1 = cc in omega arith)
    go false false t p = (omega (arith, ltb-false room size t), refl)

-- what is answered by what the first pass measured, and what the second leaves
module _ (p : Parts) (out : List ℕ) {buffer left : List ℕ} {at count : ℕ} (measured : Passed buffer 0 (whole_of 0 p) (passed_cells p) left at count) where
  abbrev Kept : Translation → List ℕ → Type 0
  Kept answer held = Promise (pass_answer p (length out)) (pass_buffer p out) answer held

  answer_is : after_check acceptance count at (length out) ≡ pass_answer p (length out)
  unfolding pass_answer
  answer_is = ap₂ (λ (cells size : ℕ). after_check acceptance cells size (length out)) measured.counted (omega (arith, measured.wrote.past))

  pub refused_kept : {e : Refusal} → Err e ≡ after_check acceptance count at (length out) → Kept (Err e) out
  unfolding pass_buffer
  refused_kept {e} is = let told = is ∙ answer_is in record { answered = told; leaves = ap (λ (t : Translation). buffer_after t (whole_of (length_of p - 3) p) out) told }

  pub both_passed : {w : Written} → Ok w ≡ after_check acceptance count at (length out) → {held : List ℕ} {end cells : ℕ} →
      Passed out 0 (whole_of (at - 3) p) (passed_cells p) held end cells → Kept (Ok (written end cells)) held
  unfolding pass_buffer
  both_passed is {held} {end} {cells} second =
      let size : ℕ = length_of p in
      let whole : List ℕ = whole_of (at - 3) p in
      let same : length whole ≡ size = whole_long p (at - 3) ∙ sym (whole_long p 0) in
      let measured_size : at ≡ size = omega (arith, measured.wrote.past) in
      let fine = decided count at (length out) is in
      let told : Ok (written at count) ≡ pass_answer p (length out) = sym fine.1 ∙ answer_is in
      record {
        answered =
            ap₂ (λ (l n : ℕ). Ok (written l n)) (omega (arith, second.wrote.past, same, measured_size)) (omega (arith, second.counted, measured.counted)) ∙ told;
        leaves =
            wrote_roomy second.wrote (omega (arith, fine.0, same, measured_size))
            ∙ ap (λ (k : ℕ). whole ++ drop k out) (zero-add (length whole) ∙ same ∙ sym measured_size)
            ∙ ap (λ (k : ℕ). whole_of (k - 3) p ++ drop at out) measured_size
            ∙ ap (λ (t : Translation). buffer_after t (whole_of (size - 3) p) out) told;
      }
