-- The drives that the translation ends with: some after others, and one turn of the loop over the variables. By the marks in their order.
use Rattle.std.specs.Prelude.{Option}
use mathlib.Core.Path.{◌≡◌, refl, sym, ap, ◌∙◌}
use mathlib.Core.Bool.{Bool, true, false, cond}
use mathlib.Core.List.{List, [], ◌∷◌, ◌++◌, append_assoc, append-nil}
use Prim.Native.Nat.{ℕ, ◌+◌, ◌*◌, ◌≤◌, ◌<◌}
use native.Mathlib.Numerals.{add-one}
use native.Mathlib.Omega.{arith}
use lib.ListN.{length, get_or, take, length-append}
use lib.Seq.{take-suc, take_all, length-take-le}
use Rattle.tagged.specs.Fields.{all_bytes_of}
use Rattle.tagged.proofs.AllBytesLaws.{all_length, bytes_joined}
use Rattle.tagged.proofs.WriteLaws.{wrote_none}
use Rattle.netlist.specs.Form.{drive_bytes}
use Rattle.netlist.specs.declared.Operand.{Operand}
use Rattle.netlist.specs.declared.Drive.{Drive}
use Rattle.netlist.proofs.CellBytes.{drive_length}
use Rattle.verilog_check.specs.declared.assignments.First.{First}
use Rattle.translate_blocks.specs.declared.emit.Emitter.{Emitter}
use Rattle.translate_blocks.specs.Emitting.{Drives}
use Rattle.translate_blocks.specs.Ends.{drive_by, marked_drive, drives_from}
use Rattle.translate_blocks.proofs.EmitLaws.{appends_then, appends_as}

-- no drive, and some after others

pub drives_none : (e : Emitter) → Drives e [] e
unfolding all_bytes_of
drives_none e = record { appends = record { wrote = wrote_none; same_buffer = refl }; same_count = refl }

drives_then : {e e₁ e₂ : Emitter} {a b : List Drive} → Drives e a e₁ → Drives e₁ b e₂ → Drives e (a ++ b) e₂
drives_then {a = a} {b} p q = record { appends = appends_as (bytes_joined drive_bytes a b) (appends_then p.appends q.appends); same_count = q.same_count ∙ p.same_count }

drives_as : {e e₁ : Emitter} {a b : List Drive} → a ≡ b → Drives e b e₁ → Drives e a e₁
drives_as is p = record { appends = appends_as (ap (all_bytes_of drive_bytes) is) p.appends; same_count = p.same_count }

module _ (count : ℕ) (firsts : List (Option First)) (table : List Operand) where
  marked_few : (v : ℕ) (mark : Bool) → length (marked_drive count firsts table v mark) ≤ 1
  unfolding marked_drive
  marked_few v mark = go mark
    where
      go : (marked : Bool) → length (cond marked (drive_by count firsts table v ∷ []) []) ≤ 1
      go true = omega arith
      go false = omega arith

  -- at most a drive for each mark
  pub drives_few : (v : ℕ) (marks : List Bool) → length (drives_from count firsts table v marks) ≤ length marks
  unfolding drives_from
  drives_few v [] = omega arith
  drives_few v (mark ∷ marks) =
      let later : List Drive = drives_from count firsts table (v + 1) marks in
      rw (length-append (marked_drive count firsts table v mark) later) (omega (arith, marked_few v mark, drives_few (v + 1) marks))

  -- the drives of the first variables, and then one more
  drives_more : (v : ℕ) (marks : List Bool) (mark : Bool) →
      drives_from count firsts table v (marks ++ (mark ∷ [])) ≡ drives_from count firsts table v marks ++ marked_drive count firsts table (v + length marks) mark
  unfolding drives_from
  drives_more v [] mark = append-nil (marked_drive count firsts table v mark) ∙ ap (λ (k : ℕ). marked_drive count firsts table k mark) (omega arith)
  drives_more v (m ∷ marks) mark =
      ap (λ (l : List Drive). marked_drive count firsts table v m ++ l)
      (drives_more (v + 1) marks mark ∙ ap (λ (k : ℕ). drives_from count firsts table (v + 1) marks ++ marked_drive count firsts table k mark) (omega arith))
      ∙ sym (append_assoc (marked_drive count firsts table v m) (drives_from count firsts table (v + 1) marks) (marked_drive count firsts table (v + length (m ∷ marks)) mark))

  module _ (marks : List Bool) (e₀ : Emitter) where
    -- the drives of the variables passed are written
    abbrev pub DrivesGoing : ℕ → Emitter → Type 0
    DrivesGoing v e = Drives e₀ (drives_from count firsts table 0 (take v marks)) e

    pub drives_start : DrivesGoing 0 e₀
    unfolding drives_from
    drives_start = drives_none e₀

    -- how far the drives so far have moved the index
    pub drives_room : {v : ℕ} {e : Emitter} → v ≤ length marks → DrivesGoing v e → e.at ≤ e₀.at + 10 * v
    drives_room {v} h g =
        let done : List Drive = drives_from count firsts table 0 (take v marks) in
        omega (
          arith,
          g.appends.wrote.past,
          drives_few 0 (take v marks),
          length-take-le v marks h,
          all_length drive_bytes 10 done (λ d m. omega (arith, drive_length d)),
        )

    -- one variable more
    pub drives_turn : (v : ℕ) {e e' : Emitter} → v < length marks → DrivesGoing v e → Drives e (marked_drive count firsts table v (get_or marks v false)) e' → DrivesGoing (v + 1) e'
    drives_turn v h g w =
        let size : 0 + length (take v marks) ≡ v = omega (arith, length-take-le v marks (omega arith)) in
        let whole : drives_from count firsts table 0 (take (v + 1) marks) ≡ drives_from count firsts table 0 (take v marks) ++ marked_drive count firsts table v (get_or marks v false) =
        rw (add-one v, take-suc marks v false h)
        (drives_more 0 (take v marks) (get_or marks v false)
        ∙ ap (λ (k : ℕ). drives_from count firsts table 0 (take v marks) ++ marked_drive count firsts table k (get_or marks v false)) size) in
        drives_as whole (drives_then g w)

    -- no variable is left
    pub drives_done : {v : ℕ} {e : Emitter} → length marks ≤ v → DrivesGoing v e → Drives e₀ (drives_from count firsts table 0 marks) e
    drives_done {v} h g = drives_as (ap (drives_from count firsts table 0) (sym (take_all v marks h))) g
