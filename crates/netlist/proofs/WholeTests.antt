-- What the whole netlist breaks is what its test finds: over 1,024 cells; and, where each drive names the next register, fewer drives than registers
-- exactly where a register has no drive. By the order of the registers' numbers.
use Rattle.std.specs.Prelude.{Some, None}
use mathlib.Core.Path.{◌≡◌, refl, ◌∙◌}
use mathlib.Core.Bool.{Bool, true, false, false≢true}
use mathlib.Core.List.{List, [], Memᴰ}
use Prim.Native.Nat.{ℕ, ◌+◌, ◌<◌}
use native.Mathlib.Omega.{arith}
use lib.Dec.{leb, ltb}
use lib.ListN.{length, get_or}
use borrow.Author.Tests.{eqb-true, leb-false, ltb-true, ltb-false, not-false}
use Rattle.tagged.specs.Limits.{most_cells}
use Rattle.tagged.specs.declared.answers.Rule.{Rule}
use Rattle.netlist.specs.declared.Drive.{Drive}
use Rattle.netlist.specs.Lists.{Netlist}
use Rattle.netlist.specs.Form.{drive_bytes}
use Rattle.netlist.specs.Rules.{registers_from, not_next, drive_breaks, drives_base, whole_broken}
use Rattle.netlist.specs.Breaks.{DriveAt, WholeBreaks, without_drive, many_cells}
use Rattle.tagged.proofs.TestLaws.{neither}
use Rattle.tagged.proofs.RefusalLaws.{nowhere_passes}
use Rattle.netlist.proofs.PassedRules.{drive_broken}
use Rattle.tagged.proofs.PlaceLaws.{member_stands, index_stands}
use Rattle.netlist.proofs.RegisterLaws.{registers_marked, registers_indexed, registers_rise}

-- the whole netlist breaks a rule and its test finds it, or neither
pub data WholeCase (base : ℕ) (n : Netlist) (rule : Rule) : Type 0 where
  wholly : whole_broken rule n ≡ Some 0 → WholeBreaks base n rule → WholeCase base n rule
  not_at_all : whole_broken rule n ≡ None → (WholeBreaks base n rule → ⊥) → WholeCase base n rule

-- the rules that a whole netlist can break
abbrev is_whole : Rule → Bool
is_whole Rule.Reference = true
is_whole Rule.Cells = true
is_whole Rule.FileLength = false
is_whole Rule.Form = false
is_whole Rule.Value = false
is_whole Rule.Name = false
is_whole Rule.Count = false
is_whole Rule.Widths = false
is_whole Rule.BitNumber = false
is_whole Rule.BothKinds = false
is_whole Rule.TwoProcesses = false
is_whole Rule.ReadElsewhere = false
is_whole Rule.Buffer = false
is_whole Rule.Row = false

module _ (base : ℕ) (n : Netlist) where
  whole_rule : {rule : Rule} → WholeBreaks base n rule → is_whole rule ≡ true
  whole_rule (without_drive r d) = refl
  whole_rule (many_cells h) = refl

  many_cells_lem : WholeBreaks base n Rule.Cells → most_cells < length n.cells
  many_cells_lem (many_cells h) = h

  abbrev registers : List ℕ
  registers = registers_from 0 n.declarations

  record NamesNext (before : List Drive) (d : Drive) : Type 0 where
    pub within : length before < length registers
    pub named : d.variable ≡ get_or registers (length before) 0

  module _ (pass : drive_broken Rule.Reference base n ≡ None) where
    names_next : {before : List Drive} {p : ℕ} {d : Drive} → DriveAt base n before p d → NamesNext before d
    unfolding drive_breaks not_next
    names_next {before} {p} {d} s =
        let e = nowhere_passes (drive_breaks Rule.Reference n.declarations n.cells) [] s pass in
        let f = (neither (not_next n.declarations before d) _ e).0 in
        let g = neither (leb (length registers) (length before)) _ f in
        record { within = leb-false (length registers) (length before) g.0; named = eqb-true d.variable (get_or registers (length before) 0) (not-false _ g.1) }

    -- fewer drives than registers: the register after those that are driven has none
    fewer_without : length n.drives < length registers → WholeBreaks base n Rule.Reference
    fewer_without h =
        let r = registers_marked 0 n.declarations (length n.drives) h in
        without_drive {v = r.number} r.marked (λ d m e. go d r.number r.counted m e)
      where
        go : (d : Drive) (v : ℕ) → get_or registers (length n.drives) 0 ≡ 0 + v → Memᴰ d n.drives → d.variable ≡ v → ⊥
        go d v c m e =
            let s = member_stands drive_bytes (drives_base base n) m in
            let t = names_next s.stands in
            let less = registers_rise 0 n.declarations (length s.before) (length n.drives) s.within h in
            omega (arith, t.named, less)

    -- a register without a drive: there are fewer drives
    without_fewer : WholeBreaks base n Rule.Reference → length n.drives < length registers
    without_fewer (without_drive {v} marked none) = go (ltb (length n.drives) (length registers)) refl
      where
        go : (t : Bool) → ltb (length n.drives) (length registers) ≡ t → length n.drives < length registers
        go true h = ltb-true (length n.drives) (length registers) h
        go false h =
            let i = registers_indexed 0 n.declarations v marked in
            let there : i.index < length n.drives = omega (arith, i.within, ltb-false (length n.drives) (length registers) h) in
            let s = index_stands drive_bytes (drives_base base n) n.drives i.index there in
            let t = names_next s.stands in
            let at : get_or registers (length s.before) 0 ≡ 0 + v = rw s.index i.found in
            absurd (none s.what s.among (t.named ∙ at ∙ omega arith))

    drives_case : WholeCase base n Rule.Reference
    unfolding whole_broken
    drives_case = go (ltb (length n.drives) (length registers)) refl
      where
        go : (t : Bool) → ltb (length n.drives) (length registers) ≡ t → WholeCase base n Rule.Reference
        go true h = wholly (rw h) (fewer_without (ltb-true (length n.drives) (length registers) h))
        go false h = not_at_all (rw h) (λ w. omega (arith, ltb-false (length n.drives) (length registers) h, without_fewer w))

  cells_case : WholeCase base n Rule.Cells
  unfolding whole_broken
  cells_case = go (ltb most_cells (length n.cells)) refl
    where
      go : (t : Bool) → ltb most_cells (length n.cells) ≡ t → WholeCase base n Rule.Cells
      go true h = wholly (rw h) (many_cells (ltb-true most_cells (length n.cells) h))
      go false h = not_at_all (rw h) (λ w. omega (arith, ltb-false most_cells (length n.cells) h, many_cells_lem w))

  pub whole_case : (rule : Rule) → drive_broken rule base n ≡ None → WholeCase base n rule
  unfolding whole_broken
  whole_case Rule.Reference pass = drives_case pass
  whole_case Rule.Cells pass = cells_case
  whole_case Rule.FileLength pass = not_at_all refl (λ w. false≢true (whole_rule w))
  whole_case Rule.Form pass = not_at_all refl (λ w. false≢true (whole_rule w))
  whole_case Rule.Value pass = not_at_all refl (λ w. false≢true (whole_rule w))
  whole_case Rule.Name pass = not_at_all refl (λ w. false≢true (whole_rule w))
  whole_case Rule.Count pass = not_at_all refl (λ w. false≢true (whole_rule w))
  whole_case Rule.Widths pass = not_at_all refl (λ w. false≢true (whole_rule w))
  whole_case Rule.BitNumber pass = not_at_all refl (λ w. false≢true (whole_rule w))
  whole_case Rule.BothKinds pass = not_at_all refl (λ w. false≢true (whole_rule w))
  whole_case Rule.TwoProcesses pass = not_at_all refl (λ w. false≢true (whole_rule w))
  whole_case Rule.ReadElsewhere pass = not_at_all refl (λ w. false≢true (whole_rule w))
  whole_case Rule.Buffer pass = not_at_all refl (λ w. false≢true (whole_rule w))
  whole_case Rule.Row pass = not_at_all refl (λ w. false≢true (whole_rule w))
