-- Laws of the survey, in the form in which code asks them: each arm of a match, and one turn of the loop over the bytes.
use Rattle.std.specs.Prelude.{Ok, Err, Option, Some, None, is_none, eqb}
use mathlib.Core.Path.{◌≡◌, refl, sym, ap, ◌∙◌}
use mathlib.Core.Bool.{Bool, true, false, cond, ◌&&◌}
use mathlib.Core.List.{List, [], ◌∷◌}
use Prim.Native.Nat.{ℕ, zero, suc, ◌+◌, ◌-◌, ◌≤◌}
use native.Mathlib.Omega.{arith}
use lib.ListN.{length, get_or, take, drop, set, length-drop, length-set}
use lib.Seq.{drop-drop, get_or-drop}
use borrow.Author.Tests.{ne_eqb}
use Rattle.tagged.specs.declared.answers.Fault.{Fault}
use Rattle.tagged.specs.Fields.{open_of, Opened}
use Rattle.tagged.specs.declared.sorts.Kind.{Kind}
use Rattle.tagged.specs.declared.sorts.StatementSort.{StatementSort}
use Rattle.tagged.specs.declared.sorts.Sort.{Sort}
use Rattle.tagged.proofs.ByteLaws.{rest}
use Rattle.tagged.proofs.FieldLaws.{Whole, open_whole, whole_open}
use Rattle.verilog.specs.Rules.{is_blocking}
use Rattle.verilog_check.specs.declared.assignments.First.{First}
use Rattle.verilog_check.specs.Tables.{first_by, with_first, note_first}
use Rattle.verilog_check.specs.Survey.{step_over, begun_after, noted, survey_from}

-- the table keeps its length
pub first_length : (firsts : List (Option First)) (v : ℕ) (first : First) → length (with_first firsts v first) ≡ length firsts
unfolding with_first
first_length firsts v first = go (is_none (get_or firsts v None))
  where
    go : (t : Bool) → length (cond t (set firsts v (Some first)) firsts) ≡ length firsts
    go true = length-set firsts v (Some first)
    go false = refl

noted_first_length : (firsts : List (Option First)) (v begun : ℕ) (kind : Kind) → length (note_first firsts v begun kind) ≡ length firsts
unfolding note_first
noted_first_length firsts v begun kind = go (eqb begun 0 && is_blocking kind)
  where
    go : (t : Bool) → length (cond t firsts (with_first firsts v (first_by begun kind))) ≡ length firsts
    go true = refl
    go false = first_length firsts v _

noted-length : (s : Sort) (v begun : ℕ) (firsts : List (Option First)) → length (noted s v begun firsts) ≡ length firsts
unfolding noted
noted-length (Sort.Statement (StatementSort.Assign kind)) v begun firsts = noted_first_length firsts v begun kind
noted-length (Sort.Statement (StatementSort.AssignBit kind)) v begun firsts = noted_first_length firsts v begun kind
noted-length (Sort.Statement StatementSort.If) v begun firsts = refl
noted-length (Sort.Statement StatementSort.Case) v begun firsts = refl
noted-length Sort.Module v begun firsts = refl
noted-length (Sort.Declaration d) v begun firsts = refl
noted-length Sort.Process v begun firsts = refl
noted-length Sort.Item v begun firsts = refl
noted-length Sort.Block v begun firsts = refl
noted-length (Sort.Expression e) v begun firsts = refl
noted-length (Sort.Cell c) v begun firsts = refl
noted-length Sort.Drive v begun firsts = refl
noted-length Sort.Netlist v begun firsts = refl
noted-length Sort.Unknown v begun firsts = refl

-- a step goes at least over the header, and at most over the field
step_within : (s : Sort) (n : ℕ) → (3 ≤ step_over s n) × (step_over s n ≤ n + 3)
unfolding step_over
step_within (Sort.Statement (StatementSort.Assign kind)) n = (omega arith, omega arith)
step_within (Sort.Statement (StatementSort.AssignBit kind)) n = (omega arith, omega arith)
step_within (Sort.Statement StatementSort.If) n = (omega arith, omega arith)
step_within (Sort.Statement StatementSort.Case) n = (omega arith, omega arith)
step_within Sort.Module n = (omega arith, omega arith)
step_within (Sort.Declaration d) n = (omega arith, omega arith)
step_within Sort.Process n = (omega arith, omega arith)
step_within Sort.Item n = (omega arith, omega arith)
step_within Sort.Block n = (omega arith, omega arith)
step_within (Sort.Expression e) n = (omega arith, omega arith)
step_within (Sort.Cell c) n = (omega arith, omega arith)
step_within Sort.Drive n = (omega arith, omega arith)
step_within Sort.Netlist n = (omega arith, omega arith)
step_within Sort.Unknown n = (omega arith, omega arith)

begun_within : (s : Sort) (begun : ℕ) → begun_after s begun ≤ begun + 1
unfolding begun_after
begun_within Sort.Module begun = omega arith
begun_within (Sort.Declaration d) begun = omega arith
begun_within Sort.Process begun = omega arith
begun_within (Sort.Statement s) begun = omega arith
begun_within Sort.Item begun = omega arith
begun_within Sort.Block begun = omega arith
begun_within (Sort.Expression e) begun = omega arith
begun_within (Sort.Cell c) begun = omega arith
begun_within Sort.Drive begun = omega arith
begun_within Sort.Netlist begun = omega arith
begun_within Sort.Unknown begun = omega arith

-- within a process every assignment is noted
pub noted_within : (firsts : List (Option First)) (v p : ℕ) (kind : Kind) → note_first firsts v (p + 1) kind ≡ with_first firsts v (first_by (p + 1) kind)
unfolding note_first
noted_within firsts v p kind = rw (ne_eqb (p + 1) 0 (λ h. omega (arith, h))) refl

-- the table after a list of bytes, by what stands at its front

-- passing over some bytes is dropping them
survey_skip : (n begun : ℕ) (l : List ℕ) (firsts : List (Option First)) → survey_from n begun l firsts ≡ survey_from 0 begun (drop n l) firsts
unfolding survey_from
survey_skip zero begun [] firsts = refl
survey_skip (suc n) begun [] firsts = refl
survey_skip zero begun (x ∷ l) firsts = refl
survey_skip (suc n) begun (x ∷ l) firsts = survey_skip n begun l firsts

survey_end : (begun : ℕ) (l : List ℕ) (firsts : List (Option First)) (x : Fault) → open_of 0 0 l ≡ Err x → survey_from 0 begun l firsts ≡ firsts
unfolding survey_from
survey_end begun [] firsts x e = refl
survey_end begun (y ∷ l) firsts x e = rw e

pub survey_field : (begun : ℕ) (l : List ℕ) (firsts : List (Option First)) {s : Sort} {n : ℕ} → Whole l s n →
    survey_from 0 begun l firsts ≡ survey_from 0 (begun_after s begun) (drop (step_over s n) l) (noted s (get_or l 3 0) begun firsts)
unfolding survey_from
survey_field begun [] firsts w = absurd (omega (arith, w.within))
survey_field begun (x ∷ l) firsts {s} {n} w =
    let over : step_over s n ≡ suc (step_over s n - 1) = omega (arith, (step_within s n).0) in
    rw (whole_open 0 0 (x ∷ l) w, survey_skip (step_over s n - 1) (begun_after s begun) l (noted s (get_or l 2 0) begun firsts))
    (ap (λ (m : ℕ). survey_from 0 (begun_after s begun) (drop m (x ∷ l)) (noted s (get_or l 2 0) begun firsts)) (sym over))

-- one turn of the loop, which has come to the index `at`
module _ (list : List ℕ) (at : ℕ) (opened : Opened) (found : opened ≡ open_of 0 0 (take (length list - at) (drop at list))) where
  here : (x : Opened) → opened ≡ x → open_of 0 0 (drop at list) ≡ x
  here x e = sym (rw rest at found) ∙ e

  pub turn_ended : (begun : ℕ) (firsts : List (Option First)) {whole : List (Option First)} → survey_from 0 begun (drop at list) firsts ≡ whole →
      (x : Fault) → opened ≡ Err x → firsts ≡ whole
  turn_ended begun firsts going x e = sym (survey_end begun (drop at list) firsts x (here _ e)) ∙ going

  module _ (s : Sort) (n : ℕ) (is : opened ≡ Ok (s, n)) where
    stands : Whole (drop at list) s n
    stands = open_whole 0 0 (drop at list) (here _ is)

    pub field_within : at + 3 + n ≤ length list
    field_within = omega (arith, stands.within, length-drop at list)

    pub turn_within : (step : ℕ) → step ≡ step_over s n → (at + 3 ≤ at + step) × (at + step ≤ length list)
    turn_within step e = (omega (arith, e, (step_within s n).0), omega (arith, e, (step_within s n).1, field_within))

    pub turn_begun : (begun begun' step : ℕ) → begun ≤ at → begun' ≡ begun_after s begun → step ≡ step_over s n → begun' ≤ at + step
    turn_begun begun begun' step h e f = omega (arith, h, e, begun_within s begun, f, (step_within s n).0)

    pub turn_noted : (begun : ℕ) (firsts : List (Option First)) {whole : List (Option First)} → survey_from 0 begun (drop at list) firsts ≡ whole →
        (v : ℕ) → v ≡ get_or list (at + 3) 0 → (firsts' : List (Option First)) → firsts' ≡ noted s v begun firsts → (begun' : ℕ) → begun' ≡ begun_after s begun →
        (step : ℕ) → step ≡ step_over s n → survey_from 0 begun' (drop (at + step) list) firsts' ≡ whole
    turn_noted begun firsts going v ve firsts' fe begun' be step se =
        rw (fe, ve, be, se, ← drop-drop (step_over s n) at list, ← get_or-drop at list 3 0) (sym (survey_field begun (drop at list) firsts stands) ∙ going)

-- the table keeps its length
pub turn_length : (s : Sort) (v begun : ℕ) (firsts firsts' : List (Option First)) → firsts' ≡ noted s v begun firsts → length firsts' ≡ length firsts
turn_length s v begun firsts firsts' e = ap length e ∙ noted-length s v begun firsts
