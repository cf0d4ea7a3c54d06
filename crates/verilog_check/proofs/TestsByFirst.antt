-- Rules 9 to 11 as tests of first assignments: 9 asks two for their kind, 10 for their process, and 11 asks one for both.
use Rattle.std.specs.Prelude.{Option, Some, None, is_some}
use mathlib.Core.Path.{◌≡◌, refl, sym, ap, ap₂, fun_ext, ◌∙◌}
use mathlib.Core.Bool.{Bool, true, false, ◌&&◌, not, false≢true}
use mathlib.Core.List.{List}
use Prim.Native.Nat.{ℕ, ◌+◌}
use native.Mathlib.Omega.{arith}
use lib.Dec.{eqb}
use borrow.Author.Tests.{eqb-true, eqb-false, eq-eqb, ne_eqb}
use Rattle.std.proofs.lemmas.Option.{none-some}
use Rattle.tagged.specs.Declarations.{Declaration, declaration_breaks}
use Rattle.tagged.specs.declared.sorts.Kind.{Kind}
use Rattle.tagged.specs.declared.answers.Rule.{Rule}
use Rattle.verilog.specs.Nodes.{Node}
use Rattle.verilog.specs.Rules.{is_assignment, is_blocking, same_kind, some_node, breaks}
use Rattle.verilog_check.specs.declared.assignments.First.{First}
use Rattle.verilog_check.specs.Tables.{first_by, kind_of, is_elsewhere}
use Rattle.verilog_check.proofs.Firsts.{as_first}
use Rattle.verilog_check.proofs.AssignedFirsts.{assignment_first}
use Rattle.verilog_check.proofs.FirstUnlike.{Asked, unlike, unlike_earlier}

-- rules 9 and 10, and what each asks for
pub data OfAssignments : Rule → Type 0 where
  of_both_kinds : OfAssignments Rule.BothKinds
  of_two_processes : OfAssignments Rule.TwoProcesses

-- the number of a first assignment's process, where there is one
abbrev pub process_of : Option First → Option ℕ
process_of None = None
process_of (Some first) = Some first.process

abbrev pub same_number : Option ℕ → Option ℕ → Bool
same_number None None = true
same_number None (Some b) = false
same_number (Some a) None = false
same_number (Some a) (Some b) = eqb a b

pub one_number : (a b : Option ℕ) → same_number a b ≡ true → a ≡ b
one_number None None e = refl
one_number None (Some b) e = absurd (false≢true e)
one_number (Some a) None e = absurd (false≢true e)
one_number (Some a) (Some b) e = ap Some (eqb-true a b e)

pub number_same : (a : Option ℕ) → same_number a a ≡ true
number_same None = refl
number_same (Some a) = eq-eqb a a refl

pub one_kind_lem : (a b : Kind) → same_kind a b ≡ true → a ≡ b
one_kind_lem Kind.Blocking Kind.Blocking e = refl
one_kind_lem Kind.Blocking Kind.NonBlocking e = absurd (false≢true e)
one_kind_lem Kind.NonBlocking Kind.Blocking e = absurd (false≢true e)
one_kind_lem Kind.NonBlocking Kind.NonBlocking e = refl

pub kind_same : (a : Kind) → same_kind a a ≡ true
kind_same Kind.Blocking = refl
kind_same Kind.NonBlocking = refl

abbrev pub asked_kind : Asked
asked_kind = record {
  Part = Kind;
  part = kind_of;
  same = same_kind;
  same_true = one_kind_lem;
  same_equal = λ a b e. ap (same_kind a) (sym e) ∙ kind_same a;
}

abbrev pub asked_process : Asked
asked_process = record {
  Part = Option ℕ;
  part = process_of;
  same = same_number;
  same_true = one_number;
  same_equal = λ a b e. ap (same_number a) (sym e) ∙ number_same a;
}

abbrev pub asked_of : {rule : Rule} → OfAssignments rule → Asked
asked_of of_both_kinds = asked_kind
asked_of of_two_processes = asked_process

-- in another process than p
pub elsewhere_process : (p : ℕ) (first : Option First) → not (same_number (process_of first) (Some (p + 1))) ≡ is_elsewhere p first
elsewhere_process p None = refl
elsewhere_process p (Some first) = refl

-- an assignment is made of its parts
by_parts : (a : First) → a ≡ first_by a.process a.kind
by_parts a = let record { kind = k; process = p } = a in refl

abbrev number_or_0 : Option ℕ → ℕ
number_or_0 None = 0
number_or_0 (Some a) = a

-- of one kind and in one process, an assignment is the other
pub first_equal : (a b : Option First) → (a ≡ None → ⊥) → kind_of a ≡ kind_of b → process_of a ≡ process_of b → a ≡ b
first_equal None b some kinds processes = absurd (some refl)
first_equal (Some a) None some kinds processes = absurd (none-some _ (sym processes))
first_equal (Some a) (Some b) some kinds processes = ap Some (by_parts a ∙ ap₂ (λ (x : Kind) (n : ℕ). first_by n x) kinds (ap number_or_0 processes) ∙ sym (by_parts b))

pub undeclared : {rule : Rule} → OfAssignments rule → (earlier : List Declaration) (d : Declaration) → declaration_breaks rule earlier d ≡ false
unfolding declaration_breaks
undeclared of_both_kinds earlier d = refl
undeclared of_two_processes earlier d = refl

-- a test of two assignments to one variable that asks for a part of each
module _ (asked : Asked) (differ : ℕ → Kind → ℕ → Kind → Bool)
    (as_parts : (q : ℕ) (other : Kind) (p : ℕ) (kind : Kind) →
    differ q other p kind ≡ not (asked.same (asked.part (Some (first_by (q + 1) other))) (asked.part (Some (first_by (p + 1) kind))))) where
  earlier_by_first : (earlier : List Node) (n : Node) →
      is_assignment (λ kind v. some_node (λ k. is_assignment (λ other u. eqb u v && differ k.in_process other n.in_process kind) k) earlier) n
      ≡ unlike_earlier asked earlier n
  earlier_by_first earlier n =
      ap (λ (test : Kind → ℕ → Bool). is_assignment test n)
      (fun_ext (λ kind. fun_ext (λ v. ap (λ (test : Node → Bool). some_node test earlier) (fun_ext (λ k. one_earlier kind v k)))))
    where
      one_earlier : (kind : Kind) (v : ℕ) (k : Node) →
          is_assignment (λ other u. eqb u v && differ k.in_process other n.in_process kind) k
          ≡ unlike asked (asked.part (Some (first_by (n.in_process + 1) kind))) (as_first v k)
      one_earlier kind v k =
          assignment_first k v (unlike asked (asked.part (Some (first_by (n.in_process + 1) kind)))) refl (λ other u. eqb u v && differ k.in_process other n.in_process kind)
          (λ other. rw (eq-eqb v v refl) (as_parts k.in_process other n.in_process kind))
          (λ other u e. rw e)

next_equal : (a b : ℕ) → eqb a b ≡ eqb (a + 1) (b + 1)
next_equal a b = go (eqb a b) refl
  where
    go : (t : Bool) → eqb a b ≡ t → t ≡ eqb (a + 1) (b + 1)
    go true e = sym (eq-eqb (a + 1) (b + 1) (omega (arith, eqb-true a b e)))
    go false e = sym (ne_eqb (a + 1) (b + 1) (λ h. eqb-false a b e (omega arith)))

module _ (ds : List Declaration) (all : List Node) where
  pub breaks_by_first : {rule : Rule} (of : OfAssignments rule) (earlier : List Node) (n : Node) → breaks ds all rule earlier n ≡ unlike_earlier (asked_of of) earlier n
  unfolding breaks
  breaks_by_first of_both_kinds earlier n = earlier_by_first asked_kind (λ q other p kind. not (same_kind other kind)) (λ q other p kind. refl) earlier n
  breaks_by_first of_two_processes earlier n = earlier_by_first asked_process (λ q other p kind. not (eqb q p)) (λ q other p kind. ap not (next_equal q p)) earlier n

-- 11: an assignment by blocking in another process than p
abbrev pub elsewhere : ℕ → Option First → Bool
elsewhere p first = is_some first && is_blocking (kind_of first) && is_elsewhere p first

pub elsewhere_first : (p v : ℕ) (k : Node) → is_assignment (λ other u. is_blocking other && eqb u v && not (eqb k.in_process p)) k ≡ elsewhere p (as_first v k)
elsewhere_first p v k = assignment_first k v (elsewhere p) refl (λ other u. is_blocking other && eqb u v && not (eqb k.in_process p)) here another
  where
    here : (other : Kind) → (is_blocking other && eqb v v && not (eqb k.in_process p)) ≡ elsewhere p (Some (first_by (k.in_process + 1) other))
    here Kind.Blocking = rw (eq-eqb v v refl) (ap not (next_equal k.in_process p))
    here Kind.NonBlocking = refl

    another : (other : Kind) (u : ℕ) → eqb u v ≡ false → (is_blocking other && eqb u v && not (eqb k.in_process p)) ≡ false
    another Kind.Blocking u e = rw e
    another Kind.NonBlocking u e = refl
