-- What is read of a payload without a fault has a property, if so has what is read of each payload inside it: for the field at the front and for lists of fields.
use Rattle.std.specs.Prelude.{Ok}
use mathlib.Core.Path.{◌≡◌, subst}
use mathlib.Core.Bool.{Bool, true}
use mathlib.Core.List.{List}
use Prim.Native.Nat.{ℕ, ◌+◌}
use native.Mathlib.Omega.{arith}
use lib.ListN.{length, take, drop}
use Rattle.tagged.specs.Bytes.{AllBytes}
use Rattle.tagged.specs.declared.sorts.Sort.{Sort}
use Rattle.tagged.specs.Fields.{faultless, Judge, Body, field_by, then_by, many, until_end, read_placed, unplaced}
use Rattle.tagged.proofs.ByteLaws.{bytes_drop, bytes_take}
use Rattle.tagged.proofs.FieldLaws.{whole_open, Passed, field_passed}
use Rattle.tagged.proofs.ListLaws.{read_anywhere}
use Rattle.tagged.proofs.ListBytes.{Run, many_run}
use Rattle.tagged.proofs.RunLaws.{until_run, run_has}
use Rattle.verilog.specs.Reading.{front_by, after_front}
use Rattle.verilog.specs.Fits.{All}
use Rattle.tagged.proofs.JudgeLaws.{then_tells}
use Rattle.verilog.proofs.FrontLaws.{after_passed}
use Rattle.verilog.proofs.AllLaws.{member_all}

module _ {A : Type 0} (body : Body) (read : Sort → List ℕ → A) (P : A → Type 0) where
  -- what is read of a payload without a fault has the property
  abbrev pub Holds : Type 0
  Holds = (base : ℕ) (s : Sort) (payload : List ℕ) → AllBytes payload → body base s payload ≡ faultless → P (read s payload)

  module _ (holds : Holds) where
    -- the payload of a field that was passed
    inside : (base : ℕ) (l : List ℕ) (m : ℕ) → AllBytes l → (p : Passed body base l m) → P (read p.sort (take p.size (drop 3 l)))
    inside base l m h p = holds base p.sort (take p.size (drop 3 l)) (bytes_take p.size (drop 3 l) (bytes_drop 3 l h)) p.fine

    pub front_holds : (none : A) (base owner : ℕ) (l : List ℕ) (m : ℕ) → AllBytes l → field_by body base owner l ≡ Ok m → P (front_by read none l)
    front_holds none base owner l m h e =
        let p = field_passed body base owner l m e in
        rw (whole_open 0 0 l p.whole) (inside base l m h p)

    -- the field at the front, and what follows it
    pub record HoldsNext (none : A) (owner : ℕ) (l : List ℕ) (next : Judge) : Type 0 where
      pub here : P (front_by read none l)
      pub place : ℕ
      pub left : AllBytes (after_front l)
      pub rest : next place owner (after_front l) ≡ faultless

    pub next_holds : (none : A) (base owner : ℕ) (l : List ℕ) (next : Judge) → AllBytes l → then_by (field_by body) next base owner l ≡ faultless →
        HoldsNext none owner l next
    next_holds none base owner l next h e =
        let t = then_tells (field_by body) next base owner l e in
        let after = after_passed body base owner l t.size t.passed in
        record {
          here = front_holds none base owner l t.size h t.passed;
          place = base + t.size;
          left = rw after (bytes_drop t.size l h);
          rest = rw after t.rest;
        }

    -- lists of fields
    module _ (wanted : Sort → Bool) where
      run_holds : {base m : ℕ} {l : List ℕ} → AllBytes l → Run wanted body base l m → All P (unplaced (read_placed wanted read base l))
      run_holds {base} {l = l} h run =
          member_all P (unplaced (read_placed wanted read base l)) (run_has wanted body read P (λ at s payload all short is fine. holds at s payload all fine) h run)

      pub many_holds : (base owner : ℕ) (l : List ℕ) (m : ℕ) → AllBytes l → many wanted (field_by body) base owner l ≡ Ok m →
          All P (unplaced (read_placed wanted read 0 l))
      many_holds base owner l m h e =
          subst (λ (x : List A). All P x) (read_anywhere wanted read 0 base 0 l) (run_holds h (many_run wanted body (length l) base owner l m (omega arith) e))

    -- where all that is not wanted has a fault
    module _ (wanted : Sort → Bool) (only : (base : ℕ) (s : Sort) (l : List ℕ) → AllBytes l → body base s l ≡ faultless → wanted s ≡ true) where
      pub until_holds : (base owner : ℕ) (l : List ℕ) → AllBytes l → until_end (field_by body) base owner l ≡ faultless → All P (unplaced (read_placed wanted read 0 l))
      until_holds base owner l h e =
          let u = until_run wanted body only base owner l h e in
          subst (λ (x : List A). All P x) (read_anywhere wanted read 0 base 0 l) (run_holds wanted h u.1)
