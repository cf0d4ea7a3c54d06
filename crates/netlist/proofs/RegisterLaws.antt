-- The numbers of the registers: each is a register's, each register is among them, and they rise. By induction on the declarations.
-- And one turn of the loop that lists them.
use mathlib.Core.Path.{◌≡◌, refl, sym, ap, ◌∙◌}
use mathlib.Core.Bool.{Bool, true, false, cond, false≢true}
use mathlib.Core.List.{List, [], ◌∷◌, ◌++◌, map, append_assoc}
use Prim.Native.Nat.{ℕ, zero, suc, ◌+◌, ◌<◌}
use native.Mathlib.Omega.{arith}
use lib.ListN.{length, get_or, take, drop, set, length-map, get_or-map}
use lib.Seq.{drop-cons, take-suc-set}
use Rattle.tagged.specs.Declarations.{Declaration, input, register, is_register, register_at}
use Rattle.netlist.specs.Rules.{registers_from}

-- the number v, where the first declaration has the number `from`, is a register's
pub record Registered (from : ℕ) (ds : List Declaration) (v : ℕ) : Type 0 where
  pub number : ℕ
  pub counted : v ≡ from + number
  pub marked : register_at ds number ≡ true

pub registers_marked : (from : ℕ) (ds : List Declaration) (i : ℕ) → i < length (registers_from from ds) → Registered from ds (get_or (registers_from from ds) i 0)
unfolding registers_from
registers_marked from [] i h = absurd (omega arith)
registers_marked from (input w name ∷ ds) i h =
    let r = registers_marked (from + 1) ds i h in
    record { number = suc r.number; counted = omega (arith, r.counted); marked = r.marked }
registers_marked from (register w initial name ∷ ds) zero h = record { number = 0; counted = omega arith; marked = refl }
registers_marked from (register w initial name ∷ ds) (suc i) h =
    let r = registers_marked (from + 1) ds i (omega arith) in
    record { number = suc r.number; counted = omega (arith, r.counted); marked = r.marked }

-- the register v has an index among the numbers
pub record Indexed (from : ℕ) (ds : List Declaration) (v : ℕ) : Type 0 where
  pub index : ℕ
  pub within : index < length (registers_from from ds)
  pub found : get_or (registers_from from ds) index 0 ≡ from + v

pub registers_indexed : (from : ℕ) (ds : List Declaration) (v : ℕ) → register_at ds v ≡ true → Indexed from ds v
unfolding registers_from
registers_indexed from [] v e = absurd (false≢true e)
registers_indexed from (input w name ∷ ds) zero e = absurd (false≢true e)
registers_indexed from (input w name ∷ ds) (suc v) e =
    let r = registers_indexed (from + 1) ds v e in
    record { index = r.index; within = r.within; found = r.found ∙ omega arith }
registers_indexed from (register w initial name ∷ ds) zero e = record { index = 0; within = omega arith; found = omega arith }
registers_indexed from (register w initial name ∷ ds) (suc v) e =
    let r = registers_indexed (from + 1) ds v e in
    record { index = suc r.index; within = omega (arith, r.within); found = r.found ∙ omega arith }

pub registers_rise : (from : ℕ) (ds : List Declaration) (i j : ℕ) → i < j → j < length (registers_from from ds) →
    get_or (registers_from from ds) i 0 < get_or (registers_from from ds) j 0
unfolding registers_from
registers_rise from [] i j less h = absurd (omega arith)
registers_rise from (input w name ∷ ds) i j less h = registers_rise (from + 1) ds i j less h
registers_rise from (register w initial name ∷ ds) i zero less h = absurd (omega arith)
registers_rise from (register w initial name ∷ ds) zero (suc j) less h = omega (arith, (registers_marked (from + 1) ds j (omega arith)).counted)
registers_rise from (register w initial name ∷ ds) (suc i) (suc j) less h = registers_rise (from + 1) ds i j (omega arith) (omega arith)

-- the loop has come to the index `at` of the marks, and listed so many numbers
module _ (ds : List Declaration) (marks : List Bool) (marked : map is_register ds ≡ marks) (at : ℕ) (within : at < length marks) (numbers : List ℕ) (count : ℕ)
    (going : take count numbers ++ registers_from at (drop at ds) ≡ registers_from 0 ds) where
  abbrev here : Declaration
  here = get_or ds at (input 0 [])

  ahead : drop at ds ≡ here ∷ drop (at + 1) ds
  ahead =
      let long : length ds ≡ length marks = sym (length-map ds is_register) ∙ ap length marked in
      let one : suc at ≡ at + 1 = omega arith in
      rw one at (drop-cons ds at (input 0 []) (omega arith))

  mark_here : is_register here ≡ get_or marks at false
  mark_here = sym (get_or-map is_register ds at (input 0 [])) ∙ ap (λ (l : List Bool). get_or l at false) marked

  turn : registers_from at (drop at ds) ≡ cond (is_register here) (at ∷ registers_from (at + 1) (drop (at + 1) ds)) (registers_from (at + 1) (drop (at + 1) ds))
  unfolding registers_from
  turn = rw ahead

  pub register_listed : get_or marks at false ≡ true → count < length numbers →
      take (count + 1) (set numbers count at) ++ registers_from (at + 1) (drop (at + 1) ds) ≡ registers_from 0 ds
  register_listed is_marked room =
      let one : suc count ≡ count + 1 = omega arith in
      let is = mark_here ∙ is_marked in
      let later = registers_from (at + 1) (drop (at + 1) ds) in
      ap (λ (l : List ℕ). l ++ later) (rw one at (take-suc-set numbers count at room))
      ∙ append_assoc (take count numbers) (at ∷ []) later
      ∙ ap (λ (l : List ℕ). take count numbers ++ l) (sym (rw is at turn)) ∙ going

  pub input_passed : get_or marks at false ≡ false → take count numbers ++ registers_from (at + 1) (drop (at + 1) ds) ≡ registers_from 0 ds
  input_passed none = ap (λ (l : List ℕ). take count numbers ++ l) (sym (rw (mark_here ∙ none) at turn)) ∙ going
