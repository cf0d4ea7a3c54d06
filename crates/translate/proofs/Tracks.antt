-- A table of operands stands for a list of numbers, one for each declaration; the numbers fit their widths, and inputs have their number of the row.
-- By induction on the relation: reading, setting a register, growing values, and the start, where each variable stands for itself.
use mathlib.Core.Path.{◌≡◌, refl, sym, ◌∙◌}
use mathlib.Core.Bool.{true, false, true≢false, and-eq-true_iff, false≢true}
use mathlib.Core.List.{List, [], ◌∷◌, ◌++◌, map, append_assoc}
use Prim.Native.Nat.{ℕ, zero, suc, ◌+◌, ◌^◌, ◌<◌}
use native.Mathlib.Omega.{arith}
use lib.Dec.{lit<}
use lib.ListN.{length, get_or, set, length-append}
use lib.Seq.{get_or_at}
use borrow.Author.Tests.{ltb-true, lt-ltb, eq-eqb}
use Rattle.words.specs.Widths.{fits_width}
use Rattle.words.specs.Values.{Value}
use Rattle.tagged.specs.Declarations.{Declaration, width_of, is_register, variable_width, register_at}
use Rattle.tagged.specs.Rows.{all_fit}
use Rattle.tagged.specs.declared.sorts.Kind.{Kind}
use Rattle.netlist.specs.Cycle.{operand_value}
use Rattle.netlist.specs.declared.Operand.{Operand}
use Rattle.verilog.specs.Cycle.{State, held, changed}
use Rattle.translate.specs.Tables.{Tables, themselves, operand_at, held_operand, replaced}
use Rattle.translate.proofs.Values.{Grows, Denotes, denotes_kept}

-- the elements of a list from number v on
pub record From {A : Type 0} (v : ℕ) (whole l : List A) : Type 0 where
  pub before : List A
  pub is : before ++ l ≡ whole
  pub count : length before ≡ v

pub from_start : {A : Type 0} {l : List A} → From 0 l l
from_start = record { before = []; is = refl; count = refl }

pub from_next : {A : Type 0} {v : ℕ} {whole : List A} {x : A} {l : List A} → From v whole (x ∷ l) → From (v + 1) whole l
from_next {x = x} {l = l} f = record {
  before = f.before ++ (x ∷ []);
  is = append_assoc f.before (x ∷ []) l ∙ f.is;
  count = simp length-append (omega arith);
}

pub from_at : {A : Type 0} {v : ℕ} {whole : List A} {x : A} {l : List A} → From v whole (x ∷ l) → (default : A) → get_or whole v default ≡ x
from_at {v = v} {x = x} {l = l} f default = rw (← f.is) (get_or_at f.before x l default v f.count)

pub from_below : {A : Type 0} {v : ℕ} {whole : List A} {x : A} {l : List A} → From v whole (x ∷ l) → v < length whole
from_below f = rw (← f.is) (simp length-append (omega arith))

map_seam : {A B : Type 0} (f : A → B) (before : List A) (x : A) (l : List A) (default : B) → get_or (map f (before ++ (x ∷ l))) (length before) default ≡ f x
map_seam f [] x l default = refl
map_seam f (y ∷ before) x l default = map_seam f before x l default

pub from_map : {A B : Type 0} {v : ℕ} {whole : List A} {x : A} {l : List A} → From v whole (x ∷ l) → (f : A → B) (default : B) →
    get_or (map f whole) v default ≡ f x
from_map {x = x} {l = l} h f default = rw (← h.is, ← h.count) (map_seam f h.before x l default)

-- the operands stand for the numbers
pub data Stands (ds : List Declaration) (row : List ℕ) (values : List Value) : List Declaration → List ℕ → List Operand → List ℕ → Type 0 where
  none_stands : Stands ds row values [] [] [] []
  more_stands : {d : Declaration} {r x : ℕ} {o : Operand} {l : List Declaration} {rs xs : List ℕ} {os : List Operand} →
      Denotes ds row values o (width_of d) x → (is_register d ≡ false → x ≡ r) → Stands ds row values l rs os xs →
      Stands ds row values (d ∷ l) (r ∷ rs) (o ∷ os) (x ∷ xs)

pub stands_kept : {ds : List Declaration} {row : List ℕ} {values later : List Value} {l : List Declaration} {rs xs : List ℕ} {os : List Operand} → Grows values later →
    Stands ds row values l rs os xs → Stands ds row later l rs os xs
stands_kept g none_stands = none_stands
stands_kept g (more_stands d k s) = more_stands (denotes_kept g d) k (stands_kept g s)

pub stands_at : {ds : List Declaration} {row : List ℕ} {values : List Value} {l : List Declaration} {rs xs : List ℕ} {os : List Operand} → Stands ds row values l rs os xs →
    (v : ℕ) → Denotes ds row values (operand_at os v) (variable_width l v) (get_or xs v 0)
unfolding operand_value
stands_at none_stands v = record { is = refl; wide = refl; fits = lit< tt }
stands_at (more_stands d k s) zero = d
stands_at (more_stands d k s) (suc v) = stands_at s v

pub stands_set : {ds : List Declaration} {row : List ℕ} {values : List Value} {l : List Declaration} {rs xs : List ℕ} {os : List Operand} → Stands ds row values l rs os xs →
    (v : ℕ) {o : Operand} {x : ℕ} → register_at l v ≡ true → Denotes ds row values o (variable_width l v) x →
    Stands ds row values l rs (set os v o) (set xs v x)
stands_set none_stands v e n = none_stands
stands_set (more_stands d k s) zero e n = more_stands n (λ i. absurd (true≢false (sym e ∙ i))) s
stands_set (more_stands d k s) (suc v) e n = more_stands d k (stands_set s v e n)

-- at the start each variable stands for itself, and its number is the row's
pub stands_start : (ds : List Declaration) (row : List ℕ) (values : List Value) (v : ℕ) (l : List Declaration) (rs : List ℕ) →
    From v ds l → From v row rs → all_fit (map width_of l) rs ≡ true → Stands ds row values l rs (themselves v l) rs
unfolding themselves all_fit operand_value
stands_start ds row values v [] [] f g e = none_stands
stands_start ds row values v [] (r ∷ rs) f g e = absurd (false≢true e)
stands_start ds row values v (d ∷ l) [] f g e = absurd (false≢true e)
stands_start ds row values v (d ∷ l) (r ∷ rs) f g e =
    let both : (fits_width (width_of d) r ≡ true) × (all_fit (map width_of l) rs ≡ true) = (and-eq-true_iff (fits_width (width_of d) r) (all_fit (map width_of l) rs)).0 e in
    let self : Denotes ds row values (Operand.Variable (width_of d) v) (width_of d) r = record {
      is = rw (lt-ltb v (length ds) (from_below f), from_map f width_of 0, from_at g 0, eq-eqb (width_of d) (width_of d) refl);
      wide = refl;
      fits = ltb-true r (2 ^ width_of d) both.0;
    } in
    more_stands self (λ i. refl) (stands_start ds row values (v + 1) l rs (from_next f) (from_next g) both.1)

-- both tables stand for a state's numbers
pub record Tracked (ds : List Declaration) (row : List ℕ) (values : List Value) (t : Tables) (s : State) : Type 0 where
  pub current : Stands ds row values ds row t.current s.current
  pub pending : Stands ds row values ds row t.pending s.pending

pub tracked_kept : {ds : List Declaration} {row : List ℕ} {values later : List Value} {t : Tables} {s : State} → Grows values later →
    Tracked ds row values t s → Tracked ds row later t s
tracked_kept g h = record { current = stands_kept g h.current; pending = stands_kept g h.pending }

-- what an assignment of a kind replaces, and what it leaves
pub tracked_held : {ds : List Declaration} {row : List ℕ} {values : List Value} {t : Tables} {s : State} → Tracked ds row values t s →
    (kind : Kind) (v : ℕ) → Denotes ds row values (held_operand kind t v) (variable_width ds v) (held kind s v)
tracked_held h Kind.Blocking v = stands_at h.current v
tracked_held h Kind.NonBlocking v = stands_at h.pending v

pub tracked_replaced : {ds : List Declaration} {row : List ℕ} {values : List Value} {t : Tables} {s : State} → Tracked ds row values t s →
    (kind : Kind) (v : ℕ) {o : Operand} {x : ℕ} → register_at ds v ≡ true → Denotes ds row values o (variable_width ds v) x →
    Tracked ds row values (replaced kind t v o) (changed kind s v x)
tracked_replaced h Kind.Blocking v e n = record { current = stands_set h.current v e n; pending = h.pending }
tracked_replaced h Kind.NonBlocking v e n = record { current = h.current; pending = stands_set h.pending v e n }
