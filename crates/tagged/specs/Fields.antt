-- Fields: a tag byte, a two-byte length (high byte first) and a payload of that length; how they are written, opened, judged and listed.
-- Throughout, `l` is what is left of a payload, `base` the place of its first byte in the file, `owner` the place of the field that holds it.
use Rattle.tagged.specs.Answers.{fault_at}
use Rattle.std.specs.Prelude.{Result, Ok, Err, Bool, true, cond, List, [], ◌∷◌, ◌++◌, ℕ, zero, suc, ◌+◌, ◌-◌, ltb, leb, eqb, length, get_or, take, drop}
use Rattle.tagged.specs.Choice.{choose}
use Rattle.tagged.specs.Bytes.{two_bytes, number_of_two}
use Rattle.tagged.specs.Sorts.{sort_of}
use Rattle.tagged.specs.declared.sorts.Sort.{Sort}
use Rattle.tagged.specs.declared.answers.Fault.{Fault}

-- how a field is written

-- the bytes of a field
unfoldable pub field_bytes : ℕ → List ℕ → List ℕ
field_bytes tag payload = tag ∷ two_bytes (length payload) ++ payload

-- the bytes of fields, one after the other
unfoldable pub all_bytes_of : {A : Type 0} → (A → List ℕ) → List A → List ℕ
all_bytes_of bytes [] = []
all_bytes_of bytes (a ∷ l) = bytes a ++ all_bytes_of bytes l

-- how a field is opened, judged and passed

-- a field's sort and its payload's length, or a fault
abbrev pub Opened : Type 0
Opened = Result (Sort × ℕ) Fault

-- no fault, or one
abbrev pub Judged : Type 0
Judged = Result (Unit {0}) Fault

-- no fault
abbrev pub faultless : Judged
faultless = Ok tt

-- how many bytes were passed, or a fault
abbrev pub Step : Type 0
Step = Result ℕ Fault

-- the length that the second and third byte give
abbrev pub size_of : List ℕ → ℕ
size_of l = number_of_two (get_or l 1 0) (get_or l 2 0)

-- the field at the front: its sort and its payload's length. No byte is left: a field is missing, the place is the owner's.
-- A header or a payload beyond the enclosing payload: the place is its own
unfoldable pub open_of : ℕ → ℕ → List ℕ → Opened
open_of base owner l =
    cond (eqb (length l) 0) (Err (fault_at owner))
    (cond (ltb (length l) 3) (Err (fault_at base))
    (cond (leb (size_of l) (length l - 3)) (Ok (sort_of (get_or l 0 0), size_of l)) (Err (fault_at base))))

-- refusal 2, by ways to judge a payload

-- judges what is left of a payload: base, owner, bytes
abbrev pub Judge : Type 0
Judge = ℕ → ℕ → List ℕ → Judged

-- judges the field or fields at the front, and says how many bytes they take: base, owner, bytes
abbrev pub Stepper : Type 0
Stepper = ℕ → ℕ → List ℕ → Step

-- judges a field's payload: the field's place, its sort, the payload
abbrev pub Body : Type 0
Body = ℕ → Sort → List ℕ → Judged

-- a judged payload as a step over its whole field
abbrev pub passing : Judged → ℕ → Step
passing (Ok _) m = Ok m
passing (Err fault) m = Err fault

-- goes on with the field that was opened
abbrev pub after_opening : Opened → (Sort → ℕ → Step) → Step
after_opening (Ok (s, n)) k = k s n
after_opening (Err fault) k = Err fault

-- goes on past what was judged
abbrev pub after_step : Step → (ℕ → Judged) → Judged
after_step (Ok m) k = k m
after_step (Err fault) k = Err fault

-- so many bytes more
abbrev pub further : ℕ → Step → Step
further k (Ok m) = Ok (k + m)
further k (Err fault) = Err fault

-- one field, whose payload `body` judges
unfoldable pub field_by : Body → Stepper
field_by body base owner l = after_opening (open_of base owner l) (λ s n. passing (body base s (take n (drop 3 l))) (n + 3))

-- what `first` judges, and then what `next` does
unfoldable pub then_by : Stepper → Judge → Judge
then_by first next base owner l = after_step (first base owner l) (λ m. next (base + m) owner (drop m l))

-- so many fixed bytes, and then what `next` judges; a fixed byte missing: the owner
unfoldable pub fixed_then : ℕ → Judge → Judge
fixed_then n next base owner l = cond (ltb (length l) n) (Err (fault_at owner)) (next (base + n) owner (drop n l))

-- nothing is left; bytes left over: the owner
unfoldable pub ended : Judge
ended base owner l = cond (eqb (length l) 0) faultless (Err (fault_at owner))

-- whatever is left, as a name
abbrev pub any_bytes : Judge
any_bytes base owner l = faultless

-- goes on with the next field of a list
abbrev pub next_field : Step → (ℕ → Step) → Step
next_field (Ok m) k = k m
next_field (Err fault) k = Err fault

-- fields by `one` while the next tag begins a sort that `wanted` names; the first number is how many bytes are still to be passed over
unfoldable pub many_from : (Sort → Bool) → Stepper → ℕ → Stepper
many_from wanted one skip base owner [] = Ok 0
many_from wanted one zero base owner (x ∷ l) =
    choose (wanted (sort_of x))
    (λ _. next_field (one base owner (x ∷ l)) (λ m. further 1 (many_from wanted one (m - 1) (base + 1) owner l)))
    (λ _. Ok 0)
many_from wanted one (suc n) base owner (x ∷ l) = further 1 (many_from wanted one n (base + 1) owner l)

-- a list while a tag: fields by `one` while the next tag begins a wanted sort
abbrev pub many : (Sort → Bool) → Stepper → Stepper
many wanted one = many_from wanted one 0

-- how many bytes were passed
abbrev pub passed_bytes : Step → ℕ
passed_bytes (Ok m) = m
passed_bytes (Err fault) = 0

-- every sort
abbrev pub any_sort : Sort → Bool
any_sort s = true

-- a list until the end: every byte begins a field by `one`
abbrev pub until_end : Stepper → Judge
until_end one = then_by (many any_sort one) ended

-- the fields of a list, read by a total function: what is malformed is the list's end

-- something read, and the place where its field starts
pub record Placed (A : Type 0) : Type 0 where
  pub place : ℕ
  pub what : A

-- goes on with the field that was opened, or with what stands for none
abbrev pub on_field : {A : Type 0} → Opened → (Sort → ℕ → A) → A → A
on_field (Ok (s, n)) k none = k s n
on_field (Err fault) k none = none

-- each field of a wanted sort as `read` gives it, with its place, up to the first field that is not wanted
unfoldable pub read_from : {A : Type 0} → (Sort → Bool) → (Sort → List ℕ → A) → ℕ → ℕ → List ℕ → List (Placed A)
read_from wanted read skip base [] = []
read_from wanted read zero base (x ∷ l) =
    on_field (open_of 0 0 (x ∷ l))
    (λ s n. choose (wanted s)
    (λ _. record { place = base; what = read s (take n (drop 3 (x ∷ l))) } ∷ read_from wanted read (n + 2) (base + 1) l)
    (λ _. []))
    []
read_from wanted read (suc n) base (x ∷ l) = read_from wanted read n (base + 1) l

abbrev pub read_placed : {A : Type 0} → (Sort → Bool) → (Sort → List ℕ → A) → ℕ → List ℕ → List (Placed A)
read_placed wanted read = read_from wanted read 0

-- what was read, without the places
abbrev pub unplaced : {A : Type 0} → List (Placed A) → List A
unplaced [] = []
unplaced (x ∷ xs) = x.what ∷ unplaced xs

-- a field that was read
pub record Field : Type 0 where
  pub sort : Sort
  pub payload : List ℕ

-- the fields of a list of bytes, whatever their sorts, each with its place, up to what is no whole field
unfoldable pub fields_at : ℕ → List ℕ → List (Placed Field)
fields_at base l = read_placed any_sort (λ s p. record { sort = s; payload = p }) base l

-- a list with the places that its bytes have: each starts where the one before it ends
unfoldable pub placed_by : {A : Type 0} → (A → List ℕ) → ℕ → List A → List (Placed A)
placed_by bytes base [] = []
placed_by bytes base (a ∷ l) = record { place = base; what = a } ∷ placed_by bytes (base + length (bytes a)) l
