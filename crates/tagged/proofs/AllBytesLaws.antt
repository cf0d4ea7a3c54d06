-- What is written is bytes: lists joined, a number in four bytes, a field, and fields one after the other; and how many these are. By induction on the list.
use mathlib.Core.Path.{◌≡◌, refl, sym, ap, ◌∙◌}
use mathlib.Core.List.{List, [], ◌∷◌, ◌++◌, append_assoc, Memᴰ}
use Prim.Native.Nat.{ℕ, zero, suc, ◌*◌, ◌/◌, ◌%◌, ◌≤◌, ◌<◌}
use native.Mathlib.Nat.{suc-mul}
use native.Mathlib.Omega.{arith}
use lib.Dec.{lit<}
use lib.ListN.{length, get_or, length-append}
use mir.Syntax.{w8}
use mir.Val.{Fits}
use Rattle.tagged.specs.Bytes.{AllBytes, two_bytes, four_bytes}
use Rattle.tagged.specs.Fields.{field_bytes, all_bytes_of}

pub bytes_none : AllBytes []
bytes_none i = lit< tt

pub bytes_cons : (x : ℕ) (l : List ℕ) → x < 256 → AllBytes l → AllBytes (x ∷ l)
bytes_cons x l h k zero = h
bytes_cons x l h k (suc i) = k i

pub bytes_append : (l m : List ℕ) → AllBytes l → AllBytes m → AllBytes (l ++ m)
bytes_append [] m h k = k
bytes_append (x ∷ l) m h k = bytes_cons x (l ++ m) (h 0) (bytes_append l m (λ i. h (suc i)) k)

pub four_bytes_lem : (n : ℕ) → AllBytes (four_bytes n)
unfolding four_bytes
four_bytes_lem n =
    bytes_cons (n / 256 / 256 / 256 % 256) (n / 256 / 256 % 256 ∷ n / 256 % 256 ∷ n % 256 ∷ []) (omega arith)
    (bytes_cons (n / 256 / 256 % 256) (n / 256 % 256 ∷ n % 256 ∷ []) (omega arith)
    (bytes_cons (n / 256 % 256) (n % 256 ∷ []) (omega arith) (bytes_cons (n % 256) [] (omega arith) bytes_none)))

-- a field whose payload is bytes
pub field_bytes_lem : (tag : ℕ) (payload : List ℕ) → tag < 256 → AllBytes payload → AllBytes (field_bytes tag payload)
unfolding field_bytes two_bytes
field_bytes_lem tag payload h k =
    let n = length payload in
    bytes_cons tag (n / 256 % 256 ∷ n % 256 ∷ payload) h
    (bytes_cons (n / 256 % 256) (n % 256 ∷ payload) (omega arith) (bytes_cons (n % 256) payload (omega arith) k))

-- the bytes of each element, one after the other
module _ {A : Type 0} (bytes : A → List ℕ) where
  pub all_bytes : (l : List A) → ((a : A) → Memᴰ a l → AllBytes (bytes a)) → AllBytes (all_bytes_of bytes l)
  unfolding all_bytes_of
  all_bytes [] h = bytes_none
  all_bytes (a ∷ l) h = bytes_append (bytes a) (all_bytes_of bytes l) (h a (Memᴰ.head refl)) (all_bytes l (λ b m. h b (Memᴰ.tail m)))

  -- at most so many of each
  pub all_length : (most : ℕ) (l : List A) → ((a : A) → Memᴰ a l → length (bytes a) ≤ most) → length (all_bytes_of bytes l) ≤ length l * most
  unfolding all_bytes_of
  all_length most [] h = omega arith
  all_length most (a ∷ l) h =
      let here : length (bytes a) ≤ most = h a (Memᴰ.head refl) in
      let later : length (all_bytes_of bytes l) ≤ length l * most = all_length most l (λ b m. h b (Memᴰ.tail m)) in
      rw (length-append (bytes a) (all_bytes_of bytes l), suc-mul (length l) most) (omega arith)

-- the bytes of two lists, one after the other
pub bytes_joined : {A : Type 0} (bytes : A → List ℕ) (l m : List A) → all_bytes_of bytes (l ++ m) ≡ all_bytes_of bytes l ++ all_bytes_of bytes m
unfolding all_bytes_of
bytes_joined bytes [] m = refl
bytes_joined bytes (a ∷ l) m =
    ap (λ (rest : List ℕ). bytes a ++ rest) (bytes_joined bytes l m) ∙ sym (append_assoc (bytes a) (all_bytes_of bytes l) (all_bytes_of bytes m))

-- what is known of a slice's bytes
pub read_bytes : (l : List ℕ) → ((i : ℕ) → Fits w8 (get_or l i 0)) → AllBytes l
read_bytes l h i = omega (arith, h i)
