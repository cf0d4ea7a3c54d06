-- Numbers and their bytes give each other back; parts of a list of bytes are lists of bytes.
use mathlib.Core.Path.{◌≡◌}
use mathlib.Core.List.{List, [], ◌∷◌, ◌++◌}
use Prim.Native.Nat.{ℕ, ◌+◌, ◌-◌, ◌*◌, ◌/◌, ◌%◌, ◌^◌, ◌≤◌, ◌<◌}
use native.Mathlib.Decide.{dec_lt}
use native.Mathlib.Nat.{add-zero}
use native.Mathlib.Omega.{arith}
use lib.Arith.{digits_div, digits_mod}
use lib.Dec.{lit<}
use lib.ListN.{length, get_or, take, drop, length-take, get_or-eq_default}
use lib.Seq.{take_all, get_or-take, get_or-drop}
use Rattle.tagged.specs.Bytes.{AllBytes, two_bytes, number_of_two, four_bytes, number_of_four, four_of}

-- the rest of a list, as the code has it
pub rest : (l : List ℕ) (k : ℕ) → take (length l - k) (drop k l) ≡ drop k l
rest l k = take_all (length l - k) (drop k l) (omega (arith, lib.ListN.length-drop k l))

-- the first element of the rest
pub front : (l : List ℕ) (k : ℕ) → get_or (drop k l) 0 0 ≡ get_or l k 0
front l k = rw (get_or-drop, add-zero)

pub two_lt : (a b : ℕ) → a < 256 → b < 256 → number_of_two a b < 65536
unfolding number_of_two
two_lt a b h k = omega arith

pub four_lt : (a b c d : ℕ) → a < 256 → b < 256 → c < 256 → d < 256 → number_of_four a b c d < 2 ^ 32
unfolding number_of_four
four_lt a b c d ha hb hc hd = omega arith

-- the bytes of a number give the number
pub two_back : (n : ℕ) → n < 65536 → number_of_two (n / 256 % 256) (n % 256) ≡ n
unfolding number_of_two
two_back n h = omega arith

pub four_back : (n : ℕ) → n < 2 ^ 32 → number_of_four (n / 256 / 256 / 256 % 256) (n / 256 / 256 % 256) (n / 256 % 256) (n % 256) ≡ n
unfolding number_of_four
four_back n h = omega arith

-- the number of some bytes has those bytes
high : (a b : ℕ) → a < 256 → b < 256 → (a * 256 + b) / 256 % 256 ≡ a
high a b h k = rw (digits_div a k) (omega arith)

pub bytes_two : (a b : ℕ) → a < 256 → b < 256 → two_bytes (number_of_two a b) ≡ a ∷ b ∷ []
unfolding two_bytes number_of_two
bytes_two a b h k = rw (high a b h k, digits_mod a k)

pub bytes_four : (a b c d : ℕ) → a < 256 → b < 256 → c < 256 → d < 256 → four_bytes (number_of_four a b c d) ≡ a ∷ b ∷ c ∷ d ∷ []
unfolding four_bytes number_of_four
bytes_four a b c d ha hb hc hd =
    let low : (((a * 256 + b) * 256 + c) * 256 + d) % 256 ≡ d = digits_mod _ hd in
    let upper : (((a * 256 + b) * 256 + c) * 256 + d) / 256 ≡ (a * 256 + b) * 256 + c = digits_div _ hd in
    let third : ((a * 256 + b) * 256 + c) % 256 ≡ c = digits_mod _ hc in
    let half : ((a * 256 + b) * 256 + c) / 256 ≡ a * 256 + b = digits_div _ hc in
    let second : (a * 256 + b) % 256 ≡ b = digits_mod _ hb in
    let first : (a * 256 + b) / 256 % 256 ≡ a = high a b ha hb in
    rw (low, upper, third, half, second, first)

-- four bytes in front of a list are read back
pub four_front : (n : ℕ) (l : List ℕ) → n < 2 ^ 32 → four_of (four_bytes n ++ l) ≡ n
unfolding four_of four_bytes
four_front n l h = four_back n h

-- parts of a list of bytes
pub bytes_drop : (k : ℕ) (l : List ℕ) → AllBytes l → AllBytes (drop k l)
bytes_drop k l h i = rw get_or-drop (h (k + i))

pub bytes_take : (k : ℕ) (l : List ℕ) → AllBytes l → AllBytes (take k l)
bytes_take k l h i = go (dec_lt i k)
  where
    go : Dec (i < k) → get_or (take k l) i 0 < 256
    go (yes p) = rw (get_or-take k l i 0 p) (h i)
    go (no p) =
        let q : length (take k l) ≤ i = omega (arith, length-take k l) in
        rw (get_or-eq_default (take k l) 0 q) (lit< tt)
