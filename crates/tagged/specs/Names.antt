-- Refusal 4 on one name: 1 to 24 of letters, digits and underscore, no digit first. Letters are those of ASCII.
use Rattle.std.specs.Prelude.{Bool, true, false, ◌&&◌, ◌||◌, not, List, [], ◌∷◌, ℕ, leb, eqb, length, get_or}
use Rattle.tagged.specs.Choice.{in_range}
use Rattle.tagged.specs.Limits.{longest_name}

-- 0 to 9
abbrev pub is_digit : ℕ → Bool
is_digit b = in_range 0x30 0x39 b

-- A to Z, a to z
abbrev pub is_letter : ℕ → Bool
is_letter b = in_range 0x41 0x5A b || in_range 0x61 0x7A b

-- a letter, a digit or an underscore
unfoldable pub is_name_byte : ℕ → Bool
is_name_byte b = is_letter b || is_digit b || eqb b 0x5F

-- every byte of the list is one that a name may have
unfoldable pub all_name_bytes : List ℕ → Bool
all_name_bytes [] = true
all_name_bytes (b ∷ l) = is_name_byte b && all_name_bytes l

-- a name may have so many bytes
abbrev pub is_name_length : ℕ → Bool
is_name_length n = leb 1 n && leb n longest_name

-- what may be a name
unfoldable pub is_name : List ℕ → Bool
is_name l = is_name_length (length l) && not (is_digit (get_or l 0 0)) && all_name_bytes l

-- two names are the same, byte for byte; case counts
unfoldable pub same_name : List ℕ → List ℕ → Bool
same_name [] [] = true
same_name [] (b ∷ m) = false
same_name (a ∷ l) [] = false
same_name (a ∷ l) (b ∷ m) = eqb a b && same_name l m
