-- What breaks rules 3 to 5 on a declaration, in the words of document 01's table of refusals: one constructor for each phrase. For modules and netlists alike.
use Rattle.std.specs.Prelude.{◌≡◌, true, false, ℕ, ◌^◌, ◌≤◌, ◌<◌, length}
use mathlib.Core.List.{List, ◌∷◌, Memᴰ}
use Rattle.words.specs.Limits.{greatest_width}
use Rattle.tagged.specs.Limits.{longest_name, most_variables}
use Rattle.tagged.specs.Names.{is_digit, is_name_byte}
use Rattle.tagged.specs.Declarations.{Declaration, register, width_of, name_of}
use Rattle.tagged.specs.declared.answers.Rule.{Rule}

-- width 0 or over 32
pub data NoWidth (w : ℕ) : Type 0 where
  zero_wide : w ≡ 0 → NoWidth w
  too_wide : greatest_width < w → NoWidth w

-- not 1 to 24 of letters, digits, underscore, or a digit first
pub data NoName (name : List ℕ) : Type 0 where
  no_byte : length name ≡ 0 → NoName name
  too_long : longest_name < length name → NoName name
  other_byte : {b : ℕ} → Memᴰ b name → is_name_byte b ≡ false → NoName name
  digit_first : {b : ℕ} {after : List ℕ} → name ≡ b ∷ after → is_digit b ≡ true → NoName name

-- the declaration d, after those before it, breaks a rule
pub data DeclarationPhrase (earlier : List Declaration) : Declaration → Rule → Type 0 where
  -- 3: width 0 or over 32; a value not below 2 to its width
  declared_width : {d : Declaration} → NoWidth (width_of d) → DeclarationPhrase earlier d Rule.Value
  initial_value : {w v : ℕ} {name : List ℕ} → 2 ^ w ≤ v → DeclarationPhrase earlier (register w v name) Rule.Value
  -- 4: what may not be a name, or is equal to an earlier name
  no_name : {d : Declaration} → NoName (name_of d) → DeclarationPhrase earlier d Rule.Name
  earlier_name : {d e : Declaration} → Memᴰ e earlier → name_of e ≡ name_of d → DeclarationPhrase earlier d Rule.Name
  -- 5: a 65th variable
  many_variables : {d : Declaration} → most_variables ≤ length earlier → DeclarationPhrase earlier d Rule.Count
