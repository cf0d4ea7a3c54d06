-- Declarations, which modules and netlists share: tags 02 and 03, refusals 2 to 5 on them, and what they declare.
use Rattle.tagged.specs.Answers.{fault_at, Found, Answer}
use Rattle.std.specs.Prelude.{Err, Bool, true, false, ◌||◌, not, List, [], ◌∷◌, ◌++◌, map, ℕ, zero, suc, ◌+◌, leb, length, get_or, drop, set}
use Rattle.words.specs.Widths.{is_width, fits_width}
use Rattle.tagged.specs.Limits.{most_variables}
use Rattle.tagged.specs.Bytes.{four_bytes, four_of}
use Rattle.tagged.specs.Sorts.{on_declaration, is_declaration, tag_of}
use Rattle.tagged.specs.Fields.{Stepper, Body, field_by, fixed_then, any_bytes, many, field_bytes, passed_bytes, Placed, read_placed, unplaced, placed_by}
use Rattle.tagged.specs.Names.{is_name, same_name}
use Rattle.tagged.specs.Refusals.{first_broken, first_refusal}
use Rattle.tagged.specs.declared.sorts.DeclarationSort.{DeclarationSort}
use Rattle.tagged.specs.declared.sorts.Sort.{Sort}
use Rattle.tagged.specs.declared.declarations.VariableTable.{VariableTable}
use Rattle.tagged.specs.declared.answers.Rule.{Rule}

-- 02 input: width byte, name. 03 register: width byte, four-byte initial value, name
pub data Declaration : Type 0 where
  input : (width : ℕ) (name : List ℕ) → Declaration
  register : (width initial : ℕ) (name : List ℕ) → Declaration

abbrev pub width_of : Declaration → ℕ
width_of (input width name) = width
width_of (register width initial name) = width

abbrev pub name_of : Declaration → List ℕ
name_of (input width name) = name
name_of (register width initial name) = name

abbrev pub is_register : Declaration → Bool
is_register (input width name) = false
is_register (register width initial name) = true

-- the value that a register starts from; no run uses it, and an input has none
abbrev pub initial_of : Declaration → ℕ
initial_of (input width name) = 0
initial_of (register width initial name) = initial

-- how they are written

abbrev pub sort_of_declaration : Declaration → DeclarationSort
sort_of_declaration (input width name) = DeclarationSort.Input
sort_of_declaration (register width initial name) = DeclarationSort.Register

abbrev pub declaration_payload : Declaration → List ℕ
declaration_payload (input width name) = width ∷ name
declaration_payload (register width initial name) = width ∷ four_bytes initial ++ name

-- the bytes of a declaration's field
unfoldable pub declaration_bytes : Declaration → List ℕ
declaration_bytes d = field_bytes (tag_of (Sort.Declaration (sort_of_declaration d))) (declaration_payload d)

-- refusal 2 on them

-- how many fixed bytes stand before the name
abbrev pub fixed_bytes : DeclarationSort → ℕ
fixed_bytes DeclarationSort.Input = 1
fixed_bytes DeclarationSort.Register = 5

-- a declaration's payload: its fixed bytes, then the name, which may be empty here; another sort of field is a wrong tag
unfoldable pub declaration_body : Body
declaration_body at s l = on_declaration s (λ d. fixed_then (fixed_bytes d) any_bytes (at + 3) at l) (Err (fault_at at))

-- the declarations at the front: how many bytes they take, or the first fault
unfoldable pub declarations_step : Stepper
declarations_step = many is_declaration (field_by declaration_body)

-- the list that is read, by a total function

abbrev pub declaration_in : DeclarationSort → List ℕ → Declaration
declaration_in DeclarationSort.Input l = input (get_or l 0 0) (drop 1 l)
declaration_in DeclarationSort.Register l = register (get_or l 0 0) (four_of (drop 1 l)) (drop 5 l)

unfoldable pub declaration_read : Sort → List ℕ → Declaration
declaration_read s l = on_declaration s (λ d. declaration_in d l) (input 0 [])

-- the declarations at the front of a list of bytes, each with its place
unfoldable pub declarations_at : ℕ → List ℕ → List (Placed Declaration)
declarations_at base l = read_placed is_declaration declaration_read base l

-- the same without places
abbrev pub declarations_in : List ℕ → List Declaration
declarations_in l = unplaced (declarations_at 0 l)

-- what follows them
abbrev pub after_declarations : List ℕ → List ℕ
after_declarations l = drop (passed_bytes (declarations_step 0 0 l)) l

-- refusals 3 to 5 on them

-- 3: width 0 or over 32; a value not below 2 to its width
unfoldable pub value_broken : Declaration → Bool
value_broken (input width name) = not (is_width width)
value_broken (register width initial name) = not (is_width width) || not (fits_width width initial)

-- equal to a name in the list
unfoldable pub name_taken : List ℕ → List Declaration → Bool
name_taken name [] = false
name_taken name (d ∷ earlier) = same_name (name_of d) name || name_taken name earlier

-- 4: what may not be a name, or is equal to an earlier name
unfoldable pub name_broken : List Declaration → Declaration → Bool
name_broken earlier d = not (is_name (name_of d)) || name_taken (name_of d) earlier

-- 5: a 65th variable
unfoldable pub count_broken : List Declaration → Declaration → Bool
count_broken earlier d = leb most_variables (length earlier)

-- does a declaration, after those before it, break this rule?
unfoldable pub declaration_breaks : Rule → List Declaration → Declaration → Bool
declaration_breaks Rule.Value earlier d = value_broken d
declaration_breaks Rule.Name earlier d = name_broken earlier d
declaration_breaks Rule.Count earlier d = count_broken earlier d
declaration_breaks Rule.FileLength earlier d = false
declaration_breaks Rule.Form earlier d = false
declaration_breaks Rule.Reference earlier d = false
declaration_breaks Rule.Widths earlier d = false
declaration_breaks Rule.BitNumber earlier d = false
declaration_breaks Rule.BothKinds earlier d = false
declaration_breaks Rule.TwoProcesses earlier d = false
declaration_breaks Rule.ReadElsewhere earlier d = false
declaration_breaks Rule.Cells earlier d = false
declaration_breaks Rule.Buffer earlier d = false
declaration_breaks Rule.Row earlier d = false

-- the place of the first declaration that breaks a rule: of a list whose bytes start at `base`
abbrev pub declaration_broken : Rule → ℕ → List Declaration → Found
declaration_broken rule base ds = first_broken (declaration_breaks rule) [] (placed_by declaration_bytes base ds)

-- the rules that a declaration can break, in their order
abbrev pub declaration_rules : List Rule
declaration_rules = Rule.Value ∷ Rule.Name ∷ Rule.Count ∷ []

-- what the declarations of a list of bytes, the first at `base`, are refused for
abbrev pub declarations_answer : ℕ → List ℕ → Answer
declarations_answer base l = first_refusal (λ rule. first_broken (declaration_breaks rule) [] (declarations_at base l)) declaration_rules

-- what they declare

-- the width of variable v; 0 where there is none
abbrev pub variable_width : List Declaration → ℕ → ℕ
variable_width ds v = get_or (map width_of ds) v 0

-- is variable v a register?
abbrev pub register_at : List Declaration → ℕ → Bool
register_at ds v = get_or (map is_register ds) v false

-- a table of n items: the first ones of a list, then what stands for none
unfoldable pub table_of : {A : Type 0} → A → ℕ → List A → List A
table_of none zero l = []
table_of none (suc n) [] = none ∷ table_of none n []
table_of none (suc n) (x ∷ l) = x ∷ table_of none n l

-- how many variables there are, and of the first 64 the widths and which are registers
unfoldable pub variable_table : List Declaration → VariableTable
variable_table ds = record {
  count = length ds;
  widths = table_of 0 most_variables (map width_of ds);
  registers = table_of false most_variables (map is_register ds);
}

-- the table with one variable more, so far as there is room
unfoldable pub with_variable : VariableTable → ℕ → Bool → VariableTable
with_variable t width registered = record {
  count = t.count + 1;
  widths = set t.widths t.count width;
  registers = set t.registers t.count registered;
}
