-- What one walk over the cells and the drives answers, by every rule at once, and what the code has to know of the declarations to give it.
use Rattle.std.specs.Prelude.{◌≡◌, Bool, false, List, [], map, ℕ, ◌+◌, drop}
use Rattle.tagged.specs.Fields.{passed_bytes, Placed, placed_by}
use Rattle.tagged.specs.Refusals.{first_broken, found_if, refused_at, first_refusal, lower_refusal}
use Rattle.tagged.specs.Declarations.{Declaration, width_of}
use Rattle.tagged.specs.declared.answers.Rule.{Rule}
use Rattle.tagged.specs.Answers.{acceptance, Answer}
use Rattle.netlist.specs.declared.Operand.{Operand}
use Rattle.netlist.specs.declared.Cell.{Cell}
use Rattle.netlist.specs.declared.rules.Known.{Known}
use Rattle.netlist.specs.Lists.{Netlist, cell_width}
use Rattle.netlist.specs.Form.{cell_bytes, drive_bytes, cells_step}
use Rattle.netlist.specs.Reading.{cells_at, drives_at}
use Rattle.netlist.specs.Rules.{some_operand, operand_value_broken, operand_missing, operand_unlike, cell_breaks, drive_breaks, whole_broken, registers_from, cells_base, drives_base}
use Rattle.netlist.specs.Answer.{netlist_rules}

-- the answer at a place by the tests of rules 3, 6, 7 and 8, the first that holds
unfoldable pub answer_of : Bool → Bool → Bool → Bool → ℕ → Answer
answer_of value reference widths number place =
    refused_at Rule.Value (found_if value place)
    (refused_at Rule.Reference (found_if reference place)
    (refused_at Rule.Widths (found_if widths place)
    (refused_at Rule.BitNumber (found_if number place) acceptance)))

-- what some operands at a place are refused for; `cells` are those that they may name
unfoldable pub operands_answer : List Declaration → List Cell → List Operand → ℕ → Answer
operands_answer ds cells os place =
    answer_of (some_operand operand_value_broken os) (some_operand (operand_missing ds cells) os) (some_operand (operand_unlike ds cells) os) false place

-- what an element at a place is refused for, given those before it
unfoldable pub one_answer : {A : Type 0} → (Rule → List A → A → Bool) → List A → A → ℕ → Answer
one_answer breaks earlier a place = first_refusal (λ rule. found_if (breaks rule earlier a) place) netlist_rules

-- what the elements of a list are refused for, given those before them
unfoldable pub list_answer : {A : Type 0} → (Rule → List A → A → Bool) → List A → List (Placed A) → Answer
list_answer breaks earlier l = first_refusal (λ rule. first_broken (breaks rule) earlier l) netlist_rules

-- what a netlist is refused for as a whole
unfoldable pub whole_answer : Netlist → Answer
whole_answer n = first_refusal (λ rule. whole_broken rule n) netlist_rules

-- how many bytes the cells at the front of a list take
abbrev pub cells_end : List ℕ → ℕ
cells_end l = passed_bytes (cells_step 0 0 l)

-- what the cells at the front of a list of bytes, the first at `base`, then the drives after them and the whole are refused for, in this netlist
unfoldable pub parts_answer : ℕ → List ℕ → Netlist → Answer
parts_answer base l n =
    lower_refusal (list_answer (λ rule. cell_breaks rule n.declarations) [] (cells_at base l))
    (lower_refusal (list_answer (λ rule. drive_breaks rule n.declarations n.cells) [] (drives_at (base + cells_end l) (drop (cells_end l) l)))
    (whole_answer n))

-- a netlist with other declarations
abbrev pub declaring : List Declaration → Netlist → Netlist
declaring ds n = record { declarations = ds; cells = n.cells; drives = n.drives }

-- what the cells, the drives and the whole of a netlist are refused for, if these are its declarations
unfoldable pub rest_answer : ℕ → Netlist → List Declaration → Answer
rest_answer base n ds =
    lower_refusal (list_answer (λ rule. cell_breaks rule ds) [] (placed_by cell_bytes (cells_base base n) n.cells))
    (lower_refusal (list_answer (λ rule. drive_breaks rule ds n.cells) [] (placed_by drive_bytes (drives_base base n) n.drives))
    (whole_answer (declaring ds n)))

-- the code knows the widths of these variables and cells, and the numbers of the registers
pub record Knows (ds : List Declaration) (cs : List Cell) (known : Known) : Type 0 where
  pub variables : map width_of ds ≡ known.variables.now
  pub registers : registers_from 0 ds ≡ known.registers.now
  pub cells : map cell_width cs ≡ known.cells.now

-- no file has more cells: it has at most 32,768 bytes, and a cell takes at least 10
abbrev pub most_listed : ℕ
most_listed = 3276
