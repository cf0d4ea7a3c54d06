-- Netlists whose numbers fit their bytes, and netlists without refusal: predicates on lists.
use Rattle.std.specs.Prelude.{◌≡◌, List, [], ◌∷◌, ℕ, ◌^◌, ◌<◌, ◌≤◌, length}
use Rattle.tagged.specs.Answers.{acceptance}
use Rattle.tagged.specs.Limits.{longest_netlist}
use Rattle.tagged.specs.Declarations.{Declaration, width_of, name_of, initial_of, declaration_payload}
use Rattle.netlist.specs.declared.Operand.{Operand}
use Rattle.netlist.specs.declared.Cell.{Cell}
use Rattle.netlist.specs.declared.Drive.{Drive}
use Rattle.netlist.specs.declared.Slot.{Slot}
use Rattle.netlist.specs.Lists.{Netlist, operand_width, cell_width, cell_slots}
use Rattle.netlist.specs.Form.{netlist_payload, netlist_bytes}
use Rattle.netlist.specs.Answer.{lists_answer}

-- every element has the property
abbrev pub Every : {A : Type 0} → (A → Type 0) → List A → Type 0
Every P [] = Unit {0}
Every P (a ∷ l) = P a × Every P l

-- the number fits one byte; four bytes
abbrev pub FitsByte : ℕ → Type 0
FitsByte n = n < 256

abbrev pub FitsFour : ℕ → Type 0
FitsFour n = n < 2 ^ 32

-- an operand's number, whatever its kind: a constant's value, or the number of a variable or of a cell
abbrev pub operand_number : Operand → ℕ
operand_number (Operand.Constant w n) = n
operand_number (Operand.Variable w n) = n
operand_number (Operand.Cell w n) = n

-- a width byte and a four-byte number
abbrev pub FitsOperand : Operand → Type 0
FitsOperand o = FitsByte (operand_width o) × FitsFour (operand_number o)

abbrev pub FitsSlot : Slot → Type 0
FitsSlot (Slot.Operand o) = FitsOperand o
FitsSlot (Slot.Byte k) = FitsByte k

-- a width byte, then the slots
abbrev pub FitsCell : Cell → Type 0
FitsCell c = FitsByte (cell_width c) × Every FitsSlot (cell_slots c)

-- a variable byte, then the operand
abbrev pub FitsDrive : Drive → Type 0
FitsDrive d = FitsByte d.variable × FitsOperand d.operand

-- a width byte, a four-byte initial value, the bytes of the name, and a payload whose length fits two bytes
pub record FitsDeclaration (d : Declaration) : Type 0 where
  pub width : FitsByte (width_of d)
  pub initial : FitsFour (initial_of d)
  pub name : Every FitsByte (name_of d)
  pub short : length (declaration_payload d) < 65536

-- every number of the three lists fits its bytes, and the length of the outer payload fits two
pub record FitsBytes (n : Netlist) : Type 0 where
  pub declarations : Every FitsDeclaration n.declarations
  pub cells : Every FitsCell n.cells
  pub drives : Every FitsDrive n.drives
  pub short : length (netlist_payload n) < 65536

-- a netlist without refusal: refusal 1 and 2 have nothing to refuse in its bytes, and no rule on its lists is broken
pub record WithoutRefusal (n : Netlist) : Type 0 where
  -- its numbers fit their bytes
  pub fits : FitsBytes n
  -- its bytes are not too many
  pub short : length (netlist_bytes n) ≤ longest_netlist
  -- no declaration, cell or drive breaks rules 3 to 8 or 12, where the declarations start at place 3
  pub accepted : lists_answer 3 n ≡ acceptance
