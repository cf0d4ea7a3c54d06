-- What breaks a rule of a netlist, in the words of document 01's table of refusals: one constructor for each phrase.
use Rattle.std.specs.Prelude.{◌≡◌, true, ℕ, ◌^◌, ◌≤◌, ◌<◌, length, get_or}
use mathlib.Core.List.{List, Memᴰ}
use Rattle.words.specs.Operators.{one_width, two_width}
use Rattle.words.specs.declared.OneOperand.{OneOperand}
use Rattle.words.specs.declared.TwoOperand.{TwoOperand}
use Rattle.tagged.specs.Limits.{most_cells}
use Rattle.tagged.specs.Fields.{placed_by}
use Rattle.tagged.specs.Declarations.{Declaration, declaration_bytes, variable_width, register_at}
use Rattle.tagged.specs.Answers.{number_of}
use Rattle.tagged.specs.declared.answers.Rule.{Rule}
use Rattle.netlist.specs.declared.Operand.{Operand}
use Rattle.netlist.specs.declared.Cell.{Cell}
use Rattle.netlist.specs.declared.Drive.{Drive}
use Rattle.netlist.specs.Lists.{Netlist, operand_width, cell_width, cell_slots, operands_in}
use Rattle.netlist.specs.Form.{cell_bytes, drive_bytes}
use Rattle.netlist.specs.Rules.{width_of_cell, registers_from, cells_base, drives_base}
use Rattle.tagged.specs.Stands.{Stands}
use Rattle.tagged.specs.DeclarationPhrases.{NoWidth, DeclarationPhrase}

-- the netlist n, whose declarations start at `base`
module _ (base : ℕ) (n : Netlist) where
  -- a declaration, a cell or a drive stands at place p, after those before it
  abbrev pub DeclarationAt : List Declaration → ℕ → Declaration → Type 0
  DeclarationAt = Stands (placed_by declaration_bytes base n.declarations)

  abbrev pub CellAt : List Cell → ℕ → Cell → Type 0
  CellAt = Stands (placed_by cell_bytes (cells_base base n) n.cells)

  abbrev pub DriveAt : List Drive → ℕ → Drive → Type 0
  DriveAt = Stands (placed_by drive_bytes (drives_base base n) n.drives)

  -- an operand of the cell or drive at place p, and the cells that it may name: those before the cell, or all for a drive
  pub data OperandAt (p : ℕ) : List Cell → Operand → Type 0 where
    of_cell : {earlier : List Cell} {c : Cell} {o : Operand} → CellAt earlier p c → Memᴰ o (operands_in (cell_slots c)) → OperandAt p earlier o
    of_drive : {earlier : List Drive} {d : Drive} {cells : List Cell} {o : Operand} → DriveAt earlier p d → n.cells ≡ cells → d.operand ≡ o → OperandAt p cells o

  -- the field at place p breaks a rule
  pub data Breaks : Rule → ℕ → Type 0 where
    -- 3 to 5: a declaration, by the phrases on declarations
    of_declaration : {earlier : List Declaration} {p : ℕ} {d : Declaration} {rule : Rule} → DeclarationAt earlier p d →
        DeclarationPhrase earlier d rule → Breaks rule p
    -- 3: a cell's or an operand's width 0 or over 32; a constant not below 2 to its width
    cells_width : {earlier : List Cell} {p : ℕ} {c : Cell} → CellAt earlier p c → NoWidth (cell_width c) → Breaks Rule.Value p
    operands_width : {cells : List Cell} {p : ℕ} {o : Operand} → OperandAt p cells o → NoWidth (operand_width o) → Breaks Rule.Value p
    constant_value : {cells : List Cell} {p w v : ℕ} → OperandAt p cells (Operand.Constant w v) → 2 ^ w ≤ v → Breaks Rule.Value p
    -- 6: a variable or cell number that does not exist, its own or a later cell; a drive not naming the next register
    missing_variable : {cells : List Cell} {p w v : ℕ} → OperandAt p cells (Operand.Variable w v) → length n.declarations ≤ v → Breaks Rule.Reference p
    missing_cell : {cells : List Cell} {p w c : ℕ} → OperandAt p cells (Operand.Cell w c) → length cells ≤ c → Breaks Rule.Reference p
    beyond_registers : {earlier : List Drive} {p : ℕ} {d : Drive} → DriveAt earlier p d →
        length (registers_from 0 n.declarations) ≤ length earlier → Breaks Rule.Reference p
    other_register : {earlier : List Drive} {p : ℕ} {d : Drive} → DriveAt earlier p d →
        (d.variable ≡ get_or (registers_from 0 n.declarations) (length earlier) 0 → ⊥) → Breaks Rule.Reference p
    -- 7: an operand's width is that of the variable or cell it names (of one that does not exist it is 0 here: 6 is looked for before)
    unlike_variable : {cells : List Cell} {p w v : ℕ} → OperandAt p cells (Operand.Variable w v) → (w ≡ variable_width n.declarations v → ⊥) → Breaks Rule.Widths p
    unlike_cell : {cells : List Cell} {p w c : ℕ} → OperandAt p cells (Operand.Cell w c) → (w ≡ width_of_cell cells c → ⊥) → Breaks Rule.Widths p
    -- 7: a drive's width is that of its register
    unlike_register : {earlier : List Drive} {p : ℕ} {d : Drive} → DriveAt earlier p d →
        (operand_width d.operand ≡ variable_width n.declarations d.variable → ⊥) → Breaks Rule.Widths p
    -- 7: the cell's width is its operand's, 1 for parity
    unlike_operand : {earlier : List Cell} {p w : ℕ} {op : OneOperand} {a : Operand} → CellAt earlier p (Cell.One op w a) →
        (w ≡ one_width op (operand_width a) → ⊥) → Breaks Rule.Widths p
    -- 7: both operands have one width, and the cell's is theirs, 1 for equal
    unlike_each_other : {earlier : List Cell} {p w : ℕ} {op : TwoOperand} {a b : Operand} → CellAt earlier p (Cell.Two op w a b) →
        (operand_width a ≡ operand_width b → ⊥) → Breaks Rule.Widths p
    unlike_operands : {earlier : List Cell} {p w : ℕ} {op : TwoOperand} {a b : Operand} → CellAt earlier p (Cell.Two op w a b) →
        (w ≡ two_width op (operand_width a) → ⊥) → Breaks Rule.Widths p
    -- 7: the condition of 36 has width 1, its last two operands the cell's
    wide_condition : {earlier : List Cell} {p w : ℕ} {c a b : Operand} → CellAt earlier p (Cell.Mux w c a b) → (operand_width c ≡ 1 → ⊥) → Breaks Rule.Widths p
    unlike_first : {earlier : List Cell} {p w : ℕ} {c a b : Operand} → CellAt earlier p (Cell.Mux w c a b) → (w ≡ operand_width a → ⊥) → Breaks Rule.Widths p
    unlike_second : {earlier : List Cell} {p w : ℕ} {c a b : Operand} → CellAt earlier p (Cell.Mux w c a b) → (w ≡ operand_width b → ⊥) → Breaks Rule.Widths p
    -- 7: the cell's width is its vector's for 37, whose bit has width 1; it is 1 for 38 and 39
    unlike_vector : {earlier : List Cell} {p w k : ℕ} {v b : Operand} → CellAt earlier p (Cell.Put w v k b) → (w ≡ operand_width v → ⊥) → Breaks Rule.Widths p
    wide_bit : {earlier : List Cell} {p w k : ℕ} {v b : Operand} → CellAt earlier p (Cell.Put w v k b) → (operand_width b ≡ 1 → ⊥) → Breaks Rule.Widths p
    wide_fixed : {earlier : List Cell} {p w k : ℕ} {v : Operand} → CellAt earlier p (Cell.FixedBit w v k) → (w ≡ 1 → ⊥) → Breaks Rule.Widths p
    wide_chosen : {earlier : List Cell} {p w : ℕ} {v i : Operand} → CellAt earlier p (Cell.ChosenBit w v i) → (w ≡ 1 → ⊥) → Breaks Rule.Widths p
    -- 8: bit number not below the vector's width; an index of width k with 2^k above it
    put_outside : {earlier : List Cell} {p w k : ℕ} {v b : Operand} → CellAt earlier p (Cell.Put w v k b) → operand_width v ≤ k → Breaks Rule.BitNumber p
    fixed_outside : {earlier : List Cell} {p w k : ℕ} {v : Operand} → CellAt earlier p (Cell.FixedBit w v k) → operand_width v ≤ k → Breaks Rule.BitNumber p
    index_outside : {earlier : List Cell} {p w : ℕ} {v i : Operand} → CellAt earlier p (Cell.ChosenBit w v i) →
        operand_width v < 2 ^ operand_width i → Breaks Rule.BitNumber p

  -- the whole netlist breaks a rule, at place 0
  pub data WholeBreaks : Rule → Type 0 where
    -- 6: a register without a drive
    without_drive : {v : ℕ} → register_at n.declarations v ≡ true → ((d : Drive) → Memᴰ d n.drives → d.variable ≡ v → ⊥) → WholeBreaks Rule.Reference
    -- 12: over 1,024 cells
    many_cells : most_cells < length n.cells → WholeBreaks Rule.Cells

  -- nothing breaks this rule
  pub record Unbroken (rule : Rule) : Type 0 where
    pub fields : (p : ℕ) → Breaks rule p → ⊥
    pub whole : WholeBreaks rule → ⊥

  -- the place of the first break of a rule: that of the first field, or 0 where no field breaks it, which so comes last
  pub data FirstPlace (rule : Rule) (p : ℕ) : Type 0 where
    of_field : Breaks rule p → ((q : ℕ) → Breaks rule q → p ≤ q) → FirstPlace rule p
    of_whole : ((q : ℕ) → Breaks rule q → ⊥) → WholeBreaks rule → p ≡ 0 → FirstPlace rule p

  -- refused by a rule at a place: it is the first place of that rule, and no rule with a lower number is broken
  pub record RefusedFor (rule : Rule) (p : ℕ) : Type 0 where
    pub place : FirstPlace rule p
    pub lowest : (lower : Rule) → number_of lower < number_of rule → Unbroken lower
