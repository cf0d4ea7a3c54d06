-- Stopping is shown to happen: one table of netlists and rows under one theorem, which antt computes; each step without meaning stops,
-- beside it the same step with one, and what does not stop although a check refuses it. Assumes nothing.
use mathlib.Core.Path.{◌≡◌, refl, ap}
use mathlib.Core.Bool.{Bool, true, false, ◌&&◌, false≢true, and-eq-true_iff}
use mathlib.Core.List.{List, [], ◌∷◌, Memᴰ}
use Prim.Native.Nat.{ℕ}
use Rattle.words.specs.Bits.{bit, ones_below, parity, inverted, sum, same, put_bit, mux}
use Rattle.words.specs.Operators.{one_width, one_number, two_width, two_number}
use Rattle.words.specs.Values.{Outcome, stopped, got}
use Rattle.words.specs.declared.OneOperand.TheVariants.{Not, Parity}
use Rattle.words.specs.declared.TwoOperand.TheVariants.{And, Or, Xor, Add, Equal}
use Rattle.tagged.specs.Names.{same_name}
use Rattle.tagged.specs.Declarations.{Declaration, input, register}
use Rattle.tagged.proofs.NameLaws.{same_equal}
use Rattle.netlist.specs.declared.Operand.{Operand}
use Rattle.netlist.specs.declared.Cell.{Cell}
use Rattle.netlist.specs.declared.Drive.{Drive}
use Rattle.netlist.specs.Lists.{Netlist}
use Rattle.netlist.specs.Cycle.{operand_value, cell_value, cell_values, driven, netlist_cycle}

-- a netlist, a row, and what a cycle of the one from the other gives
pub record Run : Type 0 where
  pub netlist : Netlist
  pub row : List ℕ
  pub gives : Outcome (List ℕ)

abbrev pub Holds : Run → Type 0
Holds r = netlist_cycle r.netlist r.row ≡ r.gives

-- the same by a test, which computes: two rows are compared as two names are
abbrev agrees : Outcome (List ℕ) → Outcome (List ℕ) → Bool
agrees stopped stopped = true
agrees stopped (got b) = false
agrees (got a) stopped = false
agrees (got a) (got b) = same_name a b

abbrev all_agree : List Run → Bool
all_agree [] = true
all_agree (r ∷ l) = agrees (netlist_cycle r.netlist r.row) r.gives && all_agree l

agrees_equal : (a b : Outcome (List ℕ)) → agrees a b ≡ true → a ≡ b
agrees_equal stopped stopped e = refl
agrees_equal stopped (got b) e = absurd (false≢true e)
agrees_equal (got a) stopped e = absurd (false≢true e)
agrees_equal (got a) (got b) e = ap got (same_equal a b e)

all_hold : (l : List Run) → all_agree l ≡ true → (r : Run) → Memᴰ r l → Holds r
all_hold (c ∷ l) e r (Memᴰ.head same) =
    rw same (agrees_equal (netlist_cycle c.netlist c.row) c.gives ((and-eq-true_iff _ (all_agree l)).0 e).0)
all_hold (c ∷ l) e r (Memᴰ.tail m) = all_hold l ((and-eq-true_iff (agrees (netlist_cycle c.netlist c.row) c.gives) _).0 e).1 r m
all_hold [] e r x'' = elim x'' [ ]

-- the variables: 0 input a of 1 bit, 1 register r of 4, 2 input i of 3, 3 input v of 8
abbrev declared : List Declaration
declared = input 1 (0x61 ∷ []) ∷ register 4 0 (0x72 ∷ []) ∷ input 3 (0x69 ∷ []) ∷ input 8 (0x76 ∷ []) ∷ []

abbrev a : Operand
a = Operand.Variable 1 0

abbrev r : Operand
r = Operand.Variable 4 1

abbrev i : Operand
i = Operand.Variable 3 2

abbrev v : Operand
v = Operand.Variable 8 3

-- the row that is read, and the row with another number for r
abbrev usual : List ℕ
usual = 1 ∷ 7 ∷ 5 ∷ 200 ∷ []

abbrev with : ℕ → Outcome (List ℕ)
with n = got (1 ∷ n ∷ 5 ∷ 200 ∷ [])

abbrev drive : ℕ → Operand → Drive
drive n o = record { variable = n; operand = o }

abbrev lists : List Cell → List Drive → Netlist
lists cells drives = record { declarations = declared; cells = cells; drives = drives }

-- a run from the usual row: of cells alone, of drives alone, and of a cell of width 4 or 1 that r takes
abbrev of_cells : List Cell → Outcome (List ℕ) → Run
of_cells cells o = record { netlist = lists cells []; row = usual; gives = o }

abbrev of_drives : List Drive → Outcome (List ℕ) → Run
of_drives drives o = record { netlist = lists [] drives; row = usual; gives = o }

abbrev into_r : Cell → Outcome (List ℕ) → Run
into_r c o = record { netlist = lists (c ∷ []) (drive 1 (Operand.Cell 4 0) ∷ []); row = usual; gives = o }

abbrev bit_into_r : Cell → Outcome (List ℕ) → Run
bit_into_r c o = record { netlist = lists (c ∷ Cell.Put 4 (Operand.Constant 4 0) 0 (Operand.Cell 1 0) ∷ []) (drive 1 (Operand.Cell 4 1) ∷ []); row = usual; gives = o }

abbrev alone : Cell → Run
alone c = of_cells (c ∷ []) stopped

abbrev from_row : List ℕ → Outcome (List ℕ) → Run
from_row row o = record { netlist = lists [] []; row = row; gives = o }

unfoldable pub table : List Run
table =
    -- each cell where it has a meaning: not, and, or, xor, add, equal, mux, put, fixed bit, chosen bit, parity
    into_r (Cell.One Not 4 r) (with 8)
    ∷ into_r (Cell.Two And 4 r (Operand.Constant 4 5)) (with 5)
    ∷ into_r (Cell.Two Or 4 r (Operand.Constant 4 8)) (with 15)
    ∷ into_r (Cell.Two Xor 4 r (Operand.Constant 4 5)) (with 2)
    ∷ into_r (Cell.Two Add 4 r (Operand.Constant 4 10)) (with 1)
    ∷ bit_into_r (Cell.Two Equal 1 r (Operand.Constant 4 7)) (with 1)
    ∷ bit_into_r (Cell.Two Equal 1 r (Operand.Constant 4 8)) (with 0)
    ∷ into_r (Cell.Mux 4 a (Operand.Constant 4 2) r) (with 2)
    ∷ into_r (Cell.Mux 4 (Operand.Constant 1 0) (Operand.Constant 4 2) r) (with 7)
    ∷ into_r (Cell.Put 4 r 3 a) (with 15)
    ∷ bit_into_r (Cell.FixedBit 1 r 3) (with 0)
    ∷ bit_into_r (Cell.ChosenBit 1 v i) (with 0)
    ∷ bit_into_r (Cell.ChosenBit 1 v (Operand.Constant 3 7)) (with 1)
    ∷ bit_into_r (Cell.One Parity 1 r) (with 1)
    -- a missing cell, of any stated width; a cell naming itself, and a later one; a drive of a missing cell
    ∷ alone (Cell.One Not 4 (Operand.Cell 4 9))
    ∷ alone (Cell.One Not 0 (Operand.Cell 0 9))
    ∷ alone (Cell.One Not 4 (Operand.Cell 4 0x8000_0000))
    ∷ alone (Cell.One Not 4 (Operand.Cell 4 0))
    ∷ alone (Cell.One Not 0 (Operand.Cell 0 0))
    ∷ of_cells (Cell.One Not 4 (Operand.Cell 4 1) ∷ Cell.One Not 4 r ∷ []) stopped
    ∷ of_cells (Cell.One Not 4 r ∷ Cell.One Not 4 (Operand.Cell 4 0) ∷ []) (got usual)
    ∷ of_drives (drive 1 (Operand.Cell 4 0) ∷ []) stopped
    -- a missing variable: of 4 variables the numbers 4, 5 and 2^31, of any stated width
    ∷ alone (Cell.One Not 4 (Operand.Variable 4 4))
    ∷ alone (Cell.One Not 0 (Operand.Variable 0 4))
    ∷ alone (Cell.One Not 4 (Operand.Variable 4 5))
    ∷ alone (Cell.One Not 0 (Operand.Variable 0 5))
    ∷ alone (Cell.One Not 4 (Operand.Variable 4 0x8000_0000))
    ∷ alone (Cell.One Not 0 (Operand.Variable 0 0x8000_0000))
    ∷ of_drives (drive 1 (Operand.Variable 4 4) ∷ []) stopped
    -- a drive of an input, and of a missing variable, of any width
    ∷ of_drives (drive 0 a ∷ []) stopped
    ∷ of_drives (drive 3 v ∷ []) stopped
    ∷ of_drives (drive 4 r ∷ []) stopped
    ∷ of_drives (drive 4 (Operand.Constant 0 0) ∷ []) stopped
    ∷ of_drives (drive 5 (Operand.Constant 0 0) ∷ []) stopped
    ∷ of_drives (drive 255 r ∷ []) stopped
    -- an operand's stated width unlike its variable's, and its cell's
    ∷ alone (Cell.One Not 5 (Operand.Variable 5 1))
    ∷ of_cells (Cell.One Not 4 r ∷ Cell.One Not 5 (Operand.Cell 5 0) ∷ []) stopped
    ∷ of_drives (drive 1 (Operand.Variable 4 2) ∷ []) stopped
    -- two operands unlike, 31 to 35
    ∷ alone (Cell.Two And 4 r i)
    ∷ alone (Cell.Two Or 4 r i)
    ∷ alone (Cell.Two Xor 4 r i)
    ∷ alone (Cell.Two Add 4 r i)
    ∷ alone (Cell.Two Add 3 r i)
    ∷ alone (Cell.Two Equal 1 r i)
    -- the cell's width unlike: 30 to 34 against the operands', 35, 38, 39 and 3A against 1
    ∷ alone (Cell.One Not 3 r)
    ∷ alone (Cell.Two And 3 r r)
    ∷ alone (Cell.Two Or 5 r r)
    ∷ alone (Cell.Two Xor 1 r r)
    ∷ alone (Cell.Two Add 5 r r)
    ∷ alone (Cell.Two Equal 4 r r)
    ∷ alone (Cell.FixedBit 4 r 0)
    ∷ alone (Cell.ChosenBit 8 v i)
    ∷ alone (Cell.One Parity 4 r)
    -- a mux: its condition not 1 wide, its first branch, its second and both unlike the cell
    ∷ alone (Cell.Mux 4 r r r)
    ∷ alone (Cell.Mux 4 a i r)
    ∷ alone (Cell.Mux 4 a r i)
    ∷ alone (Cell.Mux 4 a i i)
    -- a put: its bit not 1 wide, its vector unlike the cell
    ∷ alone (Cell.Put 4 r 0 i)
    ∷ alone (Cell.Put 4 v 0 a)
    -- a drive's operand unlike its register
    ∷ of_drives (drive 1 i ∷ []) stopped
    ∷ of_drives (drive 1 v ∷ []) stopped
    -- a bit outside: the last bit inside is 3; a chosen bit by its value, 5 in a vector of 4
    ∷ alone (Cell.Put 4 r 4 a)
    ∷ alone (Cell.FixedBit 1 r 4)
    ∷ alone (Cell.FixedBit 1 r 255)
    ∷ alone (Cell.ChosenBit 1 r i)
    ∷ alone (Cell.ChosenBit 1 r (Operand.Constant 3 4))
    ∷ of_cells (Cell.ChosenBit 1 r (Operand.Constant 3 3) ∷ []) (got usual)
    -- a row with a number missing, with none, with one too many
    ∷ from_row (1 ∷ 7 ∷ 5 ∷ []) stopped
    ∷ from_row [] stopped
    ∷ from_row (1 ∷ 7 ∷ 5 ∷ 200 ∷ 0 ∷ []) stopped
    -- does not stop: a constant that does not fit means its number as written
    ∷ of_drives (drive 1 (Operand.Constant 4 99) ∷ []) (with 99)
    ∷ into_r (Cell.Mux 4 a (Operand.Constant 4 99) r) (with 99)
    -- a register without a drive keeps its value
    ∷ of_drives [] (got usual)
    -- of two drives of one register the later wins, and reads the old row
    ∷ of_drives (drive 1 (Operand.Constant 4 3) ∷ drive 1 (Operand.Constant 4 5) ∷ []) (with 5)
    ∷ of_drives (drive 1 (Operand.Constant 4 3) ∷ drive 1 r ∷ []) (got usual)
    -- all registers change together: two registers swap
    ∷ record {
      netlist = record {
        declarations = register 4 0 (0x72 ∷ []) ∷ register 4 0 (0x73 ∷ []) ∷ [];
        cells = [];
        drives = drive 0 (Operand.Variable 4 1) ∷ drive 1 (Operand.Variable 4 0) ∷ [];
      };
      row = 1 ∷ 2 ∷ [];
      gives = got (2 ∷ 1 ∷ []);
    }
    ∷ []

agree : all_agree table ≡ true
unfolding table netlist_cycle cell_values cell_value operand_value driven same_name bit ones_below parity inverted sum same put_bit mux one_width one_number two_width two_number
agree = refl

pub stops : (c : Run) → Memᴰ c table → Holds c
stops = all_hold table agree
