-- Where a run stops and where blocks not taken are not quiet, each beside a neighbour that runs: one table, under one theorem, which antt computes.
-- The trees are written directly; most are refused by the check. Assumes nothing.
use mathlib.Core.Path.{◌≡◌, refl}
use mathlib.Core.Bool.{Bool, true, false, ◌&&◌, not}
use mathlib.Core.List.{List, [], ◌∷◌, ◌++◌}
use Prim.Native.Nat.{ℕ}
use lib.Dec.{eqb}
use Rattle.words.proofs.Cases.{Case, flag, passes}
use Rattle.words.proofs.Cases as words
use Rattle.words.specs.Bits as bits
use Rattle.words.specs.Operators as operators
use Rattle.words.specs.Values.{Outcome, is_got}
use Rattle.words.specs.declared.OneOperand.TheVariants.{Not, Parity}
use Rattle.words.specs.declared.TwoOperand.TheVariants.{And, Or, Xor, Add, Equal}
use Rattle.tagged.specs.Declarations.{Declaration, input, register}
use Rattle.tagged.specs.Rows.{all_fit}
use Rattle.tagged.specs.Cycles as cycles
use Rattle.tagged.specs.declared.sorts.Kind.{Kind}
use Rattle.tagged.specs.declared.sorts.Kind.TheVariants.{Blocking, NonBlocking}
use Rattle.verilog.specs.Tree.{Expression, constant, variable, fixed_bit, chosen_bit, one, two, Statement, assign, assign_bit, if_else, case, Block, end, ◌then◌, default, item, Module}
use Rattle.verilog.specs.Cycle as cycle
use Rattle.verilog.specs.Quiet as quiet

-- what a case says of a module and a row

abbrev same_row : List ℕ → List ℕ → Bool
same_row [] [] = true
same_row [] (y ∷ ys) = false
same_row (x ∷ xs) [] = false
same_row (x ∷ xs) (y ∷ ys) = eqb x y && same_row xs ys

-- it stops
abbrev stops : Module → List ℕ → Case
stops m row = words.case (flag (is_got (cycle.module_cycle m row))) 0

-- it gives this row
abbrev gives : Module → List ℕ → List ℕ → Case
gives m row next = words.case (flag (quiet.got_and (same_row next) (cycle.module_cycle m row))) 1

-- it gives this row, and some block not taken would stop
abbrev not_quiet : Module → List ℕ → List ℕ → Case
not_quiet m row next = words.case (flag (quiet.got_and (same_row next) (cycle.module_cycle m row) && not (quiet.quiet_cycle m row))) 1

-- it gives this row, and no block not taken would stop
abbrev is_quiet : Module → List ℕ → List ℕ → Case
is_quiet m row next = words.case (flag (quiet.got_and (same_row next) (cycle.module_cycle m row) && quiet.quiet_cycle m row)) 1

-- five variables: 0 an input of 1 bit; 1 a register of 1 bit; 2 a register of 4 bits; 3 the vector v6, of 6 bits; 4 the index i, of 3 bits
abbrev five : List Declaration
five = input 1 [] ∷ register 1 0 [] ∷ register 4 0 [] ∷ register 6 0 [] ∷ register 3 0 [] ∷ []

-- a module of these variables with one process
abbrev doing : Block → Module
doing b = record { declarations = five; processes = b ∷ [] }

abbrev only : Statement → Module
only s = doing (s then end)

-- the row that most cases start from: v6 is 101010
abbrev start : List ℕ
start = 1 ∷ 0 ∷ 5 ∷ 42 ∷ 2 ∷ []

-- the same with another i
abbrev from : ℕ → List ℕ
from i = 1 ∷ 0 ∷ 5 ∷ 42 ∷ i ∷ []

-- an expression of width 1 put into variable 1
abbrev into : Expression → Module
into e = only (assign Blocking 1 e)

-- constants of one bit
abbrev high : Expression
high = constant 1 1

abbrev low : Expression
low = constant 1 0

-- x = v6[i]
abbrev take : Statement
take = assign Blocking 1 (chosen_bit 3 (variable 4))

-- i = n
abbrev index : ℕ → Statement
index n = assign Blocking 4 (constant 3 n)

-- a statement that stops from every state: bit 6 of v6
abbrev wrong : Statement
wrong = assign_bit Blocking 3 6 high

-- if 0 { b } else {}
abbrev never : Block → Statement
never b = if_else low b end

-- a missing variable read: 5 and 6 of five variables, and 255
abbrev reads : List Case
reads =
    gives (into (one Parity (variable 4))) start (1 ∷ 1 ∷ 5 ∷ 42 ∷ 2 ∷ [])
    ∷ stops (into (one Parity (variable 5))) start
    ∷ stops (into (one Parity (variable 6))) start
    ∷ stops (into (one Parity (variable 255))) start
    ∷ stops (into (variable 5)) start
    ∷ gives (into (fixed_bit 4 1)) start (1 ∷ 1 ∷ 5 ∷ 42 ∷ 2 ∷ [])
    ∷ stops (into (fixed_bit 5 0)) start
    ∷ stops (into (fixed_bit 6 0)) start
    ∷ gives (into (chosen_bit 4 high)) start (1 ∷ 1 ∷ 5 ∷ 42 ∷ 2 ∷ [])
    ∷ stops (into (chosen_bit 5 low)) start
    ∷ stops (into (chosen_bit 6 low)) start
    ∷ []

-- a missing variable and an input as the target of 10, 11, 12, 13; a constant of width 0 has the width that a look-up gives for what is missing
abbrev targets : Kind → List Case
targets kind =
    gives (only (assign kind 1 high)) start (1 ∷ 1 ∷ 5 ∷ 42 ∷ 2 ∷ [])
    ∷ stops (only (assign kind 0 high)) start
    ∷ stops (only (assign kind 5 (constant 0 0))) start
    ∷ stops (only (assign kind 6 (constant 0 0))) start
    ∷ stops (only (assign kind 255 (constant 0 0))) start
    ∷ stops (only (assign kind 5 high)) start
    ∷ gives (only (assign_bit kind 1 0 high)) start (1 ∷ 1 ∷ 5 ∷ 42 ∷ 2 ∷ [])
    ∷ stops (only (assign_bit kind 0 0 high)) start
    ∷ stops (only (assign_bit kind 5 0 high)) start
    ∷ stops (only (assign_bit kind 6 0 high)) start
    -- a value against its target; a value for one bit not of width 1; a bit outside
    ∷ gives (only (assign kind 2 (constant 4 3))) start (1 ∷ 0 ∷ 3 ∷ 42 ∷ 2 ∷ [])
    ∷ stops (only (assign kind 2 (constant 3 3))) start
    ∷ stops (only (assign kind 2 (constant 5 3))) start
    ∷ stops (only (assign_bit kind 3 0 (constant 2 1))) start
    ∷ gives (only (assign_bit kind 3 0 high)) start (1 ∷ 0 ∷ 5 ∷ 43 ∷ 2 ∷ [])
    ∷ gives (only (assign_bit kind 3 5 low)) start (1 ∷ 0 ∷ 5 ∷ 10 ∷ 2 ∷ [])
    ∷ stops (only (assign_bit kind 3 6 high)) start
    ∷ stops (only (assign_bit kind 3 255 high)) start
    ∷ []

-- the other widths of rule 7, and bits outside that are read
abbrev widths : List Case
widths =
    gives (only (assign Blocking 2 (two Add (variable 2) (constant 4 1)))) start (1 ∷ 0 ∷ 6 ∷ 42 ∷ 2 ∷ [])
    ∷ stops (only (assign Blocking 2 (two Add (variable 2) (constant 3 1)))) start
    ∷ stops (only (assign Blocking 2 (two And (variable 2) (constant 3 1)))) start
    ∷ stops (only (assign Blocking 2 (two Or (variable 2) (constant 5 1)))) start
    ∷ stops (only (assign Blocking 2 (two Xor (variable 2) (constant 3 1)))) start
    ∷ gives (into (two Equal (variable 2) (constant 4 5))) start (1 ∷ 1 ∷ 5 ∷ 42 ∷ 2 ∷ [])
    ∷ stops (into (two Equal (variable 2) (constant 3 5))) start
    ∷ gives (only (case (variable 2) (item 4 5 (index 7 then end) (default end)))) start (from 7)
    ∷ stops (only (case (variable 2) (item 3 5 (index 7 then end) (default end)))) start
    -- an item of another width stops before an equal one, and not after it
    ∷ stops (only (case (variable 2) (item 3 4 end (item 4 5 end (default end))))) start
    ∷ not_quiet (only (case (variable 2) (item 4 5 end (item 3 4 end (default end))))) start start
    ∷ gives (only (if_else (variable 0) (index 7 then end) end)) start (from 7)
    ∷ stops (only (if_else (variable 2) (index 7 then end) end)) start
    ∷ stops (only (if_else (constant 2 1) end end)) start
    ∷ gives (into (fixed_bit 3 5)) start (1 ∷ 1 ∷ 5 ∷ 42 ∷ 2 ∷ [])
    ∷ stops (into (fixed_bit 3 6)) start
    ∷ gives (into (chosen_bit 3 (variable 4))) (from 5) (1 ∷ 1 ∷ 5 ∷ 42 ∷ 5 ∷ [])
    ∷ stops (into (chosen_bit 3 (variable 4))) (from 6)
    ∷ stops (into (chosen_bit 3 (variable 4))) (from 7)
    -- a stop ends the whole run: in a later statement, in a later process, under an operator
    ∷ stops (doing (index 7 then wrong then end)) start
    ∷ stops (record { declarations = five; processes = end ∷ (wrong then end) ∷ [] }) start
    ∷ stops (into (one Not (fixed_bit 3 6))) start
    -- a constant whose value does not fit means its number as written
    ∷ gives (only (assign Blocking 2 (constant 4 99))) start (1 ∷ 0 ∷ 99 ∷ 42 ∷ 2 ∷ [])
    ∷ []

-- a row with a number missing, or with one too many
abbrev rows : List Case
rows =
    gives (doing end) start start
    ∷ stops (doing end) (1 ∷ 0 ∷ 5 ∷ 42 ∷ [])
    ∷ stops (doing end) (1 ∷ 0 ∷ 5 ∷ 42 ∷ 2 ∷ 0 ∷ [])
    ∷ stops (doing end) []
    ∷ gives (record { declarations = []; processes = [] }) [] []
    ∷ stops (record { declarations = []; processes = [] }) (0 ∷ [])
    ∷ []

-- blocks not taken
abbrev not_taken : List Case
not_taken =
    not_quiet (only (never (wrong then end))) start start
    ∷ not_quiet (only (never (never (wrong then end) then end))) start start
    ∷ not_quiet (only (if_else high end (wrong then end))) start start
    ∷ not_quiet (doing (index 7 then never (take then end) then end)) (from 0) (from 7)
    ∷ not_quiet (only (never (index 7 then take then end))) (from 0) (from 0)
    ∷ not_quiet (only (never (take then end))) (from 7) (from 7)
    ∷ not_quiet (only (case (variable 2) (item 4 5 end (item 4 6 (wrong then end) (default end))))) start start
    ∷ not_quiet (only (case (variable 2) (item 4 6 (wrong then end) (item 4 5 end (default end))))) start start
    ∷ not_quiet (only (case (variable 2) (item 4 5 end (default (wrong then end))))) start start
    ∷ not_quiet (only (case (variable 2) (item 4 5 end (item 4 5 (wrong then end) (default end))))) start start
    ∷ is_quiet (doing (index 0 then never (take then end) then end)) (from 7) (from 0)
    ∷ is_quiet (only (never (take then end))) (from 5) (from 5)
    ∷ is_quiet (only (never (index 5 then take then end))) (from 7) (from 7)
    ∷ is_quiet (only (case (variable 2) (item 4 5 end (item 4 6 (take then end) (default (take then end)))))) start start
    ∷ []

-- two registers of 2 bits, a and b
abbrev swapping : Kind → Module
swapping kind = record {
  declarations = register 2 0 [] ∷ register 2 0 [] ∷ [];
  processes = (assign kind 0 (variable 1) then assign kind 1 (variable 0) then end) ∷ [];
}

-- the same in two processes
abbrev swapping_apart : Kind → Module
swapping_apart kind = record {
  declarations = register 2 0 [] ∷ register 2 0 [] ∷ [];
  processes = (assign kind 0 (variable 1) then end) ∷ (assign kind 1 (variable 0) then end) ∷ [];
}

-- the order of what happens
abbrev order : List Case
order =
    gives (swapping Blocking) (1 ∷ 2 ∷ []) (2 ∷ 2 ∷ [])
    ∷ gives (swapping NonBlocking) (1 ∷ 2 ∷ []) (2 ∷ 1 ∷ [])
    ∷ gives (swapping_apart Blocking) (1 ∷ 2 ∷ []) (2 ∷ 2 ∷ [])
    ∷ gives (swapping_apart NonBlocking) (1 ∷ 2 ∷ []) (2 ∷ 1 ∷ [])
    -- the first equal item of two, and the default where none is equal
    ∷ gives (only (case (variable 4) (item 3 2 (assign Blocking 2 (constant 4 1) then end)
    (item 3 2 (assign Blocking 2 (constant 4 5) then end) (default end))))) start (1 ∷ 0 ∷ 1 ∷ 42 ∷ 2 ∷ [])
    ∷ gives (only (case (variable 4) (item 3 1 end (default (assign Blocking 2 (constant 4 7) then end))))) start (1 ∷ 0 ∷ 7 ∷ 42 ∷ 2 ∷ [])
    -- the selector is evaluated once: the items that follow the taken one are not looked at
    ∷ gives (only (case (variable 4) (item 3 2 (index 3 then end) (item 3 3 (index 4 then end) (default end))))) start (from 3)
    -- a non-blocking value is not read back in the same cycle, a blocking one is
    ∷ gives (doing (assign NonBlocking 4 (constant 3 7) then assign Blocking 2 (two Add (variable 2) (constant 4 1)) then
    assign Blocking 1 (fixed_bit 4 0) then end)) start (1 ∷ 0 ∷ 6 ∷ 42 ∷ 7 ∷ [])
    ∷ gives (doing (index 7 then assign Blocking 1 (fixed_bit 4 0) then end)) start (1 ∷ 1 ∷ 5 ∷ 42 ∷ 7 ∷ [])
    -- one bit after another of one kind changes the value left by the last
    ∷ gives (doing (assign_bit NonBlocking 3 0 high then assign_bit NonBlocking 3 1 low then end)) start (1 ∷ 0 ∷ 5 ∷ 41 ∷ 2 ∷ [])
    -- assigned by non-blocking anywhere: also where that is not executed
    ∷ gives (doing (index 7 then never (assign NonBlocking 4 (constant 3 1) then end) then end)) start start
    ∷ []

-- input rows, and many cycles: if the input is 1, i = i + 1
abbrev same_rows : List (List ℕ) → List (List ℕ) → Bool
same_rows [] [] = true
same_rows [] (y ∷ ys) = false
same_rows (x ∷ xs) [] = false
same_rows (x ∷ xs) (y ∷ ys) = same_row x y && same_rows xs ys

abbrev counting : Module
counting = only (if_else (variable 0) (assign Blocking 4 (two Add (variable 4) (constant 3 1)) then end) end)

abbrev rows_of : Module → List (List ℕ) → Outcome (List (List ℕ))
rows_of m inputs = cycles.cycles_by (cycle.module_cycle m) five (0 ∷ 0 ∷ 5 ∷ 42 ∷ 6 ∷ []) inputs

abbrev many : List Case
many =
    words.case (flag (cycles.inputs_fit five (1 ∷ []))) 1
    ∷ words.case (flag (cycles.inputs_fit five (2 ∷ []))) 0
    ∷ words.case (flag (cycles.inputs_fit five [])) 0
    ∷ words.case (flag (cycles.inputs_fit five (1 ∷ 0 ∷ []))) 0
    ∷ words.case (flag (cycles.inputs_fit [] [])) 1
    ∷ words.case (flag (quiet.got_and (same_rows []) (rows_of counting []))) 1
    ∷ words.case (flag (quiet.got_and (same_rows ((1 ∷ 0 ∷ 5 ∷ 42 ∷ 7 ∷ []) ∷ (0 ∷ 0 ∷ 5 ∷ 42 ∷ 7 ∷ []) ∷ (1 ∷ 0 ∷ 5 ∷ 42 ∷ 0 ∷ []) ∷ []))
    (rows_of counting ((1 ∷ []) ∷ (0 ∷ []) ∷ (1 ∷ []) ∷ [])))) 1
    -- a cycle that stops, stops all of them
    ∷ words.case (flag (is_got (rows_of (only take) ((1 ∷ []) ∷ [])))) 0
    ∷ words.case (flag (is_got (rows_of (only take) []))) 1
    ∷ []

pub table : List Case
table = reads ++ targets Blocking ++ targets NonBlocking ++ widths ++ rows ++ not_taken ++ order ++ many

pub cases : passes table ≡ true
unfolding table cycles.cycles_by cycles.with_inputs cycles.inputs_fit cycle.evaluate cycle.execute cycle.execute_block cycle.execute_items cycle.execute_all cycle.delays cycle.delays_block cycle.delays_items cycle.delays_any cycle.settled cycle.module_cycle quiet.quiet quiet.quiet_block quiet.quiet_items quiet.quiet_all quiet.quiet_cycle bits.bit bits.ones_below bits.parity bits.inverted bits.sum bits.same bits.put_bit operators.two_number operators.two_width operators.one_width operators.one_number cycles.input_widths all_fit
cases = refl
