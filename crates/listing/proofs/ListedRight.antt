-- What the listing shows is what it is to show: of an accepted module the name of a variable that there is, of an accepted netlist the field of a cell that there
-- is, and else nothing. By the places at which declarations and cells are read.
use Rattle.tagged.specs.Answers.{acceptance, refused, Answer}
use Rattle.std.specs.Prelude.{Ok, Err}
use mathlib.Core.Path.{◌≡◌, refl, ap, ◌∙◌}
use mathlib.Core.Bool.{Bool, true, false, cond}
use mathlib.Core.List.{List, [], ◌∷◌, ◌++◌}
use Prim.Native.Nat.{ℕ, suc, ◌+◌, ◌-◌, ◌≤◌}
use native.Mathlib.Omega.{arith}
use lib.Dec.{eqb}
use lib.ListN.{length, take, drop, drop_of_length-le}
use borrow.Author.Tests.{eqb-true, ne_eqb}
use Rattle.tagged.specs.Bytes.{AllBytes}
use Rattle.tagged.specs.Sorts.{is_declaration, is_cell}
use Rattle.tagged.specs.Fields.{Placed, unplaced, passed_bytes}
use Rattle.tagged.specs.Parts.{first_name, name_in}
use Rattle.tagged.specs.Declarations.{Declaration, name_of, declaration_read, declarations_at, declarations_in, declarations_step, after_declarations}
use Rattle.tagged.specs.declared.answers.Rule.{Rule}
use Rattle.tagged.specs.declared.parts.Part.{Part}
use Rattle.netlist.specs.Answer.{netlist_answer}
use Rattle.netlist.specs.Form.{cell_bytes}
use Rattle.tagged.proofs.ListLaws.{read_anywhere}
use Rattle.netlist.specs.Reading.{cell_read, cells_at, lists_in, netlist_in}
use Rattle.netlist.specs.Parts.{first_part, part_in, cell_part}
use Rattle.netlist.specs.declared.Cell.{Cell}
use Rattle.netlist.proofs.CellListed.{cell_listed}
use Rattle.verilog.specs.Reading.{tree_in, module_in}
use Rattle.verilog.specs.Answer.{module_answer}
use Rattle.verilog.specs.Parts.{name_part}
use Rattle.verilog.proofs.NameListed.{name_listed}
use Rattle.listing.specs.Listing.{empty_part, settled_part, of_accepted, module_part, netlist_part, listed_part, part_bytes, listed_bytes}

-- settling a part changes none of its bytes
settled_bytes : (file : List ℕ) (p : Part) → part_bytes file (settled_part p).start (settled_part p).end ≡ part_bytes file p.start p.end
unfolding settled_part
settled_bytes file p = go (eqb p.start p.end) refl
  where
    go : (none : Bool) → eqb p.start p.end ≡ none →
        part_bytes file (cond none empty_part p).start (cond none empty_part p).end ≡ part_bytes file p.start p.end
    go true e =
        let none_left : 0 ≡ p.end - p.start = omega (arith, eqb-true p.start p.end e) in
        ap (λ (n : ℕ). take n (drop p.start file)) none_left
    go false e = refl

-- a variable of an accepted module: its name
pub name_shown : (file netlist : List ℕ) → AllBytes file → module_answer file ≡ acceptance → (earlier : List Declaration) (d : Declaration) (later : List Declaration) →
    (module_in file).declarations ≡ earlier ++ (d ∷ later) → listed_bytes file netlist 1 (length earlier) ≡ name_of d
unfolding listed_bytes listed_part module_part
name_shown file netlist bytes accepted earlier d later split =
    rw accepted (settled_bytes file (name_part (length earlier) file) ∙ name_listed file bytes accepted earlier d later split)

-- a cell of an accepted netlist: its field, with its header
pub cell_shown : (file netlist : List ℕ) → AllBytes netlist → netlist_answer netlist ≡ acceptance → (earlier : List Cell) (c : Cell) (later : List Cell) →
    (netlist_in netlist).cells ≡ earlier ++ (c ∷ later) → listed_bytes file netlist 2 (length earlier) ≡ cell_bytes c
unfolding listed_bytes listed_part netlist_part
cell_shown file netlist bytes accepted earlier c later split =
    rw accepted (settled_bytes netlist (cell_part (length earlier) netlist) ∙ cell_listed netlist bytes accepted earlier c later split)

-- nothing behind a refused file
pub refused_module : (file netlist : List ℕ) (number : ℕ) {rule : Rule} {place : ℕ} → module_answer file ≡ Err (refused rule place) → listed_bytes file netlist 1 number ≡ []
unfolding listed_bytes listed_part module_part
refused_module file netlist number refused = rw refused

pub refused_netlist : (file netlist : List ℕ) (number : ℕ) {rule : Rule} {place : ℕ} → netlist_answer netlist ≡ Err (refused rule place) → listed_bytes file netlist 2 number ≡ []
unfolding listed_bytes listed_part netlist_part
refused_netlist file netlist number refused = rw refused

-- nothing behind a constant, or a kind that there is not
pub other_kind_lem : (file netlist : List ℕ) (kind number : ℕ) → (kind ≡ 1 → ⊥) → (kind ≡ 2 → ⊥) → listed_bytes file netlist kind number ≡ []
unfolding listed_bytes listed_part
other_kind_lem file netlist kind number no-variable no_cell_lem = rw (ne_eqb kind 1 no-variable, ne_eqb kind 2 no_cell_lem)

-- as many places as elements
placed_count : {A : Type 0} (l : List (Placed A)) → length (unplaced l) ≡ length l
placed_count [] = refl
placed_count (x ∷ l) = ap suc (placed_count l)

-- a part that holds nothing shows nothing
empty_shown : (file : List ℕ) (answer : Answer) (p : Part) → p.start ≡ p.end → part_bytes file (of_accepted answer p).start (of_accepted answer p).end ≡ []
empty_shown file (Err r) p e = refl
empty_shown file (Ok _) p e =
    let none_left : p.end - p.start ≡ 0 = omega (arith, e) in
    settled_bytes file p ∙ ap (λ (n : ℕ). take n (drop p.start file)) none_left

-- how many are read does not depend on where they stand
declared_anywhere : (l : List ℕ) → unplaced (declarations_at 3 l) ≡ declarations_in l
unfolding declarations_at
declared_anywhere l = read_anywhere is_declaration declaration_read 0 3 0 l

cells_anywhere : (base : ℕ) (l : List ℕ) → unplaced (cells_at base l) ≡ unplaced (cells_at 0 l)
unfolding cells_at
cells_anywhere base l = read_anywhere is_cell cell_read 0 base 0 l

-- past the last one, a part holds nothing
no_name_lem : (l : List ℕ) (number : ℕ) → length (declarations_at 3 l) ≤ number → (name_in 3 number l).start ≡ (name_in 3 number l).end
unfolding name_in first_name
no_name_lem l number h = rw (drop_of_length-le (declarations_at 3 l) h)

no_cell_lem : (base : ℕ) (l : List ℕ) (number : ℕ) → length (cells_at base l) ≤ number → (part_in base number l).start ≡ (part_in base number l).end
unfolding part_in first_part
no_cell_lem base l number h = rw (drop_of_length-le (cells_at base l) h)

-- nothing behind a variable that there is not
pub missing_variable_lem : (file netlist : List ℕ) (number : ℕ) → length (module_in file).declarations ≤ number → listed_bytes file netlist 1 number ≡ []
unfolding listed_bytes listed_part module_part tree_in name_part
missing_variable_lem file netlist number h =
    let l : List ℕ = drop 3 file in
    let count : length (declarations_at 3 l) ≤ number = omega (arith, placed_count (declarations_at 3 l), ap length (declared_anywhere l)) in
    empty_shown file (module_answer file) (name_in 3 number l) (no_name_lem l number count)

-- nothing behind a cell that there is not
pub missing_cell_lem : (file netlist : List ℕ) (number : ℕ) → length (netlist_in netlist).cells ≤ number → listed_bytes file netlist 2 number ≡ []
unfolding listed_bytes listed_part netlist_part lists_in cell_part
missing_cell_lem file netlist number h =
    let l : List ℕ = after_declarations (drop 3 netlist) in
    let base : ℕ = 3 + passed_bytes (declarations_step 0 0 (drop 3 netlist)) in
    let count : length (cells_at base l) ≤ number = omega (arith, placed_count (cells_at base l), ap length (cells_anywhere base l)) in
    empty_shown netlist (netlist_answer netlist) (part_in base number l) (no_cell_lem base l number count)
