-- Modules and their files give each other back: a file without a fault is the encoding of the tree that is read, and the encoding of a tree within the limits
-- has no fault and is read as it was.
use Rattle.tagged.specs.Answers.{fault_at}
use Rattle.std.specs.Prelude.{Ok}
use mathlib.Core.Path.{◌≡◌, refl, sym, ap, ap₂, ◌∙◌, subst}
use mathlib.Core.Bool.{true}
use mathlib.Core.List.{List, [], ◌∷◌, ◌++◌, append-nil}
use Prim.Native.Nat.{ℕ, suc, ◌+◌, ◌≤◌, ◌<◌}
use native.Mathlib.Omega.{arith}
use lib.ListN.{length, get_or, take, drop, length-append, length-drop, take-append-drop}
use lib.Seq.{take_all, drop_at, length-take-le}
use borrow.Author.Tests.{eqb-true, eq-eqb, le-leb}
use Rattle.tagged.specs.Limits.{deepest, shortest_file, longest_module}
use Rattle.tagged.specs.Bytes.{AllBytes, two_bytes}
use Rattle.tagged.specs.Sorts.{sort_of, tag_of, is_declaration, is_sort}
use Rattle.tagged.specs.Fields.{faultless, field_bytes, all_bytes_of, size_of, field_by, then_by, until_end, passed_bytes, read_placed, unplaced, placed_by, Step}
use Rattle.tagged.specs.Files.{file_answer, outer_answer}
use Rattle.tagged.specs.Declarations.{Declaration, sort_of_declaration, declaration_payload, declaration_bytes, declaration_body, declarations_step, declaration_read, declarations_at, declarations_in, after_declarations}
use Rattle.tagged.specs.declared.sorts.Sort.{Sort}
use Rattle.tagged.specs.Answers.{acceptance}
use Rattle.tagged.proofs.ByteLaws.{bytes_drop}
use Rattle.tagged.proofs.SortLaws.{tag_back, is_itself}
use Rattle.tagged.proofs.FieldLaws.{Whole, field_passed}
use Rattle.tagged.proofs.ListBytes.{whole_bytes, field_whole, field_length, placed_unplaced, Stops, Stands, Each, none, more}
use Rattle.tagged.proofs.DeclarationBytes.{after_declared_lem, declarations_anywhere, declarations_read, Writable, writable_stands, declarations_pass, declarations_placed}
use Rattle.verilog.specs.Tree.{Block, Module}
use Rattle.verilog.specs.Form.{block_payload, process_bytes, module_payload, module_bytes, statement_body, process_body, module_body, module_form}
use Rattle.verilog.specs.Reading.{block_in, tree_in, module_in}
use Rattle.verilog.specs.Fits.{longest_field, FitsBlock, FitsDeclaration, All, statements_depth, processes_depth, module_depth, FitsModule}
use Rattle.tagged.proofs.JudgeLaws.{then_tells, then_written, sort_fine}
use Rattle.verilog.proofs.FrontLaws.{Returns, stands_passed}
use Rattle.tagged.proofs.RunLaws.{stops_none, stops_field, list_in, until_stands, until_back}
use Rattle.verilog.proofs.FrontLists.{until_returns}
use Rattle.tagged.proofs.FileLaws.{file_fits}
use Rattle.verilog.proofs.SortChoices.{process_known}
use Rattle.verilog.proofs.ExpressionBytes.{payload_short}
use Rattle.verilog.proofs.StatementBytes.{block_written}
use Rattle.verilog.proofs.StatementStands.{block_passed, block_read}

-- from bytes

pub process_returns : (d : ℕ) → Returns (is_sort Sort.Process) (process_body (suc d)) (λ s l. block_in (suc d) l) process_bytes
unfolding process_bytes
process_returns d base s l h fine =
    let c = sort_fine Sort.Process s (until_end (field_by (statement_body d)) (base + 3) base l) (fault_at base) fine in
    record { is = c.0; written = ap₂ field_bytes (eqb-true _ _ c.0) (block_written d (base + 3) base l h c.1) }

-- an outer payload without a fault: where its declarations stand and end, and what the processes after them are
pub record PayloadRead (base : ℕ) (l : List ℕ) : Type 0 where
  pub places : declarations_at base l ≡ placed_by declaration_bytes base (tree_in l).declarations
  pub declared : passed_bytes (declarations_step 0 0 l) ≡ length (all_bytes_of declaration_bytes (tree_in l).declarations)
  pub processes : after_declarations l ≡ all_bytes_of process_bytes (tree_in l).processes
  pub written : module_payload (tree_in l) ≡ l

payload_returns : (base owner : ℕ) (l : List ℕ) → AllBytes l → then_by declarations_step (until_end (field_by (process_body 31))) base owner l ≡ faultless →
    PayloadRead base l
unfolding module_payload tree_in
payload_returns base owner l h fine =
    let t = then_tells declarations_step (until_end (field_by (process_body 31))) base owner l fine in
    let m = t.size in
    let declared = declarations_read base owner l m h t.passed in
    let passed : passed_bytes (declarations_step 0 0 l) ≡ m = ap passed_bytes (declarations_anywhere base owner l m t.passed) in
    let after : after_declarations l ≡ drop m l = after_declared_lem base owner l m t.passed in
    let returned = until_returns (is_sort Sort.Process) (process_body 31) (λ s p. block_in 31 p) process_bytes process_known (process_returns 30) (base + m) owner
    (drop m l) (bytes_drop m l h) t.rest in
    let processes : all_bytes_of process_bytes (list_in (is_sort Sort.Process) (process_body 31) (λ s p. block_in 31 p) process_bytes (after_declarations l)) ≡ drop m l =
    ap (λ (x : List ℕ). all_bytes_of process_bytes (list_in (is_sort Sort.Process) (process_body 31) (λ s p. block_in 31 p) process_bytes x)) after ∙ returned in
    record {
      places = declared.places;
      declared = passed ∙ sym (length-take-le m l declared.within) ∙ ap length declared.written;
      processes = after ∙ sym processes;
      written = ap₂ (λ (a b : List ℕ). a ++ b) (sym declared.written) processes ∙ take-append-drop m l;
    }

-- a tag whose sort is a module's
module_tag : (file : List ℕ) {s : Sort} {n : ℕ} → Whole file s n → is_sort Sort.Module s ≡ true → get_or file 0 0 ≡ tag_of Sort.Module
unfolding tag_of
module_tag file {s} w is =
    let tag : tag_of Sort.Module ≡ tag_of (sort_of (get_or file 0 0)) = eqb-true _ _ is ∙ ap tag_of w.sort in
    sym (tag ∙ tag_back (get_or file 0 0) (λ z. omega (arith, tag)))

-- a file without a fault, opened: its payload is all but the header, and has no fault
pub record FormOpened (file : List ℕ) : Type 0 where
  pub tagged : file ≡ field_bytes (tag_of Sort.Module) (drop 3 file)
  pub fine : then_by declarations_step (until_end (field_by (process_body 31))) 3 0 (drop 3 file) ≡ faultless

pub form_opened : (file : List ℕ) → AllBytes file → file_answer longest_module file ≡ acceptance → (m : ℕ) → module_form file ≡ Ok m → FormOpened file
unfolding module_form
form_opened file h accepted m e =
    let p = field_passed (module_body deepest) 0 0 file m e in
    let n = p.size in
    let outer : n + 3 ≡ length file = ap (λ (k : ℕ). k + 3) p.whole.size ∙ (file_fits longest_module file accepted).outer in
    let all : take n (drop 3 file) ≡ drop 3 file = take_all n (drop 3 file) (omega (arith, length-drop 3 file)) in
    let c = sort_fine Sort.Module p.sort (then_by declarations_step (until_end (field_by (process_body 31))) 3 0 (take n (drop 3 file))) (fault_at 0) p.fine in
    record {
      tagged = sym (take_all (n + 3) file (omega arith)) ∙ whole_bytes file h p.whole ∙ ap₂ field_bytes (module_tag file p.whole c.0) all;
      fine = rw all at c.1;
    }

-- the payload of a file without a fault
pub form_read : (file : List ℕ) → AllBytes file → file_answer longest_module file ≡ acceptance → (m : ℕ) → module_form file ≡ Ok m →
    PayloadRead 3 (drop 3 file)
form_read file h accepted m e = payload_returns 3 0 (drop 3 file) (bytes_drop 3 file h) (form_opened file h accepted m e).fine

-- no fault means that the tree's encoding is the file
pub form_written : (file : List ℕ) → AllBytes file → file_answer longest_module file ≡ acceptance → (m : ℕ) → module_form file ≡ Ok m →
    file ≡ module_bytes (module_in file)
unfolding module_bytes
form_written file h accepted m e =
    let o = form_opened file h accepted m e in
    o.tagged ∙ ap (field_bytes (tag_of Sort.Module)) (sym (form_read file h accepted m e).written)

-- to bytes

declarations_each : (ds : List Declaration) → All FitsDeclaration ds → length (all_bytes_of declaration_bytes ds) ≤ longest_field →
    Each is_declaration declaration_body declaration_read declaration_bytes ds
unfolding All all_bytes_of FitsDeclaration Writable declaration_bytes
declarations_each [] fits long = none
declarations_each (d ∷ ds) fits long =
    let both = length-append (declaration_bytes d) (all_bytes_of declaration_bytes ds) in
    let short = payload_short (tag_of (Sort.Declaration (sort_of_declaration d))) (declaration_payload d) (omega arith) in
    more (writable_stands d (fits.0.1, short)) (declarations_each ds fits.1 (omega arith))

process_stands : (d : ℕ) (b : Block) → FitsBlock b → statements_depth b ≤ d → length (process_bytes b) ≤ longest_field →
    Stands (is_sort Sort.Process) (process_body (suc d)) (λ s l. block_in (suc d) l) process_bytes b
unfolding process_bytes
process_stands d b fits deep long =
    let short = payload_short (tag_of Sort.Process) (block_payload b) long in
    record {
      sort = Sort.Process;
      payload = block_payload b;
      field = refl;
      short = short;
      is = is_itself Sort.Process;
      fine = λ base. rw (is_itself Sort.Process) (block_passed d b fits deep (omega arith) (base + 3) base);
      back = block_read d b fits deep (omega arith);
    }

processes_each : (d : ℕ) (l : List Block) → All FitsBlock l → processes_depth l ≤ suc d → length (all_bytes_of process_bytes l) ≤ longest_field
    → Each (is_sort Sort.Process) (process_body (suc d)) (λ s p. block_in (suc d) p) process_bytes l
unfolding All all_bytes_of processes_depth
processes_each d [] fits deep long = none
processes_each d (b ∷ l) fits deep long =
    let both = length-append (process_bytes b) (all_bytes_of process_bytes l) in
    more (process_stands d b fits.0 (omega arith) (omega arith)) (processes_each d l fits.1 (omega arith) (omega arith))

-- a process begins no declaration
processes_stop : (l : List Block) → Stops is_declaration (all_bytes_of process_bytes l)
unfolding all_bytes_of process_bytes
processes_stop [] = stops_none is_declaration
processes_stop (b ∷ l) = stops_field is_declaration Sort.Process (block_payload b) (all_bytes_of process_bytes l) refl

after_header : (tag : ℕ) (payload : List ℕ) → drop 3 (field_bytes tag payload) ≡ payload
unfolding field_bytes two_bytes
after_header tag payload = refl

-- the lengths and depths of a module's parts
record PartsFit (m : Module) : Type 0 where
  front : length (all_bytes_of declaration_bytes m.declarations) ≤ longest_field
  after : length (all_bytes_of process_bytes m.processes) ≤ longest_field
  short : length (module_payload m) < 65536
  deep : processes_depth m.processes ≤ 31

parts_fit : (m : Module) → FitsModule m → PartsFit m
unfolding module_payload module_bytes module_depth
parts_fit m fits =
    let both = length-append (all_bytes_of declaration_bytes m.declarations) (all_bytes_of process_bytes m.processes) in
    let whole = field_length (tag_of Sort.Module) (module_payload m) in
    let long = fits.long in
    let deep = fits.deep in
    record { front = omega arith; after = omega arith; short = omega arith; deep = omega arith }

module _ (m : Module) (fits : FitsModule m) where
  declared : Each is_declaration declaration_body declaration_read declaration_bytes m.declarations
  declared = declarations_each m.declarations fits.declarations (parts_fit m fits).front

  processed : Each (is_sort Sort.Process) (process_body 31) (λ s p. block_in 31 p) process_bytes m.processes
  processed = processes_each 30 m.processes fits.processes (parts_fit m fits).deep (parts_fit m fits).after

  payload_fine : (base owner : ℕ) → then_by declarations_step (until_end (field_by (process_body 31))) base owner (module_payload m) ≡ faultless
  unfolding module_payload
  payload_fine base owner =
      let front = all_bytes_of declaration_bytes m.declarations in
      let after = all_bytes_of process_bytes m.processes in
      then_written declarations_step (until_end (field_by (process_body 31))) base owner front after
      (declarations_pass base owner after declared (processes_stop m.processes))
      (until_stands (is_sort Sort.Process) (process_body 31) (λ s p. block_in 31 p) process_bytes (base + length front) owner processed)

  payload_read : tree_in (module_payload m) ≡ m
  unfolding module_payload tree_in
  payload_read =
      let front = all_bytes_of declaration_bytes m.declarations in
      let after = all_bytes_of process_bytes m.processes in
      let stops = processes_stop m.processes in
      let first : declarations_in (front ++ after) ≡ m.declarations =
      ap unplaced (declarations_placed 0 0 after declared stops) ∙ placed_unplaced declaration_bytes 0 m.declarations in
      let left : after_declarations (front ++ after) ≡ after =
      ap (λ (s : Step). drop (passed_bytes s) (front ++ after)) (declarations_pass 0 0 after declared stops) ∙ drop_at front after (length front) refl in
      let second : unplaced (read_placed (is_sort Sort.Process) (λ s p. block_in 31 p) 0 (after_declarations (front ++ after))) ≡ m.processes =
      ap (list_in (is_sort Sort.Process) (process_body 31) (λ s p. block_in 31 p) process_bytes) left
      ∙ until_back (is_sort Sort.Process) (process_body 31) (λ s p. block_in 31 p) process_bytes processed in
      ap₂ (λ (a : List Declaration) (b : List Block). let x : Module = record { declarations = a; processes = b } in x) first second

  module_stands : Stands (is_sort Sort.Module) (module_body deepest) (λ s p. tree_in p) module_bytes m
  unfolding module_bytes
  module_stands = record {
    sort = Sort.Module;
    payload = module_payload m;
    field = refl;
    short = (parts_fit m fits).short;
    is = is_itself Sort.Module;
    fine = λ base. rw (is_itself Sort.Module) (payload_fine (base + 3) base);
    back = payload_read;
  }

  -- the encoding of a tree within the limits has no fault
  pub written_form : module_form (module_bytes m) ≡ Ok (length (module_bytes m))
  unfolding module_form
  written_form =
      ap (λ (l : List ℕ). field_by (module_body deepest) 0 0 l) (sym (append-nil (module_bytes m))) ∙ stands_passed module_stands [] 0 0

  -- its length is that of a file
  pub written_accepted : file_answer longest_module (module_bytes m) ≡ acceptance
  unfolding file_answer outer_answer module_bytes
  written_accepted =
      let payload = module_payload m in
      let file = field_bytes (tag_of Sort.Module) payload in
      let whole = subst (λ (l : List ℕ). Whole l (sort_of (tag_of Sort.Module)) (length payload)) (append-nil file)
      (field_whole (tag_of Sort.Module) payload [] (parts_fit m fits).short) in
      let size : size_of file + 3 ≡ length file = ap (λ (k : ℕ). k + 3) (sym whole.size) ∙ sym (field_length (tag_of Sort.Module) payload) in
      let low : shortest_file ≤ length file = omega (arith, field_length (tag_of Sort.Module) payload) in
      let high : length file ≤ longest_module = fits.long in
      rw (le-leb _ _ low, le-leb _ _ high, eq-eqb _ _ size)

  -- it is read as it was
  pub written_read : module_in (module_bytes m) ≡ m
  unfolding module_bytes
  written_read = ap tree_in (after_header (tag_of Sort.Module) (module_payload m)) ∙ payload_read
