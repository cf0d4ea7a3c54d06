-- Whole netlists and their bytes give each other back: lists that fit are read as they were, and every file without a fault is exactly the bytes
-- of its lists, at their places. By the laws of lists of fields, once for declarations, cells and drives.
use Rattle.std.specs.Prelude.{Ok}
use mathlib.Core.Path.{◌≡◌, refl, sym, ap, ap₂, ◌∙◌, subst}
use mathlib.Core.Bool.{Bool, true, false}
use mathlib.Core.List.{List, [], ◌∷◌, ◌++◌, append_assoc, append-nil}
use Prim.Native.Nat.{ℕ, ◌+◌, ◌-◌, ◌≤◌, ◌<◌}
use native.Mathlib.Omega.{arith}
use lib.Dec.{lit<}
use lib.ListN.{length, get_or, take, drop, length-take, length-drop, take-append-drop}
use lib.Seq.{drop_at, take_all}
use Rattle.tagged.specs.Limits.{longest_netlist}
use Rattle.tagged.specs.Bytes.{AllBytes, four_bytes, four_of, two_bytes}
use Rattle.tagged.specs.Sorts.{sort_of, tag_of, is_declaration, is_cell, is_sort}
use Rattle.tagged.specs.Fields.{faultless, field_bytes, all_bytes_of, size_of, field_by, then_by, unplaced, placed_by, passed_bytes, Step}
use Rattle.tagged.specs.Files.{file_answer}
use Rattle.tagged.specs.Declarations.{Declaration, input, register, declaration_bytes, declaration_body, declarations_step, declaration_read, declarations_at, declarations_in, after_declarations}
use Rattle.tagged.specs.declared.sorts.DeclarationSort.{DeclarationSort}
use Rattle.tagged.specs.declared.sorts.Sort.{Sort}
use Rattle.tagged.specs.Answers.{fault_at, acceptance}
use Rattle.tagged.proofs.ByteLaws.{four_lt, bytes_drop}
use Rattle.tagged.proofs.SortLaws.{tag_back, same_sort}
use Rattle.tagged.proofs.FieldLaws.{field_passed, passed_field}
use Rattle.tagged.proofs.ListLaws.{read_anywhere}
use Rattle.tagged.proofs.ListBytes.{Stops, Each, Stands, Run, many_run, list_many, placed_unplaced, whole_bytes, field_whole, field_payload, field_length}
use Rattle.tagged.proofs.AllBytesLaws.{bytes_cons, bytes_append, four_bytes_lem, field_bytes_lem, all_bytes}
use Rattle.tagged.proofs.JudgeLaws.{then_tells, sort_fine, then_passed}
use Rattle.tagged.proofs.AnyPlace.{field_anywhere, many_anywhere}
use Rattle.tagged.proofs.RunLaws.{until_run, run_has, Listed, run_listed, each_stands, stops_none, stops_field, until_stands, list_back, until_back}
use Rattle.tagged.proofs.FileLaws.{file_fits}
use Rattle.tagged.proofs.DeclarationLaws.{declaration_sort_lem}
use Rattle.tagged.proofs.DeclarationBytes.{Declared, declarations_read, declarations_anywhere, after_declared_lem, Writable, writable_stands, declarations_pass, declarations_placed}
use Rattle.netlist.specs.declared.Cell.{Cell}
use Rattle.netlist.specs.declared.Drive.{Drive}
use Rattle.netlist.specs.Lists.{Netlist, cell_sort_of}
use Rattle.netlist.specs.Form.{cell_bytes, drive_bytes, netlist_payload, netlist_bytes, cell_body, drive_body, cells_step, drives_judge, netlist_body, netlist_form}
use Rattle.netlist.specs.Reading.{cell_read, drive_read, cells_at, drives_at, after_cells, lists_in, netlist_in}
use Rattle.netlist.specs.Rules.{cells_base, drives_base}
use Rattle.netlist.specs.Fits.{Every, FitsDeclaration, FitsCell, FitsDrive, FitsBytes}
use Rattle.netlist.proofs.EveryLaws.{every_member, member_every, every_bytes, bytes_every}
use Rattle.netlist.proofs.CellBytes.{cell_known, cell_back, cell_fits, cell_anywhere, cell_stands, cell_bytes_lem, drive_known, drive_fine, drive_back, drive_fits, drive_stands, drive_bytes_lem}

-- declarations

fits_writable : (d : Declaration) → FitsDeclaration d → Writable d
unfolding Writable
fits_writable d h = (h.initial, h.short)

fits_stands : (d : Declaration) → FitsDeclaration d → Stands is_declaration declaration_body declaration_read declaration_bytes d
fits_stands d h = writable_stands d (fits_writable d h)

-- a declaration in bytes fits them
read_fits : (d : DeclarationSort) (l : List ℕ) → AllBytes l → length l < 65536 → FitsDeclaration (declaration_read (Sort.Declaration d) l)
unfolding declaration_read four_of four_bytes
read_fits DeclarationSort.Input l h short = record {
  width = h 0;
  initial = lit< tt;
  name = bytes_every (drop 1 l) (bytes_drop 1 l h);
  short = omega (arith, length-drop 1 l);
}
read_fits DeclarationSort.Register l h short = let rest = bytes_drop 1 l h in record {
  width = h 0;
  initial = four_lt (get_or (drop 1 l) 0 0) (get_or (drop 1 l) 1 0) (get_or (drop 1 l) 2 0) (get_or (drop 1 l) 3 0) (rest 0) (rest 1) (rest 2) (rest 3);
  name = bytes_every (drop 5 l) (bytes_drop 5 l h);
  short = omega (arith, length-drop 5 l);
}

declaration_fits : (at : ℕ) (s : Sort) (l : List ℕ) → AllBytes l → length l < 65536 → is_declaration s ≡ true → declaration_body at s l ≡ faultless
    → FitsDeclaration (declaration_read s l)
declaration_fits at s l h short is fine =
    let f = declaration_sort_lem s is in
    subst (λ (s : Sort). FitsDeclaration (declaration_read s l)) (sym f.1) (read_fits f.0 l h short)

declaration_bytes_lem : (d : Declaration) → FitsDeclaration d → AllBytes (declaration_bytes d)
unfolding declaration_bytes tag_of
declaration_bytes_lem (input w name) h = field_bytes_lem 0x02 (w ∷ name) (lit< tt) (bytes_cons w name h.width (every_bytes name h.name))
declaration_bytes_lem (register w v name) h =
    field_bytes_lem 0x03 (w ∷ four_bytes v ++ name) (lit< tt)
    (bytes_cons w (four_bytes v ++ name) h.width (bytes_append (four_bytes v) name (four_bytes_lem v) (every_bytes name h.name)))

-- where the declarations and where the cells of a netlist stop
drives_stop : (wanted : Sort → Bool) → wanted Sort.Drive ≡ false → (ds : List Drive) → Stops wanted (all_bytes_of drive_bytes ds)
unfolding all_bytes_of drive_bytes
drives_stop wanted off [] = stops_none wanted
drives_stop wanted off (d ∷ ds) = stops_field wanted Sort.Drive _ (all_bytes_of drive_bytes ds) off

cells_stop : (cs : List Cell) (ds : List Drive) → Stops is_declaration (all_bytes_of cell_bytes cs ++ all_bytes_of drive_bytes ds)
unfolding all_bytes_of cell_bytes
cells_stop [] ds = drives_stop is_declaration refl ds
cells_stop (c ∷ cs) ds =
    rw (append_assoc (cell_bytes c) (all_bytes_of cell_bytes cs) (all_bytes_of drive_bytes ds))
    (stops_field is_declaration (Sort.Cell (cell_sort_of c)) _ (all_bytes_of cell_bytes cs ++ all_bytes_of drive_bytes ds) refl)

-- from lists: what is written is read as it was
module _ (n : Netlist) (h : FitsBytes n) where
  ds : List ℕ
  ds = all_bytes_of declaration_bytes n.declarations

  cs : List ℕ
  cs = all_bytes_of cell_bytes n.cells

  vs : List ℕ
  vs = all_bytes_of drive_bytes n.drives

  each_declaration : Each is_declaration declaration_body declaration_read declaration_bytes n.declarations
  each_declaration = each_stands is_declaration declaration_body declaration_read declaration_bytes n.declarations (λ x m. fits_stands x (every_member FitsDeclaration x h.declarations m))

  each_cell : Each is_cell cell_body cell_read cell_bytes n.cells
  each_cell = each_stands is_cell cell_body cell_read cell_bytes n.cells (λ x m. cell_stands x (every_member FitsCell x h.cells m))

  each_drive : Each (is_sort Sort.Drive) drive_body drive_read drive_bytes n.drives
  unfolding tag_of
  each_drive =
      each_stands (is_sort Sort.Drive) drive_body drive_read drive_bytes n.drives (λ x m. drive_stands (is_sort Sort.Drive) refl x (every_member FitsDrive x h.drives m))

  payload_is : netlist_payload n ≡ ds ++ (cs ++ vs)
  unfolding netlist_payload ds cs vs
  payload_is = append_assoc ds cs vs

  -- refusal 2 finds no fault
  step_declarations : (base owner : ℕ) → declarations_step base owner (ds ++ (cs ++ vs)) ≡ Ok (length ds)
  unfolding ds cs vs
  step_declarations base owner = declarations_pass base owner (cs ++ vs) each_declaration (cells_stop n.cells n.drives)

  step_cells : (base owner : ℕ) → cells_step base owner (cs ++ vs) ≡ Ok (length cs)
  unfolding cells_step cs vs
  step_cells base owner = list_many is_cell cell_body cell_read cell_bytes base owner vs each_cell (drives_stop is_cell refl n.drives)

  judge_drives : (base owner : ℕ) → drives_judge base owner vs ≡ faultless
  unfolding drives_judge vs
  judge_drives base owner = until_stands (is_sort Sort.Drive) drive_body drive_read drive_bytes base owner each_drive

  payload_fine : (base owner : ℕ) → then_by declarations_step (then_by cells_step drives_judge) base owner (netlist_payload n) ≡ faultless
  payload_fine base owner =
      rw payload_is
      (then_passed declarations_step (then_by cells_step drives_judge) base owner (ds ++ (cs ++ vs)) (length ds) (step_declarations base owner)
      (rw (drop_at ds (cs ++ vs) (length ds) refl)
      (then_passed cells_step drives_judge (base + length ds) owner (cs ++ vs) (length cs) (step_cells (base + length ds) owner)
      (rw (drop_at cs vs (length cs) refl) (judge_drives (base + length ds + length cs) owner)))))

  pub form_written : netlist_form (netlist_bytes n) ≡ Ok (length (netlist_bytes n))
  unfolding netlist_form netlist_bytes netlist_body tag_of sort_of
  form_written =
      let bytes = field_bytes (tag_of Sort.Netlist) (netlist_payload n) in
      let whole = field_whole (tag_of Sort.Netlist) (netlist_payload n) [] h.short in
      let all : bytes ++ [] ≡ bytes = append-nil bytes in
      passed_field netlist_body 0 0 bytes (length bytes)
      (record {
        sort = Sort.Netlist;
        size = length (netlist_payload n);
        whole = rw all at whole;
        fine = rw (rw all at (field_payload (tag_of Sort.Netlist) (netlist_payload n) [])) (payload_fine 3 0);
        bytes = field_length (tag_of Sort.Netlist) (netlist_payload n);
      })

  -- the same lists are read
  after_declarations_lem : after_declarations (ds ++ (cs ++ vs)) ≡ cs ++ vs
  after_declarations_lem = rw (step_declarations 0 0) (drop_at ds (cs ++ vs) (length ds) refl)

  after_cells_lem : after_cells (ds ++ (cs ++ vs)) ≡ vs
  after_cells_lem = rw (after_declarations_lem, step_cells 0 0) (drop_at cs vs (length cs) refl)

  in_declarations_lem : declarations_in (ds ++ (cs ++ vs)) ≡ n.declarations
  unfolding ds cs vs
  in_declarations_lem =
      ap unplaced (declarations_placed 0 0 (cs ++ vs) each_declaration (cells_stop n.cells n.drives))
      ∙ placed_unplaced declaration_bytes 0 n.declarations

  in_cells_lem : unplaced (cells_at 0 (cs ++ vs)) ≡ n.cells
  unfolding cells_at cs vs
  in_cells_lem = list_back is_cell cell_body cell_read cell_bytes vs each_cell (drives_stop is_cell refl n.drives)

  in_drives_lem : unplaced (drives_at 0 vs) ≡ n.drives
  unfolding drives_at vs
  in_drives_lem = until_back (is_sort Sort.Drive) drive_body drive_read drive_bytes each_drive

  lists_written : lists_in (netlist_payload n) ≡ n
  unfolding lists_in
  lists_written = rw payload_is (λ i. record {
    declarations = in_declarations_lem i;
    cells = (ap (λ (l : List ℕ). unplaced (cells_at 0 l)) after_declarations_lem ∙ in_cells_lem) i;
    drives = (ap (λ (l : List ℕ). unplaced (drives_at 0 l)) after_cells_lem ∙ in_drives_lem) i;
  })

  pub lists_back : netlist_in (netlist_bytes n) ≡ n
  unfolding netlist_bytes field_bytes two_bytes
  lists_back = lists_written

  pub written_bytes : AllBytes (netlist_bytes n)
  unfolding netlist_bytes netlist_payload tag_of ds cs vs
  written_bytes =
      field_bytes_lem (tag_of Sort.Netlist) (netlist_payload n) (lit< tt)
      (bytes_append (ds ++ cs) vs
      (bytes_append ds cs (all_bytes declaration_bytes n.declarations (λ x m. declaration_bytes_lem x (every_member FitsDeclaration x h.declarations m)))
      (all_bytes cell_bytes n.cells (λ x m. cell_bytes_lem x (every_member FitsCell x h.cells m))))
      (all_bytes drive_bytes n.drives (λ x m. drive_bytes_lem x (every_member FitsDrive x h.drives m))))

-- those bytes read back as the same lists
pub read_written : (n : Netlist) → FitsBytes n → (netlist_form (netlist_bytes n) ≡ Ok (length (netlist_bytes n))) × (netlist_in (netlist_bytes n) ≡ n)
read_written n h = (form_written n h, lists_back n h)

-- from bytes: every file without a fault is the bytes of its lists

-- drives until the end: they take the whole list
drives_run : (base owner : ℕ) (l : List ℕ) → AllBytes l → drives_judge base owner l ≡ faultless → (m : ℕ) × Run (is_sort Sort.Drive) drive_body base l m × (length l ≤ m)
unfolding drives_judge
drives_run = until_run (is_sort Sort.Drive) drive_body (λ at s p all fine. (drive_fine at s p fine).0)

-- a step over cells counts the same bytes anywhere
pub cells_anywhere : (base owner : ℕ) (l : List ℕ) (m : ℕ) → cells_step base owner l ≡ Ok m → cells_step 0 0 l ≡ Ok m
unfolding cells_step
cells_anywhere base owner l m e = many_anywhere is_cell (field_by cell_body) (field_anywhere cell_body cell_anywhere) base owner 0 0 l m e

-- what the lists of an outer payload without a fault are
pub record PayloadRead (base : ℕ) (l : List ℕ) : Type 0 where
  -- the payload is theirs
  pub written : l ≡ netlist_payload (lists_in l)
  -- their numbers fit
  pub declarations_fit : Every FitsDeclaration (lists_in l).declarations
  pub cells_fit : Every FitsCell (lists_in l).cells
  pub drives_fit : Every FitsDrive (lists_in l).drives
  -- their places are those of their bytes
  pub declarations_placed : declarations_at base l ≡ placed_by declaration_bytes base (lists_in l).declarations
  pub cells_placed : cells_at (cells_base base (lists_in l)) (after_declarations l) ≡ placed_by cell_bytes (cells_base base (lists_in l)) (lists_in l).cells
  pub drives_placed : drives_at (drives_base base (lists_in l)) (after_cells l) ≡ placed_by drive_bytes (drives_base base (lists_in l)) (lists_in l).drives
  -- how many bytes the declarations take, and the cells
  pub declared_bytes : cells_base base (lists_in l) ≡ base + passed_bytes (declarations_step 0 0 l)
  pub declared_within : passed_bytes (declarations_step 0 0 l) ≤ length l
  pub celled : cells_step 0 0 (after_declarations l) ≡ Ok (passed_bytes (cells_step 0 0 (after_declarations l)))
  pub celled_bytes : drives_base base (lists_in l) ≡ cells_base base (lists_in l) + passed_bytes (cells_step 0 0 (after_declarations l))

-- where the declarations take j bytes, and the cells k
module _ (base owner : ℕ) (l : List ℕ) (h : AllBytes l) (j k : ℕ) (declared : declarations_step base owner l ≡ Ok j)
    (celled : cells_step (base + j) owner (drop j l) ≡ Ok k) (driven : drives_judge (base + j + k) owner (drop k (drop j l)) ≡ faultless) where
  bytes_cells : AllBytes (drop j l)
  bytes_cells = bytes_drop j l h

  bytes_drives : AllBytes (drop k (drop j l))
  bytes_drives = bytes_drop k (drop j l) bytes_cells

  from_cells : after_declarations l ≡ drop j l
  from_cells = after_declared_lem base owner l j declared

  from_drives : after_cells l ≡ drop k (drop j l)
  from_drives =
      ap (λ (r : List ℕ). drop (passed_bytes (cells_step 0 0 r)) r) from_cells
      ∙ ap (λ (s : Step). drop (passed_bytes s) (drop j l)) (cells_anywhere (base + j) owner (drop j l) k celled)

  declarations_run : Run is_declaration declaration_body base l j
  unfolding declarations_step
  declarations_run = many_run is_declaration declaration_body (length l) base owner l j (omega arith) declared

  cells_run : Run is_cell cell_body (base + j) (drop j l) k
  unfolding cells_step
  cells_run = many_run is_cell cell_body (length (drop j l)) (base + j) owner (drop j l) k (omega arith) celled

  listed_declarations : Declared base l j
  listed_declarations = declarations_read base owner l j h declared

  listed_cells : Listed is_cell cell_read cell_bytes (base + j) (drop j l) k
  listed_cells = run_listed is_cell cell_body cell_read cell_bytes cell_known cell_back bytes_cells cells_run

  drives_taken : (m : ℕ) × Run (is_sort Sort.Drive) drive_body (base + j + k) (drop k (drop j l)) m × (length (drop k (drop j l)) ≤ m)
  drives_taken = drives_run (base + j + k) owner (drop k (drop j l)) bytes_drives driven

  listed_drives : Listed (is_sort Sort.Drive) drive_read drive_bytes (base + j + k) (drop k (drop j l)) drives_taken.0
  listed_drives = run_listed (is_sort Sort.Drive) drive_body drive_read drive_bytes drive_known drive_back bytes_drives drives_taken.1

  -- the lists
  the_cells : unplaced (cells_at 0 (drop j l)) ≡ (lists_in l).cells
  unfolding lists_in
  the_cells = ap (λ (r : List ℕ). unplaced (cells_at 0 r)) (sym from_cells)

  the_drives : unplaced (drives_at 0 (drop k (drop j l))) ≡ (lists_in l).drives
  unfolding lists_in
  the_drives = ap (λ (r : List ℕ). unplaced (drives_at 0 r)) (sym from_drives)

  -- their bytes
  written_declarations : take j l ≡ all_bytes_of declaration_bytes (lists_in l).declarations
  unfolding lists_in
  written_declarations = listed_declarations.written

  written_cells : take k (drop j l) ≡ all_bytes_of cell_bytes (lists_in l).cells
  unfolding cells_at
  written_cells = listed_cells.written ∙ ap (all_bytes_of cell_bytes) the_cells

  written_drives : drop k (drop j l) ≡ all_bytes_of drive_bytes (lists_in l).drives
  unfolding drives_at
  written_drives =
      sym (take_all drives_taken.0 (drop k (drop j l)) drives_taken.2) ∙ listed_drives.written ∙ ap (all_bytes_of drive_bytes) the_drives

  written_payload : l ≡ netlist_payload (lists_in l)
  unfolding netlist_payload
  written_payload =
      sym (take-append-drop j l)
      ∙ ap₂ (λ (a b : List ℕ). a ++ b) written_declarations (sym (take-append-drop k (drop j l)) ∙ ap₂ (λ (a b : List ℕ). a ++ b) written_cells written_drives)
      ∙ sym (append_assoc (all_bytes_of declaration_bytes (lists_in l).declarations) (all_bytes_of cell_bytes (lists_in l).cells) (all_bytes_of drive_bytes (lists_in l).drives))

  -- their places
  base_cells : cells_base base (lists_in l) ≡ base + j
  base_cells = let long = ap length (sym written_declarations) ∙ length-take j l in omega (arith, listed_declarations.within)

  base_drives : drives_base base (lists_in l) ≡ base + j + k
  base_drives = let long = ap length (sym written_cells) ∙ length-take k (drop j l) in omega (arith, base_cells, listed_cells.within)

  -- their bytes counted anywhere
  passed_declarations : passed_bytes (declarations_step 0 0 l) ≡ j
  passed_declarations = ap passed_bytes (declarations_anywhere base owner l j declared)

  past_cells : cells_step 0 0 (after_declarations l) ≡ Ok k
  past_cells = ap (cells_step 0 0) from_cells ∙ cells_anywhere (base + j) owner (drop j l) k celled

  pub lists_read : PayloadRead base l
  unfolding lists_in cells_at drives_at declarations_at
  lists_read = record {
    written = written_payload;
    declarations_fit = subst (λ (ds : List Declaration). Every FitsDeclaration ds) (read_anywhere is_declaration declaration_read 0 base 0 l)
        (member_every FitsDeclaration _ (run_has is_declaration declaration_body declaration_read FitsDeclaration declaration_fits h declarations_run));
    cells_fit = subst (λ (cs : List Cell). Every FitsCell cs) (read_anywhere is_cell cell_read 0 (base + j) 0 (drop j l) ∙ the_cells)
        (member_every FitsCell _ (run_has is_cell cell_body cell_read FitsCell cell_fits bytes_cells cells_run));
    drives_fit = subst (λ (vs : List Drive). Every FitsDrive vs) (read_anywhere (is_sort Sort.Drive) drive_read 0 (base + j + k) 0 (drop k (drop j l)) ∙ the_drives)
        (member_every FitsDrive _ (run_has (is_sort Sort.Drive) drive_body drive_read FitsDrive drive_fits bytes_drives drives_taken.1));
    declarations_placed = listed_declarations.places;
    cells_placed = ap₂ (λ (b : ℕ) (r : List ℕ). cells_at b r) base_cells from_cells ∙ listed_cells.places
        ∙ ap₂ (λ (b : ℕ) (cs : List Cell). placed_by cell_bytes b cs) (sym base_cells) the_cells;
    drives_placed = ap₂ (λ (b : ℕ) (r : List ℕ). drives_at b r) base_drives from_drives ∙ listed_drives.places
        ∙ ap₂ (λ (b : ℕ) (vs : List Drive). placed_by drive_bytes b vs) (sym base_drives) the_drives;
    declared_bytes = base_cells ∙ ap (λ (n : ℕ). base + n) (sym passed_declarations);
    declared_within = omega (arith, passed_declarations, listed_declarations.within);
    celled = past_cells ∙ ap (λ (s : Step). Ok (passed_bytes s)) (sym past_cells);
    celled_bytes = omega (arith, base_cells, base_drives, ap passed_bytes past_cells);
  }

pub payload_read : (base owner : ℕ) (l : List ℕ) → AllBytes l → then_by declarations_step (then_by cells_step drives_judge) base owner l ≡ faultless → PayloadRead base l
payload_read base owner l h e =
    let f = then_tells declarations_step (then_by cells_step drives_judge) base owner l e in
    let g = then_tells cells_step drives_judge (base + f.size) owner (drop f.size l) f.rest in
    lists_read base owner l h f.size g.size f.passed g.passed g.rest

-- what an accepted file is
pub record FileRead (file : List ℕ) : Type 0 where
  pub written : file ≡ netlist_bytes (netlist_in file)
  pub fits : FitsBytes (netlist_in file)
  pub payload : PayloadRead 3 (drop 3 file)

-- a body without a fault is a netlist's
pub body_fine : (at : ℕ) (s : Sort) (l : List ℕ) → netlist_body at s l ≡ faultless
    → (is_sort Sort.Netlist s ≡ true) × (then_by declarations_step (then_by cells_step drives_judge) (at + 3) at l ≡ faultless)
unfolding netlist_body
body_fine at s l e = sort_fine Sort.Netlist s (then_by declarations_step (then_by cells_step drives_judge) (at + 3) at l) (fault_at at) e

-- every accepted file is exactly the bytes of its lists
pub written_read : (file : List ℕ) (m : ℕ) → AllBytes file → file_answer longest_netlist file ≡ acceptance → netlist_form file ≡ Ok m → FileRead file
unfolding netlist_form netlist_bytes tag_of
written_read file m h e form =
    let fits = file_fits longest_netlist file e in
    let f = field_passed netlist_body 0 0 file m form in
    let long : length (drop 3 file) ≡ length file - 3 = length-drop 3 file in
    let size : f.size ≡ size_of file = f.whole.size in
    let whole : take f.size (drop 3 file) ≡ drop 3 file = take_all f.size (drop 3 file) (omega (arith, fits.outer)) in
    let all : take (f.size + 3) file ≡ file = take_all (f.size + 3) file (omega (arith, fits.outer)) in
    let body = body_fine 0 f.sort (drop 3 file) (ap (netlist_body 0 f.sort) (sym whole) ∙ f.fine) in
    let read = payload_read 3 0 (drop 3 file) (bytes_drop 3 file h) body.1 in
    let sort : sort_of (get_or file 0 0) ≡ Sort.Netlist = sym f.whole.sort ∙ same_sort Sort.Netlist f.sort body.0 in
    let tag : get_or file 0 0 ≡ tag_of Sort.Netlist = sym (tag_back (get_or file 0 0) (λ z. omega (arith, ap tag_of sort))) ∙ ap tag_of sort in
    let same : netlist_payload (netlist_in file) ≡ drop 3 file = sym read.written in
    record {
      written = sym all ∙ whole_bytes file h f.whole ∙ ap₂ (λ (t : ℕ) (p : List ℕ). field_bytes t p) tag (whole ∙ read.written);
      fits = record {
        declarations = read.declarations_fit;
        cells = read.cells_fit;
        drives = read.drives_fit;
        short = omega (arith, ap length same, fits.short);
      };
      payload = read;
    }
