-- On an accepted file the part of a cell is that cell's field, with its header: the cells are read at the places of their bytes, of which the file consists.
use mathlib.Core.Path.{◌≡◌, refl, ap, ◌∙◌}
use mathlib.Core.List.{List, ◌∷◌, ◌++◌, append_assoc}
use Prim.Native.Nat.{ℕ, ◌+◌, ◌-◌, ◌<◌}
use native.Mathlib.Omega.{arith}
use lib.ListN.{length, take, drop, length-drop}
use lib.Seq.{drop_at, drop-drop}
use Rattle.tagged.specs.Answers.{acceptance}
use Rattle.tagged.specs.Limits.{longest_netlist}
use Rattle.tagged.specs.Bytes.{AllBytes}
use Rattle.tagged.specs.Fields.{all_bytes_of, placed_by, size_of, passed_bytes}
use Rattle.tagged.specs.Declarations.{declaration_bytes, declarations_step, after_declarations}
use Rattle.tagged.specs.declared.parts.Part.{Part}
use Rattle.tagged.proofs.FileLaws.{file_fits}
use Rattle.tagged.proofs.PlacedParts.{part_bytes_lem, placed_after, element_in_file, element_ends}
use Rattle.netlist.specs.declared.Cell.{Cell}
use Rattle.netlist.specs.Lists.{Netlist}
use Rattle.netlist.specs.Form.{cell_bytes, drive_bytes, netlist_payload}
use Rattle.netlist.specs.Reading.{cells_at, netlist_in}
use Rattle.netlist.specs.Rules.{cells_base}
use Rattle.netlist.specs.Answer.{netlist_answer}
use Rattle.netlist.specs.Parts.{first_part, part_in, cell_part}
use Rattle.netlist.proofs.NetlistBytes.{PayloadRead, written_read}
use Rattle.netlist.proofs.Accepted.{answer_parts}

-- the cells of an accepted file: their bytes and places
module _ (file : List ℕ) (h : AllBytes file) (e : netlist_answer file ≡ acceptance) where
  payload : PayloadRead 3 (drop 3 file)
  payload = let p = answer_parts file e in (written_read file p.bytes h p.fits p.form).payload

  -- where the cells start
  base : ℕ
  base = 3 + passed_bytes (declarations_step 0 0 (drop 3 file))

  cells : List ℕ
  cells = after_declarations (drop 3 file)

  cells_written : cells ≡ all_bytes_of cell_bytes (netlist_in file).cells ++ all_bytes_of drive_bytes (netlist_in file).drives
  unfolding netlist_payload cells
  cells_written =
      let n : Netlist = netlist_in file in
      let ds = all_bytes_of declaration_bytes n.declarations in
      let cs = all_bytes_of cell_bytes n.cells in
      let vs = all_bytes_of drive_bytes n.drives in
      let passed = passed_bytes (declarations_step 0 0 (drop 3 file)) in
      let long : length ds ≡ passed = omega (arith, payload.declared_bytes) in
      ap (drop passed) (payload.written ∙ append_assoc ds cs vs) ∙ drop_at ds (cs ++ vs) passed long

  cells_placed : cells_at base cells ≡ placed_by cell_bytes base (netlist_in file).cells
  unfolding base cells
  cells_placed =
      let start : cells_base 3 (netlist_in file) ≡ 3 + passed_bytes (declarations_step 0 0 (drop 3 file)) = payload.declared_bytes in
      rw start at payload.cells_placed

  cells_in_file : cells ≡ drop base file
  unfolding base cells
  cells_in_file = drop-drop (passed_bytes (declarations_step 0 0 (drop 3 file))) 3 file

  cells_short : length cells < 65536
  cells_short =
      let fits = file_fits longest_netlist file (answer_parts file e).fits in
      omega (arith, ap length cells_in_file, length-drop base file, fits.short)

  -- one of them, after those before it
  module _ (earlier : List Cell) (c : Cell) (later : List Cell) (split : (netlist_in file).cells ≡ earlier ++ (c ∷ later)) where
    written : cells ≡ all_bytes_of cell_bytes (earlier ++ (c ∷ later)) ++ all_bytes_of drive_bytes (netlist_in file).drives
    written = cells_written ∙ ap (λ (cs : List Cell). all_bytes_of cell_bytes cs ++ all_bytes_of drive_bytes (netlist_in file).drives) split

    place : ℕ
    place = base + length (all_bytes_of cell_bytes earlier)

    end : ℕ
    end = place + 3 + size_of (drop (place - base) cells)

    part_is : cell_part (length earlier) file ≡ record { start = place; end = end }
    unfolding cell_part part_in first_part placed_by base cells place end
    part_is =
        ap (first_part base cells)
        (ap (drop (length earlier)) (cells_placed ∙ ap (placed_by cell_bytes base) split) ∙ placed_after cell_bytes base earlier c later)

    end_is : end ≡ place + length (cell_bytes c)
    unfolding place end cell_bytes
    end_is = element_ends cell_bytes base cells earlier c later _ written _ _ refl cells_short

    cell_there : drop place file ≡ cell_bytes c ++ (all_bytes_of cell_bytes later ++ all_bytes_of drive_bytes (netlist_in file).drives)
    unfolding place
    cell_there = element_in_file cell_bytes base cells earlier c later _ written file cells_in_file

    part_holds : let p : Part = cell_part (length earlier) file in take (p.end - p.start) (drop p.start file) ≡ cell_bytes c
    part_holds = rw part_is (part_bytes_lem file (cell_bytes c) _ (record { start = place; end = end }) cell_there end_is)

-- the part of every cell of an accepted file
pub cell_listed : (file : List ℕ) → AllBytes file → netlist_answer file ≡ acceptance → (earlier : List Cell) (c : Cell) (later : List Cell) →
    (netlist_in file).cells ≡ earlier ++ (c ∷ later) →
    let p : Part = cell_part (length earlier) file in take (p.end - p.start) (drop p.start file) ≡ cell_bytes c
cell_listed = part_holds
