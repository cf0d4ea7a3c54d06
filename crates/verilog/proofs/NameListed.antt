-- On an accepted file the part of a name is that name: the declarations are read at the places of their bytes, with which the outer payload starts.
use mathlib.Core.Path.{◌≡◌, refl, sym, ap, ◌∙◌}
use mathlib.Core.List.{List, ◌∷◌, ◌++◌}
use Prim.Native.Nat.{ℕ, ◌-◌}
use native.Mathlib.Omega.{arith}
use lib.ListN.{length, take, drop, length-drop, take-append-drop}
use Rattle.tagged.specs.Answers.{acceptance}
use Rattle.tagged.specs.Limits.{longest_module}
use Rattle.tagged.specs.Bytes.{AllBytes}
use Rattle.tagged.specs.Fields.{all_bytes_of, placed_by, field_by, until_end}
use Rattle.tagged.specs.Files.{file_answer}
use Rattle.tagged.specs.Declarations.{Declaration, name_of, declaration_bytes, declarations_step}
use Rattle.tagged.specs.declared.parts.Part.{Part}
use Rattle.tagged.proofs.ByteLaws.{bytes_drop}
use Rattle.tagged.proofs.JudgeLaws.{then_tells}
use Rattle.tagged.proofs.FileLaws.{file_fits, accepted_parts}
use Rattle.tagged.proofs.DeclarationBytes.{declarations_read}
use Rattle.tagged.proofs.PlacedParts.{name_in_file}
use Rattle.verilog.specs.Form.{process_body, module_form}
use Rattle.verilog.specs.Reading.{tree_in, module_in}
use Rattle.verilog.specs.Answer.{tree_answer, module_answer}
use Rattle.verilog.specs.Parts.{name_part}
use Rattle.verilog.proofs.ModuleBytes.{form_opened}

pub name_listed : (file : List ℕ) → AllBytes file → module_answer file ≡ acceptance → (earlier : List Declaration) (d : Declaration) (later : List Declaration) →
    (module_in file).declarations ≡ earlier ++ (d ∷ later) →
    let p : Part = name_part (length earlier) file in take (p.end - p.start) (drop p.start file) ≡ name_of d
unfolding module_answer tree_in name_part
name_listed file h e earlier d later split =
    let l = drop 3 file in
    let p = accepted_parts (file_answer longest_module file) (module_form file) (tree_answer 3 (module_in file)) e in
    let t = then_tells declarations_step (until_end (field_by (process_body 31))) 3 0 l (form_opened file h p.1 p.0 p.2).fine in
    let declared = declarations_read 3 0 l t.size (bytes_drop 3 file h) t.passed in
    let written : l ≡ all_bytes_of declaration_bytes (earlier ++ (d ∷ later)) ++ drop t.size l =
    sym (take-append-drop t.size l) ∙ ap (λ (front : List ℕ). front ++ drop t.size l) (declared.written ∙ ap (all_bytes_of declaration_bytes) split) in
    name_in_file file 3 l refl (omega (arith, length-drop 3 file, (file_fits longest_module file p.1).short)) earlier d later (drop t.size l)
    (declared.places ∙ ap (placed_by declaration_bytes 3) split) written
