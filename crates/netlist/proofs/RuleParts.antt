-- The parts of a file to which refusals 1 and 2 do not apply, as the code that looks for the other refusals takes them.
use Rattle.std.specs.Prelude.{Ok}
use mathlib.Core.Path.{◌≡◌, refl, sym, ap, ap₂, ◌∙◌, subst}
use mathlib.Core.Bool.{Bool, false}
use mathlib.Core.List.{List, [], map, ◌∷◌}
use Prim.Native.Nat.{ℕ, ◌+◌, ◌^◌, ◌≤◌}
use native.Mathlib.Omega.{arith}
use lib.ListN.{length, take, drop, length-take, length-drop}
use Rattle.tagged.specs.Bytes.{AllBytes}
use Rattle.tagged.specs.Limits.{most_variables, longest_netlist}
use Rattle.tagged.specs.Fields.{passed_bytes, unplaced, placed_by}
use Rattle.tagged.specs.Files.{file_answer}
use Rattle.tagged.specs.Refusals.{first_broken, first_refusal}
use Rattle.tagged.specs.Declarations.{Declaration, width_of, is_register, declarations_step, declarations_at, declarations_in, after_declarations, declaration_breaks, declaration_broken, declarations_answer, variable_table}
use Rattle.tagged.specs.Answers.{acceptance, number_of, Answer}
use Rattle.tagged.specs.declared.declarations.VariableTable.{VariableTable}
use Rattle.tagged.specs.declared.answers.Rule.{Rule}
use Rattle.tagged.proofs.FileLaws.{file_fits}
use Rattle.tagged.proofs.LowerLaws.{refusal_same}
use Rattle.tagged.proofs.DeclarationRules.{declared_only}
use Rattle.tagged.proofs.TableLaws.{told_widths, told_marks, marks_long}
use Rattle.netlist.specs.Lists.{Netlist}
use Rattle.netlist.specs.declared.rules.Known.{Known}
use Rattle.netlist.specs.Form.{cell_bytes, drive_bytes, cells_step, netlist_form}
use Rattle.netlist.specs.Reading.{cells_at, drives_at, lists_in, netlist_in}
use Rattle.netlist.specs.Rules.{registers_from, cells_base, drives_base}
use Rattle.netlist.specs.Answer.{netlist_rules}
use Rattle.netlist.specs.WalkAnswers.{cells_end, parts_answer, declaring, rest_answer, Knows, most_listed}
use Rattle.netlist.proofs.NetlistBytes.{PayloadRead, written_read}
use Rattle.netlist.proofs.RuleLaws.{few_cells}
use Rattle.netlist.proofs.RuleWalks.{front_known}

-- the payload of the file
module _ (file : List ℕ) (bytes : AllBytes file) (accepted : file_answer longest_netlist file ≡ acceptance) (formed : netlist_form file ≡ Ok (length file))
    (payload : List ℕ) (part : payload ≡ drop 3 file) where
  pub payload_long : length payload ≤ 32765
  payload_long = let fits = file_fits longest_netlist file accepted in omega (arith, ap length part, length-drop 3 file, fits.short)

  read : PayloadRead 3 payload
  read = subst (λ (l : List ℕ). PayloadRead 3 l) (sym part) (written_read file (length file) bytes accepted formed).payload

  netlist_lists : netlist_in file ≡ lists_in payload
  netlist_lists = ap lists_in (sym part)

  netlist_declarations : (netlist_in file).declarations ≡ declarations_in payload
  unfolding lists_in
  netlist_declarations = ap declarations_in (sym part)

  declared_place : (rule : Rule) → first_broken (declaration_breaks rule) [] (declarations_at 3 payload) ≡ declaration_broken rule 3 (netlist_in file).declarations
  declared_place rule =
      ap (first_broken (declaration_breaks rule) []) read.declarations_placed ∙ ap (λ (n : Netlist). declaration_broken rule 3 n.declarations) (sym netlist_lists)

  -- what the declarations are refused for
  pub declared_placed : {answer : Answer} → answer ≡ declarations_answer 3 payload →
      answer ≡ first_refusal (λ rule. declaration_broken rule 3 (netlist_in file).declarations) netlist_rules
  unfolding number_of
  declared_placed e =
      e ∙ sym (declared_only (Rule.Reference ∷ Rule.Widths ∷ Rule.BitNumber ∷ Rule.Cells ∷ []) refl (declarations_at 3 payload))
      ∙ refusal_same _ _ declared_place netlist_rules

  -- what a table of the declarations tells of the first 64
  module _ {table : VariableTable} (made : table ≡ variable_table (declarations_in payload)) where
    count_is : table.count ≡ length (declarations_in payload)
    unfolding variable_table
    count_is = ap (λ (t : VariableTable). t.count) made

    pub first_known : {known : Known} {marks : List Bool} → known.variables.now ≡ take table.count table.widths → marks ≡ take table.count table.registers →
        ((ds : List Declaration) → map is_register ds ≡ marks → known.registers.now ≡ registers_from 0 ds) → known.cells.now ≡ [] →
        Knows (take most_variables (netlist_in file).declarations) [] known
    first_known widths marks numbers none = record {
      variables =
          ap (λ (ds : List Declaration). map width_of (take most_variables ds)) netlist_declarations
          ∙ front_known 0 width_of most_variables (declarations_in payload) count_is (told_widths (declarations_in payload) table made) ∙ sym widths;
      registers =
          ap (λ (ds : List Declaration). registers_from 0 (take most_variables ds)) netlist_declarations
          ∙ sym (numbers (take most_variables (declarations_in payload))
          (front_known false is_register most_variables (declarations_in payload) count_is (told_marks (declarations_in payload) table made) ∙ sym marks));
      cells = sym none;
    }

    pub first_few : {marks : List Bool} → marks ≡ take table.count table.registers → length marks ≤ most_variables
    first_few marks = omega (arith, ap length marks, length-take table.count table.registers, marks_long (declarations_in payload) table made)

  -- what follows the declarations
  module _ (taken : ℕ) (count : taken ≡ passed_bytes (declarations_step 0 0 payload)) (after : List ℕ) (rest : after ≡ drop taken payload) where
    after_is : after ≡ after_declarations payload
    after_is = rest ∙ ap (λ (k : ℕ). drop k payload) count

    pub taken_few : taken ≤ 32765
    taken_few = omega (arith, count, read.declared_within, payload_long)

    pub after_asked : (3 + taken + length after ≤ 2 ^ 40) × (cells_step 0 0 after ≡ Ok (cells_end after)) × (length (unplaced (cells_at 0 after)) ≤ most_listed)
    unfolding lists_in
    after_asked = (
      omega (arith, taken_few, payload_long, ap length rest, length-drop taken payload),
      subst (λ (l : List ℕ). cells_step 0 0 l ≡ Ok (cells_end l)) (sym after_is) read.celled,
      subst (λ (l : List ℕ). length (unplaced (cells_at 0 l)) ≤ most_listed) (sym after_is)
          (few_cells (lists_in payload) (omega (arith, ap length read.written, payload_long))),
    )

    pub netlist_cells : (netlist_in file).cells ≡ unplaced (cells_at 0 after)
    unfolding lists_in
    netlist_cells = ap (λ (l : List ℕ). (lists_in l).cells) (sym part) ∙ ap (λ (l : List ℕ). unplaced (cells_at 0 l)) (sym after_is)

    pub netlist_drives : (netlist_in file).drives ≡ unplaced (drives_at 0 (drop (cells_end after) after))
    unfolding lists_in
    netlist_drives = ap (λ (l : List ℕ). (lists_in l).drives) (sym part) ∙ ap (λ (l : List ℕ). unplaced (drives_at 0 (drop (cells_end l) l)))
        (sym after_is)

    cells_place : cells_at (3 + taken) after ≡ placed_by cell_bytes (cells_base 3 (netlist_in file)) (netlist_in file).cells
    cells_place =
        ap₂ cells_at (ap (λ (k : ℕ). 3 + k) count ∙ sym read.declared_bytes) after_is ∙ read.cells_placed
        ∙ ap (λ (n : Netlist). placed_by cell_bytes (cells_base 3 n) n.cells) (sym netlist_lists)

    drives_place : drives_at (3 + taken + cells_end after) (drop (cells_end after) after)
        ≡ placed_by drive_bytes (drives_base 3 (netlist_in file)) (netlist_in file).drives
    drives_place =
        ap₂ (λ (b : ℕ) (l : List ℕ). drives_at (b + cells_end l) (drop (cells_end l) l))
        (ap (λ (k : ℕ). 3 + k) count ∙ sym read.declared_bytes) after_is
        ∙ ap (λ (b : ℕ). drives_at b (drop (cells_end (after_declarations payload)) (after_declarations payload))) (sym read.celled_bytes)
        ∙ read.drives_placed ∙ ap (λ (n : Netlist). placed_by drive_bytes (drives_base 3 n) n.drives) (sym netlist_lists)

    -- what the rest is refused for, if these are the declarations
    pub rest_placed : (ds : List Declaration) {answer : Answer} →
        answer ≡ parts_answer (3 + taken) after (declaring ds (netlist_in file)) → answer ≡ rest_answer 3 (netlist_in file) ds
    unfolding parts_answer rest_answer
    rest_placed ds e = rw (cells_place, drives_place) at e
