-- The walk over the bytes of written processes gives what their fields are refused for. By induction on the list of processes.
use mathlib.Core.Path.{◌≡◌, refl, sym, ap, ◌∙◌}
use mathlib.Core.List.{List, [], ◌∷◌, ◌++◌}
use Prim.Native.Nat.{ℕ, suc, ◌+◌, ◌≤◌, ◌<◌}
use native.Mathlib.Omega.{arith}
use lib.ListN.{length, length-append}
use Rattle.tagged.specs.Sorts.{tag_of}
use Rattle.tagged.specs.Fields.{all_bytes_of, read_from, fields_at}
use Rattle.tagged.specs.Refusals.{lower_refusal}
use Rattle.tagged.specs.declared.sorts.Sort.TheVariants as Sort
use Rattle.tagged.proofs.FieldLists.{fields_written}
use Rattle.tagged.proofs.ListBytes.{field_length}
use Rattle.tagged.proofs.SortLaws.{sort_back, is_itself}
use Rattle.verilog.specs.Tree.{Expression, constant, Block}
use Rattle.verilog.specs.Form.{block_payload, process_bytes}
use Rattle.verilog.specs.Fits.{longest_field, All, FitsBlock, statements_depth, processes_depth}
use Rattle.verilog.specs.Nodes.{process, item_of, node_at, block_nodes, process_nodes}
use Rattle.verilog_check.specs.Walk.{Judge, walk_process, walk_processes}
use Rattle.verilog_check.proofs.WalkFields.{lowest_append}
use Rattle.verilog_check.proofs.WalkExpressions.{of_node, fields_answer}
use Rattle.verilog_check.proofs.WalkStatements.{walk_block}

module _ (judge : ℕ → Judge) (width : Expression → ℕ)
    (alike : (p : ℕ) (e : Expression) (w at : ℕ) → judge p (item_of e w) at ≡ judge p (item_of (constant (width e) 0) w) at) where
  -- one process
  walk_process_lem : (p at : ℕ) (b : Block) → FitsBlock b → suc (statements_depth b) ≤ 31 → length (block_payload b) < 65536 →
      walk_process (judge p) width at Sort.Process (block_payload b) ≡ fields_answer judge (node_at p at process ∷ block_nodes p (at + 3) b)
  unfolding walk_process
  walk_process_lem p at b fits deep short =
      let statements = walk_block judge width p (alike p) 30 (at + 3) b fits (omega arith) (omega arith) in
      rw (is_itself Sort.Process, statements)

  -- a process, and then what follows it
  walk_more : (p base : ℕ) (b : Block) → FitsBlock b → suc (statements_depth b) ≤ 31 → length (block_payload b) < 65536 → (after : List ℕ) →
      walk_processes judge width p (fields_at base (process_bytes b ++ after)) ≡ lower_refusal (fields_answer judge (node_at p base process ∷ block_nodes p (base + 3) b))
      (walk_processes judge width (p + 1) (fields_at (base + length (process_bytes b)) after))
  unfolding walk_processes process_bytes
  walk_more p base b fits deep short after =
      rw
      (fields_written base (tag_of Sort.Process) (block_payload b) after short, sort_back Sort.Process, walk_process_lem p base b fits deep short, field_length (tag_of Sort.Process) (block_payload b))

  -- nothing is left
  walk_end : (p base : ℕ) → walk_processes judge width p (fields_at base []) ≡ fields_answer judge []
  unfolding walk_processes fields_at read_from
  walk_end p base = refl

  -- processes, from number p on
  walk_from : (p base : ℕ) (ps : List Block) → All FitsBlock ps → processes_depth ps ≤ 31 → length (all_bytes_of process_bytes ps) ≤ longest_field →
      walk_processes judge width p (fields_at base (all_bytes_of process_bytes ps)) ≡ fields_answer judge (process_nodes p base ps)
  unfolding All processes_depth all_bytes_of process_nodes process_bytes
  walk_from p base [] fits deep long = walk_end p base
  walk_from p base (b ∷ ps) fits deep long =
      let both = length-append (process_bytes b) (all_bytes_of process_bytes ps) in
      let size = field_length (tag_of Sort.Process) (block_payload b) in
      let next : ℕ = base + length (process_bytes b) in
      walk_more p base b fits.0 (omega arith) (omega arith) (all_bytes_of process_bytes ps)
      ∙ ap (lower_refusal (fields_answer judge (node_at p base process ∷ block_nodes p (base + 3) b))) (walk_from (p + 1) next ps fits.1 (omega arith) (omega arith))
      ∙ sym (lowest_append (of_node judge) (node_at p base process ∷ block_nodes p (base + 3) b) (process_nodes (p + 1) next ps))

  -- all of them
  pub walk_processes_lem : (base : ℕ) (ps : List Block) → All FitsBlock ps → processes_depth ps ≤ 31 → length (all_bytes_of process_bytes ps) ≤ longest_field →
      walk_processes judge width 0 (fields_at base (all_bytes_of process_bytes ps)) ≡ fields_answer judge (process_nodes 0 base ps)
  walk_processes_lem base ps fits deep long = walk_from 0 base ps fits deep long
