-- DEMAND 3, WHOLE, ABOUT THE CALLS. Take any file that the check accepts and that gives at most 1,024 cells, and any answers and bytes that the contracts of the
-- calls admit.
-- (a) Translating into any buffer that is long enough is accepted, with the netlist's length and its count of cells; the buffer then holds the netlist, and
--     beyond it what it held before.
-- (b) Reading what was written is accepted, and gives the lists of the translation.
-- Then from any starting row that fits, with any list of input rows that fit, also an empty one:
-- (c) the module's cycles and those of the netlist as it was written go on to the end, each from its own previous row;
-- (d) both give the same whole rows, one for each cycle, and each row fits;
-- (e) each cycle is quiet: the blocks not taken would not stop either;
-- (f) calling both runs cycle after cycle, no call is refused, and each leaves the bytes of these very rows.
use Rattle.std.specs.Prelude.{Ok}
use mathlib.Core.Path.{◌≡◌, sym, ap, ap₂, ◌∙◌}
use mathlib.Core.Bool.{true}
use mathlib.Core.List.{List, [], ◌∷◌, ◌++◌, map, Memᴰ}
use Prim.Native.Nat.{ℕ, zero, suc, ◌*◌, ◌^◌, ◌≤◌, ◌<◌}
use native.Mathlib.Nat.{lt_of_lt_of_le}
use native.Mathlib.Omega.{arith}
use lib.Dec.{leb}
use lib.Pow.{pow_mono}
use lib.ListN.{length, get_or, take, drop, length-map}
use lib.Seq.{take-append_seam, drop-append_seam}
use borrow.Author.Tests.{leb-true, le-ltb, ltb-true}
use Rattle.words.specs.Values.{Outcome, got}
use Rattle.words.specs.Widths.{fits_width}
use Rattle.tagged.specs.Answers.{acceptance, written, Answer, Translation}
use Rattle.tagged.specs.Limits.{most_cells}
use Rattle.tagged.specs.Declarations.{Declaration, width_of}
use Rattle.tagged.specs.Rows.{row_bytes, all_fit}
use Rattle.tagged.specs.Cycles.{inputs_fit, cycles_by}
use Rattle.tagged.proofs.TestLaws.{both}
use Rattle.tagged.proofs.CycleLaws.{Steps}
use Rattle.netlist.specs.Lists.{Netlist}
use Rattle.netlist.specs.Answer.{netlist_answer}
use Rattle.netlist.specs.Reading.{netlist_in}
use Rattle.netlist.specs.Cycle.{netlist_cycle}
use Rattle.netlist.specs.Run as netlist_run
use Rattle.verilog.specs.Reading.{module_in}
use Rattle.verilog.specs.Answer.{module_answer}
use Rattle.verilog.specs.Cycle.{module_cycle}
use Rattle.verilog.specs.Run as module_run
use Rattle.verilog.proofs.Typed.{WidthsFit, no_widths, more_widths, TypedModule}
use Rattle.verilog.proofs.AcceptedTyped.{accepted_typed}
use Rattle.verilog.proofs.AcceptedModule.{accepted_tree}
use Rattle.translate.specs.Translation.{netlist_of}
use Rattle.translate.specs.Answer.{netlist_of_file, translated_bytes, cell_count, translate_answer, translate_buffer}
use Rattle.translate.proofs.Agrees.{agrees}
use Rattle.translate.proofs.Demand3 as definitions
use Rattle.translator.specs.Calls.{TranslateCall, module_call, netlist_call, Calls}
use Rattle.translator.proofs.CallsGive.{numbers_given, run_given, calls_give}

-- (a) and (b): what was written into a buffer, and the answer to reading it
pub record Written (file buffer : List ℕ) (answer : Translation) (left : List ℕ) : Type 0 where
  pub answered : answer ≡ Ok (written (length (translated_bytes file)) (cell_count file))
  pub netlist : take (length (translated_bytes file)) left ≡ translated_bytes file
  pub beyond : drop (length (translated_bytes file)) left ≡ drop (length (translated_bytes file)) buffer
  pub read : (reading : Answer) → reading ≡ netlist_answer (take (length (translated_bytes file)) left) → reading ≡ acceptance
  pub lists : netlist_in (take (length (translated_bytes file)) left) ≡ netlist_of_file file

-- (c) to (e) are the agreement of the definitions; (f) is about the calls on the file and on the bytes of its netlist
pub record Agreed (file netlist row : List ℕ) (inputs : List (List ℕ)) : Type 0 where
  pub agreement : definitions.Agreement file row inputs
  pub module_calls : {answers : List Answer} {lefts : List (List ℕ)} → Calls (module_call file) (definitions.declared file) row inputs answers lefts →
      ((a : Answer) → Memᴰ a answers → a ≡ acceptance) × (lefts ≡ map row_bytes agreement.rows)
  pub netlist_calls : {answers : List Answer} {lefts : List (List ℕ)} → Calls (netlist_call netlist) (definitions.declared file) row inputs answers lefts →
      ((a : Answer) → Memᴰ a answers → a ≡ acceptance) × (lefts ≡ map row_bytes agreement.rows)

pub record Demand3 (file : List ℕ) : Type 0 where
  pub written : (buffer : List ℕ) → length (translated_bytes file) ≤ length buffer → {answer : Translation} {left : List ℕ} →
      TranslateCall file buffer answer left → Written file buffer answer left
  pub agreed : (row : List ℕ) → all_fit (definitions.widths file) row ≡ true → (inputs : List (List ℕ)) →
      ((i : List ℕ) → Memᴰ i inputs → inputs_fit (definitions.declared file) i ≡ true) →
      (buffer : List ℕ) → length (translated_bytes file) ≤ length buffer → {answer : Translation} {left : List ℕ} → TranslateCall file buffer answer left →
      Agreed file (take (length (translated_bytes file)) left) row inputs

-- numbers that fit widths of at most 32 bits fit four bytes
small_numbers : {ds : List Declaration} → WidthsFit ds → (row : List ℕ) → all_fit (map width_of ds) row ≡ true → (i : ℕ) → get_or row i 0 < 2 ^ 32
unfolding all_fit
small_numbers no_widths [] fits i = omega arith
small_numbers no_widths (v ∷ row) fits i = absurd (let z : ◌≡◌ {A = ℕ} 0 1 = cc in omega arith)
small_numbers (more_widths {d} wide later) [] fits i = absurd (let z : ◌≡◌ {A = ℕ} 0 1 = cc in omega arith)
small_numbers (more_widths {d} wide later) (v ∷ row) fits zero =
    lt_of_lt_of_le (ltb-true v (2 ^ width_of d) (both (fits_width (width_of d) v) _ fits).0) (pow_mono (leb-true (width_of d) 32 (both (leb 1 (width_of d)) (leb (width_of d) 32) wide).1))
small_numbers (more_widths {d} wide later) (v ∷ row) fits (suc i) = small_numbers later row (both (fits_width (width_of d) v) _ fits).1 i

-- what was got is one thing
same_rows : {o : Outcome (List (List ℕ))} {a b : List (List ℕ)} → o ≡ got a → o ≡ got b → a ≡ b
same_rows p q = cc

module _ (file : List ℕ) (accepted : module_answer file ≡ acceptance) (few : cell_count file ≤ most_cells) where
  abbrev size : ℕ
  size = length (translated_bytes file)

  abbrev ds : List Declaration
  ds = (module_in file).declarations

  whole : definitions.Demand3 file
  whole = definitions.demand_3 file accepted few

  typed : TypedModule (module_in file)
  typed = accepted_typed 3 (module_in file) (accepted_tree file accepted)

  small : (row : List ℕ) → all_fit (map width_of ds) row ≡ true → (i : ℕ) → get_or row i 0 < 2 ^ 32
  small row fits = small_numbers typed.widths row fits

  -- (a)
  long_enough : (room : ℕ) → size ≤ room → translate_answer file room ≡ Ok (written size (cell_count file))
  unfolding translate_answer
  long_enough room h = rw (accepted, le-ltb most_cells (cell_count file) few, le-ltb room size h)

  left_is : (buffer left : List ℕ) → size ≤ length buffer → left ≡ translate_buffer file buffer → left ≡ translated_bytes file ++ drop size buffer
  unfolding translate_buffer
  left_is buffer left h e = e ∙ rw (long_enough (length buffer) h)

  written_netlist : (buffer left : List ℕ) → size ≤ length buffer → left ≡ translate_buffer file buffer → take size left ≡ translated_bytes file
  written_netlist buffer left h e = ap (take size) (left_is buffer left h e) ∙ take-append_seam (translated_bytes file) (drop size buffer)

  writes : (buffer : List ℕ) → size ≤ length buffer → {answer : Translation} {left : List ℕ} → TranslateCall file buffer answer left → Written file buffer answer left
  writes buffer h {answer} {left} p =
      let netlist : take size left ≡ translated_bytes file = written_netlist buffer left h p.leaves in
      record {
        answered = p.answered ∙ long_enough (length buffer) h;
        netlist = netlist;
        beyond = ap (drop size) (left_is buffer left h p.leaves) ∙ drop-append_seam (translated_bytes file) (drop size buffer);
        read = λ reading e. e ∙ ap netlist_answer netlist ∙ whole.accepted;
        lists = ap netlist_in netlist ∙ whole.lists;
      }

  -- one cycle of both never stops
  module_steps : (row : List ℕ) → all_fit (map width_of ds) row ≡ true → Steps (module_cycle (module_in file)) ds row
  module_steps row fits = let now = agrees (module_in file) typed row fits in record { after = now.next; runs = now.module_gives; fits = now.fits }

  netlist_steps : (row : List ℕ) → all_fit (map width_of ds) row ≡ true → Steps (netlist_cycle (netlist_of_file file)) ds row
  netlist_steps row fits = let now = agrees (module_in file) typed row fits in record { after = now.next; runs = now.netlist_gives; fits = now.fits }

  -- (f), one call of either
  module _ (row next after : List ℕ) (fits : all_fit (map width_of ds) row ≡ true) (long : length next ≡ 4 * length ds) where
    next_long : length next ≡ 4 * length (map width_of ds)
    next_long = long ∙ ap (λ (n : ℕ). 4 * n) (sym (length-map ds width_of))

    module_one : module_cycle (module_in file) row ≡ got after → (answer : Answer) (left : List ℕ) → module_call file (row_bytes row) next answer left →
        (answer ≡ acceptance) × (left ≡ row_bytes after)
    unfolding module_run.run_answer module_run.run_leaves
    module_one ran answer left p =
        run_given (module_answer file) (map width_of ds) row next after (module_run.cycle_of file (row_bytes row)) accepted fits (small row fits) next_long
        (ap (module_cycle (module_in file)) (numbers_given (map width_of ds) row fits (small row fits)) ∙ ran) p

    netlist_one : (netlist : List ℕ) → netlist ≡ translated_bytes file → netlist_cycle (netlist_of_file file) row ≡ got after → (answer : Answer) (left : List ℕ) →
        netlist_call netlist (row_bytes row) next answer left → (answer ≡ acceptance) × (left ≡ row_bytes after)
    unfolding netlist_run.run_answer netlist_run.run_leaves netlist_of
    netlist_one netlist is ran answer left p =
        let lists : netlist_in netlist ≡ netlist_of_file file = ap netlist_in is ∙ whole.lists in
        let widths-are : netlist_run.file_widths netlist ≡ map width_of ds = ap (λ (n : Netlist). map width_of n.declarations) lists in
        let long-row : length next ≡ 4 * length (netlist_run.file_widths netlist) = rw widths-are next_long in
        let fits-widths : all_fit (netlist_run.file_widths netlist) row ≡ true = rw widths-are fits in
        let ran_on : netlist_run.cycle_of netlist (row_bytes row) ≡ got after =
        ap₂ (λ (n : Netlist) (r : List ℕ). netlist_cycle n r) lists (numbers_given (netlist_run.file_widths netlist) row fits-widths (small row fits)) ∙ ran in
        run_given (netlist_answer netlist) (netlist_run.file_widths netlist) row next after (netlist_run.cycle_of netlist (row_bytes row)) (ap netlist_answer is ∙ whole.accepted)
        fits-widths (small row fits) long-row ran_on p

  -- (c) to (f)
  agrees_on : (row : List ℕ) → all_fit (map width_of ds) row ≡ true → (inputs : List (List ℕ)) → ((i : List ℕ) → Memᴰ i inputs → inputs_fit ds i ≡ true) →
      (netlist : List ℕ) → netlist ≡ translated_bytes file → Agreed file netlist row inputs
  agrees_on row fits inputs each netlist is =
      let both-rows = whole.cycles row fits inputs each in
      let lists : netlist_in (translated_bytes file) ≡ netlist_of_file file = whole.lists in
      let netlist-rows : cycles_by (netlist_cycle (netlist_of_file file)) ds row inputs ≡ got both-rows.rows =
      ap (λ (n : Netlist). cycles_by (netlist_cycle n) ds row inputs) (sym lists) ∙ both-rows.netlist_gives in
      record {
        agreement = both-rows;
        module_calls = λ calls.
            let g = calls_give (module_call file) (module_cycle (module_in file)) ds small module_steps module_one row inputs fits each calls in
            (g.accepted, g.held ∙ ap (map row_bytes) (same_rows g.runs both-rows.module_gives));
        netlist_calls = λ calls.
            let g = calls_give (netlist_call netlist) (netlist_cycle (netlist_of_file file)) ds small netlist_steps
            (λ from next after f l ran answer left p. netlist_one from next after f l netlist is ran answer left p) row inputs fits each calls in
            (g.accepted, g.held ∙ ap (map row_bytes) (same_rows g.runs netlist-rows));
      }

  -- DEMAND 3
  pub demand_3 : Demand3 file
  demand_3 = record {
    written = writes;
    agreed = λ row fits inputs each buffer h {answer} {left} p. agrees_on row fits inputs each (take size left) (written_netlist buffer left h p.leaves);
  }
