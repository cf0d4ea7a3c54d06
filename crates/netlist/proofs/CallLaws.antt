-- An accepted file is short, has at most 64 variables, and their widths are as its table tells them.
use mathlib.Core.Path.{◌≡◌, sym, ap, ◌∙◌}
use mathlib.Core.List.{List, map}
use Prim.Native.Nat.{ℕ, ◌≤◌}
use native.Mathlib.Omega.{arith}
use lib.ListN.{length, drop}
use Rattle.tagged.specs.Answers.{acceptance}
use Rattle.tagged.specs.Limits.{longest_netlist, most_variables}
use Rattle.tagged.specs.Declarations.{declarations_in, width_of}
use Rattle.tagged.proofs.FileLaws.{file_fits}
use Rattle.netlist.specs.Reading.{netlist_in, lists_in}
use Rattle.netlist.specs.Answer.{netlist_answer}
use Rattle.netlist.specs.Run.{file_widths}
use Rattle.netlist.proofs.Accepted.{answer_parts}
use Rattle.netlist.proofs.CycleWritten.{few_declared}

-- an accepted file is short
pub accepted_long : (file : List ℕ) → netlist_answer file ≡ acceptance → length file ≤ longest_netlist
accepted_long file accepted = (file_fits longest_netlist file (answer_parts file accepted).fits).short

-- its variables are those that its table tells
module _ (file : List ℕ) (accepted : netlist_answer file ≡ acceptance) (payload : List ℕ) (part : payload ≡ drop 3 file) where
  declared : (netlist_in file).declarations ≡ declarations_in payload
  unfolding lists_in
  declared = ap declarations_in (sym part)

  pub variables_told : length (declarations_in payload) ≤ most_variables
  variables_told = omega (arith, few_declared file accepted, ap length declared)

  pub widths_told : (widths : List ℕ) → widths ≡ map width_of (declarations_in payload) → widths ≡ file_widths file
  widths_told widths e = e ∙ ap (map width_of) (sym declared)
