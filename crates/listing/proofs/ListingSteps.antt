-- An accepted file is short enough for the parts that are looked for in it.
use Rattle.tagged.specs.Answers.{acceptance}
use mathlib.Core.Path.{◌≡◌}
use mathlib.Core.List.{List}
use Prim.Native.Nat.{ℕ, ◌^◌, ◌≤◌}
use native.Mathlib.Omega.{arith}
use lib.ListN.{length}
use Rattle.tagged.specs.Limits.{longest_module, longest_netlist}
use Rattle.tagged.specs.Files.{file_answer}
use Rattle.tagged.proofs.FileLaws.{file_fits, accepted_parts}
use Rattle.netlist.specs.Form.{netlist_form}
use Rattle.netlist.specs.Reading.{netlist_in}
use Rattle.netlist.specs.Answer.{netlist_answer, lists_answer}
use Rattle.verilog.specs.Answer.{module_answer}
use Rattle.verilog_check.proofs.AcceptedFile.{length_accepted}

pub module_short : (file : List ℕ) → module_answer file ≡ acceptance → length file ≤ 2 ^ 40
module_short file accepted = omega (arith, (file_fits longest_module file (length_accepted file accepted)).short)

pub netlist_short : (file : List ℕ) → netlist_answer file ≡ acceptance → length file ≤ 2 ^ 40
unfolding netlist_answer
netlist_short file accepted =
    omega (arith, (file_fits longest_netlist file (accepted_parts (file_answer longest_netlist file) (netlist_form file) (lists_answer 3 (netlist_in file)) accepted).1).short)
