use mathlib.Core.Path.{◌≡◌}
use lib.ListN.{drop}
use Rattle.tagged.specs.Names.{all_name_bytes}
use Rattle.tagged.proofs.names.all_name_bytes.Given as goal

abbrev pub invariant-loop-byte : goal.invariant-loop-byte
invariant-loop-byte l = all_name_bytes l.name ≡ all_name_bytes (drop l.byte-index l.name)
