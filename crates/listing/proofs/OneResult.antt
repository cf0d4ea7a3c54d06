-- The public calls of this crate determine their results: any two listings of the same files and operand coincide, and so do any two places.
use mathlib.Core.Path.{◌≡◌}
use mathlib.Core.List.{List}
use Prim.Native.Nat.{ℕ}
use Rattle.tagged.proofs.AnswerLaws.{one_answer_lem}
use Rattle.listing.specs.Listing.{listed_part, listed_bytes}
use Rattle.listing.specs.declared.Listed.{Listed}

pub find_part_once : (file netlist : List ℕ) (kind number : ℕ) {a b : Listed} → a ≡ listed_part file netlist kind number → b ≡ listed_part file netlist kind number → a ≡ b
find_part_once file netlist kind number p q = one_answer_lem p q

pub listing_once : (file netlist : List ℕ) (kind number : ℕ) {a b : List ℕ} → a ≡ listed_bytes file netlist kind number → b ≡ listed_bytes file netlist kind number → a ≡ b
listing_once file netlist kind number p q = one_answer_lem p q
