-- A number above, below or within a range.
use mathlib.Core.Path.{◌≡◌}
use mathlib.Core.Bool.{true, false, and-false}
use Prim.Native.Nat.{ℕ, ◌≤◌, ◌<◌}
use borrow.Author.Tests.{le-leb, lt-leb}
use Rattle.tagged.specs.Choice.{in_range}

module _ (n first last : ℕ) where
  pub range_above : last < n → in_range first last n ≡ false
  range_above h = rw (lt-leb n last h, and-false)

  pub range_below : n < first → in_range first last n ≡ false
  range_below h = rw (lt-leb first n h)

  pub range_within : first ≤ n → n ≤ last → in_range first last n ≡ true
  range_within h k = rw (le-leb first n h, le-leb n last k)
