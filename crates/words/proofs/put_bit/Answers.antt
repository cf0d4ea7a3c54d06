-- `words::put_bit` meets its contract: the old bit in its place is within the value, and the result is within 32 bits. Assumes nothing.
-- what the code's shift gives
use mathlib.Core.Path.{◌≡◌}
use Prim.Native.Nat.{ℕ, ◌+◌, ◌-◌, ◌*◌, ◌%◌, ◌^◌, ◌≤◌, ◌<◌}
use native.Mathlib.Nat.{lt_of_lt_of_le}
use native.Mathlib.Omega.{arith}
use lib.Pow.{pow_mono, shl_lt}
use Rattle.words.specs.Limits.{greatest_width}
use Rattle.words.specs.Bits.{bit, put_bit}
use Rattle.words.proofs.BitLaws.{bit_lt, shl_one, old_le}
use Rattle.words.proofs.WidthLaws.{put_bit_lt}
use Rattle.words.proofs.put_bit.Goals as goal

abbrev place : ℕ → ℕ
place k = (1 * 2 ^ k) % 2 ^ greatest_width

-- a bit at that place fits

placed : (k d : ℕ) → k < greatest_width → d < 2 → d * place k < 2 ^ greatest_width
placed k d hk hd = rw (shl_one k greatest_width hk) (lt_of_lt_of_le (shl_lt 1 k hd) (pow_mono {j = greatest_width} (omega arith)))

-- the code's steps, with the bit that its call gave
module _ (v k old : ℕ) (hk : k < greatest_width) (q : old ≡ bit v k) where
  was : old * place k ≤ v
  was = rw (shl_one k greatest_width hk, q) (old_le v k)

  is : (b : ℕ) → (v - old * place k) + b * place k ≡ put_bit v k b
  unfolding put_bit
  is b = rw (shl_one k greatest_width hk, q)

  within : (b : ℕ) → v < 2 ^ greatest_width → b < 2 → (v - old * place k) + b * place k < 2 ^ greatest_width
  within b hv hb = rw (is b) (put_bit_lt greatest_width v k b hv hk hb)

pub overflow_mul-result : goal.overflow_mul-result
overflow_mul-result c = record { fits = placed _ _ c.requires.0 (rw c.bit-old.ensures (bit_lt _ _)) }

pub overflow_sub-result : goal.overflow_sub-result
overflow_sub-result c = was _ _ _ c.requires.0 c.bit-old.ensures

pub overflow_mul-result-2 : goal.overflow_mul-result-2
overflow_mul-result-2 c = record { fits = placed _ _ c.requires.0 c.requires.1 }

pub overflow_add-result : goal.overflow_add-result
overflow_add-result c = record { fits = within _ _ _ c.requires.0 c.bit-old.ensures _ c.ranges.value.fits c.requires.1 }

pub returns : goal.returns
returns c = is _ _ _ c.requires.0 c.bit-old.ensures _
