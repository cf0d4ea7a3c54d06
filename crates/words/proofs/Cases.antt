-- Cases of document 01 and at the edges of widths: one table, under one theorem, which antt computes. Assumes nothing.
use mathlib.Core.Path.{◌≡◌, refl}
use mathlib.Core.Bool.{Bool, true, cond, ◌&&◌}
use mathlib.Core.List.{List, [], ◌∷◌}
use Prim.Native.Nat.{ℕ}
use lib.Dec.{eqb}
use lib.Bits.{bit_and, bit_or, bit_xor}
use Rattle.words.specs.Widths.{made_width, fits_width, index_within}
use Rattle.words.specs.Bits.{bit, ones_below, parity, inverted, sum, same, put_bit, mux}
use Rattle.std.specs.Prelude.{Option, Some, None}
use Rattle.words.specs.Limits.{greatest_width}
use Rattle.words.specs.declared.limits.Limited.{Limited}

-- a closed case: what the definitions give, and what it should be; for the tables of the crates above too
pub record Case : Type 0 where
  pub given : ℕ
  pub wanted : ℕ

abbrev pub passes : List Case → Bool
passes [] = true
passes (k ∷ ks) = eqb k.given k.wanted && passes ks

-- a width that was made as its number, a refusal as 999; a test as 1 or 0
abbrev made : Option (Limited 1 greatest_width) → ℕ
made (Some w) = w.number
made None = 999

abbrev pub flag : Bool → ℕ
flag t = cond t 1 0

abbrev pub case : ℕ → ℕ → Case
case g w = record { given = g; wanted = w }

unfoldable pub table : List Case
table =
    case (parity 0b1011) 1
    ∷ case (parity 0) 0
    ∷ case (parity 0xffff_ffff) 0
    ∷ case (parity 0x8000_0000) 1
    ∷ case (sum 4 15 1) 0
    ∷ case (sum 4 7 8) 15
    ∷ case (sum 32 0xffff_ffff 1) 0
    ∷ case (sum 32 0xffff_ffff 0xffff_ffff) 0xffff_fffe
    ∷ case (sum 1 1 1) 0
    ∷ case (inverted 32 0) 0xffff_ffff
    ∷ case (inverted 32 0xffff_ffff) 0
    ∷ case (inverted 1 1) 0
    ∷ case (inverted 4 0b0101) 0b1010
    ∷ case (bit 0x8000_0000 31) 1
    ∷ case (bit 0xffff_ffff 32) 0
    ∷ case (put_bit 0 31 1) 0x8000_0000
    ∷ case (put_bit 0xffff_ffff 31 0) 0x7fff_ffff
    ∷ case (put_bit 0 0 1) 1
    ∷ case (put_bit 0xffff_ffff 0 0) 0xffff_fffe
    ∷ case (put_bit 8 3 1) 8
    ∷ case (put_bit 8 2 0) 8
    ∷ case (bit_and 0xffff_ffff 0x0f0f_0f0f) 0x0f0f_0f0f
    ∷ case (bit_or 0xffff_ffff 0x0f0f_0f0f) 0xffff_ffff
    ∷ case (bit_xor 0xffff_ffff 0x0f0f_0f0f) 0xf0f0_f0f0
    ∷ case (same 5 5) 1
    ∷ case (same 5 4) 0
    ∷ case (same 0xffff_ffff 0x7fff_ffff) 0
    ∷ case (mux 1 7 9) 7
    ∷ case (mux 0 7 9) 9
    ∷ case (made (made_width 0)) 999
    ∷ case (made (made_width 1)) 1
    ∷ case (made (made_width 32)) 32
    ∷ case (made (made_width 33)) 999
    ∷ case (made (made_width 255)) 999
    ∷ case (flag (fits_width 4 15)) 1
    ∷ case (flag (fits_width 4 16)) 0
    ∷ case (flag (index_within 3 8)) 1
    ∷ case (flag (index_within 4 8)) 0
    ∷ case (flag (index_within 2 6)) 1
    ∷ case (flag (index_within 3 6)) 0
    ∷ case (flag (index_within 1 1)) 0
    ∷ case (flag (index_within 32 32)) 0
    ∷ []

pub cases : passes table ≡ true
unfolding table bit ones_below parity inverted sum same put_bit mux
cases = refl
