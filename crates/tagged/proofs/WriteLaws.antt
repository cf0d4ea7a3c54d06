-- Writing: bytes after bytes are one writing, a buffer keeps its length, and with room it holds just what was written.
use mathlib.Core.Path.{◌≡◌, refl, sym, ap, ◌∙◌}
use mathlib.Core.List.{List, [], ◌∷◌, ◌++◌, append-nil}
use Prim.Native.Nat.{ℕ, zero, suc, ◌+◌, ◌≤◌, ◌<◌}
use native.Mathlib.Nat.{add-zero, add_assoc, add-suc, suc-add}
use native.Mathlib.Numerals.{add-one}
use native.Mathlib.Omega.{arith}
use lib.ListN.{length, get_or, take, drop, length-append, set, drop_of_length-le}
use lib.Seq.{take-suc, sets, sets-eq}
use Rattle.tagged.specs.Bytes.{Wrote}

-- two runs of bytes, one after the other, are one run
pub sets_append : (out : List ℕ) (at : ℕ) (a b : List ℕ) → sets (sets out at a) (at + length a) b ≡ sets out at (a ++ b)
sets_append out at [] b = ap (λ (k : ℕ). sets out k b) (add-zero at)
sets_append out at (x ∷ a) b =
    ap (λ (k : ℕ). sets (sets (set out at x) (suc at) a) k b) (add-suc at (length a) ∙ sym (suc-add at (length a)))
    ∙ sets_append (set out at x) (suc at) a b

-- first these bytes, then those
pub wrote_then : {o o₁ o₂ a b : List ℕ} {i i₁ i₂ : ℕ} → Wrote o i a o₁ i₁ → Wrote o₁ i₁ b o₂ i₂ → Wrote o i (a ++ b) o₂ i₂
wrote_then {o} {o₁} {o₂} {a} {b} {i} {i₁} {i₂} w v = record {
  list = v.list ∙ ap (λ (l : List ℕ). sets l i₁ b) w.list ∙ ap (λ (k : ℕ). sets (sets o i a) k b) w.past ∙ sets_append o i a b;
  past = v.past ∙ ap (λ (k : ℕ). k + length b) w.past ∙ add_assoc i (length a) (length b) ∙ ap (λ (k : ℕ). i + k) (sym (length-append a b));
}

-- nothing is written
pub wrote_none : {o : List ℕ} {i : ℕ} → Wrote o i [] o i
wrote_none {o} {i} = record { list = refl; past = sym (add-zero i) }

-- so many bytes of a part, and one more
pub part_turn : {o o₁ o₂ : List ℕ} {i i₁ i₂ : ℕ} (part : List ℕ) (index : ℕ) → index < length part →
    Wrote o i (take index part) o₁ i₁ → Wrote o₁ i₁ (get_or part index 0 ∷ []) o₂ i₂ → Wrote o i (take (index + 1) part) o₂ i₂
part_turn part index h w v = rw (add-one, take-suc part index 0 h) (wrote_then w v)

-- where there is room: the bytes before, these, the bytes after
pub wrote_roomy : {o o' bs : List ℕ} {i i' : ℕ} → Wrote o i bs o' i' → i + length bs ≤ length o → o' ≡ take i o ++ bs ++ drop (i + length bs) o
wrote_roomy {o} {o'} {bs} {i} w h = w.list ∙ sets-eq bs o i h

-- past the end there is no room
sets_outside : (o : List ℕ) (i : ℕ) (bs : List ℕ) → length o ≤ i → sets o i bs ≡ o
sets_outside o i [] h = refl
sets_outside o i (b ∷ bs) h =
    let same : set o i b ≡ o = outside o i h in
    rw same (sets_outside o (suc i) bs (omega arith))
  where
    outside : (l : List ℕ) (k : ℕ) → length l ≤ k → set l k b ≡ l
    outside [] k e = refl
    outside (x ∷ l) zero e = absurd (omega arith)
    outside (x ∷ l) (suc k) e = ap (λ (r : List ℕ). x ∷ r) (outside l k (omega arith))

pub wrote_outside : {o : List ℕ} {i next : ℕ} (bs : List ℕ) → length o ≤ i → next ≡ i + length bs → Wrote o i bs o next
wrote_outside {o} {i} bs h past = record { list = sym (sets_outside o i bs h); past = past }

-- bytes that take all the room
pub sets_all : (o bs : List ℕ) → length bs ≡ length o → sets o 0 bs ≡ bs
sets_all o bs e =
    let room : 0 + length bs ≤ length o = omega arith in
    let past : length o ≤ 0 + length bs = omega arith in
    sets-eq bs o 0 room ∙ rw (drop_of_length-le o past) (append-nil bs)
