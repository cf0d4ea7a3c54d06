-- Operands are told apart by their kinds, widths and numbers, and so in a file by their bytes. By cases, and from what is read back of an operand's bytes.
use mathlib.Core.Path.{◌≡◌, refl, sym, ap, ◌∙◌, subst}
use mathlib.Core.Bool.{Bool, true, false, false≢true}
use mathlib.Core.List.{List, [], ◌++◌}
use Prim.Native.Nat.{ℕ}
use borrow.Author.Tests.{eq-eqb}
use Rattle.netlist.specs.declared.Operand.{Operand}
use Rattle.netlist.specs.Form.{operand_bytes}
use Rattle.netlist.specs.Reading.{operand_in}
use Rattle.netlist.specs.Fits.{FitsFour, operand_number}
use Rattle.netlist.proofs.CellBytes.{operand_front}
use Rattle.translate.specs.Tables.{same_operand}
use Rattle.translate.proofs.Merging.{same_operand_lem}

operand_self : (o : Operand) → same_operand o o ≡ true
unfolding same_operand
operand_self (Operand.Constant w n) = rw (eq-eqb w w refl, eq-eqb n n refl)
operand_self (Operand.Variable w n) = rw (eq-eqb w w refl, eq-eqb n n refl)
operand_self (Operand.Cell w n) = rw (eq-eqb w w refl, eq-eqb n n refl)

pub operands_same : (a b : Operand) → a ≡ b → same_operand a b ≡ true
operands_same a b e = subst (λ (o : Operand). same_operand a o ≡ true) e (operand_self a)

pub operands_differ : (a b : Operand) → (a ≡ b → ⊥) → same_operand a b ≡ false
operands_differ a b ne = go (same_operand a b) refl
  where
    go : (t : Bool) → same_operand a b ≡ t → t ≡ false
    go true e = absurd (ne (same_operand_lem a b e))
    go false e = refl

pub operands_other : (a b : Operand) → same_operand a b ≡ false → a ≡ b → ⊥
operands_other a b e same = absurd (false≢true (sym e ∙ operands_same a b same))

-- the operands of a file, whose numbers fit, are the same where their bytes are, and differ where these differ in any

pub bytes_same : (a b : Operand) → FitsFour (operand_number a) → FitsFour (operand_number b) → operand_bytes a ≡ operand_bytes b → same_operand a b ≡ true
bytes_same a b h k e = operands_same a b (sym (operand_front a [] h) ∙ ap (λ (l : List ℕ). operand_in (l ++ [])) e ∙ operand_front b [] k)

pub bytes_differ : (a b : Operand) → (operand_bytes a ≡ operand_bytes b → ⊥) → same_operand a b ≡ false
bytes_differ a b ne = operands_differ a b (λ e. ne (ap operand_bytes e))
