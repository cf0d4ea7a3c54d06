-- Each cell that translation adds breaks none of rules 3, 6, 7 and 8 after the cells before it, if its operands break none. By the rules' own tests.
use mathlib.Core.Path.{◌≡◌, refl, sym, ◌∙◌}
use mathlib.Core.Bool.{true, false}
use mathlib.Core.List.{List}
use Prim.Native.Nat.{ℕ, ◌<◌}
use borrow.Author.Tests.{eq-eqb, lt-leb}
use Rattle.words.specs.Widths.{is_width, index_within}
use Rattle.words.specs.Operators.{one_width, two_width}
use Rattle.words.specs.declared.OneOperand.{OneOperand}
use Rattle.words.specs.declared.TwoOperand.{TwoOperand}
use Rattle.words.proofs.WidthLaws.{one_width_lem, two_width_lem}
use Rattle.tagged.specs.Declarations.{Declaration}
use Rattle.tagged.specs.declared.answers.Rule.TheVariants as Rule
use Rattle.netlist.specs.Lists.{operand_width}
use Rattle.netlist.specs.Rules.{cell_unlike, cell_outside, cell_breaks}
use Rattle.netlist.specs.declared.Operand.{Operand}
use Rattle.netlist.specs.declared.Cell.{Cell}
use Rattle.translate.proofs.Operands.{GoodOperand}

module _ (ds : List Declaration) where
  -- a cell that may stand after these
  pub record CellPasses (earlier : List Cell) (c : Cell) : Type 0 where
    pub value : cell_breaks Rule.Value ds earlier c ≡ false
    pub reference : cell_breaks Rule.Reference ds earlier c ≡ false
    pub widths : cell_breaks Rule.Widths ds earlier c ≡ false
    pub bit : cell_breaks Rule.BitNumber ds earlier c ≡ false

  module _ {earlier : List Cell} {a : Operand} {w : ℕ} (x : GoodOperand ds earlier a w) where
    own_width : is_width (operand_width a) ≡ true
    own_width = rw x.wide x.width

    pub one_passes : (op : OneOperand) → CellPasses earlier (Cell.One op (one_width op (operand_width a)) a)
    unfolding cell_breaks cell_unlike cell_outside
    one_passes op = record {
      value = rw (one_width_lem op (operand_width a) own_width, x.value);
      reference = rw x.there;
      widths = rw (x.like, eq-eqb (one_width op (operand_width a)) (one_width op (operand_width a)) refl);
      bit = refl;
    }

    pub fixed_passes : (k : ℕ) → k < w → CellPasses earlier (Cell.FixedBit 1 a k)
    unfolding cell_breaks cell_unlike cell_outside
    fixed_passes k h = record { value = rw x.value; reference = rw x.there; widths = rw x.like; bit = lt-leb (operand_width a) k (rw x.wide h) }

    module _ {b : Operand} {u : ℕ} (y : GoodOperand ds earlier b u) where
      pub chosen_passes : index_within u w ≡ true → CellPasses earlier (Cell.ChosenBit 1 a b)
      unfolding cell_breaks cell_unlike cell_outside
      chosen_passes h = record {
        value = rw (x.value, y.value);
        reference = rw (x.there, y.there);
        widths = rw (x.like, y.like);
        bit = rw (x.wide, y.wide, h);
      }

      pub two_passes : (op : TwoOperand) → w ≡ u → CellPasses earlier (Cell.Two op (two_width op (operand_width a)) a b)
      unfolding cell_breaks cell_unlike cell_outside
      two_passes op e = record {
        value = rw (two_width_lem op (operand_width a) own_width, x.value, y.value);
        reference = rw (x.there, y.there);
        widths =
            rw (
              x.like,
              y.like,
              eq-eqb (operand_width a) (operand_width b) (x.wide ∙ e ∙ sym y.wide),
              eq-eqb (two_width op (operand_width a)) (two_width op (operand_width a)) refl,
            );
        bit = refl;
      }

      pub put_passes : (k : ℕ) → k < w → u ≡ 1 → CellPasses earlier (Cell.Put (operand_width a) a k b)
      unfolding cell_breaks cell_unlike cell_outside
      put_passes k h e = record {
        value = rw (own_width, x.value, y.value);
        reference = rw (x.there, y.there);
        widths = rw (x.like, y.like, eq-eqb (operand_width a) (operand_width a) refl, eq-eqb (operand_width b) 1 (y.wide ∙ e));
        bit = lt-leb (operand_width a) k (rw x.wide h);
      }

      pub mux_passes : {c : Operand} → GoodOperand ds earlier c 1 → w ≡ u → CellPasses earlier (Cell.Mux (operand_width a) c a b)
      unfolding cell_breaks cell_unlike cell_outside
      mux_passes {c} z e = record {
        value = rw (own_width, z.value, x.value, y.value);
        reference = rw (z.there, x.there, y.there);
        widths =
            rw (
              z.like,
              x.like,
              y.like,
              eq-eqb (operand_width c) 1 z.wide,
              eq-eqb (operand_width a) (operand_width a) refl,
              eq-eqb (operand_width a) (operand_width b) (x.wide ∙ e ∙ sym y.wide),
            );
        bit = refl;
      }
