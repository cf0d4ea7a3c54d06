-- The tree of a module, without places: a place is the offset of a field, and is computed from the lengths of what stands before it.
use Rattle.std.specs.Prelude.{List, ℕ}
use Rattle.words.specs.declared.OneOperand.{OneOperand}
use Rattle.words.specs.declared.TwoOperand.{TwoOperand}
use Rattle.tagged.specs.Declarations.{Declaration}
use Rattle.tagged.specs.declared.sorts.Kind.{Kind}

-- expressions, 20 to 2A
pub data Expression : Type 0 where
  constant : (width value : ℕ) → Expression
  variable : (v : ℕ) → Expression
  fixed_bit : (v k : ℕ) → Expression
  chosen_bit : (v : ℕ) → Expression → Expression
  one : OneOperand → Expression → Expression
  two : TwoOperand → Expression → Expression → Expression

infixr 40 ◌then◌
mutual
  -- statements, 10 to 15
  pub data Statement : Type 0 where
    assign : Kind → (v : ℕ) → Expression → Statement
    assign_bit : Kind → (v k : ℕ) → Expression → Statement
    if_else : Expression → Block → Block → Statement
    case : Expression → Items → Statement

  -- the statements of a block, 17, or of a process, 04
  pub data Block : Type 0 where
    end : Block
    ◌then◌ : Statement → Block → Block

  -- the items of a case, 16, and its default block, which ends them
  pub data Items : Type 0 where
    default : Block → Items
    item : (width value : ℕ) → Block → Items → Items

-- a module: declarations, then processes
pub record Module : Type 0 where
  pub declarations : List Declaration
  pub processes : List Block
