-- What refusals 3, 6, 7 and 8 leave of a module, by the shape of its tree: every constant fits, every variable exists, widths agree, bits lie inside.
-- Never stopping and the translation rest on this, and not on the list of fields.
use mathlib.Core.Path.{◌≡◌}
use mathlib.Core.Bool.{true}
use mathlib.Core.List.{List, [], ◌∷◌}
use Prim.Native.Nat.{ℕ, ◌<◌}
use lib.ListN.{length}
use Rattle.words.specs.declared.OneOperand.{OneOperand}
use Rattle.words.specs.declared.TwoOperand.{TwoOperand}
use Rattle.words.specs.Widths.{is_width, fits_width, index_within}
use Rattle.tagged.specs.Declarations.{Declaration, width_of, variable_width, register_at}
use Rattle.tagged.specs.declared.sorts.Kind.{Kind}
use Rattle.verilog.specs.Tree.{Expression, constant, variable, fixed_bit, chosen_bit, one, two, Statement, assign, assign_bit, if_else, case, Block, end, ◌then◌, Items, default, item, Module}
use Rattle.verilog.specs.Rules.{expression_width}

pub data Typed (ds : List Declaration) : Expression → Type 0 where
  constant_fits : {w v : ℕ} → is_width w ≡ true → fits_width w v ≡ true → Typed ds (constant w v)
  variable_there : {v : ℕ} → v < length ds → Typed ds (variable v)
  bit_inside : {v k : ℕ} → v < length ds → k < variable_width ds v → Typed ds (fixed_bit v k)
  index_inside : {v : ℕ} {e : Expression} → v < length ds → Typed ds e → index_within (expression_width ds e) (variable_width ds v) ≡ true → Typed ds (chosen_bit v e)
  one_typed : {op : OneOperand} {a : Expression} → Typed ds a → Typed ds (one op a)
  two_typed : {op : TwoOperand} {a b : Expression} → Typed ds a → Typed ds b → expression_width ds a ≡ expression_width ds b → Typed ds (two op a b)

mutual
  pub data TypedStatement (ds : List Declaration) : Statement → Type 0 where
    assign_typed : {kind : Kind} {v : ℕ} {e : Expression} → register_at ds v ≡ true → Typed ds e → expression_width ds e ≡ variable_width ds v → TypedStatement ds (assign kind v e)
    assign_bit_typed : {kind : Kind} {v k : ℕ} {e : Expression} → register_at ds v ≡ true → k < variable_width ds v → Typed ds e → expression_width ds e ≡ 1 →
        TypedStatement ds (assign_bit kind v k e)
    if_else_typed : {c : Expression} {a b : Block} → Typed ds c → expression_width ds c ≡ 1 → TypedBlock ds a → TypedBlock ds b → TypedStatement ds (if_else c a b)
    case_typed : {e : Expression} {items : Items} → Typed ds e → TypedItems ds (expression_width ds e) items → TypedStatement ds (case e items)

  pub data TypedBlock (ds : List Declaration) : Block → Type 0 where
    end_typed : TypedBlock ds end
    then_typed : {s : Statement} {b : Block} → TypedStatement ds s → TypedBlock ds b → TypedBlock ds (s then b)

  -- the items of a case whose selector has this width
  pub data TypedItems (ds : List Declaration) : ℕ → Items → Type 0 where
    default_typed : {width : ℕ} {b : Block} → TypedBlock ds b → TypedItems ds width (default b)
    item_typed : {width w v : ℕ} {b : Block} {items : Items} → is_width w ≡ true → fits_width w v ≡ true → w ≡ width → TypedBlock ds b → TypedItems ds width items →
        TypedItems ds width (item w v b items)

pub data TypedAll (ds : List Declaration) : List Block → Type 0 where
  none_typed : TypedAll ds []
  more_typed : {b : Block} {l : List Block} → TypedBlock ds b → TypedAll ds l → TypedAll ds (b ∷ l)

-- every variable has a width of 1 to 32
pub data WidthsFit : List Declaration → Type 0 where
  no_widths : WidthsFit []
  more_widths : {d : Declaration} {l : List Declaration} → is_width (width_of d) ≡ true → WidthsFit l → WidthsFit (d ∷ l)

pub record TypedModule (m : Module) : Type 0 where
  pub widths : WidthsFit m.declarations
  pub processes : TypedAll m.declarations m.processes
