-- Expressions and their bytes give each other back: what is read without a fault is written as it stood, and what fits its bytes is read as it was.
-- By induction on the levels that may be opened.
use Rattle.tagged.specs.Answers.{fault_at}
use Rattle.std.specs.Prelude.{Ok, Err}
use mathlib.Core.Path.{◌≡◌, refl, sym, ap, ap₂, ◌∙◌, subst}
use mathlib.Core.List.{List, [], ◌∷◌, ◌++◌}
use Prim.Native.Nat.{ℕ, zero, suc, ◌+◌, ◌^◌, ◌≤◌, ◌<◌}
use native.Mathlib.Omega.{arith}
use lib.ListN.{length, get_or, take, drop, length-append}
use Rattle.tagged.specs.Bytes.{AllBytes, four_bytes, four_of}
use Rattle.tagged.specs.Sorts.{tag_of, on_expression, is_expression}
use Rattle.tagged.specs.Fields.{faultless, field_bytes, open_of, on_field, field_by, then_by, ended, Opened}
use Rattle.tagged.specs.declared.sorts.ExpressionSort.{ExpressionSort}
use Rattle.tagged.specs.declared.sorts.Sort.{Sort}
use Rattle.tagged.proofs.ByteLaws.{bytes_four, bytes_drop, four_back}
use Rattle.tagged.proofs.ListBytes.{field_length, Stands}
use Rattle.verilog.specs.Tree.{Expression, constant, variable, fixed_bit, chosen_bit, one, two}
use Rattle.verilog.specs.Form.{expression_field, expression_bytes, expression_parts, expression_body}
use Rattle.verilog.specs.Reading.{no_expression, front_by, after_front, expression_with, expression_in}
use Rattle.verilog.specs.Fits.{longest_field, FitsExpression, expression_depth}
use Rattle.tagged.proofs.JudgeLaws.{fixed_tells, fixed_only_lem, only_fixed, fixed_written}
use Rattle.verilog.proofs.FrontLaws.{Returned, Returns, after_passed, front_written, next_returns, last_returns, stands_passed, stands_front, stands_after, next_stands, last_stands, last_front}
use Rattle.tagged.proofs.AnyPlace.{AnywhereBody, AnywhereJudge, field_anywhere, then_anywhere, fixed_anywhere, ended_anywhere}
use Rattle.verilog.proofs.SortChoices.{expression_known, expression_fine}

-- an expression by its sort and payload, which is what stands at the front
abbrev pub expression_at : ℕ → Sort → List ℕ → Expression
expression_at zero s l = no_expression
expression_at (suc d) s l = on_expression s (λ e. expression_with (expression_in d) e l) no_expression

pub expression_front : (d : ℕ) (l : List ℕ) → front_by (expression_at d) no_expression l ≡ expression_in d l
unfolding expression_in
expression_front zero l = go (open_of 0 0 l)
  where
    go : (o : Opened) → on_field o (λ s n. no_expression) no_expression ≡ no_expression
    go (Ok (s, n)) = refl
    go (Err x) = refl
expression_front (suc d) l = refl

-- payloads of fixed bytes
pub constant_payload : (l : List ℕ) → AllBytes l → length l ≡ 5 → get_or l 0 0 ∷ four_bytes (four_of (drop 1 l)) ≡ l
unfolding four_of
constant_payload [] h e = absurd (omega arith)
constant_payload (w ∷ []) h e = absurd (omega arith)
constant_payload (w ∷ a ∷ []) h e = absurd (omega arith)
constant_payload (w ∷ a ∷ b ∷ []) h e = absurd (omega arith)
constant_payload (w ∷ a ∷ b ∷ c ∷ []) h e = absurd (omega arith)
constant_payload (w ∷ a ∷ b ∷ c ∷ d ∷ []) h e = ap (λ (bs : List ℕ). w ∷ bs) (bytes_four a b c d (h 1) (h 2) (h 3) (h 4))
constant_payload (w ∷ a ∷ b ∷ c ∷ d ∷ x ∷ l) h e = absurd (omega arith)

one_byte : (l : List ℕ) → length l ≡ 1 → get_or l 0 0 ∷ [] ≡ l
one_byte [] e = absurd (omega arith)
one_byte (a ∷ []) e = refl
one_byte (a ∷ x ∷ l) e = absurd (omega arith)

two_byte : (l : List ℕ) → length l ≡ 2 → get_or l 0 0 ∷ get_or l 1 0 ∷ [] ≡ l
two_byte [] e = absurd (omega arith)
two_byte (a ∷ []) e = absurd (omega arith)
two_byte (a ∷ b ∷ []) e = refl
two_byte (a ∷ b ∷ x ∷ l) e = absurd (omega arith)

pub one_first : (l : List ℕ) → 1 ≤ length l → get_or l 0 0 ∷ drop 1 l ≡ l
one_first [] e = absurd (omega arith)
one_first (a ∷ l) e = refl

pub two_first : (l : List ℕ) → 2 ≤ length l → get_or l 0 0 ∷ get_or l 1 0 ∷ drop 2 l ≡ l
two_first [] e = absurd (omega arith)
two_first (a ∷ []) e = absurd (omega arith)
two_first (a ∷ b ∷ l) e = refl

-- from bytes

abbrev pub ExpressionReturns : ℕ → Type 0
ExpressionReturns d = Returns is_expression (expression_body d) (expression_at d) expression_bytes

-- the expression at the front, by what is known of a level
module _ (d : ℕ) (known : ExpressionReturns d) (base owner : ℕ) (l : List ℕ) (h : AllBytes l) where
  pub expression_last : then_by (field_by (expression_body d)) ended base owner l ≡ faultless → expression_bytes (expression_in d l) ≡ l
  expression_last e =
      ap expression_bytes (sym (expression_front d l)) ∙ last_returns is_expression (expression_body d)
      (expression_at d) expression_bytes expression_known known no_expression base owner l h e

pub expression_parts_lem : (d : ℕ) → ExpressionReturns d → (e : ExpressionSort) (base owner : ℕ) (l : List ℕ) → AllBytes l →
    expression_parts (field_by (expression_body d)) e base owner l ≡ faultless → expression_bytes (expression_with (expression_in d) e l) ≡ field_bytes
    (tag_of (Sort.Expression e)) l
unfolding expression_bytes
expression_parts_lem d known ExpressionSort.Constant base owner l h fine = ap (expression_field ExpressionSort.Constant)
    (constant_payload l h (fixed_only_lem 5 base owner l fine))
expression_parts_lem d known ExpressionSort.Variable base owner l h fine = ap (expression_field ExpressionSort.Variable) (one_byte l (fixed_only_lem 1 base owner l fine))
expression_parts_lem d known ExpressionSort.FixedBit base owner l h fine = ap (expression_field ExpressionSort.FixedBit) (two_byte l (fixed_only_lem 2 base owner l fine))
expression_parts_lem d known ExpressionSort.ChosenBit base owner l h fine =
    let f = fixed_tells 1 (then_by (field_by (expression_body d)) ended) base owner l fine in
    ap (expression_field ExpressionSort.ChosenBit)
    (ap (λ (p : List ℕ). get_or l 0 0 ∷ p) (expression_last d known (base + 1) owner (drop 1 l) (bytes_drop 1 l h) f.1) ∙ one_first l f.0)
expression_parts_lem d known (ExpressionSort.One op) base owner l h fine = ap (expression_field (ExpressionSort.One op)) (expression_last d known base owner l h fine)
expression_parts_lem d known (ExpressionSort.Two op) base owner l h fine =
    let n = next_returns is_expression (expression_body d) (expression_at d) expression_bytes expression_known known no_expression base owner l h
    (then_by (field_by (expression_body d)) ended) fine in
    let second = expression_last d known n.place owner (after_front l) n.left n.rest in
    ap (expression_field (ExpressionSort.Two op))
    (ap₂ (λ (a b : List ℕ). a ++ b) (ap expression_bytes (sym (expression_front d l))) second ∙ n.written)

pub expression_returns : (d : ℕ) → ExpressionReturns d
unfolding expression_body
expression_returns zero base s l h fine = absurd (let z : ◌≡◌ {A = ℕ} 0 1 = cc in omega arith)
expression_returns (suc d) base s l h fine =
    let c = expression_fine s (λ e. expression_parts (field_by (expression_body d)) e (base + 3) base l) (fault_at base) fine in
    subst (λ (s : Sort). Returned is_expression (expression_body (suc d)) (expression_at (suc d)) expression_bytes s l) (sym c.1)
    (record { is = refl; written = expression_parts_lem d (expression_returns d) c.0 (base + 3) base l h c.2 })

-- what is read without a fault is written as it stood
pub expression_written : (d base owner : ℕ) (l : List ℕ) (m : ℕ) → AllBytes l → field_by (expression_body d) base owner l ≡ Ok m →
    take m l ≡ expression_bytes (expression_in d l)
expression_written d base owner l m h e =
    front_written is_expression (expression_body d) (expression_at d) expression_bytes expression_known (expression_returns d) no_expression base owner l h m e
    ∙ ap expression_bytes (expression_front d l)

pub expression_after : (d base owner : ℕ) (l : List ℕ) (m : ℕ) → field_by (expression_body d) base owner l ≡ Ok m → after_front l ≡ drop m l
expression_after d base owner l m e = after_passed (expression_body d) base owner l m e

-- a fault does not depend on where an expression stands
parts_anywhere : (d : ℕ) → AnywhereBody (expression_body d) → (e : ExpressionSort) → AnywhereJudge (expression_parts (field_by (expression_body d)) e)
parts_anywhere d any ExpressionSort.Constant = fixed_anywhere 5 ended ended_anywhere
parts_anywhere d any ExpressionSort.Variable = fixed_anywhere 1 ended ended_anywhere
parts_anywhere d any ExpressionSort.FixedBit = fixed_anywhere 2 ended ended_anywhere
parts_anywhere d any ExpressionSort.ChosenBit =
    fixed_anywhere 1 (then_by (field_by (expression_body d)) ended)
    (then_anywhere (field_by (expression_body d)) ended (field_anywhere (expression_body d) any) ended_anywhere)
parts_anywhere d any (ExpressionSort.One op) = then_anywhere (field_by (expression_body d)) ended (field_anywhere (expression_body d) any) ended_anywhere
parts_anywhere d any (ExpressionSort.Two op) =
    then_anywhere (field_by (expression_body d)) (then_by (field_by (expression_body d)) ended) (field_anywhere (expression_body d) any)
    (then_anywhere (field_by (expression_body d)) ended (field_anywhere (expression_body d) any) ended_anywhere)

pub expression_anywhere : (d : ℕ) → AnywhereBody (expression_body d)
unfolding expression_body
expression_anywhere zero a b s l fine = absurd (let z : ◌≡◌ {A = ℕ} 0 1 = cc in omega arith)
expression_anywhere (suc d) a b s l fine =
    let c = expression_fine s (λ e. expression_parts (field_by (expression_body d)) e (a + 3) a l) (fault_at a) fine in
    rw c.1 (parts_anywhere d (expression_anywhere d) c.0 (a + 3) a (b + 3) b l c.2)

-- to bytes

pub some_depth : (e : Expression) → 1 ≤ expression_depth e
unfolding expression_depth
some_depth (constant w v) = omega arith
some_depth (variable v) = omega arith
some_depth (fixed_bit v k) = omega arith
some_depth (chosen_bit v e) = omega arith
some_depth (one op a) = omega arith
some_depth (two op a b) = omega arith

pub four_length : (v : ℕ) → length (four_bytes v) ≡ 4
unfolding four_bytes
four_length v = refl

pub four_read : (v : ℕ) → v < 2 ^ 32 → four_of (four_bytes v) ≡ v
unfolding four_of four_bytes
four_read v h = four_back v h

-- what fits its bytes is written as a field that its judge passes and its reader knows
abbrev pub ExpressionStands : ℕ → Expression → Type 0
ExpressionStands d e = Stands is_expression (expression_body d) (expression_at d) expression_bytes e

-- the payload of a field that is not too long
pub payload_short : (tag : ℕ) (l : List ℕ) → length (field_bytes tag l) ≤ longest_field → length l < 65536
payload_short tag l h = omega (arith, field_length tag l)

pub expression_stands : (d : ℕ) (e : Expression) → FitsExpression e → expression_depth e ≤ d → length (expression_bytes e) ≤ longest_field → ExpressionStands d e
unfolding expression_body expression_bytes expression_depth FitsExpression
expression_stands zero e fits deep long = absurd (omega (arith, some_depth e))
expression_stands (suc d) (constant w v) fits deep long = record {
  sort = Sort.Expression ExpressionSort.Constant;
  payload = w ∷ four_bytes v;
  field = refl;
  short = omega (arith, four_length v);
  is = refl;
  fine = λ base. only_fixed 5 (base + 3) base (w ∷ four_bytes v) (omega (arith, four_length v));
  back = ap (constant w) (four_read v fits.1);
}
expression_stands (suc d) (variable v) fits deep long = record {
  sort = Sort.Expression ExpressionSort.Variable;
  payload = v ∷ [];
  field = refl;
  short = omega arith;
  is = refl;
  fine = λ base. only_fixed 1 (base + 3) base (v ∷ []) refl;
  back = refl;
}
expression_stands (suc d) (fixed_bit v k) fits deep long = record {
  sort = Sort.Expression ExpressionSort.FixedBit;
  payload = v ∷ k ∷ [];
  field = refl;
  short = omega arith;
  is = refl;
  fine = λ base. only_fixed 2 (base + 3) base (v ∷ k ∷ []) refl;
  back = refl;
}
expression_stands (suc d) (chosen_bit v e) fits deep long =
    let short = payload_short (tag_of (Sort.Expression ExpressionSort.ChosenBit)) (v ∷ expression_bytes e) long in
    let x = expression_stands d e fits.1 (omega arith) (omega arith) in
    record {
      sort = Sort.Expression ExpressionSort.ChosenBit;
      payload = v ∷ expression_bytes e;
      field = refl;
      short = short;
      is = refl;
      fine = λ base. fixed_written 1 (then_by (field_by (expression_body d)) ended) (base + 3) base (v ∷ expression_bytes e) (omega arith)
          (last_stands x (base + 3 + 1) base);
      back = ap (chosen_bit v) (sym (expression_front d (expression_bytes e)) ∙ last_front x no_expression);
    }
expression_stands (suc d) (one op a) fits deep long =
    let short = payload_short (tag_of (Sort.Expression (ExpressionSort.One op))) (expression_bytes a) long in
    let x = expression_stands d a fits (omega arith) (omega arith) in
    record {
      sort = Sort.Expression (ExpressionSort.One op);
      payload = expression_bytes a;
      field = refl;
      short = short;
      is = refl;
      fine = λ base. last_stands x (base + 3) base;
      back = ap (one op) (sym (expression_front d (expression_bytes a)) ∙ last_front x no_expression);
    }
expression_stands (suc d) (two op a b) fits deep long =
    let short = payload_short (tag_of (Sort.Expression (ExpressionSort.Two op))) (expression_bytes a ++ expression_bytes b) long in
    let both = length-append (expression_bytes a) (expression_bytes b) in
    let x = expression_stands d a fits.0 (omega arith) (omega arith) in
    let y = expression_stands d b fits.1 (omega arith) (omega arith) in
    let whole = expression_bytes a ++ expression_bytes b in
    let first : expression_in d whole ≡ a = sym (expression_front d whole) ∙ stands_front x (expression_bytes b) no_expression in
    let second : expression_in d (after_front whole) ≡ b =
    ap (expression_in d) (stands_after x (expression_bytes b)) ∙ sym (expression_front d (expression_bytes b)) ∙ last_front y no_expression in
    record {
      sort = Sort.Expression (ExpressionSort.Two op);
      payload = whole;
      field = refl;
      short = short;
      is = refl;
      fine = λ base. next_stands x (expression_bytes b) (then_by (field_by (expression_body d)) ended) (base + 3) base
          (last_stands y (base + 3 + length (expression_bytes a)) base);
      back = ap₂ (two op) first second;
    }

module _ (d : ℕ) (e : Expression) (fits : FitsExpression e) (deep : expression_depth e ≤ d) (long : length (expression_bytes e) ≤ longest_field) (after : List ℕ) where
  -- what is written has no fault, and is read as it was
  pub expression_passed : (base owner : ℕ) → field_by (expression_body d) base owner (expression_bytes e ++ after) ≡ Ok (length (expression_bytes e))
  expression_passed base owner = stands_passed (expression_stands d e fits deep long) after base owner

  pub expression_read : expression_in d (expression_bytes e ++ after) ≡ e
  expression_read = sym (expression_front d (expression_bytes e ++ after)) ∙ stands_front (expression_stands d e fits deep long) after no_expression
