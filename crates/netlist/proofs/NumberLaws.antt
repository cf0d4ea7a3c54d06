-- What the code of a run computes is the cycle of an accepted netlist: each cell's number is that of its value, and each drive puts in its operand's.
-- The values of the cells so far stand at the front of the code's values; by induction on the cells and on the drives.
use Rattle.std.specs.Prelude.{None}
use mathlib.Core.Path.{◌≡◌, refl, sym, ap, ◌∙◌}
use mathlib.Core.Bool.{Bool, true, false, ◌&&◌, and-eq-true_iff, not}
use mathlib.Core.List.{List, [], ◌∷◌, ◌++◌, map, map-append}
use Prim.Native.Nat.{ℕ, ◌+◌, ◌≤◌, ◌<◌}
use native.Mathlib.Decide.{dec_lt}
use native.Mathlib.Numerals.{add-one}
use native.Mathlib.Omega.{arith}
use lib.Dec.{eqb, leb, ltb}
use lib.ListN.{length, get_or, take, set, length-append, length-set, length-take, get_or-map}
use lib.Seq.{take-suc-set, get_or-take, take-set-lt, take-set-le, set_out}
use borrow.Author.Tests.{eqb-true, ltb-true, leb-true, not-false}
use Rattle.words.specs.Limits.{greatest_width}
use Rattle.words.specs.Widths.{is_width}
use Rattle.words.specs.Operators.{one_width, one_number, two_width, two_number}
use Rattle.words.specs.Values.{Value, Outcome, stopped, got, ◌>>=◌, provided}
use Rattle.words.specs.declared.OneOperand.{OneOperand}
use Rattle.words.specs.declared.OneOperand.TheVariants as one
use Rattle.words.specs.declared.TwoOperand.{TwoOperand}
use Rattle.words.specs.declared.TwoOperand.TheVariants as two
use Rattle.tagged.specs.Answers.{acceptance}
use Rattle.tagged.specs.Fields.{Placed, placed_by}
use Rattle.tagged.specs.Declarations.{Declaration, width_of, variable_width, register_at}
use Rattle.tagged.specs.Rows.{all_fit}
use Rattle.tagged.specs.declared.answers.Rule.TheVariants as Rule
use Rattle.tagged.proofs.TestLaws.{neither}
use Rattle.tagged.proofs.RefusalLaws.{front_passes, NoneBroken, none, more, accepted_none}
use Rattle.netlist.specs.declared.Operand.{Operand}
use Rattle.netlist.specs.declared.Cell.{Cell}
use Rattle.netlist.specs.declared.Drive.{Drive}
use Rattle.netlist.specs.Lists.{Netlist, operand_width, cell_width, cell_slots, operands_in}
use Rattle.netlist.specs.Form.{cell_bytes}
use Rattle.netlist.specs.Rules.{some_operand, operand_unlike, cell_breaks, cells_base, netlist_broken}
use Rattle.netlist.specs.Answer.{netlist_rules, lists_answer}
use Rattle.netlist.specs.Cycle.{operand_value, cell_value, cell_values, driven, netlist_cycle}
use Rattle.netlist.specs.Numbers.{read_number, cell_number, cell_numbers, driven_numbers}
use Rattle.words.proofs.ResultLaws.{one_inside, two_inside, put_inside}
use Rattle.netlist.proofs.PassedRules.{RulePasses, nowhere_rule}
use Rattle.netlist.proofs.NeverStops.{Shaped, empty, no_value, shaped_more, AllRun, end, and, all_run, cell_runs, broken}

-- what a step gave, it gave after its tests and after what came before it
provided-got : {A : Type 0} (t : Bool) (r : Outcome A) (x : A) → provided t r ≡ got x → (t ≡ true) × (r ≡ got x)
provided-got true r x e = (refl, e)
provided-got false r x e = absurd (let z : ◌≡◌ {A = ℕ} 0 1 = cc in omega arith)

then_got : {A B : Type 0} (r : Outcome A) (f : A → Outcome B) (y : B) → (r >>= f) ≡ got y → (x : A) × (r ≡ got x) × (f x ≡ got y)
then_got stopped f y e = absurd (let z : ◌≡◌ {A = ℕ} 0 1 = cc in omega arith)
then_got (got x) f y e = (x, refl, e)

got_number : (x y : Value) → got x ≡ got y → x.number ≡ y.number
got_number x y e = let same : x ≡ y = cc in ap (λ (v : Value). v.number) same

-- an operator works the same with the width of its result
one_own : (op : OneOperand) (w a : ℕ) → one_number op (one_width op w) a ≡ one_number op w a
unfolding one_width one_number
one_own one.Not w a = refl
one_own one.Parity w a = refl

two_own : (op : TwoOperand) (w a b : ℕ) → two_number op (two_width op w) a b ≡ two_number op w a b
unfolding two_width two_number
two_own two.And w a b = refl
two_own two.Or w a b = refl
two_own two.Xor w a b = refl
two_own two.Add w a b = refl
two_own two.Equal w a b = refl

-- the numbers of values
abbrev pub number_of : Value → ℕ
number_of x = x.number

-- the first entries of a list are a row's, or the numbers of values
take-set : (n : ℕ) (l : List ℕ) (i a : ℕ) → take n (set l i a) ≡ set (take n l) i a
take-set n l i a = go (dec_lt i n)
  where
    go : Dec (i < n) → take n (set l i a) ≡ set (take n l) i a
    go (yes h) = take-set-lt n l i a h
    go (no h) =
        let past : n ≤ i = omega arith in
        let short : length (take n l) ≤ i = omega (arith, length-take n l) in
        take-set-le n l i a past ∙ sym (set_out (take n l) i a short)

-- one cycle of these declarations from a row that fits, whose numbers stand at the front of `numbers`
module _ (ds : List Declaration) (row : List ℕ) (fits : all_fit (map width_of ds) row ≡ true) (numbers : List ℕ) (same : take (length ds) numbers ≡ row) where
  operand_number_lem : (buffer : List ℕ) (values : List Value) → take (length values) buffer ≡ map number_of values →
      (o : Operand) (x : Value) → operand_value ds row values o ≡ got x → read_number numbers buffer o ≡ x.number
  unfolding operand_value read_number
  operand_number_lem buffer values h (Operand.Constant w n) x e = got_number (record { width = w; number = n }) x e
  operand_number_lem buffer values h (Operand.Variable w n) x e =
      let p = provided-got (ltb n (length ds)) _ x e in
      let q = provided-got (eqb w (variable_width ds n)) _ x p.1 in
      sym (get_or-take (length ds) numbers n 0 (ltb-true n (length ds) p.0)) ∙ ap (λ (l : List ℕ). get_or l n 0) same
      ∙ got_number (record { width = variable_width ds n; number = get_or row n 0 }) x q.1
  operand_number_lem buffer values h (Operand.Cell w n) x e =
      let p = provided-got (ltb n (length values)) _ x e in
      let q = provided-got (eqb w (get_or values n no_value).width) _ x p.1 in
      sym (get_or-take (length values) buffer n 0 (ltb-true n (length values) p.0)) ∙ ap (λ (l : List ℕ). get_or l n 0) h
      ∙ get_or-map number_of values n no_value ∙ got_number (get_or values n no_value) x q.1

  -- a cell whose operands run
  cell_counts : (buffer : List ℕ) (values : List Value) → take (length values) buffer ≡ map number_of values → (c : Cell) →
      AllRun ds row fits values (operands_in (cell_slots c)) → cell_width c ≤ greatest_width → (x : Value) → cell_value ds row values c ≡ got x →
      cell_number numbers buffer c ≡ x.number
  unfolding cell_value cell_number
  cell_counts buffer values h (Cell.One op w a) (and p end) low x e =
      let y = p.value in
      let f = provided-got (eqb w (one_width op y.width)) _ x (rw p.runs at e) in
      let own : w ≡ one_width op y.width = eqb-true w _ f.0 in
      let ay = operand_number_lem buffer values h a y p.runs in
      one_inside op w (read_number numbers buffer a) low ∙ ap (one_number op w) ay ∙ ap (λ (k : ℕ). one_number op k y.number) own
      ∙ one_own op y.width y.number ∙ got_number (record { width = w; number = one_number op y.width y.number }) x f.1
  cell_counts buffer values h (Cell.Two op w a b) (and p (and q end)) low x e =
      let y = p.value in
      let z = q.value in
      let f = provided-got (eqb y.width z.width) _ x (rw (p.runs, q.runs) at e) in
      let g = provided-got (eqb w (two_width op y.width)) _ x f.1 in
      let own : w ≡ two_width op y.width = eqb-true w _ g.0 in
      let ay = operand_number_lem buffer values h a y p.runs in
      let bz = operand_number_lem buffer values h b z q.runs in
      two_inside op w (read_number numbers buffer a) (read_number numbers buffer b) low ∙ rw (ay, bz)
      (ap (λ (k : ℕ). two_number op k y.number z.number) own
      ∙ two_own op y.width y.number z.number ∙ got_number (record { width = w; number = two_number op y.width y.number z.number }) x g.1)
  cell_counts buffer values h (Cell.Mux w c a b) (and r (and p (and q end))) low x e =
      let z = r.value in
      let f = provided-got (eqb z.width 1 && eqb w q.value.width) _ x (rw (r.runs, p.runs, q.runs) at e) in
      let g = provided-got (eqb w p.value.width) _ x f.1 in
      rw (operand_number_lem buffer values h c z r.runs, operand_number_lem buffer values h a p.value p.runs, operand_number_lem buffer values h b q.value q.runs)
      (got_number _ x g.1)
  cell_counts buffer values h (Cell.Put w v k b) (and p (and q end)) low x e =
      let y = p.value in
      let z = q.value in
      let f = provided-got (eqb z.width 1 && ltb k y.width) _ x (rw (p.runs, q.runs) at e) in
      let g = provided-got (eqb w y.width) _ x f.1 in
      let t = (and-eq-true_iff (eqb z.width 1) (ltb k y.width)).0 f.0 in
      let inside : k < greatest_width = omega (arith, ltb-true k y.width t.1, eqb-true w y.width g.0) in
      let wide : operand_width b ≡ 1 = sym q.has.wide ∙ eqb-true z.width 1 t.0 in
      let small : z.number < 2 = rw wide at q.has.small in
      rw (operand_number_lem buffer values h v y p.runs, operand_number_lem buffer values h b z q.runs)
      (put_inside y.number k z.number inside small ∙ got_number _ x g.1)
  cell_counts buffer values h (Cell.FixedBit w v k) (and p end) low x e =
      let y = p.value in
      let f = provided-got (ltb k y.width) _ x (rw p.runs at e) in
      let g = provided-got (eqb w 1) _ x f.1 in
      rw (operand_number_lem buffer values h v y p.runs) (got_number _ x g.1)
  cell_counts buffer values h (Cell.ChosenBit w v i) (and p (and q end)) low x e =
      let y = p.value in
      let z = q.value in
      let f = provided-got (ltb z.number y.width) _ x (rw (p.runs, q.runs) at e) in
      let g = provided-got (eqb w 1) _ x f.1 in
      rw (operand_number_lem buffer values h v y p.runs, operand_number_lem buffer values h i z q.runs) (got_number _ x g.1)

  -- the cells that follow those so far: their values stand in order at the front of the code's
  cells_count : (done : List Cell) {values : List Value} (buffer : List ℕ) (base : ℕ) (cells : List Cell) → Shaped (map cell_width done) values →
      take (length values) buffer ≡ map number_of values → length values + length cells ≤ length buffer →
      broken ds row fits Rule.Value done base cells ≡ None → broken ds row fits Rule.Reference done base cells ≡ None →
      broken ds row fits Rule.Widths done base cells ≡ None → broken ds row fits Rule.BitNumber done base cells ≡ None →
      (all : List Value) → cell_values ds row values cells ≡ got all →
      take (length all) (cell_numbers numbers buffer (length values) cells) ≡ map number_of all
  unfolding cell_values cell_numbers cell_breaks placed_by
  cells_count done {values} buffer base [] s h room v m u b all e =
      let is : values ≡ all = cc in
      rw is at h
  cells_count done {values} buffer base (c ∷ cells) s h room v m u b all e =
      let x : Placed Cell = record { place = base; what = c } in
      let l = placed_by cell_bytes (base + length (cell_bytes c)) cells in
      let v' = front_passes (cell_breaks Rule.Value ds) done x l v in
      let m' = front_passes (cell_breaks Rule.Reference ds) done x l m in
      let u' = front_passes (cell_breaks Rule.Widths ds) done x l u in
      let b' = front_passes (cell_breaks Rule.BitNumber ds) done x l b in
      let operands = operands_in (cell_slots c) in
      let widths = neither (not (is_width (cell_width c))) _ v'.0 in
      let likes = neither (some_operand (operand_unlike ds done) operands) _ u'.0 in
      let run = all_run ds row fits done s operands widths.1 m'.0 likes.0 in
      let r = cell_runs ds row fits c run likes.1 b'.0 in
      let is = (and-eq-true_iff (leb 1 (cell_width c)) (leb (cell_width c) greatest_width)).0 (not-false (is_width (cell_width c)) widths.0) in
      let number = cell_number numbers buffer c in
      let same : number ≡ r.value.number = cell_counts buffer values h c run (leb-true (cell_width c) greatest_width is.1) r.value r.runs in
      let s' : Shaped (map cell_width (done ++ (c ∷ []))) (values ++ (r.value ∷ [])) = rw map-append (shaped_more s r.has) in
      let long : length (values ++ (r.value ∷ [])) ≡ length values + 1 = length-append values (r.value ∷ []) in
      let fit : length values < length buffer = omega arith in
      let h' : take (length (values ++ (r.value ∷ []))) (set buffer (length values) number) ≡ map number_of (values ++ (r.value ∷ [])) =
      rw (long, add-one, take-suc-set buffer (length values) number fit, h, map-append, same) in
      let room' : length (values ++ (r.value ∷ [])) + length cells ≤ length (set buffer (length values) number) =
      omega (arith, length-set buffer (length values) number) in
      let e' : cell_values ds row (values ++ (r.value ∷ [])) cells ≡ got all = rw r.runs at e in
      let later = cells_count (done ++ (c ∷ [])) (set buffer (length values) number) (base + length (cell_bytes c)) cells s' h' room'
      v'.1 m'.1 u'.1 b'.1 all e' in
      ap (λ (k : ℕ). take (length all) (cell_numbers numbers (set buffer (length values) number) k cells)) (sym long) ∙ later

  -- the drives that follow those so far
  drives_count : (values : List Value) (buffer : List ℕ) → take (length values) buffer ≡ map number_of values → (next wide : List ℕ) (drives : List Drive) →
      take (length ds) wide ≡ next → (after : List ℕ) → driven ds row values next drives ≡ got after →
      take (length ds) (driven_numbers numbers buffer wide drives) ≡ after
  unfolding driven driven_numbers
  drives_count values buffer h next wide [] f after e = let is : next ≡ after = cc in f ∙ is
  drives_count values buffer h next wide (d ∷ drives) f after e =
      let x = then_got (operand_value ds row values d.operand) _ after e in
      let p = provided-got (register_at ds d.variable && eqb x.0.width (variable_width ds d.variable)) _ after x.2 in
      let same : read_number numbers buffer d.operand ≡ x.0.number = operand_number_lem buffer values h d.operand x.0 x.1 in
      let number = read_number numbers buffer d.operand in
      let f' : take (length ds) (set wide d.variable number) ≡ set next d.variable x.0.number =
      take-set (length ds) wide d.variable number ∙ rw (f, same) in
      drives_count values buffer h (set next d.variable x.0.number) (set wide d.variable number) drives f' after p.1

-- one cycle of an accepted netlist, as the code runs it: the row's numbers stand at the front of `numbers`, and there is room for the cells
module _ (n : Netlist) (row : List ℕ) (fits : all_fit (map width_of n.declarations) row ≡ true)
    (numbers : List ℕ) (same : take (length n.declarations) numbers ≡ row) (buffer : List ℕ) (room : length n.cells ≤ length buffer) where
  abbrev counted : List ℕ
  counted = take (length n.declarations) (driven_numbers numbers (cell_numbers numbers buffer 0 n.cells) numbers n.drives)

  module _ (base : ℕ) (value : RulePasses base n Rule.Value) (reference : RulePasses base n Rule.Reference)
      (widths : RulePasses base n Rule.Widths) (bits : RulePasses base n Rule.BitNumber) where
    passing_counts : (after : List ℕ) → netlist_cycle n row ≡ got after → counted ≡ after
    unfolding netlist_cycle
    passing_counts after e =
        let ds = n.declarations in
        let p = provided-got (eqb (length row) (length ds)) _ after e in
        let x = then_got (cell_values ds row [] n.cells) _ after p.1 in
        let c = cells_count ds row fits numbers same [] buffer (cells_base base n) n.cells empty refl (omega arith)
        value.cells reference.cells widths.cells bits.cells x.0 x.1 in
        drives_count ds row fits numbers same x.0 (cell_numbers numbers buffer 0 n.cells) c row numbers n.drives same after x.2

  pub cycle_counts : (base : ℕ) → lists_answer base n ≡ acceptance → (after : List ℕ) → netlist_cycle n row ≡ got after → counted ≡ after
  unfolding lists_answer
  cycle_counts base e = go (accepted_none (netlist_broken base n) netlist_rules e)
    where
      go : NoneBroken (netlist_broken base n) netlist_rules → (after : List ℕ) → netlist_cycle n row ≡ got after → counted ≡ after
      go (more value (more name (more count (more reference (more widths (more bits (more many none))))))) = passing_counts base
          (nowhere_rule base n Rule.Value value) (nowhere_rule base n Rule.Reference reference)
          (nowhere_rule base n Rule.Widths widths) (nowhere_rule base n Rule.BitNumber bits)
