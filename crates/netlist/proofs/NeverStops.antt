-- An accepted netlist never stops: from a row that fits, a cycle gives a row that fits, and so does each of any number of cycles.
-- The values of the cells so far have the widths of their cells and fit them; by induction on the cells and on the drives.
use Rattle.std.specs.Prelude.{None}
use mathlib.Core.Path.{◌≡◌, refl, sym, ap, ◌∙◌}
use mathlib.Core.Bool.{true, false, ◌||◌, not}
use mathlib.Core.List.{List, [], ◌∷◌, ◌++◌, map, append_assoc, append-nil, map-append, Memᴰ}
use Prim.Native.Nat.{ℕ, zero, suc, ◌+◌, ◌^◌, ◌<◌}
use native.Mathlib.Nat.{lt_of_lt_of_le}
use native.Mathlib.Omega.{arith}
use lib.Dec.{leb, eqb}
use lib.ListN.{length, get_or, set, length-map}
use borrow.Author.Tests.{eqb-true, eq-eqb, ltb-true, lt-ltb, leb-true, leb-false, not-false}
use Rattle.words.specs.Widths.{is_width}
use Rattle.words.specs.Bits.{bit, put_bit, mux}
use Rattle.words.specs.Operators.{one_width, one_number, two_width, two_number}
use Rattle.words.specs.Values.{Value, got}
use Rattle.words.proofs.BitLaws.{bit_lt}
use Rattle.words.proofs.WidthLaws.{one_lt, two_lt, mux_lt, put_bit_lt}
use Rattle.tagged.specs.Fields.{Placed, placed_by}
use Rattle.tagged.specs.Refusals.{first_broken}
use Rattle.tagged.specs.Declarations.{Declaration, width_of, variable_width, register_at}
use Rattle.tagged.specs.Rows.{all_fit}
use Rattle.tagged.specs.Cycles.{inputs_fit}
use Rattle.tagged.specs.declared.answers.Rule.{Rule}
use Rattle.tagged.specs.Answers.{acceptance, Found}
use Rattle.tagged.proofs.RowLaws.{fits_at, fits_length}
use Rattle.netlist.specs.declared.Operand.{Operand}
use Rattle.netlist.specs.declared.Cell.{Cell}
use Rattle.netlist.specs.declared.Drive.{Drive}
use Rattle.netlist.specs.Lists.{Netlist, operand_width, cell_width, cell_slots, operands_in}
use Rattle.netlist.specs.Form.{cell_bytes, drive_bytes}
use Rattle.netlist.specs.Rules.{width_of_cell, some_operand, operand_value_broken, operand_missing, operand_unlike, cell_unlike, cell_outside, cell_breaks, registers_from, not_next, drive_breaks, cells_base, drives_base}
use Rattle.netlist.specs.Answer.{lists_answer}
use Rattle.netlist.specs.Cycle.{operand_value, cell_value, cell_values, driven, netlist_cycle}
use Rattle.tagged.proofs.TestLaws.{neither}
use Rattle.tagged.proofs.RefusalLaws.{front_passes}
use Rattle.netlist.proofs.PassedRules.{RulePasses, accepted_rules}
use Rattle.netlist.proofs.RegisterLaws.{registers_marked}
use Rattle.tagged.proofs.CycleLaws.{fits_set, Steps, Runs, cycles_run}

-- values that have these widths and fit them
pub data Shaped : List ℕ → List Value → Type 0 where
  empty : Shaped [] []
  with : {w : ℕ} {x : Value} {widths : List ℕ} {values : List Value} → x.width ≡ w → x.number < 2 ^ w → Shaped widths values → Shaped (w ∷ widths) (x ∷ values)

shaped_length : {widths : List ℕ} {values : List Value} → Shaped widths values → length values ≡ length widths
shaped_length empty = refl
shaped_length (with e h s) = ap suc (shaped_length s)

abbrev pub no_value : Value
no_value = record { width = 0; number = 0 }

pub record HasWidth (w : ℕ) (x : Value) : Type 0 where
  pub wide : x.width ≡ w
  pub small : x.number < 2 ^ w

has_same : {w v : ℕ} {x : Value} → HasWidth w x → w ≡ v → HasWidth v x
has_same h e = rw e at h

shaped_at : {widths : List ℕ} {values : List Value} → Shaped widths values → (i : ℕ) → i < length widths → HasWidth (get_or widths i 0) (get_or values i no_value)
shaped_at empty i h = absurd (omega arith)
shaped_at (with e l s) zero h = record { wide = e; small = l }
shaped_at (with e l s) (suc i) h = shaped_at s i (omega arith)

pub shaped_more : {widths : List ℕ} {values : List Value} {w : ℕ} {x : Value} → Shaped widths values → HasWidth w x → Shaped (widths ++ (w ∷ [])) (values ++ (x ∷ []))
shaped_more empty h = with h.wide h.small empty
shaped_more (with e l s) h = with e l (shaped_more s h)

-- one cycle of these declarations from a row that fits, with the cells so far
module _ (ds : List Declaration) (row : List ℕ) (fits : all_fit (map width_of ds) row ≡ true) where
  -- an operand has a value of its stated width that fits it
  pub record OperandRuns (values : List Value) (o : Operand) : Type 0 where
    pub value : Value
    pub runs : operand_value ds row values o ≡ got value
    pub has : HasWidth (operand_width o) value

  operand_runs : (cells : List Cell) {values : List Value} → Shaped (map cell_width cells) values → (o : Operand) →
      operand_value_broken o ≡ false → operand_missing ds cells o ≡ false → operand_unlike ds cells o ≡ false → OperandRuns values o
  unfolding operand_value operand_value_broken operand_missing operand_unlike
  operand_runs cells s (Operand.Constant w n) v m u =
      let f = (neither (not (is_width w)) _ v).1 in
      record { value = record { width = w; number = n }; runs = refl; has = record { wide = refl; small = ltb-true n (2 ^ w) (not-false _ f) } }
  operand_runs cells s (Operand.Variable w n) v m u =
      let there : n < length ds = leb-false (length ds) n m in
      let like : eqb w (variable_width ds n) ≡ true = not-false _ u in
      let same : w ≡ variable_width ds n = eqb-true w _ like in
      let within : n < length (map width_of ds) = rw length-map there in
      record {
        value = record { width = variable_width ds n; number = get_or row n 0 };
        runs = rw (lt-ltb n (length ds) there, like);
        has = record { wide = sym same; small = rw same (fits_at (map width_of ds) row n fits within) };
      }
  operand_runs cells {values} s (Operand.Cell w n) v m u =
      let there : n < length cells = leb-false (length cells) n m in
      let within : n < length (map cell_width cells) = rw length-map there in
      let h = shaped_at s n within in
      let known : n < length values = rw (shaped_length s) within in
      let same : w ≡ width_of_cell cells n = eqb-true w _ (not-false _ u) in
      let like : eqb w (get_or values n no_value).width ≡ true = rw h.wide (not-false _ u) in
      record {
        value = get_or values n no_value;
        runs = rw (lt-ltb n (length values) known, like);
        has = record { wide = rw same h.wide; small = rw same h.small };
      }

  -- each of some operands
  pub data AllRun (values : List Value) : List Operand → Type 0 where
    end : AllRun values []
    and : {o : Operand} {l : List Operand} → OperandRuns values o → AllRun values l → AllRun values (o ∷ l)

  pub all_run : (cells : List Cell) {values : List Value} → Shaped (map cell_width cells) values → (l : List Operand) →
      some_operand operand_value_broken l ≡ false → some_operand (operand_missing ds cells) l ≡ false → some_operand (operand_unlike ds cells) l ≡ false → AllRun values l
  all_run cells s [] v m u = end
  all_run cells s (o ∷ l) v m u =
      let v' = neither (operand_value_broken o) _ v in
      let m' = neither (operand_missing ds cells o) _ m in
      let u' = neither (operand_unlike ds cells o) _ u in
      and (operand_runs cells s o v'.0 m'.0 u'.0) (all_run cells s l v'.1 m'.1 u'.1)

  -- a cell has a value of its width that fits it
  pub record CellRuns (values : List Value) (c : Cell) : Type 0 where
    pub value : Value
    pub runs : cell_value ds row values c ≡ got value
    pub has : HasWidth (cell_width c) value

  pub cell_runs : {values : List Value} (c : Cell) → AllRun values (operands_in (cell_slots c)) → cell_unlike c ≡ false → cell_outside c ≡ false → CellRuns values c
  unfolding cell_value cell_unlike cell_outside
  cell_runs (Cell.One op w a) (and p end) u b =
      let like : eqb w (one_width op (operand_width a)) ≡ true = not-false _ u in
      let x = p.value in
      record {
        value = record { width = w; number = one_number op x.width x.number };
        runs = rw (p.runs, p.has.wide, like);
        has = record { wide = refl; small = rw (p.has.wide, eqb-true w _ like) (one_lt op (operand_width a) x.number) };
      }
  cell_runs (Cell.Two op w a b) (and p (and q end)) u o =
      let h = neither (not (eqb (operand_width a) (operand_width b))) _ u in
      let both : eqb (operand_width a) (operand_width b) ≡ true = not-false _ h.0 in
      let like : eqb w (two_width op (operand_width a)) ≡ true = not-false _ h.1 in
      let x = p.value in
      let y = q.value in
      record {
        value = record { width = w; number = two_number op x.width x.number y.number };
        runs = rw (p.runs, q.runs, p.has.wide, q.has.wide, both, like);
        has = record {
          wide = refl;
          small = rw (p.has.wide, eqb-true w _ like)
              (two_lt op (operand_width a) x.number y.number p.has.small (rw (eqb-true (operand_width a) (operand_width b) both) q.has.small));
        };
      }
  cell_runs (Cell.Mux w c a b) (and r (and p (and q end))) u o =
      let h = neither (not (eqb (operand_width c) 1) || not (eqb w (operand_width a))) _ u in
      let k = neither (not (eqb (operand_width c) 1)) _ h.0 in
      let one : eqb (operand_width c) 1 ≡ true = not-false _ k.0 in
      let like_a : eqb w (operand_width a) ≡ true = not-false _ k.1 in
      let like_b : eqb w (operand_width b) ≡ true = not-false _ h.1 in
      let z = r.value in
      let x = p.value in
      let y = q.value in
      record {
        value = record { width = w; number = mux z.number x.number y.number };
        runs = rw (r.runs, p.runs, q.runs, r.has.wide, p.has.wide, q.has.wide, one, like_a, like_b);
        has = record {
          wide = refl;
          small = mux_lt w z.number x.number y.number (rw (eqb-true w _ like_a) p.has.small) (rw (eqb-true w _ like_b) q.has.small);
        };
      }
  cell_runs (Cell.Put w v k b) (and p (and q end)) u o =
      let h = neither (not (eqb w (operand_width v))) _ u in
      let like : eqb w (operand_width v) ≡ true = not-false _ h.0 in
      let one : eqb (operand_width b) 1 ≡ true = not-false _ h.1 in
      let inside : k < operand_width v = leb-false (operand_width v) k o in
      let same : w ≡ operand_width v = eqb-true w _ like in
      let x = p.value in
      let y = q.value in
      record {
        value = record { width = w; number = put_bit x.number k y.number };
        runs = rw (p.runs, q.runs, p.has.wide, q.has.wide, one, lt-ltb k (operand_width v) inside, like);
        has = record {
          wide = refl;
          small = rw same (put_bit_lt (operand_width v) x.number k y.number p.has.small inside (rw (eqb-true (operand_width b) 1 one) at q.has.small));
        };
      }
  cell_runs (Cell.FixedBit w v k) (and p end) u o =
      let one : eqb w 1 ≡ true = not-false _ u in
      let inside : k < operand_width v = leb-false (operand_width v) k o in
      let x = p.value in
      record {
        value = record { width = w; number = bit x.number k };
        runs = rw (p.runs, p.has.wide, lt-ltb k (operand_width v) inside, one);
        has = record { wide = refl; small = rw (eqb-true w 1 one) (bit_lt x.number k) };
      }
  cell_runs (Cell.ChosenBit w v i) (and p (and q end)) u o =
      let one : eqb w 1 ≡ true = not-false _ u in
      let x = p.value in
      let y = q.value in
      let inside : y.number < operand_width v = lt_of_lt_of_le q.has.small (leb-true (2 ^ operand_width i) (operand_width v) (not-false _ o)) in
      record {
        value = record { width = w; number = bit x.number y.number };
        runs = rw (p.runs, q.runs, p.has.wide, lt-ltb y.number (operand_width v) inside, one);
        has = record { wide = refl; small = rw (eqb-true w 1 one) (bit_lt x.number y.number) };
      }

  -- the cells that follow those so far
  record CellsRun (done : List Cell) (values : List Value) (cells : List Cell) : Type 0 where
    pub all : List Value
    pub runs : cell_values ds row values cells ≡ got all
    pub shaped : Shaped (map cell_width (done ++ cells)) all

  -- the first place of a rule among the cells that follow
  abbrev pub broken : Rule → List Cell → ℕ → List Cell → Found
  broken rule done base cells = first_broken (cell_breaks rule ds) done (placed_by cell_bytes base cells)

  cells_run : (done : List Cell) {values : List Value} (base : ℕ) (cells : List Cell) → Shaped (map cell_width done) values →
      broken Rule.Value done base cells ≡ None → broken Rule.Reference done base cells ≡ None →
      broken Rule.Widths done base cells ≡ None → broken Rule.BitNumber done base cells ≡ None → CellsRun done values cells
  unfolding cell_values cell_breaks placed_by
  cells_run done {values} base [] s v m u b = record { all = values; runs = refl; shaped = rw append-nil s }
  cells_run done {values} base (c ∷ cells) s v m u b =
      let x : Placed Cell = record { place = base; what = c } in
      let l = placed_by cell_bytes (base + length (cell_bytes c)) cells in
      let v' = front_passes (cell_breaks Rule.Value ds) done x l v in
      let m' = front_passes (cell_breaks Rule.Reference ds) done x l m in
      let u' = front_passes (cell_breaks Rule.Widths ds) done x l u in
      let b' = front_passes (cell_breaks Rule.BitNumber ds) done x l b in
      let operands = operands_in (cell_slots c) in
      let likes = neither (some_operand (operand_unlike ds done) operands) _ u'.0 in
      let all = all_run done s operands (neither (not (is_width (cell_width c))) _ v'.0).1 m'.0 likes.0 in
      let r = cell_runs c all likes.1 b'.0 in
      let s' : Shaped (map cell_width (done ++ (c ∷ []))) (values ++ (r.value ∷ [])) = rw map-append (shaped_more s r.has) in
      let z = cells_run (done ++ (c ∷ [])) (base + length (cell_bytes c)) cells s' v'.1 m'.1 u'.1 b'.1 in
      record { all = z.all; runs = rw r.runs z.runs; shaped = rw append_assoc at z.shaped }

-- a drive that names the next register names a register
next_marked : (ds : List Declaration) (earlier : List Drive) (d : Drive) → not_next ds earlier d ≡ false → register_at ds d.variable ≡ true
unfolding not_next
next_marked ds earlier d e =
    let h = neither (leb (length (registers_from 0 ds)) (length earlier)) _ e in
    let r = registers_marked 0 ds (length earlier) (leb-false (length (registers_from 0 ds)) (length earlier) h.0) in
    let same : d.variable ≡ r.number = eqb-true d.variable (get_or (registers_from 0 ds) (length earlier) 0) (not-false _ h.1) ∙ omega (arith, r.counted) in
    rw same r.marked

-- the drives that follow those so far, from the old row and all cells
module _ (ds : List Declaration) (row : List ℕ) (fits : all_fit (map width_of ds) row ≡ true)
    (cells : List Cell) (values : List Value) (s : Shaped (map cell_width cells) values) where
  record DrivesRun (next : List ℕ) (drives : List Drive) : Type 0 where
    pub after : List ℕ
    pub runs : driven ds row values next drives ≡ got after
    pub fit : all_fit (map width_of ds) after ≡ true

  drive_steps : (next : List ℕ) (d : Drive) (drives : List Drive) (x : Value) → operand_value ds row values d.operand ≡ got x →
      register_at ds d.variable ≡ true → x.width ≡ variable_width ds d.variable → (after : List ℕ) →
      driven ds row values (set next d.variable x.number) drives ≡ got after → driven ds row values next (d ∷ drives) ≡ got after
  unfolding driven
  drive_steps next d drives x r m e after h = rw (r, m, eq-eqb x.width _ e) h

  -- the first place of a rule among the drives that follow
  abbrev drive_broken : Rule → List Drive → ℕ → List Drive → Found
  drive_broken rule done base drives = first_broken (drive_breaks rule ds cells) done (placed_by drive_bytes base drives)

  drives_run : (done : List Drive) (next : List ℕ) (base : ℕ) (drives : List Drive) → all_fit (map width_of ds) next ≡ true →
      drive_broken Rule.Value done base drives ≡ None → drive_broken Rule.Reference done base drives ≡ None →
      drive_broken Rule.Widths done base drives ≡ None → DrivesRun next drives
  unfolding driven drive_breaks placed_by
  drives_run done next base [] f v m u = record { after = next; runs = refl; fit = f }
  drives_run done next base (d ∷ drives) f v m u =
      let x : Placed Drive = record { place = base; what = d } in
      let l = placed_by drive_bytes (base + length (drive_bytes d)) drives in
      let v' = front_passes (drive_breaks Rule.Value ds cells) done x l v in
      let m' = front_passes (drive_breaks Rule.Reference ds cells) done x l m in
      let u' = front_passes (drive_breaks Rule.Widths ds cells) done x l u in
      let names = neither (not_next ds done d) _ m'.0 in
      let likes = neither (operand_unlike ds cells d.operand) _ u'.0 in
      let r = operand_runs ds row fits cells s d.operand v'.0 names.1 likes.0 in
      let like : eqb (operand_width d.operand) (variable_width ds d.variable) ≡ true = not-false _ likes.1 in
      let new = has_same r.has (eqb-true (operand_width d.operand) (variable_width ds d.variable) like) in
      let next' = set next d.variable r.value.number in
      let fit = fits_set (map width_of ds) next d.variable r.value.number f new.small in
      let z = drives_run (done ++ (d ∷ [])) next' (base + length (drive_bytes d)) drives fit v'.1 m'.1 u'.1 in
      record { after = z.after; runs = drive_steps next d drives r.value r.runs (next_marked ds done d names.0) new.wide z.after z.runs; fit = z.fit }

-- one cycle of a netlist, whose declarations start at `base`, that breaks none of rules 3, 6, 7 and 8, from a row that fits
module _ (base : ℕ) (n : Netlist) (value : RulePasses base n Rule.Value) (reference : RulePasses base n Rule.Reference)
    (widths : RulePasses base n Rule.Widths) (bits : RulePasses base n Rule.BitNumber) where
  pub passing_steps : (row : List ℕ) → all_fit (map width_of n.declarations) row ≡ true → Steps (netlist_cycle n) n.declarations row
  unfolding netlist_cycle
  passing_steps row fits =
      let ds = n.declarations in
      let c = cells_run ds row fits [] (cells_base base n) n.cells empty value.cells reference.cells widths.cells bits.cells in
      let d = drives_run ds row fits n.cells c.all c.shaped [] row (drives_base base n) n.drives fits value.drives reference.drives widths.drives in
      let long : length row ≡ length ds = fits_length (map width_of ds) row fits ∙ length-map ds width_of in
      record { after = d.after; runs = rw (eq-eqb (length row) (length ds) long, c.runs, d.runs); fits = d.fit }

-- one cycle of an accepted netlist
pub never_stops : (base : ℕ) (n : Netlist) → lists_answer base n ≡ acceptance → (row : List ℕ) → all_fit (map width_of n.declarations) row ≡ true →
    Steps (netlist_cycle n) n.declarations row
never_stops base n e = let p = accepted_rules base n e in passing_steps base n p.value p.reference p.widths p.bits

-- any number of cycles, each with its own inputs
pub never_stops_ever : (base : ℕ) (n : Netlist) → lists_answer base n ≡ acceptance →
    (row : List ℕ) (inputs : List (List ℕ)) → all_fit (map width_of n.declarations) row ≡ true →
    ((i : List ℕ) → Memᴰ i inputs → inputs_fit n.declarations i ≡ true) → Runs (netlist_cycle n) n.declarations row inputs
never_stops_ever base n e = cycles_run (netlist_cycle n) n.declarations (never_stops base n e)
