-- Merging two tables: its muxes run, and the merged table stands for the numbers of the side that the condition chooses.
-- By induction on both tables; operands with the same bytes denote the same number, so that nothing is chosen between them.
use mathlib.Core.Path.{◌≡◌, refl, ap, ap₂, subst}
use mathlib.Core.Bool.{Bool, true, false, cond, ◌&&◌, false≢true, and-eq-true_iff}
use mathlib.Core.List.{List, [], ◌∷◌, ◌++◌}
use Prim.Native.Nat.{ℕ, ◌+◌, ◌^◌, ◌<◌}
use native.Mathlib.Omega.{arith}
use lib.Dec.{eqb}
use lib.ListN.{length, length-append}
use borrow.Author.Tests.{eqb-true, eq-eqb}
use Rattle.words.specs.Bits.{mux}
use Rattle.words.specs.Values.{Value, got}
use Rattle.words.proofs.WidthLaws.{mux_one, mux_zero}
use Rattle.tagged.specs.Declarations.{Declaration, width_of, is_register}
use Rattle.netlist.specs.Lists.{operand_width}
use Rattle.netlist.specs.Cycle.{cell_value}
use Rattle.netlist.specs.declared.Operand.{Operand}
use Rattle.netlist.specs.declared.Cell.{Cell}
use Rattle.verilog.specs.Cycle.{State}
use Rattle.translate.specs.Tables.{Tables, same_operand, Merged, kept, muxed, merge, Translated, merge_tables}
use Rattle.translate.specs.Translation.{after, joined}
use Rattle.translate.proofs.Values.{Grows, grows_not, grows_twice, Denotes, denotes_kept, denotes_last, Run, run_none, run_one, run_append}
use Rattle.translate.proofs.Tracks.{Stands, none_stands, more_stands, stands_kept, Tracked, tracked_kept}

-- operands with the same bytes are the same

both_equal : (a b c d : ℕ) → (eqb a b && eqb c d) ≡ true → (a ≡ b) × (c ≡ d)
both_equal a b c d e =
    let both : (eqb a b ≡ true) × (eqb c d ≡ true) = (and-eq-true_iff (eqb a b) (eqb c d)).0 e in
    (eqb-true a b both.0, eqb-true c d both.1)

pub same_operand_lem : (a b : Operand) → same_operand a b ≡ true → a ≡ b
unfolding same_operand
same_operand_lem (Operand.Constant w n) (Operand.Constant u m) e = let j = both_equal w u n m e in ap₂ Operand.Constant j.0 j.1
same_operand_lem (Operand.Variable w n) (Operand.Variable u m) e = let j = both_equal w u n m e in ap₂ Operand.Variable j.0 j.1
same_operand_lem (Operand.Cell w n) (Operand.Cell u m) e = let j = both_equal w u n m e in ap₂ Operand.Cell j.0 j.1
same_operand_lem (Operand.Constant w n) (Operand.Variable u m) e = absurd (false≢true e)
same_operand_lem (Operand.Constant w n) (Operand.Cell u m) e = absurd (false≢true e)
same_operand_lem (Operand.Variable w n) (Operand.Constant u m) e = absurd (false≢true e)
same_operand_lem (Operand.Variable w n) (Operand.Cell u m) e = absurd (false≢true e)
same_operand_lem (Operand.Cell w n) (Operand.Constant u m) e = absurd (false≢true e)
same_operand_lem (Operand.Cell w n) (Operand.Variable u m) e = absurd (false≢true e)

-- the side chosen

mux_chosen : (t : Bool) (a b : ℕ) → mux (cond t 1 0) a b ≡ cond t a b
mux_chosen true a b = mux_one a b
mux_chosen false a b = mux_zero a b

chosen_same : {A : Type 0} (t : Bool) {a b : A} → a ≡ b → a ≡ cond t a b
chosen_same true e = refl
chosen_same false e = e

chosen_cons : (t : Bool) (x y : ℕ) (xs ys : List ℕ) → cond t x y ∷ cond t xs ys ≡ cond t (x ∷ xs) (y ∷ ys)
chosen_cons true x y xs ys = refl
chosen_cons false x y xs ys = refl

pub chosen_lt : (t : Bool) {x y n : ℕ} → x < n → y < n → cond t x y < n
chosen_lt true h i = h
chosen_lt false h i = i

pub chosen_is : (t : Bool) {x y r : ℕ} → x ≡ r → y ≡ r → cond t x y ≡ r
chosen_is true h i = h
chosen_is false h i = i

chosen_current : (t : Bool) (a b : State) → cond t a.current b.current ≡ (cond t a b).current
chosen_current true a b = refl
chosen_current false a b = refl

chosen_pending : (t : Bool) (a b : State) → cond t a.pending b.pending ≡ (cond t a b).pending
chosen_pending true a b = refl
chosen_pending false a b = refl

-- the cells of a merge run, and its operands then stand for these numbers
pub record Merges (ds : List Declaration) (row : List ℕ) (values : List Value) (l : List Declaration) (rs : List ℕ) (m : Merged) (xs : List ℕ) : Type 0 where
  pub later : List Value
  pub run : Run ds row values m.cells later
  pub stands : Stands ds row later l rs m.operands xs

mux_value : {ds : List Declaration} {row : List ℕ} {values : List Value} (t : Bool) (c a b : Operand) {w x y : ℕ} → Denotes ds row values c 1 (cond t 1 0) →
    Denotes ds row values a w x → Denotes ds row values b w y →
    cell_value ds row values (Cell.Mux (operand_width a) c a b) ≡ got (record { width = w; number = cond t x y })
unfolding cell_value
mux_value t c a b {w} {x} {y} k p q = rw (k.is, p.is, q.is, p.wide, eq-eqb w w refl, mux_chosen t x y)

-- nothing to choose: the operand stays
merges_kept : {ds l : List Declaration} {row rs xs : List ℕ} {values : List Value} {m : Merged} {d : Declaration} {a : Operand} {r x : ℕ} →
    Denotes ds row values a (width_of d) x → (is_register d ≡ false → x ≡ r) → Merges ds row values l rs m xs →
    Merges ds row values (d ∷ l) (r ∷ rs) (kept a m) (x ∷ xs)
merges_kept p k m = record { later = m.later; run = m.run; stands = more_stands (denotes_kept m.run.grows p) k m.stands }

-- the mux runs first, then the cells of the other operands
merges_muxed : {ds l : List Declaration} {row rs xs : List ℕ} {values : List Value} {m : Merged} {d : Declaration} {r : ℕ} (c a b : Operand) (x n : ℕ) →
    n ≡ length values → operand_width a ≡ width_of d →
    cell_value ds row values (Cell.Mux (operand_width a) c a b) ≡ got (record { width = width_of d; number = x }) → x < 2 ^ width_of d →
    (is_register d ≡ false → x ≡ r) → Merges ds row (values ++ (record { width = width_of d; number = x } ∷ [])) l rs m xs →
    Merges ds row values (d ∷ l) (r ∷ rs) (muxed c n a b m) (x ∷ xs)
merges_muxed {ds} {row = row} {values = values} {d = d} c a b x n e wide v h k m =
    let last : Denotes ds row (values ++ (record { width = width_of d; number = x } ∷ [])) (Operand.Cell (operand_width a) n) (width_of d) x =
    rw wide (denotes_last values n e h) in
    record {
      later = m.later;
      run = run_append (run_one v) m.run;
      stands = more_stands (denotes_kept m.run.grows last) k m.stands;
    }

module _ (ds : List Declaration) (row : List ℕ) (first : List Value) (t : Bool) (c : Operand) (choice : Denotes ds row first c 1 (cond t 1 0)) where
  -- one operand of each table, and what merges the others
  merges_next : {l : List Declaration} {rs : List ℕ} {d : Declaration} {r x y : ℕ} {zs : List ℕ} {a b : Operand} (os us : List Operand) (values : List Value) →
      Grows first values → (n : ℕ) → n ≡ length values →
      Denotes ds row first a (width_of d) x → Denotes ds row first b (width_of d) y → (is_register d ≡ false → x ≡ r) → (is_register d ≡ false → y ≡ r) →
      ((values : List Value) → Grows first values → (n : ℕ) → n ≡ length values → Merges ds row values l rs (merge c n os us) zs) →
      Merges ds row values (d ∷ l) (r ∷ rs) (merge c n (a ∷ os) (b ∷ us)) (cond t x y ∷ zs)
  unfolding merge
  merges_next {l} {rs} {d} {r} {x} {y} {zs} {a} {b} os us values g n e p q kx ky rest = go (same_operand a b) refl
    where
      same_number : a ≡ b → x ≡ y
      same_number i =
          let both : ◌≡◌ {A = Value} (record { width = width_of d; number = x }) (record { width = width_of d; number = y }) = cc (p.is, q.is) in
          ap (λ (v : Value). v.number) both

      chosen_kept : is_register d ≡ false → cond t x y ≡ r
      chosen_kept i = chosen_is t (kx i) (ky i)

      value : cell_value ds row values (Cell.Mux (operand_width a) c a b) ≡ got (record { width = width_of d; number = cond t x y })
      value = mux_value t c a b (denotes_kept g choice) (denotes_kept g p) (denotes_kept g q)

      go : (k : Bool) → same_operand a b ≡ k →
          Merges ds row values (d ∷ l) (r ∷ rs) (cond k (kept a (merge c n os us)) (muxed c n a b (merge c (n + 1) os us))) (cond t x y ∷ zs)
      go true i =
          merges_kept (subst (λ (z : ℕ). Denotes ds row values a (width_of d) z) (chosen_same t (same_number (same_operand_lem a b i))) (denotes_kept g p)) chosen_kept
          (rest values g n e)
      go false i =
          merges_muxed c a b (cond t x y) n e p.wide value (chosen_lt t p.fits q.fits) chosen_kept
          (rest (values ++ (record { width = width_of d; number = cond t x y } ∷ [])) (grows_twice g (run_one value).grows) (n + 1) (simp length-append (omega arith)))

  -- the tables were left at the first values, and cells may have run since
  pub merges : {l : List Declaration} {rs xs ys : List ℕ} {os us : List Operand} → Stands ds row first l rs os xs → Stands ds row first l rs us ys →
      (values : List Value) → Grows first values → (n : ℕ) → n ≡ length values → Merges ds row values l rs (merge c n os us) (cond t xs ys)
  unfolding merge
  merges none_stands none_stands values g n e =
      record { later = values; run = run_none; stands = subst (λ (l : List ℕ). Stands ds row values [] [] [] l) (chosen_same t refl) none_stands }
  merges (more_stands {d} {r} {x} {o = a} {l} {rs} {xs} {os} p kx s) (more_stands {x = y} {o = b} {xs = ys} {os = us} q ky u) values g n e =
      subst (λ (l' : List ℕ). Merges ds row values (d ∷ l) (r ∷ rs) (merge c n (a ∷ os) (b ∷ us)) l') (chosen_cons t x y xs ys)
      (merges_next os us values g n e p q kx ky (merges s u))

-- some cells run, and the tables after them track a state
pub record Reaches (ds : List Declaration) (row : List ℕ) (values : List Value) (t : Translated) (s : State) : Type 0 where
  pub later : List Value
  pub run : Run ds row values t.cells later
  pub tracked : Tracked ds row later t.tables s

pub reaches_after : {ds : List Declaration} {row : List ℕ} {values mid : List Value} {cells : List Cell} {t : Translated} {s : State} →
    Run ds row values cells mid → Reaches ds row mid t s → Reaches ds row values (after cells t) s
reaches_after r h = record { later = h.later; run = run_append r h.run; tracked = h.tracked }

module _ (ds : List Declaration) (row : List ℕ) (t : Bool) (c : Operand) where
  -- both tables of both sides, of which the condition chooses one
  tables_merged : (values : List Value) (n : ℕ) (a b : Tables) (p q : State) → n ≡ length values → Denotes ds row values c 1 (cond t 1 0) →
      Tracked ds row values a p → Tracked ds row values b q → Reaches ds row values (merge_tables c n a b) (cond t p q)
  unfolding merge_tables
  tables_merged values n a b p q e choice x y =
      let m : Merges ds row values ds row (merge c n a.current b.current) (cond t p.current q.current) =
      merges ds row values t c choice x.current y.current values grows_not n e in
      let mid : ℕ = n + length (merge c n a.current b.current).cells in
      let k : Merges ds row m.later ds row (merge c mid a.pending b.pending) (cond t p.pending q.pending) =
      merges ds row values t c choice x.pending y.pending m.later m.run.grows mid (omega arith) in
      record {
        later = k.later;
        run = run_append m.run k.run;
        tracked = record {
          current = rw (chosen_current t p q) at (stands_kept k.run.grows m.stands);
          pending = rw (chosen_pending t p q) at k.stands;
        };
      }

  -- two blocks, the second's cells after the first's, and then their merge
  pub joined_reaches : (values : List Value) (n : ℕ) (a b : Translated) (p q : State) → n ≡ length values → Denotes ds row values c 1 (cond t 1 0) →
      (x : Reaches ds row values a p) → Reaches ds row x.later b q → Reaches ds row values (joined c n a b) (cond t p q)
  joined_reaches values n a b p q e choice x y =
      reaches_after (run_append x.run y.run)
      (tables_merged y.later (n + length a.cells + length b.cells) a.tables b.tables p q (omega arith)
      (denotes_kept (grows_twice x.run.grows y.run.grows) choice) (tracked_kept y.run.grows x.tracked) y.tracked)
