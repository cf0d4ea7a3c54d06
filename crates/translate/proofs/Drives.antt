-- The drives of a translation give every register its settled number, and every input keeps its own.
-- By induction on both tables, from the first variable on: the row is built up from its front.
use mathlib.Core.Path.{◌≡◌, refl}
use mathlib.Core.Bool.{Bool, true, false, cond}
use mathlib.Core.List.{List, [], ◌∷◌, ◌++◌, map}
use Prim.Native.Nat.{ℕ, ◌+◌, ◌^◌}
use native.Mathlib.Omega.{arith}
use lib.ListN.{length, length-append}
use lib.Seq.{append_snoc, set_at}
use borrow.Author.Tests.{lt-ltb, eq-eqb}
use Rattle.words.specs.Values.{Value, got}
use Rattle.tagged.specs.Declarations.{Declaration, width_of, is_register, variable_width, register_at}
use Rattle.tagged.specs.Rows.{all_fit}
use Rattle.netlist.specs.Cycle.{operand_value, driven}
use Rattle.netlist.specs.Rules.{registers_from}
use Rattle.netlist.specs.declared.Operand.{Operand}
use Rattle.verilog.specs.Tree.{Module}
use Rattle.verilog.specs.Cycle.{delays_any, settled}
use Rattle.translate.specs.Tables.{Tables, operand_at}
use Rattle.translate.specs.Translation.{drives_of}
use Rattle.translate.proofs.Values.{Denotes}
use Rattle.translate.proofs.Tracks.{From, from_next, from_at, from_map, Stands, none_stands, more_stands}
use Rattle.translate.proofs.Merging.{chosen_is, chosen_lt}

-- settled numbers fit
pub settled_fit : {ds : List Declaration} {row : List ℕ} {values : List Value} {l : List Declaration} {rs cs ps : List ℕ} {os us : List Operand} → (delayed : ℕ → Bool) (v : ℕ) →
    Stands ds row values l rs os cs → Stands ds row values l rs us ps → all_fit (map width_of l) (settled delayed v cs ps) ≡ true
unfolding all_fit settled
settled_fit delayed v none_stands none_stands = refl
settled_fit delayed v (more_stands {d = d} {x = c} a ka s) (more_stands {x = p} b kb u) =
    rw (lt-ltb (cond (delayed v) p c) (2 ^ width_of d) (chosen_lt (delayed v) b.fits a.fits)) (settled_fit delayed (v + 1) s u)

chosen_value : (ds : List Declaration) (row : List ℕ) (values : List Value) (t : Bool) {a b : Operand} {w x y : ℕ} → Denotes ds row values a w x →
    Denotes ds row values b w y → operand_value ds row values (cond t a b) ≡ got (record { width = w; number = cond t x y })
chosen_value ds row values true p q = p.is
chosen_value ds row values false p q = q.is

module _ (ds : List Declaration) (row : List ℕ) (values : List Value) (m : Module) (t : Tables) where
  -- the variable v: a register is driven, an input is left
  drives_next : (v : ℕ) (d : Declaration) (l : List Declaration) (r c p : ℕ) (rs cs ps : List ℕ) (a b : Operand) (done : List ℕ) → length done ≡ v →
      register_at ds v ≡ is_register d → variable_width ds v ≡ width_of d → operand_at t.current v ≡ a → operand_at t.pending v ≡ b →
      Denotes ds row values a (width_of d) c → Denotes ds row values b (width_of d) p → (is_register d ≡ false → c ≡ r) → (is_register d ≡ false → p ≡ r) →
      ((x : ℕ) → driven ds row values (done ++ (x ∷ rs)) (drives_of m t (registers_from (v + 1) l)) ≡
      got (done ++ (x ∷ settled (delays_any m.processes) (v + 1) cs ps))) →
      driven ds row values (done ++ (r ∷ rs)) (drives_of m t (registers_from v (d ∷ l))) ≡
      got (done ++ settled (delays_any m.processes) v (c ∷ cs) (p ∷ ps))
  unfolding driven drives_of registers_from settled
  drives_next v d l r c p rs cs ps a b done count register wide ea eb da db kc kp rest = go (is_register d) refl
    where
      go : (k : Bool) → is_register d ≡ k → driven ds row values (done ++ (r ∷ rs)) (drives_of m t (cond k (v ∷ registers_from (v + 1) l) (registers_from (v + 1) l))) ≡
          got (done ++ (cond (delays_any m.processes v) p c ∷ settled (delays_any m.processes) (v + 1) cs ps))
      go true e =
          rw (
            eb,
            ea,
            chosen_value ds row values (delays_any m.processes v) db da,
            register,
            e,
            wide,
            eq-eqb (width_of d) (width_of d) refl,
            set_at done r rs (cond (delays_any m.processes v) p c) v count,
          )
          (rest (cond (delays_any m.processes v) p c))
      go false e = rw (chosen_is (delays_any m.processes v) (kp e) (kc e)) (rest r)

  pub drives_settle : {l : List Declaration} {rs cs ps : List ℕ} {os us : List Operand} → Stands ds row values l rs os cs → Stands ds row values l rs us ps →
      (v : ℕ) (done : List ℕ) → length done ≡ v → From v ds l → From v t.current os → From v t.pending us →
      driven ds row values (done ++ rs) (drives_of m t (registers_from v l)) ≡ got (done ++ settled (delays_any m.processes) v cs ps)
  unfolding driven drives_of registers_from settled
  drives_settle none_stands none_stands v done count f g h = refl
  drives_settle (more_stands {d = d} {r = r} {x = c} {o = a} {l = l} {rs = rs} {xs = cs} da kc s) (more_stands {x = p} {o = b} {xs = ps} db kp u) v done count f g h =
      let later : List ℕ = settled (delays_any m.processes) (v + 1) cs ps in
      let rest : (x : ℕ) → driven ds row values (done ++ (x ∷ rs)) (drives_of m t (registers_from (v + 1) l)) ≡ got (done ++ (x ∷ later)) =
      λ x. rw (append_snoc done x rs, append_snoc done x later) at
      (drives_settle s u (v + 1) (done ++ (x ∷ [])) (simp length-append (omega arith)) (from_next f) (from_next g) (from_next h)) in
      drives_next v d l r c p rs cs ps a b done count (from_map f is_register false) (from_map f width_of 0) (from_at g (Operand.Constant 0 0))
      (from_at h (Operand.Constant 0 0)) da db kc kp rest
