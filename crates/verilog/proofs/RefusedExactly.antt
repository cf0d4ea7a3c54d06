-- A module is refused exactly when it breaks a written rule, with the first such number and its first place; accepted exactly when it breaks none.
-- From the laws of the first broken element and rule, the relation in words (BreaksLaws), and that places rise with the order of the fields.
use Rattle.tagged.specs.Answers.{acceptance, refused as refusal, fault_at, number_of, Answer}
use Rattle.std.specs.Prelude.{Ok, Err, Some, None}
use mathlib.Core.Path.{◌≡◌, refl, sym, ap, ◌∙◌}
use mathlib.Core.Bool.{Bool, true, false, false≢true}
use mathlib.Core.List.{List, [], ◌∷◌, Memᴰ}
use mathlib.Core.Logic.{◌↔◌}
use Prim.Native.Nat.{ℕ, ◌<◌}
use Rattle.tagged.specs.Fields.{unplaced, Step}
use Rattle.tagged.specs.Limits.{longest_module}
use Rattle.tagged.specs.Files.{file_answer}
use Rattle.tagged.specs.Refusals.{after_form, after_answer}
use Rattle.tagged.specs.Stands.{Stands}
use Rattle.tagged.specs.declared.answers.Rule.{Rule}
use Rattle.tagged.proofs.RefusalLaws.{one_rule, one_place, nowhere_passes, passes_nowhere, FirstBreak, at_first, first_at, Rising, order_rising, accepted_none, none_accepted, none_each, each_none, refused_first, first_refused, first_lower, lower_first, first_broken_lem}
use Rattle.tagged.proofs.FileLaws.{accepted_parts}
use Rattle.verilog.specs.Tree.{Module}
use Rattle.verilog.specs.Nodes.{Node, module_nodes}
use Rattle.verilog.specs.Rules.{breaks, module_broken}
use Rattle.verilog.specs.Form.{module_form}
use Rattle.verilog.specs.Reading.{module_in}
use Rattle.verilog.specs.Answer.{module_rules, tree_answer, module_answer}
use Rattle.verilog.specs.Breaks.{Breaks}
use Rattle.verilog.proofs.RisingPlaces.{earlier_smaller_place}
use Rattle.verilog.proofs.BreaksLaws.{BrokenAt, breaks_node}

rules_rise : Rising 3 module_rules
unfolding number_of
rules_rise = order_rising 3 module_rules refl

module _ (m : Module) where
  -- the test of rule k, of a field after those before it
  abbrev test : Rule → List Node → Node → Bool
  test k = breaks m.declarations (unplaced (module_nodes 3 m)) k

  passes_unless : (k : Rule) {before : List Node} {p : ℕ} {n : Node} → Stands (module_nodes 3 m) before p n → (Breaks m k p → ⊥) → test k before n ≡ false
  passes_unless k {before} {p} {n} s unbroken = go (test k before n) refl
    where
      go : (t : Bool) → test k before n ≡ t → test k before n ≡ false
      go true e = absurd (unbroken ((breaks_node m k p).1 (record { before = before; node = n; stands = s; broken = e })))
      go false e = e

  -- a rule has no place exactly when nothing breaks it, and the place p exactly when what breaks it first stands there
  nowhere_none : (k : Rule) → module_broken 3 m k ≡ None → (p : ℕ) → Breaks m k p → ⊥
  unfolding module_broken
  nowhere_none k e p b =
      let f = (breaks_node m k p).0 b in
      false≢true (sym (nowhere_passes (test k) [] f.stands e) ∙ f.broken)

  none_nowhere : (k : Rule) → ((p : ℕ) → Breaks m k p → ⊥) → module_broken 3 m k ≡ None
  unfolding module_broken
  none_nowhere k h = passes_nowhere (test k) [] (module_nodes 3 m) (λ before p n s. passes_unless k s (h p))

  at_breaks : (k : Rule) (p : ℕ) → module_broken 3 m k ≡ Some p → Breaks m k p × ((q : ℕ) → q < p → Breaks m k q → ⊥)
  unfolding module_broken
  at_breaks k p e = ((breaks_node m k p).1 (record { before = f.before; node = f.what; stands = f.stands; broken = f.broken }), sooner)
    where
      f : FirstBreak (test k) [] (module_nodes 3 m) p
      f = at_first (test k) [] (module_nodes 3 m) p e

      sooner : (q : ℕ) → q < p → Breaks m k q → ⊥
      sooner q less b =
          let g = (breaks_node m k q).0 b in
          let fewer = (earlier_smaller_place m g.stands f.stands).1 less in
          false≢true (sym (f.others g.before q g.node g.stands fewer) ∙ g.broken)

  breaks_at : (k : Rule) (p : ℕ) → Breaks m k p → ((q : ℕ) → q < p → Breaks m k q → ⊥) → module_broken 3 m k ≡ Some p
  unfolding module_broken
  breaks_at k p b sooner =
      let f = (breaks_node m k p).0 b in
      first_at (test k) [] f.stands f.broken
      (λ c q n s fewer. passes_unless k s (sooner q ((earlier_smaller_place m s f.stands).0 fewer)))

  -- only the rules of the list can be broken
  after_six : {k : Rule} → Memᴰ k (Rule.BothKinds ∷ Rule.TwoProcesses ∷ Rule.ReadElsewhere ∷ []) → Memᴰ k module_rules
  after_six i = Memᴰ.tail (Memᴰ.tail (Memᴰ.tail (Memᴰ.tail (Memᴰ.tail (Memᴰ.tail i)))))

  rule_listed : (k : Rule) {p : ℕ} → BrokenAt m k p → Memᴰ k module_rules
  unfolding breaks
  rule_listed Rule.Value f = Memᴰ.head refl
  rule_listed Rule.Name f = Memᴰ.tail (Memᴰ.head refl)
  rule_listed Rule.Count f = Memᴰ.tail (Memᴰ.tail (Memᴰ.head refl))
  rule_listed Rule.Reference f = Memᴰ.tail (Memᴰ.tail (Memᴰ.tail (Memᴰ.head refl)))
  rule_listed Rule.Widths f = Memᴰ.tail (Memᴰ.tail (Memᴰ.tail (Memᴰ.tail (Memᴰ.head refl))))
  rule_listed Rule.BitNumber f = Memᴰ.tail (Memᴰ.tail (Memᴰ.tail (Memᴰ.tail (Memᴰ.tail (Memᴰ.head refl)))))
  rule_listed Rule.BothKinds f = after_six (Memᴰ.head refl)
  rule_listed Rule.TwoProcesses f = after_six (Memᴰ.tail (Memᴰ.head refl))
  rule_listed Rule.ReadElsewhere f = after_six (Memᴰ.tail (Memᴰ.tail (Memᴰ.head refl)))
  rule_listed Rule.FileLength f = absurd (false≢true f.broken)
  rule_listed Rule.Form f = absurd (false≢true f.broken)
  rule_listed Rule.Cells f = absurd (false≢true f.broken)
  rule_listed Rule.Buffer f = absurd (false≢true f.broken)
  rule_listed Rule.Row f = absurd (false≢true f.broken)

  breaks_listed : {k : Rule} {p : ℕ} → Breaks m k p → Memᴰ k module_rules
  breaks_listed {k} {p} b = rule_listed k ((breaks_node m k p).0 b)

-- what a refusal says: the field at p breaks rule k, no field before p breaks it, and no field breaks a rule of a lower number
pub record RefusedFor (m : Module) (k : Rule) (p : ℕ) : Type 0 where
  pub breaks : Breaks m k p
  pub first_place : (q : ℕ) → q < p → Breaks m k q → ⊥
  pub lowest_number : (j : Rule) (q : ℕ) → number_of j < number_of k → Breaks m j q → ⊥

-- Demand 2: a module is refused exactly when it breaks a written rule, with the first such number; its place is that of the first field that breaks it
pub refused : (m : Module) (k : Rule) (p : ℕ) → tree_answer 3 m ≡ Err (refusal k p) ↔ RefusedFor m k p
unfolding tree_answer
refused m k p = (forth, back)
  where
    forth : tree_answer 3 m ≡ Err (refusal k p) → RefusedFor m k p
    forth e =
        let f = refused_first (module_broken 3 m) module_rules e in
        let at = at_breaks m k p (first_broken_lem (module_broken 3 m) f) in
        record {
          breaks = at.0;
          first_place = at.1;
          lowest_number = λ j q less b. nowhere_none m j (first_lower (module_broken 3 m) rules_rise f j (breaks_listed m b) less) q b;
        }

    back : RefusedFor m k p → tree_answer 3 m ≡ Err (refusal k p)
    back r =
        first_refused (module_broken 3 m)
        (lower_first (module_broken 3 m) rules_rise (breaks_listed m r.breaks) (breaks_at m k p r.breaks r.first_place)
        (λ j i less. none_nowhere m j (λ q b. r.lowest_number j q less b)))

-- Demand 2, the other side: a module is accepted exactly when no field breaks a rule
pub accepted : (m : Module) → tree_answer 3 m ≡ acceptance ↔ ((k : Rule) (p : ℕ) → Breaks m k p → ⊥)
unfolding tree_answer
accepted m = (
  λ e k p b. nowhere_none m k (none_each (module_broken 3 m) (accepted_none (module_broken 3 m) module_rules e) k (breaks_listed m b)) p b,
  λ h. none_accepted (module_broken 3 m) (each_none (module_broken 3 m) module_rules (λ k i. none_nowhere m k (h k))),
)

-- Demand 2 on files: by its length, else by its form, else by the rules of its tree, in this order
pub data FileRefused (file : List ℕ) : Rule → ℕ → Type 0 where
  by_length : {k : Rule} {p : ℕ} → file_answer longest_module file ≡ Err (refusal k p) → FileRefused file k p
  by_form : {p : ℕ} → file_answer longest_module file ≡ acceptance → module_form file ≡ Err (fault_at p) → FileRefused file Rule.Form p
  by_rule : {k : Rule} {p n : ℕ} → file_answer longest_module file ≡ acceptance → module_form file ≡ Ok n → RefusedFor (module_in file) k p →
      FileRefused file k p

pub file_refused : (file : List ℕ) (k : Rule) (p : ℕ) → module_answer file ≡ Err (refusal k p) ↔ FileRefused file k p
unfolding module_answer
file_refused file k p = (λ e. forth (file_answer longest_module file) refl (module_form file) refl e, back)
  where
    forth : (a : Answer) → file_answer longest_module file ≡ a → (s : Step) → module_form file ≡ s →
        after_answer a (after_form s (tree_answer 3 (module_in file))) ≡ Err (refusal k p) → FileRefused file k p
    forth (Err r) h s g e = by_length (h ∙ e)
    forth (Ok _) h (Err q) g e =
        let same : Rule.Form ≡ k = one_rule e in
        rw (← same) (by_form h (g ∙ ap (λ (n : ℕ). Err (fault_at n)) (one_place e)))
    forth (Ok _) h (Ok n) g e = by_rule h g ((refused (module_in file) k p).0 e)

    back : {k : Rule} {p : ℕ} → FileRefused file k p →
        after_answer (file_answer longest_module file) (after_form (module_form file) (tree_answer 3 (module_in file))) ≡ Err (refusal k p)
    back (by_length h) = rw h
    back (by_form h g) = rw (h, g)
    back (by_rule {k} {p} h g r) = rw (h, g) ((refused (module_in file) k p).1 r)

-- what an accepted file is: of a good length and form, and no field breaks a rule
pub record FileAccepted (file : List ℕ) : Type 0 where
  pub size : ℕ
  pub long : file_answer longest_module file ≡ acceptance
  pub form : module_form file ≡ Ok size
  pub unbroken : (k : Rule) (p : ℕ) → Breaks (module_in file) k p → ⊥

pub file_accepted : (file : List ℕ) → module_answer file ≡ acceptance ↔ FileAccepted file
unfolding module_answer
file_accepted file = (forth, λ f. rw (f.long, f.form) ((accepted (module_in file)).1 f.unbroken))
  where
    forth : module_answer file ≡ acceptance → FileAccepted file
    forth e =
        let p = accepted_parts (file_answer longest_module file) (module_form file) (tree_answer 3 (module_in file)) e in
        record { size = p.0; long = p.1; form = p.2; unbroken = (accepted (module_in file)).0 p.3 }
