-- Lists of fields for readers that go with a judge: a list that was passed is written as it stood.
use Rattle.std.specs.Prelude.{Ok}
use mathlib.Core.Path.{◌≡◌, sym, ◌∙◌}
use mathlib.Core.Bool.{Bool}
use mathlib.Core.List.{List}
use Prim.Native.Nat.{ℕ, ◌≤◌}
use native.Mathlib.Omega.{arith}
use lib.ListN.{length, take}
use lib.Seq.{take_all}
use Rattle.tagged.specs.Bytes.{AllBytes}
use Rattle.tagged.specs.declared.sorts.Sort.{Sort}
use Rattle.tagged.specs.Fields.{faultless, all_bytes_of, Body, field_by, many, until_end}
use Rattle.tagged.proofs.RunLaws.{Known, until_run, list_in, run_listed}
use Rattle.tagged.proofs.ListBytes.{Run, many_run}
use Rattle.verilog.proofs.FrontLaws.{Returns}

module _ {A : Type 0} (wanted : Sort → Bool) (body : Body) (read : Sort → List ℕ → A) (bytes : A → List ℕ) (known : Known wanted)
    (returns : Returns wanted body read bytes) where
  run_returns : {base m : ℕ} {l : List ℕ} → AllBytes l → Run wanted body base l m → (take m l ≡ all_bytes_of bytes (list_in wanted body read bytes l)) × (m ≤ length l)
  run_returns {base} {m} {l} h run =
      let r = run_listed wanted body read bytes known (λ at s p all is fine. (returns at s p all fine).written) h run in
      (r.written, r.within)

  -- fields while they are wanted
  pub many_returns : (base owner : ℕ) (l : List ℕ) (m : ℕ) → AllBytes l → many wanted (field_by body) base owner l ≡ Ok m →
      (take m l ≡ all_bytes_of bytes (list_in wanted body read bytes l)) × (m ≤ length l)
  many_returns base owner l m h e = run_returns h (many_run wanted body (length l) base owner l m (omega arith) e)

  -- fields until the end
  pub until_returns : (base owner : ℕ) (l : List ℕ) → AllBytes l → until_end (field_by body) base owner l ≡ faultless → all_bytes_of bytes (list_in wanted body read bytes l) ≡ l
  until_returns base owner l h e =
      let u = until_run wanted body (λ b s p all fine. (returns b s p all fine).is) base owner l h e in
      sym (run_returns h u.1).0 ∙ take_all u.0 l u.2
