-- A list of fields that was written, as the code translates it: one field, and then the fields that follow. From the laws of written fields. Assumes nothing.
use mathlib.Core.Path.{◌≡◌, refl, ap, ◌∙◌}
use mathlib.Core.List.{List, [], ◌++◌}
use Prim.Native.Nat.{ℕ, ◌+◌, ◌<◌}
use lib.ListN.{length}
use Rattle.tagged.specs.Sorts.{tag_of}
use Rattle.tagged.specs.Fields.{field_bytes, Placed, Field, read_from, fields_at}
use Rattle.tagged.specs.declared.sorts.Sort.{Sort}
use Rattle.netlist.specs.declared.Operand.{Operand}
use Rattle.verilog.proofs.WrittenFields.{fields_field}
use Rattle.translate.specs.Tables.{Tables, Translated}
use Rattle.translate.specs.Translation.{after}
use Rattle.translate_blocks.specs.Writing.{Written, Translator, behind, write_all}
use Rattle.translator.proofs.OperandTables.{one_table, Sized}
use Rattle.translator.proofs.JoinedTables.{Gives, gives_by, behind_gives}

-- these bytes are one field, which the code translates so
pub record Leads (count : ℕ) (translate : Translator) (bytes : List ℕ) (table : List Operand) (n : ℕ) (t : Translated) : Type 0 where
  pub sort : Sort
  pub payload : List ℕ
  pub field : bytes ≡ field_bytes (tag_of sort) payload
  pub short : length payload < 65536
  pub gives : Gives count (translate sort payload table n) t

-- and then the fields that follow
pub leads_on : {count : ℕ} {translate : Translator} {bytes : List ℕ} {table : List Operand} {n : ℕ} {t u : Translated} →
    Leads count translate bytes table n t → (after' : List ℕ) →
    ((base : ℕ) → Gives count (write_all translate (fields_at base after') (one_table t.tables) (n + length t.cells)) u) →
    (base : ℕ) → Gives count (write_all translate (fields_at base (bytes ++ after')) table n) (after t.cells u)
unfolding write_all
leads_on {translate = translate} {table = table} {n} {t} x after' rest base =
    let next : ℕ = base + (length x.payload + 3) in
    gives_by
    (ap (λ (l : List ℕ). write_all translate (fields_at base (l ++ after')) table n) x.field
    ∙ ap (λ (l : List (Placed Field)). write_all translate l table n) (fields_field x.sort x.payload after' x.short base)
    ∙ ap (λ (w : Written). behind w.cells (write_all translate (fields_at next after') w.operands (n + length w.cells))) x.gives.same)
    (behind_gives t.cells (rest next))

-- no field follows
pub none_gives : (count : ℕ) (translate : Translator) {t : Tables} (n base : ℕ) → Sized count t →
    Gives count (write_all translate (fields_at base []) (one_table t) n) (record { cells = []; tables = t })
unfolding write_all fields_at read_from
none_gives count translate n base sized = record { same = refl; sized = sized }
