-- The table of variables: what it holds at each index, and how a list of declarations fills it one by one.
use mathlib.Core.Path.{◌≡◌, refl, sym, ap, ap₂, ◌∙◌}
use mathlib.Core.Bool.{Bool, false}
use mathlib.Core.List.{List, [], ◌∷◌, ◌++◌, map, append_assoc, append-nil}
use Prim.Native.Nat.{ℕ, zero, suc, ◌+◌, ◌≤◌, ◌<◌}
use native.Mathlib.Omega.{arith}
use lib.ListN.{length, get_or, take, set, replicate, length-append, length-map}
use Rattle.std.proofs.lemmas.List.{map-append}
use Rattle.tagged.specs.Limits.{most_variables}
use Rattle.tagged.specs.Declarations.{Declaration, width_of, is_register, table_of, variable_table, with_variable}
use Rattle.tagged.specs.declared.declarations.VariableTable.{VariableTable}

module _ {A : Type 0} (none : A) where
  pub table_length : (n : ℕ) (l : List A) → length (table_of none n l) ≡ n
  unfolding table_of
  table_length zero l = refl
  table_length (suc n) [] = ap suc (table_length n [])
  table_length (suc n) (x ∷ l) = ap suc (table_length n l)

  -- below its length a table is as its list
  pub table_at : (n : ℕ) (l : List A) (i : ℕ) → i < n → get_or (table_of none n l) i none ≡ get_or l i none
  unfolding table_of
  table_at zero l i h = absurd (omega arith)
  table_at (suc n) [] zero h = refl
  table_at (suc n) [] (suc i) h = table_at n [] i (omega arith)
  table_at (suc n) (x ∷ l) zero h = refl
  table_at (suc n) (x ∷ l) (suc i) h = table_at n l i (omega arith)

  -- a list that the table has room for stands in its front
  pub table_front : (n : ℕ) (l : List A) → length l ≤ n → take (length l) (table_of none n l) ≡ l
  unfolding table_of
  table_front zero [] h = refl
  table_front zero (x ∷ l) h = absurd (omega arith)
  table_front (suc n) [] h = refl
  table_front (suc n) (x ∷ l) h = ap (λ (y : List A). x ∷ y) (table_front n l (omega arith))

  -- one item more, so far as there is room
  pub table_more : (n : ℕ) (l : List A) (x : A) → set (table_of none n l) (length l) x ≡ table_of none n (l ++ (x ∷ []))
  unfolding table_of
  table_more zero [] x = refl
  table_more zero (y ∷ l) x = refl
  table_more (suc n) [] x = refl
  table_more (suc n) (y ∷ l) x = ap (λ (z : List A). y ∷ z) (table_more n l x)

  -- a new table
  pub filled_at : (n v : ℕ) → get_or (replicate n none) v none ≡ none
  filled_at zero v = refl
  filled_at (suc n) zero = refl
  filled_at (suc n) (suc v) = filled_at n v

-- one column of the table
column_more : {B : Type 0} (none : B) (f : Declaration → B) (l : List Declaration) (d : Declaration) →
    set (table_of none most_variables (map f l)) (length l) (f d) ≡ table_of none most_variables (map f (l ++ (d ∷ [])))
column_more none f l d =
    ap (λ (k : ℕ). set (table_of none most_variables (map f l)) k (f d)) (sym (length-map l f))
    ∙ table_more none most_variables (map f l) (f d) ∙ ap (table_of none most_variables) (sym (map-append f l (d ∷ [])))

-- the table of a list and one declaration more
pub table_with : (l : List Declaration) (d : Declaration) → with_variable (variable_table l) (width_of d) (is_register d) ≡ variable_table (l ++ (d ∷ []))
unfolding with_variable variable_table
table_with l d = λ i. record {
  count = long i;
  widths = column_more 0 width_of l d i;
  registers = column_more false is_register l d i;
}
  where
    long : length l + 1 ≡ length (l ++ (d ∷ []))
    long = sym (length-append l (d ∷ []))

-- a table filled with the declarations of a list
pub extend : VariableTable → List Declaration → VariableTable
extend t [] = t
extend t (d ∷ l) = extend (with_variable t (width_of d) (is_register d)) l

pub extend_table : (done l : List Declaration) → extend (variable_table done) l ≡ variable_table (done ++ l)
unfolding extend
extend_table done [] = ap variable_table (sym (append-nil done))
extend_table done (d ∷ l) = ap (λ (t : VariableTable). extend t l) (table_with done d) ∙ extend_table (done ++ (d ∷ [])) l ∙ ap variable_table (append_assoc done (d ∷ []) l)

-- the loop that fills a table: from the empty one, one turn, and the end
pub extend_start : (l : List Declaration) → extend (record { count = 0; widths = replicate most_variables 0; registers = replicate most_variables false }) l ≡ variable_table l
unfolding variable_table table_of
extend_start l = extend_table [] l

pub extend_more : {whole : VariableTable} (t : VariableTable) (l : List Declaration) (d : Declaration) (after : List Declaration) → l ≡ d ∷ after → extend t l ≡ whole →
    (w : ℕ) (m : Bool) → w ≡ width_of d → m ≡ is_register d → (r : VariableTable) → r ≡ with_variable t w m → extend r after ≡ whole
unfolding extend
extend_more t l d after more going w m we me r e = ap (λ (t : VariableTable). extend t after) (e ∙ ap₂ (with_variable t) we me) ∙ rw more at going

pub extend_done : {whole : VariableTable} (t : VariableTable) (l : List Declaration) → l ≡ [] → extend t l ≡ whole → t ≡ whole
unfolding extend
extend_done t l none going = rw none at going

pub with_count : (t : VariableTable) (w : ℕ) (m : Bool) (r : VariableTable) → r ≡ with_variable t w m → r.count ≡ t.count + 1
unfolding with_variable
with_count t w m r e = ap (λ (t : VariableTable). t.count) e

-- the front of a table that has room for all
module _ {A B : Type 0} (none : B) (f : A → B) (room : ℕ) (items : List A) (few : length items ≤ room) (table : List B) (held : table ≡ table_of none room (map f items))
    (count : ℕ) (all : count ≡ length items) where
  pub front_all : take count table ≡ map f items
  front_all =
      let long = length-map items f in
      ap₂ take (all ∙ sym long) held ∙ table_front none room (map f items) (omega arith)

-- what a table of variables tells
module _ (ds : List Declaration) (table : VariableTable) (made : table ≡ variable_table ds) where
  pub told_widths : table.widths ≡ table_of 0 most_variables (map width_of ds)
  unfolding variable_table
  told_widths = ap (λ (t : VariableTable). t.widths) made

  pub told_marks : table.registers ≡ table_of false most_variables (map is_register ds)
  unfolding variable_table
  told_marks = ap (λ (t : VariableTable). t.registers) made

  told_count : table.count ≡ length ds
  unfolding variable_table
  told_count = ap (λ (t : VariableTable). t.count) made

  pub widths_long : length table.widths ≡ most_variables
  widths_long = ap length told_widths ∙ table_length 0 most_variables (map width_of ds)

  pub marks_long : length table.registers ≡ most_variables
  marks_long = ap length told_marks ∙ table_length false most_variables (map is_register ds)

  module _ (told : ℕ) (whole : table.count ≤ most_variables → told ≡ table.count) (few : length ds ≤ most_variables) where
    told_all : told ≡ length ds
    told_all = whole (omega (arith, told_count)) ∙ told_count

    pub widths_known : map width_of ds ≡ take told table.widths
    widths_known = sym (front_all 0 width_of most_variables ds few table.widths told_widths told told_all)

    pub marks_known : map is_register ds ≡ take told table.registers
    marks_known = sym (front_all false is_register most_variables ds few table.registers told_marks told told_all)

-- a table of all the variables, as many as it counts
module _ (ds : List Declaration) (table : VariableTable) (made : table ≡ variable_table ds) (few : length ds ≤ most_variables) where
  pub count_fits : table.count ≤ most_variables
  unfolding variable_table
  count_fits = omega (arith, ap (λ (t : VariableTable). t.count) made)

  pub widths_all : take table.count table.widths ≡ map width_of ds
  widths_all = sym (widths_known ds table made table.count (λ h. refl) few)
