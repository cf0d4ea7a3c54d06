-- Blocks and items as lists: of statements, and of items with a default block; their bytes are those of the lists.
use mathlib.Core.Path.{◌≡◌, refl, sym, ap, ◌∙◌}
use mathlib.Core.List.{List, [], ◌∷◌, ◌++◌, append_assoc}
use Prim.Native.Nat.{ℕ}
use Rattle.tagged.specs.Bytes.{four_bytes}
use Rattle.tagged.specs.Sorts.{tag_of}
use Rattle.tagged.specs.Fields.{field_bytes, all_bytes_of}
use Rattle.tagged.specs.declared.sorts.ExpressionSort.TheVariants as ExpressionSort
use Rattle.tagged.specs.declared.sorts.Sort.{Sort}
use Rattle.verilog.specs.Tree.{Statement, Block, end, ◌then◌, Items, default, item}
use Rattle.verilog.specs.Form.{expression_field, statement_bytes, block_payload, items_bytes, block_bytes}
use Rattle.verilog.specs.Reading.{block_from, ReadItem, items_from}

abbrev pub statements_of : Block → List Statement
statements_of end = []
statements_of (s then b) = s ∷ statements_of b

pub block_again : (b : Block) → block_from (statements_of b) ≡ b
block_again end = refl
block_again (s then b) = ap (λ (x : Block). s then x) (block_again b)

pub from_bytes : (l : List Statement) → block_payload (block_from l) ≡ all_bytes_of statement_bytes l
unfolding block_payload all_bytes_of
from_bytes [] = refl
from_bytes (s ∷ l) = ap (λ (x : List ℕ). statement_bytes s ++ x) (from_bytes l)

pub block_bytes_lem : (b : Block) → block_payload b ≡ all_bytes_of statement_bytes (statements_of b)
block_bytes_lem b = ap block_payload (sym (block_again b)) ∙ from_bytes (statements_of b)

-- an item's bytes
unfoldable pub item_bytes : ReadItem → List ℕ
item_bytes i = field_bytes (tag_of Sort.Item) (expression_field ExpressionSort.Constant (i.width ∷ four_bytes i.value) ++ block_bytes i.block)

abbrev pub items_of : Items → List ReadItem
items_of (default b) = []
items_of (item w v b items) = record { width = w; value = v; block = b } ∷ items_of items

abbrev pub default_of : Items → Block
default_of (default b) = b
default_of (item w v b items) = default_of items

pub items_again : (items : Items) → items_from (items_of items) (default_of items) ≡ items
items_again (default b) = refl
items_again (item w v b items) = ap (item w v b) (items_again items)

pub items_from_bytes : (l : List ReadItem) (b : Block) → items_bytes (items_from l b) ≡ all_bytes_of item_bytes l ++ block_bytes b
unfolding items_bytes all_bytes_of item_bytes block_bytes
items_from_bytes [] b = refl
items_from_bytes (i ∷ l) b = ap (λ (x : List ℕ). item_bytes i ++ x) (items_from_bytes l b) ∙ sym (append_assoc (item_bytes i) (all_bytes_of item_bytes l) (block_bytes b))

pub items_bytes_lem : (items : Items) → items_bytes items ≡ all_bytes_of item_bytes (items_of items) ++ block_bytes (default_of items)
items_bytes_lem items = ap items_bytes (sym (items_again items)) ∙ items_from_bytes (items_of items) (default_of items)
