-- The categories of an invoice.
use Rattle.std.specs.Prelude.{ℕ, zero, suc, ◌+◌, ◌/◌, Bool, ◌&&◌, List, [], ◌∷◌, length, drop, nat_le, slice_index}
use Rattle.std.specs.List.{list_all}
use Rattle.octets.specs.Big.{big}
use Rattle.octets.specs.Parts.{part}
use Rattle.measures.specs.declared.categories.Category.{Category}
use Rattle.measures.specs.Sizes.{category_size, amount_size, id_count}

-- a category by its id and amount
abbrev pub category : ℕ → ℕ → Category
category id amount = record { id = id; amount = amount }

-- the category that begins at a byte
abbrev pub category_at : ℕ → List ℕ → Category
category_at at bs = category (slice_index bs at) (big (part (at + 1) amount_size bs))

-- the first k categories in the bytes
unfoldable pub categories_in : ℕ → List ℕ → List Category
categories_in zero bs = []
categories_in (suc k) bs = category_at 0 bs ∷ categories_in k (drop category_size bs)

-- the categories in the bytes; bytes at the end that are fewer than a category has are none
abbrev pub categories_of : List ℕ → List Category
categories_of bs = categories_in (length bs / category_size) bs

-- whether an id is one of those that a category can have
abbrev pub id_known : ℕ → Bool
id_known id = nat_le 1 id && nat_le id id_count

-- whether the id of every category is known
abbrev pub ids_known : List Category → Bool
ids_known cs = list_all (λ c. id_known c.id) cs
