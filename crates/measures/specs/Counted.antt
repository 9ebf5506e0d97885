-- The numbers of each measure after an invoice.
use Rattle.std.specs.Prelude.{ℕ, ◌+◌, ◌-◌, ◌^◌, Bool, cond, ◌&&◌, List, [], ◌∷◌, Some, None, Option, nat_le, slice_index, slice_set}
use Rattle.std.specs.List.{list_all}
use Rattle.measures.specs.declared.categories.Category.{Category}
use Rattle.measures.specs.Categories.{categories_of, id_known, ids_known}

-- the largest count
abbrev pub number_ceiling : ℕ
number_ceiling = 2 ^ 32 - 1

-- the largest sum of amounts
abbrev pub money_ceiling : ℕ
money_ceiling = 2 ^ 64 - 1

-- a number as the one number of a measure, none above the ceiling
abbrev pub at_most : ℕ → ℕ → Option (List ℕ)
at_most ceiling n = cond (nat_le n ceiling) (Some (n ∷ [])) None

-- a count after an invoice: one more
abbrev pub number_counted : List ℕ → ℕ → List ℕ → Option (List ℕ)
number_counted ns amount bs = at_most number_ceiling (slice_index ns 0 + 1)

-- a sum after an invoice: its amount more
abbrev pub money_counted : List ℕ → ℕ → List ℕ → Option (List ℕ)
money_counted ns amount bs = at_most money_ceiling (slice_index ns 0 + amount)

-- whether a category fits a row: its id is known, and the number of its id stays at or below the ceiling
abbrev pub category_fits : Category → List ℕ → Bool
category_fits c row = id_known c.id && nat_le (slice_index row (c.id - 1) + c.amount) money_ceiling

-- a row with a category's amount added to the number of its id
abbrev pub category_added : Category → List ℕ → List ℕ
category_added c row = slice_set row (c.id - 1) (slice_index row (c.id - 1) + c.amount)

-- a row with every category added
abbrev pub row_added : List Category → List ℕ → List ℕ
row_added [] row = row
row_added (c ∷ cs) row = row_added cs (category_added c row)

-- a row after categories: none where an id is foreign or a number comes above the ceiling
abbrev pub row_after : List Category → List ℕ → Option (List ℕ)
row_after cs row = cond (ids_known cs && list_all (λ n. nat_le n money_ceiling) (row_added cs row)) (Some (row_added cs row)) None

-- a row after an invoice
abbrev pub row_counted : List ℕ → ℕ → List ℕ → Option (List ℕ)
row_counted row amount bs = row_after (categories_of bs) row
