-- The sizes of a signing body and of what is stored, and where the fields of a body lie.
use Rattle.std.specs.Prelude.{ℕ}

-- the bytes of a body before its categories
abbrev pub head_size : ℕ
head_size = 58

-- the bytes of a category, of which the first is its id and the others are its amount
abbrev pub category_size : ℕ
category_size = 8

-- the bytes of an amount
abbrev pub amount_size : ℕ
amount_size = 7

-- the bytes of an identifier
abbrev pub identifier_size : ℕ
identifier_size = 20

-- the ids that a category can have are 1 to 12, and a body has at most as many categories
abbrev pub id_count : ℕ
id_count = 12

-- where the taxpayer identifier begins
abbrev pub taxpayer_at : ℕ
taxpayer_at = 8

-- where the buyer identifier begins
abbrev pub buyer_at : ℕ
buyer_at = 28

-- where the type stands
abbrev pub type_at : ℕ
type_at = 48

-- where the transaction stands
abbrev pub transaction_at : ℕ
transaction_at = 49

-- where the amount begins
abbrev pub amount_at : ℕ
amount_at = 50

-- where the count of the categories stands
abbrev pub count_at : ℕ
count_at = 57

-- the largest type
abbrev pub last_type : ℕ
last_type = 4

-- the bytes of a stored count
abbrev pub number_size : ℕ
number_size = 4

-- the bytes of a stored sum
abbrev pub money_size : ℕ
money_size = 8
