-- Where the fields of an image begin and how many bytes they have: six records, each a kind byte and its fields.
use Rattle.std.specs.Prelude.{ℕ, ◌+◌, ◌*◌, List, [], ◌∷◌, ◌++◌}

-- the bytes of a count, a sum, an amount, the PIN and an answer
abbrev pub count_width : ℕ
count_width = 4

abbrev pub sum_width : ℕ
sum_width = 8

abbrev pub amount_width : ℕ
amount_width = 7

abbrev pub pin_width : ℕ
pin_width = 4

abbrev pub answer_width : ℕ
answer_width = 577

-- the ids of a row
abbrev pub ids : ℕ
ids = 12

-- the bytes of the counters, the sums and the rows of both sides
abbrev pub counters_width : ℕ
counters_width = 2 * count_width

abbrev pub sums_width : ℕ
sums_width = 2 * sum_width

abbrev pub rows_width : ℕ
rows_width = 2 * (sum_width * ids)

-- the bytes of a mark and of the last answer, each with its flag
abbrev pub mark_width : ℕ
mark_width = 1 + count_width + amount_width

abbrev pub last_width : ℕ
last_width = 1 + answer_width

-- record 01: the counters and sums of sales and refunds
abbrev pub counters_kind_at : ℕ
counters_kind_at = 0

abbrev pub counters_at : ℕ
counters_at = counters_kind_at + 1

abbrev pub sums_at : ℕ
sums_at = counters_at + counters_width

-- record 02: the unaudited amount, its limit, and the mark: a flag, the counter and the amount
abbrev pub money_kind_at : ℕ
money_kind_at = sums_at + sums_width

abbrev pub unaudited_at : ℕ
unaudited_at = money_kind_at + 1

abbrev pub limit_at : ℕ
limit_at = unaudited_at + amount_width

abbrev pub mark_at : ℕ
mark_at = limit_at + amount_width

abbrev pub mark_counter_at : ℕ
mark_counter_at = mark_at + 1

abbrev pub mark_amount_at : ℕ
mark_amount_at = mark_counter_at + count_width

-- record 03: the PIN and its tries left
abbrev pub pin_kind_at : ℕ
pin_kind_at = mark_amount_at + amount_width

abbrev pub pin_at : ℕ
pin_at = pin_kind_at + 1

abbrev pub tries_at : ℕ
tries_at = pin_at + pin_width

-- record 04: the rows of sales and refunds
abbrev pub rows_kind_at : ℕ
rows_kind_at = tries_at + 1

abbrev pub rows_at : ℕ
rows_at = rows_kind_at + 1

-- record 05: the last answer: a flag and its bytes
abbrev pub last_kind_at : ℕ
last_kind_at = rows_at + rows_width

abbrev pub last_at : ℕ
last_at = last_kind_at + 1

abbrev pub answer_at : ℕ
answer_at = last_at + 1

-- record 06: the key version
abbrev pub key_kind_at : ℕ
key_kind_at = answer_at + answer_width

abbrev pub key_at : ℕ
key_at = key_kind_at + 1

-- the bytes of the fields of each record in order, its kind byte and flag among them
abbrev pub counters_widths : List ℕ
counters_widths = 1 ∷ counters_width ∷ sums_width ∷ []

abbrev pub money_widths : List ℕ
money_widths = 1 ∷ amount_width ∷ amount_width ∷ 1 ∷ count_width ∷ amount_width ∷ []

abbrev pub pin_widths : List ℕ
pin_widths = 1 ∷ pin_width ∷ 1 ∷ []

abbrev pub rows_widths : List ℕ
rows_widths = 1 ∷ rows_width ∷ []

abbrev pub last_widths : List ℕ
last_widths = 1 ∷ 1 ∷ answer_width ∷ []

abbrev pub key_widths : List ℕ
key_widths = 1 ∷ count_width ∷ []

-- the bytes of all fields in order
abbrev pub widths : List ℕ
widths = counters_widths ++ (money_widths ++ (pin_widths ++ (rows_widths ++ (last_widths ++ key_widths))))
