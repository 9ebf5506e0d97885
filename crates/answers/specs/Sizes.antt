-- The sizes of what the commands answer, and where the fields of an answer begin.
use Rattle.std.specs.Prelude.{ℕ, ◌+◌, ◌-◌, ◌*◌}
use Rattle.measures.specs.Sizes.{amount_size, number_size, taxpayer_at, count_at}
use Rattle.sealers.specs.Sizes.{block_size, answer_size}

-- the bytes of a status word
abbrev pub word_size : ℕ
word_size = 2

-- the bytes of the edition: three numbers
abbrev pub version_size : ℕ
version_size = 3 * number_size

-- the byte of the tries left
abbrev pub tries_size : ℕ
tries_size = 1

-- an answer of amounts: the unaudited amount and its limit
abbrev pub limit_at : ℕ
limit_at = amount_size

abbrev pub amounts_size : ℕ
amounts_size = limit_at + amount_size

-- a signing answer: the fields of the body before its count, the counter of the side, the total counter, the covered
-- block and the seal
abbrev pub side_at : ℕ
side_at = count_at

abbrev pub total_at : ℕ
total_at = side_at + number_size

abbrev pub block_at : ℕ
block_at = total_at + number_size

abbrev pub seal_at : ℕ
seal_at = block_at + block_size

abbrev pub signed_size : ℕ
signed_size = seal_at + answer_size

-- an export: the key version, the covered block, the invoice without its date, and the seal
abbrev pub export_size : ℕ
export_size = number_size + block_size + (count_at - taxpayer_at) + answer_size
