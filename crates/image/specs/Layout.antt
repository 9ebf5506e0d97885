-- What an image means, and how it lies in bytes.
use Rattle.std.specs.Prelude.{ℕ, cond, List, [], ◌∷◌, ◌++◌, replicate, Some, None, Option, ◌==◌, slice_index}
use Rattle.octets.specs.Big.{be, big}
use Rattle.octets.specs.Parts.{part}
use Rattle.ledger.specs.Sides.{Sides, sides, packed_sides, sides_in}
use Rattle.image.specs.declared.fields.Image.{Image}
use Rattle.image.specs.declared.fields.Mark.{Mark}
use Rattle.image.specs.Places.{counters_at, sums_at, unaudited_at, limit_at, mark_at, mark_counter_at, mark_amount_at, pin_at, tries_at, rows_at, last_at, answer_at, key_at, count_width, sum_width, amount_width, pin_width, answer_width, counters_width, sums_width, rows_width, ids}

-- what an image means: the numbers of its tallies, and its other fields
pub record Meaning : Type 0 where
  pub counters : Sides
  pub sums : Sides
  pub unaudited : ℕ
  pub limit : ℕ
  pub mark : Option Mark
  pub pin : List ℕ
  pub tries : ℕ
  pub rows : Sides
  pub last : Option (List ℕ)
  pub key_version : ℕ

-- what an image of the code means
abbrev pub meaning : Image → Meaning
meaning i = record {
  counters = sides (λ n. n.value ∷ []) i.counters;
  sums = sides (λ n. n.value ∷ []) i.sums;
  unaudited = i.unaudited;
  limit = i.limit;
  mark = i.mark;
  pin = i.pin;
  tries = i.tries;
  rows = sides (λ r. r.value) i.rows;
  last = i.last;
  key_version = i.key_version;
}

-- the flag of a mark: without a mark its fields are zero
abbrev pub mark_flag : Option Mark → ℕ
mark_flag (Some m) = 1
mark_flag None = 0

-- the counter of a mark as it is stored
abbrev pub mark_counter : Option Mark → ℕ
mark_counter (Some m) = m.counter
mark_counter None = 0

-- the amount of a mark as it is stored
abbrev pub mark_amount : Option Mark → ℕ
mark_amount (Some m) = m.amount
mark_amount None = 0

-- the flag of the last answer: before the first signing its bytes are zero
abbrev pub last_flag : Option (List ℕ) → ℕ
last_flag (Some answer) = 1
last_flag None = 0

-- the bytes of no answer
unfoldable pub no_answer : List ℕ
no_answer = replicate answer_width 0

-- the bytes of the last answer as they are stored
abbrev pub last_bytes : Option (List ℕ) → List ℕ
last_bytes (Some answer) = answer
last_bytes None = no_answer

-- record 01, its fields as bytes in order: kind, counters, sums
abbrev pub counters_record : Meaning → List (List ℕ)
counters_record i = be 1 0x01 ∷ packed_sides count_width i.counters ∷ packed_sides sum_width i.sums ∷ []

-- record 02: kind, unaudited amount, limit, mark
abbrev pub money_record : Meaning → List (List ℕ)
money_record i =
    be 1 0x02 ∷ be amount_width i.unaudited ∷ be amount_width i.limit
    ∷ be 1 (mark_flag i.mark) ∷ be count_width (mark_counter i.mark) ∷ be amount_width (mark_amount i.mark) ∷ []

-- record 03: kind, PIN, tries left
abbrev pub pin_record : Meaning → List (List ℕ)
pin_record i = be 1 0x03 ∷ i.pin ∷ be 1 i.tries ∷ []

-- record 04: kind, rows
abbrev pub rows_record : Meaning → List (List ℕ)
rows_record i = be 1 0x04 ∷ packed_sides sum_width i.rows ∷ []

-- record 05: kind, flag, last answer
abbrev pub last_record : Meaning → List (List ℕ)
last_record i = be 1 0x05 ∷ be 1 (last_flag i.last) ∷ last_bytes i.last ∷ []

-- record 06: kind, key version
abbrev pub key_record : Meaning → List (List ℕ)
key_record i = be 1 0x06 ∷ be count_width i.key_version ∷ []

-- all fields as bytes, in order
abbrev pub image_fields : Meaning → List (List ℕ)
image_fields i = counters_record i ++ (money_record i ++ (pin_record i ++ (rows_record i ++ (last_record i ++ key_record i))))

-- lists of bytes laid end to end
unfoldable pub joined : List (List ℕ) → List ℕ
joined [] = []
joined (f ∷ fs) = f ++ joined fs

-- the bytes of an image
abbrev pub image_bytes : Meaning → List ℕ
image_bytes i = joined (image_fields i)

-- the mark in the bytes of an image, by its flag
abbrev pub mark_in : List ℕ → Option Mark
mark_in bs = cond (slice_index bs mark_at == 0) None (Some (record { counter = big (part mark_counter_at count_width bs); amount = big (part mark_amount_at amount_width bs) }))

-- the last answer in the bytes of an image, by its flag
abbrev pub last_in : List ℕ → Option (List ℕ)
last_in bs = cond (slice_index bs last_at == 0) None (Some (part answer_at answer_width bs))

-- the image in bytes
abbrev pub image_in : List ℕ → Meaning
image_in bs = record {
  counters = sides_in count_width 1 (part counters_at counters_width bs);
  sums = sides_in sum_width 1 (part sums_at sums_width bs);
  unaudited = big (part unaudited_at amount_width bs);
  limit = big (part limit_at amount_width bs);
  mark = mark_in bs;
  pin = part pin_at pin_width bs;
  tries = slice_index bs tries_at;
  rows = sides_in sum_width ids (part rows_at rows_width bs);
  last = last_in bs;
  key_version = big (part key_at count_width bs);
}
