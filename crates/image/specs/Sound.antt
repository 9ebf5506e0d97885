-- Soundness: what an image must keep, clause by clause.
use Rattle.std.specs.Prelude.{◌≡◌, ℕ, ◌+◌, ◌-◌, ◌^◌, Bool, true, false, cond, ◌&&◌, List, length, drop, Ok, Err, Result, ◌==◌, nat_le, slice_index}
use Rattle.octets.specs.Parts.{part}
use Rattle.std.specs.List.{list_all}
use Rattle.stores.specs.Sizes.{image_size}
use Rattle.image.specs.declared.fields.Image.{Image}
use Rattle.image.specs.declared.flaws.Flaw.{Flaw}
use Rattle.image.specs.declared.flaws.Flaw.TheVariants.{Size, Kinds, MarkFlag, LastFlag, Total, OverLimit, MarkCounter, MarkAmount, Pin, Tries, LastAnswer}
use Rattle.image.specs.Places.{counters_kind_at, money_kind_at, mark_at, pin_kind_at, rows_kind_at, last_kind_at, last_at, key_kind_at, pin_width, mark_width, last_width}
use Rattle.image.specs.Writing.{amounts_fit}
use Rattle.image.specs.Layout.{Meaning, meaning, mark_counter, mark_amount, last_flag, image_bytes, image_in}

-- the largest total counter
abbrev pub total_ceiling : ℕ
total_ceiling = 2 ^ 32 - 1

-- the most tries of a PIN
abbrev pub most_tries : ℕ
most_tries = 5

-- the kind bytes of the six records
abbrev pub kinds_right : List ℕ → Bool
kinds_right bs =
    (slice_index bs counters_kind_at == 0x01) && (slice_index bs money_kind_at == 0x02 && (slice_index bs pin_kind_at == 0x03
    && (slice_index bs rows_kind_at == 0x04 && (slice_index bs last_kind_at == 0x05 && slice_index bs key_kind_at == 0x06))))

-- whether a byte is zero
abbrev pub zero_byte : ℕ → Bool
zero_byte b = b == 0

-- whether fields may stand behind a flag: it is 0, and they are zero, or it is 1
abbrev pub fits_flag : ℕ → List ℕ → Bool
fits_flag flag fields = cond (flag == 0) (list_all zero_byte fields) (flag == 1)

-- whether a flag fits all fields behind it
abbrev pub flag_good : List ℕ → Bool
flag_good bs = fits_flag (slice_index bs 0) (drop 1 bs)

-- the mark with its flag
abbrev pub mark_part : List ℕ → List ℕ
mark_part bs = part mark_at mark_width bs

-- the last answer with its flag
unfoldable pub last_part : List ℕ → List ℕ
last_part bs = part last_at last_width bs

-- the flaw in the kind bytes and flags of an image's records, if they have one
abbrev pub records_layout : List ℕ → Result (Unit {0}) Flaw
records_layout bs =
    cond (kinds_right bs)
    (cond (flag_good (mark_part bs))
    (cond (flag_good (last_part bs))
    (Ok tt)
    (Err LastFlag))
    (Err MarkFlag))
    (Err Kinds)

-- the total counter: sales and refunds
abbrev pub total : Meaning → ℕ
total i = slice_index i.counters.0 0 + slice_index i.counters.1 0

-- whether a byte is an ASCII digit
abbrev pub digit : ℕ → Bool
digit b = nat_le 0x30 b && nat_le b 0x39

-- whether bytes are a PIN
abbrev pub pin_good : List ℕ → Bool
pin_good bs = length bs == pin_width && list_all digit bs

-- whether an answer is kept exactly when something was signed
abbrev pub last_right : Meaning → Bool
last_right i = last_flag i.last == cond (total i == 0) 0 1

-- the flaw in the fields of an image, if they have one
abbrev pub check : Meaning → Result (Unit {0}) Flaw
check i =
    cond (nat_le (total i) total_ceiling)
    (cond (nat_le i.unaudited i.limit)
    (cond (nat_le (mark_counter i.mark) (total i))
    (cond (nat_le (mark_amount i.mark) i.unaudited)
    (cond (pin_good i.pin)
    (cond (nat_le i.tries most_tries)
    (cond (last_right i)
    (Ok tt)
    (Err LastAnswer))
    (Err Tries))
    (Err Pin))
    (Err MarkAmount))
    (Err MarkCounter))
    (Err OverLimit))
    (Err Total)

-- the flaw of what must be kept, if it is not
abbrev pub held : Bool → Flaw → Result (Unit {0}) Flaw
held true f = Ok tt
held false f = Err f

-- a second test after a first one that found no flaw
abbrev pub onward : {X : Type 0} → Result (Unit {0}) Flaw → Result X Flaw → Result X Flaw
onward (Ok u) rest = rest
onward (Err f) rest = Err f

-- what reading bytes of the size of an image gives
unfoldable pub sized_read : List ℕ → Result Meaning Flaw
sized_read bs = onward (records_layout bs) (onward (check (image_in bs)) (Ok (image_in bs)))

-- what reading an image gives
abbrev pub image_read : List ℕ → Result Meaning Flaw
image_read bs = cond (length bs == image_size) (sized_read bs) (Err Size)

-- what an image that was read means, or its flaw
abbrev pub read_seen : Result Image Flaw → Result Meaning Flaw
read_seen (Ok i) = Ok (meaning i)
read_seen (Err f) = Err f

-- what is read from bytes can be written, and as the same bytes
abbrev pub WrittenBack : List ℕ → Type 0
WrittenBack bs = (i : Meaning) → image_read bs ≡ Ok i → (amounts_fit i ≡ true) × (image_bytes i ≡ bs)

-- the fields of what is written are the same, and it is read as the same image, if its fields have no flaw
abbrev pub ReadBack : Meaning → Type 0
ReadBack i = (image_in (image_bytes i) ≡ i) × (check i ≡ Ok tt → image_read (image_bytes i) ≡ Ok i)
