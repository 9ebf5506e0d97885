-- What writing an image answers and leaves.
use Rattle.std.specs.Prelude.{ℕ, ◌-◌, ◌^◌, Bool, cond, ◌&&◌, List, ◌++◌, length, drop, Ok, Err, Result, nat_le, nat_lt}
use Rattle.status.specs.declared.errors.CallError.{CallError}
use Rattle.status.specs.declared.errors.CallError.TheVariants.{SmallBuffer, BadField}
use Rattle.octets.specs.Big.{be}
use Rattle.stores.specs.Sizes.{image_size}
use Rattle.image.specs.Places.{amount_width}
use Rattle.image.specs.Layout.{Meaning, mark_amount, image_bytes}

-- the largest amount that fits its seven bytes
abbrev pub amount_max : ℕ
amount_max = 2 ^ 56 - 1

-- whether all amounts of an image fit
abbrev pub amounts_fit : Meaning → Bool
amounts_fit i = nat_le i.unaudited amount_max && (nat_le i.limit amount_max && nat_le (mark_amount i.mark) amount_max)

-- the bytes of an amount, if it fits them
abbrev pub amount_stored : ℕ → Result (List ℕ) CallError
amount_stored v = cond (nat_le v amount_max) (Ok (be amount_width v)) (Err BadField)

-- what is answered where amounts that do not fit are refused
abbrev pub fitting : Meaning → Result (Unit {0}) CallError
fitting i = cond (amounts_fit i) (Ok tt) (Err BadField)

-- what writing an image answers: a small buffer is refused first, then an amount that does not fit
abbrev pub write_value : Meaning → List ℕ → Result (Unit {0}) CallError
write_value i out = cond (nat_lt (length out) image_size) (Err SmallBuffer) (cond (amounts_fit i) (Ok tt) (Err BadField))

-- what the buffer holds after an image was written or refused
abbrev pub write_after : Meaning → List ℕ → List ℕ
write_after i out = cond (nat_lt (length out) image_size) out (cond (amounts_fit i) (image_bytes i ++ drop image_size out) out)
