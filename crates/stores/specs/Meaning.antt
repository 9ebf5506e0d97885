-- A store means an image and a number, its writes left.
use Rattle.std.specs.Prelude.{◌≡◌, ℕ, ◌-◌, Bool, true, false, cond, ◌&&◌, List, ◌++◌, length, drop, replicate, codes, Ok, Err, Result, ◌==◌, nat_lt}
use Rattle.std.proofs.lemmas.List.{length-replicate}
use Rattle.status.specs.declared.errors.CallError.{CallError}
use Rattle.status.specs.declared.errors.CallError.TheVariants.{SmallBuffer, BadMemory}
use Rattle.stores.specs.declared.store.WriteRefused.{WriteRefused}
use Rattle.stores.specs.Sizes.{image_size}

-- the image that bad memory means
unfoldable pub no_image : List ℕ
no_image = replicate image_size 0

-- it has an image's size
pub length-no_image : length no_image ≡ image_size
unfolding no_image
length-no_image = length-replicate {A = ℕ} image_size 0

-- whether a buffer of this length can hold an image
abbrev pub readable : ℕ → Result (Unit {0}) CallError
readable room = cond (nat_lt room image_size) (Err SmallBuffer) (Ok tt)

-- what a buffer holds after an image was read into it, or refused for want of room
abbrev pub read_after : List ℕ → List ℕ → List ℕ
read_after image out = cond (nat_lt (length out) image_size) out (image ++ drop image_size out)

-- whether a new image is written, with so many writes left
abbrev pub accepted : ℕ → List ℕ → Bool
accepted left new = length new == image_size && nat_lt 0 left

-- what a write answers, by whether the new image is accepted
abbrev pub writing : Bool → Result (Unit {0}) WriteRefused
writing true = Ok tt
writing false = Err (record {})

-- what the refusal says
abbrev pub refused_text : List ℕ
refused_text = codes "write refused"

-- the image after a new one was written or refused
abbrev pub image_after : List ℕ → ℕ → List ℕ → List ℕ
image_after image left new = cond (accepted left new) new image

-- the writes left after a new image was written or refused
abbrev pub left_after : ℕ → List ℕ → ℕ
left_after left new = cond (accepted left new) (left - 1) left

-- what laying answers, by whether image and memory have their sizes
abbrev pub laying : Bool → Result (Unit {0}) CallError
laying good = cond good (Ok tt) (Err BadMemory)
