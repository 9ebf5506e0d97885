-- Personalisation: the first image of a card.
use Rattle.std.specs.Prelude.{ℕ, Bool, cond, ◌&&◌, List, [], ◌∷◌, length, replicate, None, Ok, Err, Result, ◌==◌, nat_le}
use Rattle.status.specs.declared.errors.CallError.{CallError}
use Rattle.status.specs.declared.errors.CallError.TheVariants.{SmallBuffer, BadField}
use Rattle.stores.specs.Sizes.{image_size}
use Rattle.image.specs.Places.{ids}
use Rattle.image.specs.Layout.{Meaning, image_bytes}
use Rattle.image.specs.Sound.{most_tries, pin_good}
use Rattle.image.specs.Writing.{amount_max}

-- the first image of a card: a PIN, a limit and a key version, all tries, and the rest zero
abbrev pub personal : List ℕ → ℕ → ℕ → Meaning
personal pin limit key = record {
  counters = (0 ∷ [], 0 ∷ []);
  sums = (0 ∷ [], 0 ∷ []);
  unaudited = 0;
  limit = limit;
  mark = None;
  pin = pin;
  tries = most_tries;
  rows = (replicate ids 0, replicate ids 0);
  last = None;
  key_version = key;
}

-- the digits of a PIN, if it has four
abbrev pub pin_entered : List ℕ → Result (List ℕ) CallError
pin_entered pin = cond (pin_good pin) (Ok pin) (Err BadField)

-- whether a PIN and a limit are good
abbrev pub personal_good : List ℕ → ℕ → Bool
personal_good pin limit = pin_good pin && nat_le limit amount_max

-- what personalisation answers: a buffer of another size is refused first, then a bad PIN or limit
abbrev pub personal_value : List ℕ → ℕ → List ℕ → Result (Unit {0}) CallError
personal_value pin limit out = cond (length out == image_size) (cond (personal_good pin limit) (Ok tt) (Err BadField)) (Err SmallBuffer)

-- what the buffer holds after personalisation
abbrev pub personal_after : List ℕ → ℕ → ℕ → List ℕ → List ℕ
personal_after pin limit key out = cond (length out == image_size) (cond (personal_good pin limit) (image_bytes (personal pin limit key)) out) out
