-- Numbers of several bytes, the highest byte first.
use Rattle.std.specs.Prelude.{ℕ, zero, suc, ◌/◌, ◌%◌, ◌^◌, Bool, cond, ◌&&◌, List, [], ◌∷◌, length, Some, None, Option, nat_le, nat_lt}
use Rattle.std.specs.Int.Digits.{number_from_digits}

-- the k bytes of v, which leave out what does not fit into them
abbrev pub be : ℕ → ℕ → List ℕ
be zero v = []
be (suc zero) v = v % 256 ∷ []
be (suc (suc k)) v = (v / 256 ^ suc k % 256) ∷ be (suc k) v

-- the number that bytes write
abbrev pub big : List ℕ → ℕ
big bs = number_from_digits 256 bs

-- what reading bytes gives: their number, and none for more than eight
abbrev pub number_read : List ℕ → Option ℕ
number_read bs = cond (nat_le (length bs) 8) (Some (big bs)) None

-- whether v can be written into k bytes, of which there are at most eight
abbrev pub writable : ℕ → ℕ → Bool
writable k v = nat_le k 8 && nat_lt v (256 ^ k)

-- what `out` holds after v was written over the whole of it, or refused
abbrev pub number_written : ℕ → List ℕ → List ℕ
number_written v out = cond (writable (length out) v) (be (length out) v) out
