-- Bytes written in hexadecimal.
use Rattle.std.specs.Prelude.{◌≡◌, ℕ, ◌+◌, ◌-◌, ◌*◌, Bool, true, false, cond, ◌&&◌, ◌||◌, List, [], ◌∷◌, ◌++◌, length, Some, None, Ok, Err, vec_items, Option, Result, Vec, ◌==◌, nat_le, slice_index}
use Rattle.std.specs.declared.alloc.Global.{Global}
use Rattle.hex_text.specs.declared.errors.HexError.{HexError}
use Rattle.hex_text.specs.declared.errors.HexError.TheVariants.{NoDigit, HalfByte, NoMemory}

-- whether c is one of the characters from a to z
abbrev pub among : ℕ → ℕ → ℕ → Bool
among a z c = nat_le a c && nat_le c z

-- the value of a digit: 0 to 9, A to F and a to f
abbrev pub digit_value : ℕ → Option ℕ
digit_value c =
    cond (among 48 57 c) (Some (c - 48))
    (cond (among 65 70 c) (Some (c - 65 + 10))
    (cond (among 97 102 c) (Some (c - 97 + 10))
    None))

-- a space or a tab
abbrev pub blank : ℕ → Bool
blank c = c == 32 || c == 9

-- what a high digit and a low one write, where both are digits
abbrev pub both : ℕ → ℕ → Option ℕ → Option ℕ → Result ℕ HexError
both high low None l = Err (NoDigit high)
both high low (Some h) None = Err (NoDigit low)
both high low (Some h) (Some l) = Ok (h * 16 + l)

-- the byte that two characters write
abbrev pub two_digits : ℕ → ℕ → Result ℕ HexError
two_digits high low = both high low (digit_value high) (digit_value low)

-- what is wrong with a character alone
abbrev pub alone : ℕ → Option ℕ → HexError
alone c None = NoDigit c
alone c (Some d) = HalfByte

-- bytes before what the rest writes
abbrev pub before : List ℕ → Result (List ℕ) HexError → Result (List ℕ) HexError
before bs (Ok cs) = Ok (bs ++ cs)
before bs (Err e) = Err e

-- a byte before what the rest writes, or its fault
abbrev pub then : Result ℕ HexError → Result (List ℕ) HexError → Result (List ℕ) HexError
then (Ok b) rest = before (b ∷ []) rest
then (Err e) rest = Err e

-- the bytes that a text writes, or its first fault
abbrev pub decoded : List ℕ → Result (List ℕ) HexError
decoded [] = Ok []
decoded (c ∷ []) = cond (blank c) (Ok []) (Err (alone c (digit_value c)))
decoded (c ∷ d ∷ rest) = cond (blank c) (decoded (d ∷ rest)) (then (two_digits c d) (decoded rest))

-- a lone `-`
abbrev pub dash : List ℕ → Bool
dash text = length text == 1 && slice_index text 0 == 45

-- the same as `decoded`, where a lone `-` stands for no bytes
abbrev pub bytes_of : List ℕ → Result (List ℕ) HexError
bytes_of text = cond (dash text) (Ok []) (decoded text)

-- whether memory was short
abbrev pub out_of_memory : Result (Vec ℕ Global) HexError → Bool
out_of_memory (Err NoMemory) = true
out_of_memory (Err (NoDigit c)) = false
out_of_memory (Err HalfByte) = false
out_of_memory (Ok v) = false

-- what the code gives, with a vector as its list
abbrev pub given : Result (Vec ℕ Global) HexError → Result (List ℕ) HexError
given (Ok v) = Ok (vec_items v)
given (Err e) = Err e

-- the code gives `d`, unless memory was short
abbrev pub Gives : Result (Vec ℕ Global) HexError → Result (List ℕ) HexError → Type 0
Gives r d = out_of_memory r ≡ false → given r ≡ d
