-- Identifiers: zeros on the left, and then text.
use Rattle.std.specs.Prelude.{ℕ, Bool, cond, ◌&&◌, List, [], ◌∷◌, length, ◌==◌, nat_le, nat_lt}
use Rattle.std.specs.List.{list_all}
use Rattle.measures.specs.Sizes.{identifier_size}

-- whether a byte is text, from the space to the tilde
abbrev pub text : ℕ → Bool
text b = nat_le 0x20 b && nat_le b 0x7e

-- bytes without the zeros on their left
abbrev pub unpadded : List ℕ → List ℕ
unpadded [] = []
unpadded (b ∷ bs) = cond (b == 0) (unpadded bs) (b ∷ bs)

-- whether bytes are a good identifier
abbrev pub identifier : List ℕ → Bool
identifier bs = length bs == identifier_size && list_all text (unpadded bs)

-- whether bytes are not all zero
abbrev pub named : List ℕ → Bool
named bs = nat_lt 0 (length (unpadded bs))
