-- Decoding, past a byte.
use Rattle.std.proofs.Common.{◌≡◌, ℕ, ◌-◌, ◌≤◌, false, List, [], ◌∷◌, ◌++◌, length, get_or, take, drop, Ok, Err, Result, sym, refl, ap, ◌∙◌, arith}
use Rattle.std.proofs.lemmas.List.{append_assoc, take_rest}
use Rattle.hex_text.specs.declared.errors.HexError.{HexError}
use Rattle.hex_text.specs.Text.{blank, before, then, two_digits, decoded}

-- one list of bytes and then another
before-before : (xs ys : List ℕ) (d : Result (List ℕ) HexError) → before xs (before ys d) ≡ before (xs ++ ys) d
before-before xs ys (Ok zs) = ap (λ l. Ok l) (sym (append_assoc xs ys zs))
before-before xs ys (Err e) = refl

-- a byte stands before what the rest writes
byte_more : (c d b : ℕ) (rest : List ℕ) → blank c ≡ false → Ok b ≡ two_digits c d → decoded (c ∷ d ∷ rest) ≡ before (b ∷ []) (decoded rest)
byte_more c d b rest n f = rw n (ap (λ t. then t (decoded rest)) (sym f))

-- the same in the loop, whose text is not decoded yet; `so_far` are the bytes before it
pub at_byte : (text so_far pushed : List ℕ) (b : ℕ) (r : Result (List ℕ) HexError) → 2 ≤ length text → blank (get_or text 0 0) ≡ false → Ok b ≡ two_digits (get_or text 0 0) (get_or text 1 0) → pushed ≡ so_far ++ (b ∷ []) → before so_far (decoded text) ≡ r →
    before pushed (decoded (take (length text - 2) (drop 2 text))) ≡ r
at_byte [] so_far pushed b r l n f p inv = absurd (omega arith)
at_byte (c ∷ []) so_far pushed b r l n f p inv = absurd (omega arith)
at_byte (c ∷ d ∷ rest) so_far pushed b r l n f p inv =
    rw (take_rest, p) (sym (before-before so_far (b ∷ []) (decoded rest)) ∙ ap (before so_far) (sym (byte_more c d b rest n f)) ∙ inv)
