-- Numbers of one width that lie side by side.
use Rattle.std.specs.Prelude.{ℕ, zero, suc, ◌*◌, Bool, cond, List, [], ◌∷◌, ◌++◌, length, take, drop, Some, None, Option, ◌==◌}
use Rattle.octets.specs.Big.{be, big}

-- n numbers of w bytes each, read from bytes
unfoldable pub fields : ℕ → ℕ → List ℕ → List ℕ
fields w zero bs = []
fields w (suc n) bs = big (take w bs) ∷ fields w n (drop w bs)

-- numbers written as w bytes each
abbrev pub packed : ℕ → List ℕ → List ℕ
packed w [] = []
packed w (v ∷ vs) = be w v ++ packed w vs

-- whether bytes are as many as n numbers of w bytes have
abbrev pub sized : ℕ → ℕ → List ℕ → Bool
sized w n bs = length bs == w * n

-- what reading n numbers of w bytes gives: none for bytes of another length
abbrev pub stored_read : ℕ → ℕ → List ℕ → Option (List ℕ)
stored_read w n bs = cond (sized w n bs) (Some (fields w n bs)) None

-- what `out` holds after n numbers of w bytes were written over the whole of it, or refused
abbrev pub stored_written : ℕ → ℕ → List ℕ → List ℕ → List ℕ
stored_written w n vs out = cond (sized w n out) (packed w vs) out
