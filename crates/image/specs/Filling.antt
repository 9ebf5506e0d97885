-- Bytes that are written field by field.
use Rattle.std.specs.Prelude.{ℕ, List, [], ◌∷◌, ◌++◌}

-- bytes with fields laid behind them, one after the other
abbrev pub laid : List ℕ → List (List ℕ) → List ℕ
laid bs [] = bs
laid bs (f ∷ fs) = laid (bs ++ f) fs
