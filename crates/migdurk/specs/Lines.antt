-- A line of input.
use Rattle.std.specs.Prelude.{ℕ, List, Some, None, Option, take, position, ◌==◌}

-- the first n of a line's bytes, or all of them
abbrev pub cut : Option ℕ → List ℕ → List ℕ
cut (Some n) line = take n line
cut None line = line

-- what stands before a comment, which `#` starts
abbrev pub before_comment : List ℕ → List ℕ
before_comment line = cut (position (λ c. c == 35) line) line
