-- The sizes of a sealer's blocks and answers.
use Rattle.std.specs.Prelude.{ℕ}

-- how many bytes a rule gives
abbrev pub answer_size : ℕ
answer_size = 256

-- how many bytes a block has that has a cover
abbrev pub block_size : ℕ
block_size = 256
