-- The sizes of stores, in bytes.
use Rattle.std.specs.Prelude.{ℕ}

-- an image
abbrev pub image_size : ℕ
image_size = 835

-- the writes left of a flat store
abbrev pub left_width : ℕ
left_width = 4

-- the memory of a flat store: the writes left, then the image
abbrev pub flat_size : ℕ
flat_size = 839

-- a record of a tape: a kind byte, then an image
abbrev pub record_size : ℕ
record_size = 836

-- the kind byte of a record that was written
abbrev pub kind_written : ℕ
kind_written = 7

-- the kind byte of a record that is free
abbrev pub kind_free : ℕ
kind_free = 0
