-- The bench sealer's two rules, by its key.
use Rattle.std.specs.Prelude.{ℕ, zero, suc, ◌+◌, ◌*◌, ◌/◌, ◌%◌, cond, List, [], ◌∷◌, map, length, Some, None, fold, Option, ◌==◌, bit_xor, slice_index}
use Rattle.std.specs.List.{range_with_len}
use Rattle.octets.specs.Big.{be}
use Rattle.sealers.specs.Sizes.{answer_size, block_size}

-- byte i mod 4 of the key, its highest byte being byte 0
abbrev pub key_byte : ℕ → ℕ → ℕ
key_byte key i = slice_index (be 4 key) (i % 4)

-- byte i of a block, joined by XOR with that byte of the key
abbrev pub crossed : ℕ → List ℕ → ℕ → ℕ
crossed key block i = bit_xor (slice_index block i) (key_byte key i)

-- a block with each of its bytes so joined
abbrev pub covered : ℕ → List ℕ → List ℕ
covered key block = map (crossed key block) (range_with_len 0 (length block))

-- the cover of a block, and none for another size
abbrev pub bench_cover : ℕ → List ℕ → Option (List ℕ)
bench_cover key block = cond (length block == block_size) (Some (covered key block)) None

-- the step of a seal from h with the number b, in 32 bits
abbrev pub mixed : ℕ → ℕ → ℕ
mixed h b = bit_xor h b * 16777619 % 4294967296

-- the highest of the four bytes of h
abbrev pub top : ℕ → ℕ
top h = h / 16777216

-- n bytes of a seal: the highest byte after each step, with the numbers from j on
unfoldable pub stretched : ℕ → ℕ → ℕ → List ℕ
stretched zero j h = []
stretched (suc n) j h = top (mixed h j) ∷ stretched n (j + 1) (mixed h j)

-- the bytes that seal a message
abbrev pub sealed : ℕ → List ℕ → List ℕ
sealed key message = stretched answer_size 0 (fold mixed key message)

-- the seal of a message, which every message has
abbrev pub bench_seal : ℕ → List ℕ → Option (List ℕ)
bench_seal key message = Some (sealed key message)
