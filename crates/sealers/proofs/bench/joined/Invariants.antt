use Rattle.std.proofs.Common.{◌≡◌, ℕ, ◌<◌, ◌≤◌, length, get_or}
use Rattle.sealers.specs.Bench.{crossed}
use Rattle.sealers.proofs.bench.joined.Given as goal

-- the bytes before i are joined, the others are those of the block
abbrev pub invariant-loop-i : goal.invariant-loop-i
invariant-loop-i l =
    (length l.byte-items ≡ length l.block)
    × ((k : ℕ) → k < l.i → get_or l.byte-items k 0 ≡ crossed l.key l.block k)
    × ((k : ℕ) → l.i ≤ k → get_or l.byte-items k 0 ≡ get_or l.block k 0)
