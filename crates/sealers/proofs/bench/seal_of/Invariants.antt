use Rattle.std.proofs.Common.{◌≡◌, ◌-◌, ◌++◌, length, take}
use Rattle.sealers.specs.Bench.{stretched, sealed}
use Rattle.sealers.specs.Sizes.{answer_size}
use Rattle.sealers.proofs.bench.seal_of.Given as goal

abbrev pub invariant-loop-j : goal.invariant-loop-j
invariant-loop-j l = (length l.byte-items ≡ answer_size) × (take l.j l.byte-items ++ stretched (answer_size - l.j) l.j l.h ≡ sealed l.fn.key l.fn.message)
