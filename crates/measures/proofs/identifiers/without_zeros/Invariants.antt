use Rattle.std.proofs.Common.{◌≡◌, length}
use Rattle.measures.specs.Identifiers.{unpadded}
use Rattle.measures.proofs.identifiers.without_zeros.Given as goal

abbrev pub invariant-loop-rest : goal.invariant-loop-rest
invariant-loop-rest l = unpadded l.rest ≡ unpadded l.bytes

abbrev pub decreases-loop-rest : goal.decreases-loop-rest
decreases-loop-rest l = length l.rest
