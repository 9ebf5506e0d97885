use Rattle.std.proofs.Common.{◌≡◌, ◌^◌, ◌<◌, take}
use Rattle.octets.specs.Big.{big}
use Rattle.octets.proofs.value_of.Given as goal

abbrev pub invariant-loop-b : goal.invariant-loop-b
invariant-loop-b l = (l.v ≡ big (take l.b-index l.bytes)) × (l.v < 256 ^ l.b-index)
