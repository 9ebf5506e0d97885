use Rattle.std.proofs.Common.{refl, arith}
use Rattle.stores.specs.Tape.{freed}
use Rattle.stores.proofs.Layings.{freed_more}
use Rattle.stores.proofs.tape.free_behind_first.Goals as goal

pub loop-i-init : goal.loop-i-init
unfolding freed
loop-i-init c = refl

pub loop-i-preserved : goal.loop-i-preserved
loop-i-preserved c = freed_more c.loop-i.i _ _ (omega arith) c.loop-i.invariant
