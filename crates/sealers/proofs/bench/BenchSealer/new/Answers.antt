use Rattle.std.proofs.Common.{refl}
use Rattle.sealers.specs.Bench.{stretched}
use Rattle.sealers.proofs.bench.BenchSealer.new.Goals as goal

pub returns-clause-known : goal.returns-clause-known
unfolding stretched
returns-clause-known c = refl
