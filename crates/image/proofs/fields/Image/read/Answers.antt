use Rattle.std.proofs.Common.{◌<◌, arith}
use Rattle.std.proofs.ByRecursion.{All-from_get_or}
use Rattle.image.proofs.Canon.{canonical}
use Rattle.image.proofs.fields.Image.read.Goals as goal

pub returns-clause-back : goal.returns-clause-back
returns-clause-back c = let bs = c.args.bytes.now in canonical bs (All-from_get_or (λ d. d < 256) bs 0 (λ i h. omega (arith, c.type_inv.bytes i)))
