use Rattle.std.proofs.Common.{arith}
use Rattle.octets.proofs.Bigs.{power_room}
use Rattle.octets.proofs.has_width.Goals as goal

pub pow-requires : goal.pow-requires
pow-requires c = omega (arith, power_room c.args.width (omega arith))
