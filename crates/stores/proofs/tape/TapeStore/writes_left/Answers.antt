use Rattle.std.proofs.Common.{arith}
use Rattle.stores.proofs.Tapes.{kept-le}
use Rattle.stores.proofs.tape.TapeStore.writes_left.Goals as goal

pub map_or-requires : goal.map_or-requires
map_or-requires c = λ next e. let h = kept-le next c.args.self.now.memory.now c.args.self.now.next c.args.self.now.found e in grind (arith, h.1, c.records_of.ensures.count)
