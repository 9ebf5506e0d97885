use Rattle.stores.proofs.Tapes.{cut_short}
use Rattle.stores.proofs.tape.find_place.Goals as goal

pub returns-clause-cut : goal.returns-clause-cut
returns-clause-cut c = cut_short c.args.memory.now
