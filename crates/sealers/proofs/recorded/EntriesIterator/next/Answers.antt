use Rattle.std.proofs.Common.{arith, ap, length}
use Rattle.sealers.specs.Deck.{entry_read}
use Rattle.sealers.proofs.Decks.{reads_one, reads_none}
use Rattle.sealers.proofs.recorded.EntriesIterator.next.Goals as goal

pub returns-in_err-entry-clause-steps : goal.returns-in_err-entry-clause-steps
returns-in_err-entry-clause-steps c = let none = reads_none c.args.self.now.deck.now c.in_err-entry.ensures in rw c.from_residual.ensures (none, none)

pub returns-clause-steps : goal.returns-clause-steps
returns-clause-steps c = reads_one c.args.self.now.deck.now (entry_read c.in_ok-entry.entry) c.in_ok-entry.ensures

pub returns-clause-goes : goal.returns-clause-goes
returns-clause-goes c =
    let one = reads_one c.args.self.now.deck.now (entry_read c.in_ok-entry.entry) c.in_ok-entry.ensures in
    let l = ap length one in
    grind (arith, l)
