use Rattle.sealers.proofs.Decks.{entry_cut}
use Rattle.sealers.proofs.recorded.entry_of.Goals as goal

pub returns : goal.returns
returns c = entry_cut c.args.kind c.args.body.now c.in_ok-message.behind.now _ _ _ c.in_ok-message.ensures.cases c.in_ok-answer.ensures.cases
