use Rattle.std.proofs.Common.{None, Some, ◌∙◌}
use Rattle.sealers.specs.Deck.{entries, entry_read}
use Rattle.sealers.proofs.Decks.{answer_found}
use Rattle.sealers.proofs.recorded.RecordedSealer.answer.Goals as goal

pub returns-in_err-entry : goal.returns-in_err-entry
returns-in_err-entry c = c.from_residual.ensures ∙ answer_found c.args.rule c.args.message.now (entries c.args.self.now.deck.now) None c.in_err-entry.ensures

pub returns : goal.returns
returns c = answer_found c.args.rule c.args.message.now (entries c.args.self.now.deck.now) (Some (entry_read c.in_ok-entry.entry)) c.in_ok-entry.ensures
