use Rattle.std.proofs.Common.{refl, rules}
use Rattle.std.proofs.lemmas.Iterator.Search.{find_from_yields_List}
use Rattle.std.proofs.lemmas.Iterator.Consumers.{YieldsList-from_first}
use Rattle.sealers.specs.Deck.{entry_read, entries, answers}
use Rattle.sealers.proofs.recorded.find.Goals as goal

pub returns : goal.returns
returns c =
    find_from_yields_List (answers c.args.rule c.args.message.now) c.find.new.self _ c.find.result c.find.ensures.ran
    (YieldsList-from_first entry_read (λ s. entries s.deck.now) (entries c.args.deck.now) refl) (λ x b q h. search rules)
