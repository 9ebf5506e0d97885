use Rattle.std.proofs.Common.{sym, ◌∙◌, arith}
use Rattle.answers.proofs.Joins.{signed_back}
use Rattle.answers.proofs.fields.SignedAnswer.read.Goals as goal

pub returns-clause-back : goal.returns-clause-back
returns-clause-back c = λ s e. signed_back c.args.bytes.now s (λ i. omega (arith, c.type_inv.bytes i)) (sym c.signed_of.ensures ∙ e)
