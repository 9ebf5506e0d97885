use Rattle.std.proofs.Common.{None, Some, cond, sym, ap, ◌∙◌}
use Rattle.std.specs.Option.{option_map}
use Rattle.measures.specs.Bodies.{said, said_in}
use Rattle.measures.proofs.Fields.{none_said}
use Rattle.measures.proofs.invoices.Body.invoice.Goals as goal

pub returns-in_err-transaction : goal.returns-in_err-transaction
returns-in_err-transaction c =
    ap (option_map said) c.from_residual.ensures
    ∙ sym (ap (λ b. cond b (Some (said_in c.args.self.now.bytes.now)) None) (none_said c.args.self.now.bytes.now (sym c.in_err-transaction.ensures)))
