use Rattle.std.proofs.Common.{◌≡◌, Some, Ok, sym, ◌∙◌, rules}
use Rattle.apdu.specs.Kinds.{kind_named}
use Rattle.host.specs.Published.{published}
use Rattle.host.specs.Building.{body_fault, unless}
use Rattle.host.proofs.Fitting.{put_read_back}
use Rattle.host.proofs.building.compose.Goals as goal

pub returns-clause-back : goal.returns-clause-back
returns-clause-back c =
    let is : published (kind_named c.args.instruction) ≡ Some c.in_ok-form.form = search rules in
    let taken : unless (body_fault c.in_ok-form.form.body c.args.body.now) ≡ Ok tt = search rules in
    λ n e. put_read_back (kind_named c.args.instruction) c.in_ok-form.form c.args.body.now c.args.out.now _ n is taken (sym c.put_command.ensures.value ∙ e) c.put_command.ensures.after
