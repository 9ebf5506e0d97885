use Rattle.std.proofs.Common.{◌≡◌, length, ap, ◌∙◌, rules}
use Rattle.stores.specs.Sizes.{image_size}
use Rattle.image.specs.Layout.{meaning}
use Rattle.image.specs.Personal.{personal}
use Rattle.image.specs.Writing.{write_after}
use Rattle.image.proofs.Writes.{first_after}
use Rattle.image.proofs.personal.personalise.Goals as goal

pub returns-clause-after : goal.returns-clause-after
returns-clause-after c =
    let pin = c.args.pin.now in
    let out = c.args.out.now in
    let size : length out ≡ image_size = search rules in
    let first : meaning c.first.result ≡ personal pin c.args.limit c.args.key_version = search rules in
    c.write.ensures.after ∙ ap (λ i. write_after i out) first ∙ first_after pin c.args.limit c.args.key_version out size c.in_ok-pin_of.ensures.good
