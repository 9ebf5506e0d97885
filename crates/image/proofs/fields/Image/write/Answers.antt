use Rattle.std.proofs.Common.{◌≡◌, ◌≤◌, ◌++◌, length, take, drop, Err, ap, ◌∙◌, rules}
use Rattle.stores.specs.Sizes.{image_size}
use Rattle.image.specs.Layout.{meaning}
use Rattle.image.proofs.Writes.{done, not_done}
use Rattle.image.proofs.fields.Image.write.Goals as goal

pub returns-clause-value : goal.returns-clause-value
returns-clause-value c =
    let room : image_size ≤ length c.args.out.now = search rules in
    let put = c.in_ok-put_records.ensures in
    (done (meaning c.args.self.now) c.args.out.now room _ put.value (c.whole.ensures ∙ put.after)).0

pub returns-clause-after : goal.returns-clause-after
returns-clause-after c =
    let room : image_size ≤ length c.args.out.now = search rules in
    let put = c.in_ok-put_records.ensures in
    (done (meaning c.args.self.now) c.args.out.now room _ put.value (c.whole.ensures ∙ put.after)).1

pub returns-in_err-put_records-clause-value : goal.returns-in_err-put_records-clause-value
returns-in_err-put_records-clause-value c =
    let room : image_size ≤ length c.args.out.now = search rules in
    let is : c.from_residual-in_err-put_records.result ≡ Err c.in_err-put_records.field-0.0 = search rules in
    is ∙ (not_done (meaning c.args.self.now) c.args.out.now room _ c.in_err-put_records.ensures.value).0

pub returns-in_err-put_records-clause-after : goal.returns-in_err-put_records-clause-after
returns-in_err-put_records-clause-after c =
    let out = c.args.out.now in
    let room : image_size ≤ length out = search rules in
    let chunk : c.in_ok-place.place.now ≡ take image_size out = search rules in
    ap (λ u. u ++ drop image_size out) chunk ∙ (not_done (meaning c.args.self.now) out room _ c.in_err-put_records.ensures.value).1
