use Rattle.std.proofs.Common.{◌≡◌, [], ◌∷◌, ◌++◌, ap, ◌∙◌, rules}
use Rattle.std.specs.Int.{from_bool}
use Rattle.std.specs.Option.{is_some}
use Rattle.image.proofs.Writes.{flag_stored}
use Rattle.image.proofs.fields.Image.put_last.Goals as goal

pub returns-clause-after : goal.returns-clause-after
returns-clause-after c =
    let l = c.args.self.now.last in
    let some : c.from.result ≡ from_bool (is_some l) = search rules in
    let flag = ap (λ n. n ∷ []) some ∙ flag_stored l in
    c.put-3.ensures.after ∙ λ j. (c.put-2.ensures.after ∙ λ k. c.put.ensures.after k ++ flag k) j ++ c.answer_bytes.ensures j
