use Rattle.std.proofs.Common.{◌≡◌, false, get_or, vec_items, arith}
use Rattle.std.proofs.lemmas.Bool.Decides.{nat_tests}
use Rattle.hex_text.specs.Text.{blank}
use Rattle.hex_text.proofs.Steps.{at_byte}
use Rattle.hex_text.proofs.decode_digits.Goals as goal

pub loop-rest-preserved-in_ok-push-in-len2-up : goal.loop-rest-preserved-in_ok-push-in-len2-up
loop-rest-preserved-in_ok-push-in-len2-up c =
    let rest = c.loop-rest.rest.now in
    let n : blank (get_or rest 0 0) ≡ false = grind (arith, nat_tests) in
    at_byte rest (vec_items c.loop-rest.bytes) _ c.in_ok-byte_of-in-len2-up.field-0 _ c.in-len2-up.len_at_least n c.in_ok-byte_of-in-len2-up.ensures c.in_ok-push-in-len2-up.ensures.items c.loop-rest.invariant
