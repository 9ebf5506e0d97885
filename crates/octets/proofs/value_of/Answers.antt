use Rattle.std.proofs.Common.{◌≡◌, ◌<◌, length, ap, ◌∙◌, pow-suc, add-one, arith, take_all}
use Rattle.std.proofs.lemmas.Int.Digits.{number_more}
use Rattle.std.proofs.ByRecursion.{All-from_get_or}
use Rattle.std.specs.Int.Digits.{AllBelowBase}
use Rattle.octets.specs.Big.{be, big}
use Rattle.octets.proofs.Bigs.{power_room, be-big}
use Rattle.octets.proofs.value_of.Goals as goal

pub overflow_mul-v : goal.overflow_mul-v
overflow_mul-v c = omega (arith, power_room c.loop-b.b-index (omega arith))

pub overflow_add-v : goal.overflow_add-v
overflow_add-v c = omega (arith, power_room c.loop-b.b-index (omega arith))

pub loop-b-preserved : goal.loop-b-preserved
loop-b-preserved c =
    let e = number_more 256 c.args.bytes.now c.loop-b.b-index (omega arith) in
    let v = c.loop-b.invariant.0 in
    (cc, simp (add-one, pow-suc) (omega arith))

pub returns : goal.returns
returns c =
    let bs = c.args.bytes.now in
    let t = take_all c.loop-b.b-index bs c.loop-b-test.false in
    let v = c.loop-b.invariant.0 in
    let value : c.loop-b.v ≡ big bs = cc in
    let bytes : AllBelowBase 256 bs = All-from_get_or (λ d. d < 256) bs 0 (λ i h. omega (arith, c.type_inv.bytes i)) in
    let all : c.loop-b.b-index ≡ length bs = omega arith in
    record { value = value; bound = rw all at c.loop-b.invariant.1; back = ap (be (length bs)) value ∙ be-big bs bytes }
