use Rattle.std.proofs.Common.{length, arith}
use Rattle.std.proofs.lemmas.List.FromFn.{fill_by_all}
use Rattle.sealers.specs.Bench.{crossed}
use Rattle.sealers.proofs.bench.joined.Goals as goal

pub returns : goal.returns
returns c =
    let block = c.args.block.now in
    fill_by_all (crossed c.args.key block) c.loop-i.byte-items (length block) 0 c.loop-i.invariant.0 (λ k h. c.loop-i.invariant.1 k (omega (arith, c.told-block)))
