use Rattle.std.proofs.Common.{arith, rules}
use Rattle.sealers.proofs.Mixes.{stretch_more, stretch_all}
use Rattle.sealers.proofs.bench.seal_of.Goals as goal

pub loop-j-preserved : goal.loop-j-preserved
loop-j-preserved c = (search rules, stretch_more _ c.loop-j.j c.loop-j.h _ _ c.loop-j.byte-items _ (omega (arith, c.loop-j.invariant.0)) c.loop-j.invariant.0 c.next_byte.ensures.step c.next_byte.ensures.byte c.loop-j.invariant.1)

pub returns : goal.returns
returns c = stretch_all _ c.loop-j.j c.loop-j.h c.loop-j.byte-items _ c.loop-j-test.false c.loop-j.invariant.0 c.loop-j.invariant.1
