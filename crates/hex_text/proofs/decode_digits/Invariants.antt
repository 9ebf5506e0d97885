use Rattle.std.proofs.Common.{◌≡◌, length, vec_items}
use Rattle.hex_text.specs.Text.{decoded, before}
use Rattle.hex_text.proofs.decode_digits.Given as goal

-- the bytes so far, before what the rest writes, are what the text writes
abbrev pub invariant-loop-rest : goal.invariant-loop-rest
invariant-loop-rest l = before (vec_items l.bytes) (decoded l.rest) ≡ decoded l.text

abbrev pub decreases-loop-rest : goal.decreases-loop-rest
decreases-loop-rest l = length l.rest
