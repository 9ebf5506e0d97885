use Rattle.std.proofs.Common.{◌≡◌, ◌-◌}
use Rattle.stores.specs.Tape.{freed}
use Rattle.stores.proofs.tape.free_behind_first.Given as goal

abbrev pub invariant-loop-i : goal.invariant-loop-i
invariant-loop-i l = l.memory ≡ freed (l.i - 1) l.initial.memory
