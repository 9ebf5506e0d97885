-- Why bytes are no command: the refusal, and the words.
use Rattle.std.specs.Prelude.{ℕ, List, codes}
use Rattle.status.specs.declared.errors.CallError.{CallError}
use Rattle.status.specs.declared.errors.CallError.TheVariants.{Unreadable}
use Rattle.apdu.specs.declared.faults.Fault.{Fault}
use Rattle.apdu.specs.declared.faults.Fault.TheVariants.{NoHeader, HalfLength, EmptyBody, CutBody, HalfLe, TrailingBytes}

-- every fault is one refusal
abbrev pub refusal_of : Fault → CallError
refusal_of f = Unreadable

-- what is wrong with the bytes
abbrev pub fault_name : Fault → List ℕ
fault_name NoHeader = codes "fewer than four bytes"
fault_name HalfLength = codes "half of an extended length"
fault_name EmptyBody = codes "an extended Lc of 0 before a body"
fault_name CutBody = codes "fewer body bytes than Lc says"
fault_name HalfLe = codes "half of an extended Le"
fault_name TrailingBytes = codes "more behind the body than an Le"
