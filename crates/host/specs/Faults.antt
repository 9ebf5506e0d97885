-- Why a command is not written: the refusal, and the words.
use Rattle.std.specs.Prelude.{ℕ, List, codes}
use Rattle.status.specs.declared.errors.CallError.{CallError}
use Rattle.status.specs.declared.errors.CallError.TheVariants as refused
use Rattle.host.specs.declared.faults.BuildFault.{BuildFault}
use Rattle.host.specs.declared.faults.BuildFault.TheVariants.{UnknownInstruction, WrongBodyLength, MalformedInvoice, SmallBuffer}

-- the refusal of each fault
abbrev pub refusal_of : BuildFault → CallError
refusal_of UnknownInstruction = refused.BadField
refusal_of WrongBodyLength = refused.BadField
refusal_of MalformedInvoice = refused.BadField
refusal_of SmallBuffer = refused.SmallBuffer

-- why the command is not written
abbrev pub fault_name : BuildFault → List ℕ
fault_name UnknownInstruction = codes "unknown instruction"
fault_name WrongBodyLength = codes "wrong length of the body"
fault_name MalformedInvoice = codes "malformed invoice"
fault_name SmallBuffer = codes "buffer shorter than the command"
