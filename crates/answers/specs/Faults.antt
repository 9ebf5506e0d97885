-- Why bytes are no answer: the refusal, and the words.
use Rattle.std.specs.Prelude.{ℕ, List, codes}
use Rattle.status.specs.declared.errors.CallError.{CallError}
use Rattle.status.specs.declared.errors.CallError.TheVariants.{Unreadable}
use Rattle.answers.specs.declared.faults.AnswerFault.{AnswerFault}
use Rattle.answers.specs.declared.faults.AnswerFault.TheVariants.{UnknownInstruction, NoStatusWord, UnknownStatusWord, WrongDataLength, DataWithRefusal}

-- every fault is one refusal
abbrev pub refusal_of : AnswerFault → CallError
refusal_of f = Unreadable

-- what is wrong with the answer
abbrev pub fault_name : AnswerFault → List ℕ
fault_name UnknownInstruction = codes "unknown instruction"
fault_name NoStatusWord = codes "fewer than two bytes"
fault_name UnknownStatusWord = codes "unknown status word"
fault_name WrongDataLength = codes "wrong length of data"
fault_name DataWithRefusal = codes "data beside a refusal"
