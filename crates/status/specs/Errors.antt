-- Refusals of a call: the number of each, and what it says.
use Rattle.std.specs.Prelude.{ℕ, List, codes}
use Rattle.status.specs.declared.errors.CallError.{CallError}
use Rattle.status.specs.declared.errors.CallError.TheVariants.{SmallBuffer, BadField, Unreadable, BadMemory}

-- the number of a refusal
abbrev pub error_number : CallError → ℕ
error_number SmallBuffer = 1
error_number BadField = 2
error_number Unreadable = 3
error_number BadMemory = 4

-- what a refusal says
abbrev pub error_name : CallError → List ℕ
error_name SmallBuffer = codes "small buffer"
error_name BadField = codes "bad field"
error_name Unreadable = codes "unreadable"
error_name BadMemory = codes "bad store memory"
