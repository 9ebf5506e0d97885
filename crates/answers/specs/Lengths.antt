-- How much data each command answers.
use Rattle.std.specs.Prelude.{ℕ, Bool, false, Some, None, Option, ◌==◌, nat_le}
use Rattle.apdu.specs.declared.kinds.Kind.{Kind}
use Rattle.apdu.specs.declared.kinds.Kind.TheVariants.{Select, Version, Tries, Amounts, Last, Pin, Sign, Export, Directive, Other}
use Rattle.answers.specs.Sizes.{version_size, tries_size, amounts_size, signed_size, export_size}

-- the bytes of data that an accepted command of a kind answers; none for a command that is not one of the nine
abbrev pub data_length : Kind → Option ℕ
data_length Select = Some 0
data_length Version = Some version_size
data_length Tries = Some tries_size
data_length Amounts = Some amounts_size
data_length Last = Some signed_size
data_length Pin = Some 0
data_length Sign = Some signed_size
data_length Export = Some export_size
data_length Directive = Some 0
data_length Other = None

-- whether an Le is enough for so much data, of a command that is one of the nine; no data needs no Le
abbrev pub le_enough : Option ℕ → Option ℕ → Bool
le_enough None le = false
le_enough (Some n) None = n == 0
le_enough (Some n) (Some le) = nat_le n le
