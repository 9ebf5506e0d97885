-- What a call answers that writes where there is room, and refuses elsewhere.
use Rattle.std.specs.Prelude.{ℕ, Bool, true, false, List, codes, Ok, Err, Result}
use Rattle.octets.specs.declared.DoesNotFit.{DoesNotFit}

-- the answer, by whether there is room
abbrev pub fits : Bool → Result (Unit {0}) DoesNotFit
fits true = Ok tt
fits false = Err (record {})

-- what the refusal says
abbrev pub no_fit_text : List ℕ
no_fit_text = codes "does not fit"
