-- A refusal in words.
use Rattle.std.specs.Prelude.{ℕ, List, ◌++◌, codes, decimal}
use Rattle.status.specs.declared.errors.CallError.{CallError}
use Rattle.status.specs.Errors.{error_number, error_name}

-- what is said of a refusal with the text of its reason
abbrev pub refused_text : CallError → List ℕ → List ℕ
refused_text e reason = codes "refused with " ++ (decimal (error_number e) ++ (codes " (" ++ (error_name e ++ (codes "): " ++ reason))))
