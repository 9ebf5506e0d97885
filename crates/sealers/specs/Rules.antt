-- What every sealer's rules keep, and what its calls answer and leave by them.
use Rattle.std.specs.Prelude.{◌≡◌, ℕ, Bool, cond, List, ◌++◌, length, drop, is_some, Some, None, Ok, Err, Option, Result, nat_lt}
use Rattle.status.specs.declared.errors.CallError.{CallError}
use Rattle.status.specs.declared.errors.CallError.TheVariants.{SmallBuffer}
use Rattle.sealers.specs.Sizes.{answer_size, block_size}

-- a cover is only of a block of its size, and every answer has its size
pub record Keeps (cover seal : List ℕ → Option (List ℕ)) : Type 0 where
  pub cover_takes : (b a : List ℕ) → cover b ≡ Some a → length b ≡ block_size
  pub cover_gives : (b a : List ℕ) → cover b ≡ Some a → length a ≡ answer_size
  pub seal_gives : (m a : List ℕ) → seal m ≡ Some a → length a ≡ answer_size

-- whether a buffer is too small for an answer
abbrev pub small : List ℕ → Bool
small out = nat_lt (length out) answer_size

-- what is answered before a rule is asked: a refusal of a small buffer
abbrev pub room : List ℕ → Result (Unit {0}) CallError
room out = cond (small out) (Err SmallBuffer) (Ok tt)

-- what a call answers: a refusal of a small buffer, else whether its rule gives an answer
abbrev pub sealer_value : Option (List ℕ) → List ℕ → Result Bool CallError
sealer_value given out = cond (small out) (Err SmallBuffer) (Ok (is_some given))

-- what a buffer of the size holds after a call: the answer and then what it held, or what it held
abbrev pub placed : Option (List ℕ) → List ℕ → List ℕ
placed (Some answer) out = answer ++ drop answer_size out
placed None out = out

-- what any buffer holds after a call
abbrev pub sealer_after : Option (List ℕ) → List ℕ → List ℕ
sealer_after given out = cond (small out) out (placed given out)
