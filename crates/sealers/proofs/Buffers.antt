-- Buffers: an answer at the front of one.
use Rattle.std.proofs.Common.{◌≡◌, ℕ, ◌<◌, ◌≤◌, false, List, ◌++◌, length, drop, Some, None, Ok, Option, Result, ap, ◌∙◌, arith, MutBor}
use Rattle.std.proofs.lemmas.Bool.Decides.{nat_tests}
use Rattle.std.proofs.lemmas.List.{take-append-drop}
use Rattle.std.proofs.lemmas.Option.{MatchOption-at_some}
use Rattle.std.specs.Array.{IsFirstChunk}
use Rattle.std.specs.Option.{MatchOption}
use Rattle.std.specs.Result.{result_ok}
use Rattle.status.specs.declared.errors.CallError.{CallError}
use Rattle.sealers.specs.Rules.{small, sealer_value, sealer_after}
use Rattle.sealers.specs.Sizes.{answer_size}

-- the front that was found is that of the buffer
pub front_of : (out : List ℕ) (found : Option (MutBor (List ℕ))) {r : Result (MutBor (List ℕ)) CallError} (front : MutBor (List ℕ)) →
    MatchOption found (length out < answer_size) (λ y. IsFirstChunk out y.now answer_size) → found ≡ result_ok r → r ≡ Ok front → IsFirstChunk out front.now answer_size
front_of out found {r} front h e was = MatchOption-at_some _ (λ y. IsFirstChunk out y.now answer_size) front (e ∙ ap result_ok was) h

-- what a rule that gives none answers and leaves
pub left_value : (o : Option (List ℕ)) (out : List ℕ) → answer_size ≤ length out → o ≡ None → Ok false ≡ sealer_value o out
left_value o out l e =
    let t : small out ≡ false = grind (arith, nat_tests) in
    rw (e, t)

pub left_after : (o : Option (List ℕ)) (front out : List ℕ) → IsFirstChunk out front answer_size → o ≡ None → front ++ drop answer_size out ≡ sealer_after o out
left_after o front out h e =
    let l = h.enough in
    let t : small out ≡ false = grind (arith, nat_tests) in
    let s = h.same in
    rw (e, t, s) (take-append-drop answer_size out)

-- and one that gives an answer
pub placed_after : (o : Option (List ℕ)) (answer out : List ℕ) → answer_size ≤ length out → o ≡ Some answer → answer ++ drop answer_size out ≡ sealer_after o out
placed_after o answer out l e =
    let t : small out ≡ false = grind (arith, nat_tests) in
    rw (e, t)
