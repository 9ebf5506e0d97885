-- The loops of the bench sealer, a step at a time.
use Rattle.std.proofs.Common.{◌≡◌, ℕ, suc, ◌+◌, ◌-◌, ◌<◌, ◌≤◌, List, [], ◌∷◌, ◌++◌, length, take, set, sym, ap, ◌∙◌, arith}
use Rattle.std.proofs.lemmas.List.{take_more_set, take_all, append_assoc, append-nil}
use Rattle.sealers.specs.Bench.{mixed, top, stretched}

pub stretch_more : (n j h g t : ℕ) (out R : List ℕ) → j < n → length out ≡ n → g ≡ mixed h j → t ≡ top g → take j out ++ stretched (n - j) j h ≡ R →
    take (j + 1) (set out j t) ++ stretched (n - (j + 1)) (j + 1) g ≡ R
unfolding stretched
stretch_more n j h g t out R l len eg et inv =
    let within : j < length out = omega arith in
    let s : n - j ≡ suc (n - (j + 1)) = omega arith in
    let more = take_more_set out j (top (mixed h j)) within in
    let i' = rw s at inv in
    let a = append_assoc (take j out) (top (mixed h j) ∷ []) (stretched (n - (j + 1)) (j + 1) (mixed h j)) in
    rw (et, eg) (ap (λ u. u ++ stretched (n - (j + 1)) (j + 1) (mixed h j)) more ∙ a ∙ i')

pub stretch_all : (n j h : ℕ) (out R : List ℕ) → n ≤ j → length out ≡ n → take j out ++ stretched (n - j) j h ≡ R → out ≡ R
unfolding stretched
stretch_all n j h out R l len inv =
    let z : n - j ≡ 0 = omega arith in
    let le : length out ≤ j = omega arith in
    let t = take_all j out le in
    let i' = rw (z, t) at inv in
    sym (append-nil out) ∙ i'
