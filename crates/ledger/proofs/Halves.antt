-- The two halves of a tally's bytes.
use Rattle.std.proofs.Common.{◌≡◌, ℕ, ◌*◌, ◌<◌, List, ◌++◌, length, take, drop, sym, refl, ap, ◌∙◌, arith, length-append, take-append-drop}
use Rattle.std.proofs.lemmas.List.{length-take-le, length-drop, take_at, drop_at}
use Rattle.std.proofs.ByRecursion.{All-take, All-drop}
use Rattle.std.specs.Int.Digits.{AllBelowBase}
use Rattle.ledger.specs.Stored.{fields, packed}
use Rattle.ledger.proofs.Fields.{Below, length-packed, fields-packed, packed-fields}
use Rattle.ledger.specs.Sides.{packed_sides, sides_in}

-- the sides that were written are read back
pub sides-back : (w n : ℕ) (o a b s r : List ℕ) → o ≡ a ++ b → length a ≡ w * n → fields w n a ≡ s → fields w n b ≡ r → sides_in w n o ≡ (s, r)
sides-back w n o a b s r e l fs fr =
    let t = take_at a b (w * n) l in
    let d = drop_at a b (w * n) l in
    cc

-- the same of sides that are packed and read with no code between
pub length-packed_sides : (w n : ℕ) (s r : List ℕ) → length s ≡ n → length r ≡ n → length (packed_sides w (s, r)) ≡ 2 * (w * n)
length-packed_sides w n s r ls lr =
    let es : length (packed w s) ≡ w * n = length-packed w s ∙ ap (λ k. w * k) ls in
    let er : length (packed w r) ≡ w * n = length-packed w r ∙ ap (λ k. w * k) lr in
    length-append (packed w s) (packed w r) ∙ omega arith

pub sides_in-packed_sides : (w n : ℕ) (s r : List ℕ) → length s ≡ n → length r ≡ n → Below w s → Below w r → sides_in w n (packed_sides w (s, r)) ≡ (s, r)
sides_in-packed_sides w n s r ls lr bs br =
    sides-back w n (packed_sides w (s, r)) (packed w s) (packed w r) s r refl
    (length-packed w s ∙ ap (λ k. w * k) ls)
    (ap (λ k. fields w k (packed w s)) (sym ls) ∙ fields-packed w s bs)
    (ap (λ k. fields w k (packed w r)) (sym lr) ∙ fields-packed w r br)

pub packed_sides-sides_in : (w n : ℕ) (bs : List ℕ) → AllBelowBase 256 bs → length bs ≡ 2 * (w * n) → packed_sides w (sides_in w n bs) ≡ bs
packed_sides-sides_in w n bs u l =
    let t : length (take (w * n) bs) ≡ w * n = length-take-le (w * n) bs (omega arith) in
    let s = packed-fields w n (take (w * n) bs) (All-take (λ d. d < 256) (w * n) bs u) t in
    let r = packed-fields w n (drop (w * n) bs) (All-drop (λ d. d < 256) (w * n) bs u) (simp length-drop (omega arith)) in
    let j = take-append-drop (w * n) bs in
    cc
