-- The fields of a body whose transaction is not known.
use Rattle.std.proofs.Common.{◌≡◌, ℕ, Bool, true, false, ◌&&◌, leb, List, get_or, drop, None, refl, ap, ◌∙◌, arith}
use Rattle.std.proofs.lemmas.Bool.Decides.{nat_tests}
use Rattle.measures.specs.Bodies.{transaction_said, count_right, type_known, parties_good, fields_good}
use Rattle.measures.specs.Categories.{categories_of, ids_known}
use Rattle.measures.specs.Sizes.{head_size}

one_false : (p q r s : Bool) → (p && (q && ((r && false) && s))) ≡ false
one_false false q r s = refl
one_false true false r s = refl
one_false true true false s = refl
one_false true true true s = refl

pub none_said : (b : List ℕ) → transaction_said (get_or b 49 0) ≡ None → fields_good b ≡ false
none_said b n =
    let f : leb (get_or b 49 0) 1 ≡ false = grind (arith, nat_tests) in
    ap (λ t. count_right b && (ids_known (categories_of (drop head_size b)) && ((type_known b && t) && parties_good b))) f
    ∙ one_false (count_right b) (ids_known (categories_of (drop head_size b))) (type_known b) (parties_good b)
