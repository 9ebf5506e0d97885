-- Checking an answer is the way back from answering.
use Rattle.std.proofs.Common.{◌≡◌, ℕ, ◌+◌, ◌-◌, ◌*◌, ◌/◌, ◌%◌, ◌≤◌, Bool, true, cond, leb, List, [], ◌∷◌, ◌++◌, length, get_or, take, drop, Some, None, Ok, Err, Option, Result, sym, refl, ap, ◌∙◌, mod-eq_of_lt, arith}
use lib.Arith.{digits_div, digits_mod}
use Rattle.std.proofs.lemmas.List.{length-append, length-take-le, get_or_at, get_or-append-add, take_at, take-append-drop, drop_more, drop_all}
use Rattle.std.proofs.lemmas.Bool.{leb-true}
use Rattle.std.proofs.lemmas.Bool.Decides.{nat_tests}
use Rattle.apdu.specs.declared.kinds.Kind.{Kind}
use Rattle.octets.specs.Big.{be}
use Rattle.status.specs.declared.words.StatusWord.{StatusWord}
use Rattle.status.specs.Words.{all_words, word_in, word_value, word_known}
use Rattle.answers.proofs.Joins.{Bytes}
use Rattle.answers.specs.declared.faults.AnswerFault.{AnswerFault}
use Rattle.answers.specs.declared.faults.AnswerFault.TheVariants.{NoStatusWord}
use Rattle.answers.specs.Lengths.{data_length}
use Rattle.answers.specs.Checking.{last_two, data_of, judged, judged_known, examined_as}
use Rattle.answers.specs.Answered.{answer_bytes, data_beside, WayBack}

-- the two bytes of each word are read as the word
word_back : (w : StatusWord) → word_known ((word_value w / 256 % 256) * 256 + word_value w % 256) ≡ Some w
word_back w = grind (arith, nat_tests)

-- the word that a value names has that value
word_only : (ws : List StatusWord) (v : ℕ) (w : StatusWord) → word_in ws v ≡ Some w → word_value w ≡ v
word_only [] v w is = grind arith
word_only (x ∷ ws) v w is = grind (arith, nat_tests, word_only ws v w)

-- a word is judged to be good beside data of the right length, and only there
good : (n found : ℕ) (w : StatusWord) → data_beside w (Some n) ≡ Some found → judged n found w ≡ Ok w
good n found w is = grind (arith, nat_tests)

only-good : (n found : ℕ) (o : Option StatusWord) (w : StatusWord) → judged_known n found o ≡ Ok w → (o ≡ Some w) × (data_beside w (Some n) ≡ Some found)
only-good n found None w is = grind arith
only-good n found (Some v) w is = grind (arith, nat_tests)

-- the word and the data of the bytes of an answer
last_two_of : (d : List ℕ) (x y : ℕ) → last_two (d ++ (x ∷ y ∷ [])) ≡ x * 256 + y
last_two_of d x y =
    let r = d ++ (x ∷ y ∷ []) in
    let len : length r ≡ length d + 2 = length-append d (x ∷ y ∷ []) in
    let high : get_or r (length d) 0 ≡ x = get_or_at d x (y ∷ []) 0 (length d) refl in
    let low : get_or r (length d + 1) 0 ≡ y = get_or-append-add d (x ∷ y ∷ []) 1 0 in
    let at : length r - 2 ≡ length d = omega arith in
    let next : length r - 1 ≡ length d + 1 = omega arith in
    ap (λ n. get_or r n 0 * 256 + get_or r (length r - 1) 0) at ∙ ap (λ n. get_or r (length d) 0 * 256 + get_or r n 0) next ∙ ap (λ b. b * 256 + get_or r (length d + 1) 0) high ∙ ap (λ b. x * 256 + b) low

data_of-answer : (d : List ℕ) (w : StatusWord) → data_of (answer_bytes d w) ≡ d
data_of-answer d w =
    let len : length (answer_bytes d w) ≡ length d + 2 = length-append d (be 2 (word_value w)) in
    take_at d (be 2 (word_value w)) (length (answer_bytes d w) - 2) (omega arith)

-- an answer is read as its word
answer_read : (o : Option ℕ) (d : List ℕ) (w : StatusWord) → data_beside w o ≡ Some (length d) → examined_as o (answer_bytes d w) ≡ Ok w
answer_read None d w is = grind arith
answer_read (Some n) d w is =
    let r = answer_bytes d w in
    let len : length r ≡ length d + 2 = length-append d (be 2 (word_value w)) in
    let long : leb 2 (length r) ≡ true = grind (arith, nat_tests) in
    let size : length r - 2 ≡ length d = omega arith in
    let word : word_known (last_two r) ≡ Some w = ap word_known (last_two_of d (word_value w / 256 % 256) (word_value w % 256)) ∙ word_back w in
    let sized : judged_known n (length r - 2) (word_known (last_two r)) ≡ judged n (length d) w = ap (λ k. judged_known n k (word_known (last_two r))) size ∙ ap (judged_known n (length d)) word in
    ap (λ t. cond t (judged_known n (length r - 2) (word_known (last_two r))) (Err NoStatusWord)) long ∙ sized ∙ good n (length d) w is

-- the last two bytes of a response are those of their number
last_bytes : (r : List ℕ) (n : ℕ) → n + 2 ≡ length r → Bytes r → take n r ++ be 2 (last_two r) ≡ r
last_bytes r n len small =
    let x : ℕ = get_or r n 0 in
    let y : ℕ = get_or r (n + 1) 0 in
    let e : last_two r ≡ x * 256 + y = ap (λ k. get_or r k 0 * 256 + get_or r (length r - 1) 0) (omega arith) ∙ ap (λ k. x * 256 + get_or r k 0) (omega arith) in
    let high : (x * 256 + y) / 256 % 256 ≡ x = ap (λ q. q % 256) (digits_div x (small (n + 1) (omega arith))) ∙ mod-eq_of_lt (small n (omega arith)) in
    let low : (x * 256 + y) % 256 ≡ y = digits_mod x (small (n + 1) (omega arith)) in
    let tail : drop n r ≡ x ∷ y ∷ [] = drop_more r n 0 (omega arith) ∙ ap (λ l. x ∷ l) (drop_more r (n + 1) 0 (omega arith)) ∙ ap (λ l. x ∷ y ∷ l) (drop_all (n + 1 + 1) r (omega arith)) in
    let bytes : be 2 (last_two r) ≡ drop n r = ap (be 2) e ∙ ap (λ b. b ∷ (x * 256 + y) % 256 ∷ []) high ∙ ap (λ b. x ∷ b ∷ []) low ∙ sym tail in
    ap (λ l. take n r ++ l) bytes ∙ take-append-drop n r

-- what is read as a word is such an answer
only-long : (t : Bool) (x : Result StatusWord AnswerFault) (w : StatusWord) → cond t x (Err NoStatusWord) ≡ Ok w → (t ≡ true) × (x ≡ Ok w)
only-long t x w is = grind arith

only_read : (o : Option ℕ) (r : List ℕ) (w : StatusWord) → Bytes r → examined_as o r ≡ Ok w →
    (data_beside w o ≡ Some (length (data_of r))) × (r ≡ answer_bytes (data_of r) w)
only_read None r w small is = grind arith
only_read (Some n) r w small is =
    let k : ℕ = length r - 2 in
    let long = only-long (leb 2 (length r)) (judged_known n k (word_known (last_two r))) w is in
    let two : 2 ≤ length r = leb-true 2 (length r) long.0 in
    let fair = only-good n k (word_known (last_two r)) w long.1 in
    let value : last_two r ≡ word_value w = sym (word_only all_words (last_two r) w fair.0) in
    let size : k ≡ length (data_of r) = sym (length-take-le k r (omega arith)) in
    (fair.1 ∙ ap (λ m. Some m) size, sym (last_bytes r k (omega arith) small) ∙ ap (λ v. take k r ++ be 2 v) value)

pub way_back : (k : Kind) (r : List ℕ) → Bytes r → WayBack k r
way_back k r small = record {
  reads = λ d w a is. (ap (examined_as (data_length k)) is ∙ answer_read (data_length k) d w a, ap data_of is ∙ data_of-answer d w);
  only = λ w is. only_read (data_length k) r w small is;
}
