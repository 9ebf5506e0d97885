-- Parts of byte lists: what a write to a part leaves, and what a part of a list that was put together is.
use Rattle.std.proofs.Common.{◌≡◌, ℕ, ◌+◌, ◌-◌, ◌≤◌, List, ◌++◌, length, take, drop, sym, refl, ap, ◌∙◌, arith}
use borrow.Rule.Slice.PartMut.{put_mid}
use Rattle.std.proofs.lemmas.List.{take_at, drop_at, take-take, take-append-le, drop-append-le, drop-drop, drop-take, length-take-le, length-drop, length-append, append_assoc}
use Rattle.octets.specs.Parts.{part, overwritten}

-- a write to `xs[a..a + k]`, at the numbers of a contract
pub put_mid_is : {X : Type 0} (a k m b : ℕ) (xs ys zs : List X) → k ≡ m → a + m ≡ b → ys ≡ zs → put_mid a k xs ys ≡ take a xs ++ (zs ++ drop b xs)
put_mid_is a k m b xs ys zs ek eb ez =
    let d : drop k (drop a xs) ≡ drop b xs = drop-drop k a xs ∙ ap (λ n. drop (a + n) xs) ek ∙ ap (λ n. drop n xs) eb in
    ap (λ u. take a xs ++ (ys ++ u)) d ∙ ap (λ u. take a xs ++ (u ++ drop b xs)) ez

-- what is left past the first of two lists
pub drop_past : {X : Type 0} (a n : ℕ) (xs ys : List X) → length xs ≡ n → n ≤ a → drop a (xs ++ ys) ≡ drop (a - n) ys
drop_past a n xs ys len h =
    let s : n + (a - n) ≡ a = omega arith in
    ap (λ m. drop m (xs ++ ys)) (sym s) ∙ sym (drop-drop (a - n) n (xs ++ ys)) ∙ ap (drop (a - n)) (drop_at xs ys n len)

pub length-part : (at n : ℕ) (bs : List ℕ) → at + n ≤ length bs → length (part at n bs) ≡ n
length-part at n bs h = length-take-le n (drop at bs) (simp length-drop (omega arith))

-- a part of the first of two lists, and of the second
pub part_left : (a n : ℕ) (xs ys : List ℕ) → a + n ≤ length xs → part a n (xs ++ ys) ≡ part a n xs
part_left a n xs ys h =
    ap (take n) (drop-append-le a xs ys (omega arith)) ∙ take-append-le n (drop a xs) ys (simp length-drop (omega arith))

pub part_right : (a n k : ℕ) (xs ys : List ℕ) → length xs ≡ k → k ≤ a → part a n (xs ++ ys) ≡ part (a - k) n ys
part_right a n k xs ys len h = ap (take n) (drop_past a k xs ys len h)

-- the middle one of three lists
pub part_middle : (at n : ℕ) (xs ys zs : List ℕ) → length xs ≡ at → length ys ≡ n → part at n (xs ++ (ys ++ zs)) ≡ ys
part_middle at n xs ys zs lx ly = ap (take n) (drop_at xs (ys ++ zs) at lx) ∙ take_at ys zs n ly

-- a part of a part
pub part-part : (a n b m : ℕ) (bs : List ℕ) → a + n ≤ m → part a n (part b m bs) ≡ part (b + a) n bs
part-part a n b m bs h =
    let s : a + (m - a) ≡ m = omega arith in
    let d : drop a (take m (drop b bs)) ≡ take (m - a) (drop a (drop b bs)) = ap (λ j. drop a (take j (drop b bs))) (sym s) ∙ drop-take a (m - a) (drop b bs) in
    let h' : n ≤ m - a = omega arith in
    ap (take n) d ∙ take-take n (m - a) (drop a (drop b bs)) h' ∙ ap (take n) (drop-drop a b bs)

-- what copying leaves: the length, the copy, and all that lies before and behind it
pub length-overwritten : (at : ℕ) (new old : List ℕ) → at + length new ≤ length old → length (overwritten at new old) ≡ length old
length-overwritten at new old h =
    let t : length (take at old) ≡ at = length-take-le at old (omega arith) in
    simp (length-append, length-drop, t) (omega arith)

pub part-overwritten : (at n : ℕ) (new old : List ℕ) → length new ≡ n → at ≤ length old → part at n (overwritten at new old) ≡ new
part-overwritten at n new old len h = part_middle at n (take at old) new (drop (at + length new) old) (length-take-le at old h) len

pub part-before : (a n at : ℕ) (new old : List ℕ) → a + n ≤ at → at ≤ length old → part a n (overwritten at new old) ≡ part a n old
part-before a n at new old h k =
    let t : length (take at old) ≡ at = length-take-le at old k in
    part_left a n (take at old) (new ++ drop (at + length new) old) (omega arith) ∙ part-part a n 0 at old h ∙ ap (λ j. part j n old) (omega arith)

pub part_behind : (a n at : ℕ) (new old : List ℕ) → at + length new ≤ a → at ≤ length old → part a n (overwritten at new old) ≡ part a n old
part_behind a n at new old h k =
    let j : ℕ = a - at in
    let past = part_right a n at (take at old) (new ++ drop (at + length new) old) (length-take-le at old k) (omega arith) in
    let back : drop (j - length new) (drop (at + length new) old) ≡ drop a old = drop-drop (j - length new) (at + length new) old ∙ ap (λ m. drop m old) (omega arith) in
    past ∙ part_right j n (length new) new (drop (at + length new) old) refl (omega arith) ∙ ap (take n) back

-- a buffer that was filled up to `at` with p, and is filled further with x
pub overwritten_next : (at : ℕ) (p x old : List ℕ) → length p ≡ at → overwritten at x (p ++ drop at old) ≡ (p ++ x) ++ drop (at + length x) old
overwritten_next at p x old len =
    let t : take at (p ++ drop at old) ≡ p = take_at p (drop at old) at len in
    let d : drop (at + length x) (p ++ drop at old) ≡ drop (at + length x) old =
    sym (drop-drop (length x) at (p ++ drop at old)) ∙ ap (drop (length x)) (drop_at p (drop at old) at len) ∙ drop-drop (length x) at old
    in
    ap (λ u. u ++ (x ++ drop (at + length x) (p ++ drop at old))) t ∙ ap (λ u. p ++ (x ++ u)) d ∙ sym (append_assoc p x (drop (at + length x) old))
