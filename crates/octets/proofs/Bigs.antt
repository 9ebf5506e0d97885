-- Numbers of several bytes: how long they are, what they read back as, and their lowest bytes.
use Rattle.std.proofs.Common.{◌≡◌, ℕ, zero, suc, ◌+◌, ◌-◌, ◌*◌, ◌/◌, ◌%◌, ◌^◌, ◌<◌, ◌≤◌, List, [], ◌∷◌, length, take, drop, sym, refl, ap, ◌∙◌, mod-eq_of_lt, mul_assoc, add-mul, arith, lit<, take_all}
use native.Mathlib.Nat.{mod-one, pow-succ', pow-le-pow_right, mul-add-div_right, mul-add-mod_self_right}
use lib.Arith.{mod-mul, digits_div}
use Rattle.std.proofs.lemmas.List.{length-drop}
use Rattle.std.proofs.lemmas.Int.Digits.{number_lt}
use Rattle.std.specs.Int.Digits.{number_from_digits_after, AllBelowBase}
use Rattle.octets.specs.Big.{be, big}

pub length-be : (k v : ℕ) → length (be k v) ≡ k
length-be zero v = refl
length-be (suc zero) v = refl
length-be (suc (suc k)) v = ap suc (length-be (suc k) v)

-- up to eight bytes lie within 64 bits
pub power_room : (i : ℕ) → i < 8 → 256 ^ i ≤ 256 ^ 7
power_room i h = let h' : i ≤ 7 = omega arith in pow-le-pow_right (lit< tt) h'

power_pos : (k : ℕ) → zero < 256 ^ k
power_pos k = let h : zero ≤ k = omega arith in pow-le-pow_right {n = 256} (lit< tt) {i = zero} h

-- reading on from n over the k bytes of v
number_from_digits_after-be : (k n v : ℕ) → number_from_digits_after 256 n (be k v) ≡ n * 256 ^ k + v % 256 ^ k
number_from_digits_after-be zero n v = omega (arith, mod-one v)
number_from_digits_after-be (suc zero) n v = refl
number_from_digits_after-be (suc (suc k)) n v =
    let C : ℕ = 256 ^ suc k in
    let d : ℕ = v / C % 256 in
    let e = mod-mul v {m = 256} {c = C} (lit< tt) (power_pos (suc k)) in
    let p = pow-succ' 256 (suc k) in
    let a = add-mul (n * 256) d C in
    let m = mul_assoc n 256 C in
    number_from_digits_after-be (suc k) (n * 256 + d) v ∙ simp p (omega (arith, e, a, m))

-- what fits into k bytes is read back from them
pub big-be : (k v : ℕ) → v < 256 ^ k → big (be k v) ≡ v
big-be k v h = number_from_digits_after-be k 0 v ∙ omega (arith, mod-eq_of_lt h)

-- the bytes of a number leave out what stands above them
be_above : (k a r : ℕ) → be k (a * 256 ^ k + r) ≡ be k r
be_above zero a r = refl
be_above (suc zero) a r = ap (λ d. d ∷ []) (mul-add-mod_self_right a 256 r)
be_above (suc (suc k)) a r =
    let C : ℕ = 256 ^ suc k in
    let above : a * 256 ^ suc (suc k) + r ≡ (a * 256) * C + r = simp (pow-succ' 256 (suc k)) (omega (arith, mul_assoc a 256 C)) in
    let high : ((a * 256) * C + r) / C % 256 ≡ r / C % 256 =
    ap (λ q. q % 256) (mul-add-div_right (power_pos (suc k)) (a * 256) r) ∙ mul-add-mod_self_right a 256 (r / C)
    in
    ap (be (suc (suc k))) above ∙ ap (λ d. d ∷ be (suc k) ((a * 256) * C + r)) high ∙ ap (λ l. (r / C % 256) ∷ l) (be_above (suc k) (a * 256) r)

-- a first byte counts for as many places as follow it
number_from_digits_after-place : (bs : List ℕ) (n : ℕ) → number_from_digits_after 256 n bs ≡ n * 256 ^ length bs + big bs
number_from_digits_after-place [] n = omega arith
number_from_digits_after-place (b ∷ bs) n =
    let C : ℕ = 256 ^ length bs in
    let p = pow-succ' 256 (length bs) in
    let m = mul_assoc n 256 C in
    let a = add-mul (n * 256) b C in
    let z = add-mul (0 * 256) b C in
    number_from_digits_after-place bs (n * 256 + b) ∙ simp p (omega (arith, a, m, z, number_from_digits_after-place bs (0 * 256 + b)))

-- bytes are written again from the number that they write
pub be-big : (bs : List ℕ) → AllBelowBase 256 bs → be (length bs) (big bs) ≡ bs
be-big [] u = refl
be-big (b ∷ []) u = let s : (0 * 256 + b) % 256 ≡ b = omega (arith, mod-eq_of_lt u.0) in ap (λ d. d ∷ []) s
be-big (b ∷ c ∷ bs) u =
    let rest = c ∷ bs in
    let C : ℕ = 256 ^ suc (length bs) in
    let small : big rest < C = number_lt 256 rest u.1 in
    let v : big (b ∷ rest) ≡ b * C + big rest = number_from_digits_after-place rest (0 * 256 + b) ∙ ap (λ n. n * C + big rest) (omega arith) in
    let high : (b * C + big rest) / C % 256 ≡ b = ap (λ q. q % 256) (digits_div b small) ∙ mod-eq_of_lt u.0 in
    ap (be (suc (suc (length bs)))) v ∙ ap (λ d. d ∷ be (suc (length bs)) (b * C + big rest)) high ∙ ap (λ l. b ∷ l) (be_above (suc (length bs)) b (big rest) ∙ be-big (c ∷ bs) u.1)

-- the same of bytes of a known length
pub be-big_of : (k : ℕ) (bs : List ℕ) → length bs ≡ k → AllBelowBase 256 bs → be k (big bs) ≡ bs
be-big_of k bs len u = ap (λ n. be n (big bs)) (sym len) ∙ be-big bs u

-- the k lowest of n bytes
pub drop-be : (d k n v : ℕ) → n ≡ d + k → drop d (be n v) ≡ be k v
drop-be zero k n v e = let s : n ≡ k = omega arith in ap (λ m. be m v) s
drop-be (suc d) k zero v e = absurd (omega arith)
drop-be (suc zero) k (suc zero) v e = let z : 0 ≡ k = omega arith in ap (λ m. be m v) z
drop-be (suc (suc d)) k (suc zero) v e = absurd (omega arith)
drop-be (suc d) k (suc (suc n)) v e = drop-be d k (suc n) v (omega arith)

-- the same, cut out of the eight bytes of a u64
pub low_bytes : (k v : ℕ) (all low : List ℕ) → k ≤ 8 → all ≡ be 8 v → low ≡ take (8 - (8 - k)) (drop (8 - k) all) → low ≡ be k v
low_bytes k v all low h is cut =
    let len : length all ≡ 8 = ap length is in
    let t : take (8 - (8 - k)) (drop (8 - k) all) ≡ drop (8 - k) all = take_all (8 - (8 - k)) (drop (8 - k) all) (simp length-drop (omega arith)) in
    cut ∙ t ∙ ap (drop (8 - k)) is ∙ drop-be (8 - k) k 8 v (omega arith)
