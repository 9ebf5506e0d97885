-- Numbers of one width that lie side by side.
use Rattle.std.proofs.Common.{◌≡◌, ℕ, zero, suc, ◌+◌, ◌*◌, ◌^◌, ◌<◌, ◌≤◌, true, cond, ◌&&◌, ◌==◌, ltb, List, [], ◌∷◌, ◌++◌, length, get_or, take, drop, Some, None, sym, refl, ap, ◌∙◌, mul-suc, arith, lit<, length-append, take-append-drop, length-take, eq-eqb, le-leb, lt-ltb}
use native.Mathlib.Nat.{pow-le-pow_right}
use Rattle.std.proofs.lemmas.List.{length-take-le, length-drop, take_at, take_all, drop_at, drop_all, append-nil, nil_from_length}
use Rattle.std.proofs.lemmas.List.Concat.{flat_map-cons}
use Rattle.std.proofs.lemmas.Int.Digits.{number_lt}
use Rattle.std.proofs.ByRecursion.{All-take, All-drop}
use Rattle.std.proofs.lemmas.Nat.{from_be_bytes-to_be_bytes_8}
use Rattle.std.specs.Int.{w64, from_be_bytes}
use Rattle.std.specs.Int.Digits.{AllBelowBase}
use Rattle.std.specs.List.{flat_map}
use Rattle.std.specs.Simd.{first_chunks}
use Rattle.octets.specs.Big.{be, big, writable, number_written}
use Rattle.octets.specs.Fits.{fits}
use Rattle.octets.specs.Parts.{inside, overwritten, copied}
use Rattle.octets.proofs.Bigs.{length-be, big-be, be-big}
use Rattle.ledger.specs.Stored.{fields, packed, sized, stored_read, stored_written}

pub fields_next : (w n : ℕ) (bs : List ℕ) → fields w (suc n) bs ≡ big (take w bs) ∷ fields w n (drop w bs)
unfolding fields
fields_next w n bs = refl

pub fields_none : (w : ℕ) (bs : List ℕ) → fields w 0 bs ≡ []
unfolding fields
fields_none w bs = refl

pub length-fields : (w n : ℕ) (bs : List ℕ) → length (fields w n bs) ≡ n
unfolding fields
length-fields w zero bs = refl
length-fields w (suc n) bs = ap suc (length-fields w n (drop w bs))

pub length-packed : (w : ℕ) (ns : List ℕ) → length (packed w ns) ≡ w * length ns
length-packed w [] = omega arith
length-packed w (n ∷ ns) = length-append (be w n) (packed w ns) ∙ omega (arith, length-be w n, length-packed w ns, mul-suc w (length ns))

-- numbers that each fit into w bytes
abbrev pub Below : ℕ → List ℕ → Type 0
Below w ns = (i : ℕ) → i < length ns → get_or ns i 0 < 256 ^ w

-- what is written is read back
pub fields-packed : (w : ℕ) (ns : List ℕ) → Below w ns → fields w (length ns) (packed w ns) ≡ ns
fields-packed w [] b = fields_none w []
fields-packed w (n ∷ ns) b =
    let t = take_at (be w n) (packed w ns) w (length-be w n) in
    let d = drop_at (be w n) (packed w ns) w (length-be w n) in
    let v : big (be w n) ≡ n = big-be w n (b 0 (omega arith)) in
    let r = fields-packed w ns (λ i h. b (suc i) (omega arith)) in
    let f = fields_next w (length ns) (be w n ++ packed w ns) in
    cc

-- what is read is written again as the same bytes
pub packed-fields : (w n : ℕ) (bs : List ℕ) → AllBelowBase 256 bs → length bs ≡ w * n → packed w (fields w n bs) ≡ bs
packed-fields w zero bs u l = ap (packed w) (fields_none w bs) ∙ sym (nil_from_length bs (omega arith))
packed-fields w (suc n) bs u l =
    let m : w * suc n ≡ w * n + w = mul-suc w n in
    let t : length (take w bs) ≡ w = length-take-le w bs (omega arith) in
    let h : be w (big (take w bs)) ≡ take w bs = ap (λ k. be k (big (take w bs))) (sym t) ∙ be-big (take w bs) (All-take (λ d. d < 256) w bs u) in
    let r : packed w (fields w n (drop w bs)) ≡ drop w bs = packed-fields w n (drop w bs) (All-drop (λ d. d < 256) w bs u) (simp length-drop (omega arith)) in
    ap (packed w) (fields_next w n bs) ∙ ap (λ x. x ++ packed w (fields w n (drop w bs))) h ∙ ap (λ y. take w bs ++ y) r ∙ take-append-drop w bs

-- numbers of w bytes fit into w bytes
pub fields_below : (w n : ℕ) (bs : List ℕ) → AllBelowBase 256 bs → (i : ℕ) → i < n → get_or (fields w n bs) i 0 < 256 ^ w
fields_below w zero bs u i h = absurd (omega arith)
fields_below w (suc n) bs u zero h =
    let k : length (take w bs) ≤ w = omega (arith, length-take w bs) in
    let p : 256 ^ length (take w bs) ≤ 256 ^ w = pow-le-pow_right (lit< tt) k in
    let v = number_lt 256 (take w bs) (All-take (λ d. d < 256) w bs u) in
    rw (fields_next w n bs) (omega arith)
fields_below w (suc n) bs u (suc i) h = rw (fields_next w n bs) (fields_below w n (drop w bs) (All-drop (λ d. d < 256) w bs u) i (omega arith))

-- numbers that were written are read back from where they were copied to
pub packed_back : (w : ℕ) (ns bs out : List ℕ) → packed w ns ≡ bs → Below w ns → out ≡ bs → fields w (length ns) out ≡ ns
packed_back w ns bs out e b o = ap (fields w (length ns)) (o ∙ sym e) ∙ fields-packed w ns b

-- the bytes of numbers are the bytes of each, joined
pub packed_flat : (w : ℕ) (ns : List ℕ) (bss : List (List ℕ)) → length bss ≡ length ns → ((i : ℕ) → i < length ns → be w (get_or ns i 0) ≡ get_or bss i []) → packed w ns ≡ flat_map (λ x. x) bss
packed_flat w [] [] l h = refl
packed_flat w [] (b ∷ bss) l h = absurd (omega arith)
packed_flat w (n ∷ ns) [] l h = absurd (omega arith)
packed_flat w (n ∷ ns) (b ∷ bss) l h =
    let first : be w n ≡ b = h 0 (omega arith) in
    let rest : packed w ns ≡ flat_map (λ x. x) bss = packed_flat w ns bss (omega arith) (λ i k. h (suc i) (omega arith)) in
    let joined = flat_map-cons (λ x. x) b bss in
    cc

pub below_one : (w n : ℕ) → n < 256 ^ w → Below w (n ∷ [])
below_one w n h zero k = h
below_one w n h (suc i) k = absurd (omega arith)

-- eight bytes, read by the library
eight_read : (bs : List ℕ) → AllBelowBase 256 bs → length bs ≡ 8 → from_be_bytes w64 bs ≡ big bs
eight_read bs u l =
    let s : be 8 (big bs) ≡ bs = ap (λ k. be k (big bs)) (sym l) ∙ be-big bs u in
    let h : big bs < 2 ^ 64 = rw l at (number_lt 256 bs u) in
    ap (from_be_bytes w64) (sym s) ∙ from_be_bytes-to_be_bytes_8 (big bs) h

-- numbers of eight bytes, each read from its chunk
pub chunks_read : (n : ℕ) (vs bs : List ℕ) → AllBelowBase 256 bs → length bs ≡ 8 * n → length vs ≡ n → ((i : ℕ) → i < n → get_or vs i 0 ≡ from_be_bytes w64 (get_or (first_chunks 8 n bs) i [])) → vs ≡ fields 8 n bs
chunks_read zero vs bs u l m h = nil_from_length vs m ∙ sym (fields_none 8 bs)
chunks_read (suc n) [] bs u l m h = absurd (omega arith)
chunks_read (suc n) (v ∷ vs) bs u l m h =
    let first : v ≡ big (take 8 bs) = h 0 (omega arith) ∙ eight_read (take 8 bs) (All-take (λ d. d < 256) 8 bs u) (length-take-le 8 bs (omega arith)) in
    let rest : vs ≡ fields 8 n (drop 8 bs) = chunks_read n vs (drop 8 bs) (All-drop (λ d. d < 256) 8 bs u) (simp length-drop (omega arith)) (omega arith) (λ i k. h (suc i) (omega arith)) in
    let f = fields_next 8 n bs in
    cc

-- one number over the whole of a place of its width
module _ (w v : ℕ) (out : List ℕ) (le : w ≤ 8) (below : v < 256 ^ w) (len : length out ≡ w) where
  fits_one : writable (length out) v ≡ true
  fits_one = ap (λ n. writable n v) len ∙ ap (λ b. b && ltb v (256 ^ w)) (le-leb w 8 le) ∙ lt-ltb v (256 ^ w) below

  whole_one : sized w 1 out ≡ true
  whole_one = eq-eqb (length out) (w * 1) (omega (arith, len))

  pub one_value : fits (writable (length out) v) ≡ fits (sized w 1 out)
  one_value = ap fits (fits_one ∙ sym whole_one)

  pub one_written : number_written v out ≡ stored_written w 1 (v ∷ []) out
  one_written =
      ap (λ b. cond b (be (length out) v) out) fits_one ∙ ap (λ n. be n v) len ∙ sym (append-nil (be w v))
      ∙ sym (ap (λ b. cond b (be w v ++ []) out) whole_one)

  -- and it is read back
  pub one_back : (new : List ℕ) → new ≡ number_written v out → fields w 1 new ≡ v ∷ []
  one_back new e =
      packed_back w (v ∷ []) (packed w (v ∷ [])) new refl (below_one w v below) (e ∙ one_written ∙ ap (λ b. cond b (packed w (v ∷ [])) out) whole_one)

-- what one number is read from, and its bytes
pub one_read : (w : ℕ) (bs : List ℕ) → length bs ≡ w → Some (big bs ∷ []) ≡ stored_read w 1 bs
one_read w bs len =
    let whole : sized w 1 bs ≡ true = eq-eqb (length bs) (w * 1) (omega (arith, len)) in
    let all : take w bs ≡ bs = take_all w bs (omega (arith, len)) in
    sym (ap (λ b. cond b (Some (fields w 1 bs)) None) whole ∙ ap Some (fields_next w 0 bs ∙ ap (λ ns. big (take w bs) ∷ ns) (fields_none w (drop w bs)) ∙ ap (λ x. big x ∷ []) all))

pub one_bytes : (w v : ℕ) (bs : List ℕ) → length bs ≡ w → be (length bs) v ≡ bs → packed w (v ∷ []) ≡ bs
one_bytes w v bs len e = append-nil (be w v) ∙ ap (λ n. be n v) (sym len) ∙ e

-- bytes that were copied over the whole of a place
pub whole_back : (bytes out new : List ℕ) → length out ≡ length bytes → new ≡ copied 0 bytes out → new ≡ bytes
whole_back bytes out new len e =
    let t : inside 0 (length bytes) out ≡ true = le-leb (0 + length bytes) (length out) (omega (arith, len)) in
    let rest : drop (0 + length bytes) out ≡ [] = drop_all (0 + length bytes) out (omega (arith, len)) in
    e ∙ ap (λ b. cond b (overwritten 0 bytes out) out) t ∙ ap (λ u. bytes ++ u) rest ∙ append-nil bytes

pub whole_after : (bytes out new : List ℕ) → length out ≡ length bytes → new ≡ copied 0 bytes out → new ≡ cond (length out == length bytes) bytes out
whole_after bytes out new len e = whole_back bytes out new len e ∙ sym (ap (λ b. cond b bytes out) (eq-eqb (length out) (length bytes) len))
