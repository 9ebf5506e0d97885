-- The fields of an answer, one after the other, are the answer.
use Rattle.std.proofs.Common.{◌≡◌, ℕ, ◌+◌, ◌<◌, ◌≤◌, List, ◌∷◌, ◌++◌, length, get_or, drop, Some, None, Option, sym, refl, ap, ◌∙◌, arith}
use Rattle.std.proofs.ByRecursion.{All-from_get_or}
use Rattle.std.proofs.lemmas.List.{length-drop, get_or-drop, get_or-take, take_all, take-append-drop, drop-drop, drop_more}
use Rattle.std.proofs.lemmas.Bool.Decides.{nat_tests}
use Rattle.std.specs.Int.Digits.{AllBelowBase}
use Rattle.octets.specs.Big.{be, big}
use Rattle.octets.specs.Parts.{part}
use Rattle.octets.proofs.Bigs.{be-big_of}
use Rattle.octets.proofs.Pieces.{length-part}
use Rattle.measures.specs.declared.invoices.Transaction.{Transaction}
use Rattle.measures.specs.Bodies.{transaction_byte, transaction_said}
use Rattle.answers.specs.Fields.{Signed, signed_bytes, signed_in, signed_as, signed_read, amounts_in, amounts_bytes}

-- bytes that are below 256
abbrev pub Bytes : List ℕ → Type 0
Bytes bs = (i : ℕ) → i < length bs → get_or bs i 0 < 256

-- a part and what follows it
cut : (a n b : ℕ) (bs rest : List ℕ) → a + n ≡ b → rest ≡ drop b bs → part a n bs ++ rest ≡ drop a bs
cut a n b bs rest e is = ap (λ l. part a n bs ++ l) (is ∙ ap (λ k. drop k bs) (sym e) ∙ sym (drop-drop n a bs)) ∙ take-append-drop n (drop a bs)

-- the last part
end : (a n : ℕ) (bs : List ℕ) → a + n ≡ length bs → part a n bs ≡ drop a bs
end a n bs e = take_all n (drop a bs) (simp length-drop (omega arith))

-- a number in a part is written as the part
number : (a n : ℕ) (bs : List ℕ) → a + n ≤ length bs → Bytes bs → be n (big (part a n bs)) ≡ part a n bs
number a n bs h small =
    let p : List ℕ = part a n bs in
    let len : length p ≡ n = length-part a n bs h in
    let under : AllBelowBase 256 p = All-from_get_or (λ d. d < 256) p 0 (λ i k. let j : i < n = omega arith in rw (get_or-take, get_or-drop) (small (a + i) (omega arith))) in
    be-big_of n p len under

-- the same, and what follows it
number_cut : (a n b : ℕ) (bs rest : List ℕ) → a + n ≡ b → b ≤ length bs → Bytes bs → rest ≡ drop b bs → be n (big (part a n bs)) ++ rest ≡ drop a bs
number_cut a n b bs rest e h small is = ap (λ l. l ++ rest) (number a n bs (omega arith) small) ∙ cut a n b bs rest e is

-- a byte and what follows it
byte_cut : (a b : ℕ) (bs rest : List ℕ) (x : ℕ) → a + 1 ≡ b → a < length bs → x ≡ get_or bs a 0 → rest ≡ drop b bs → x ∷ rest ≡ drop a bs
byte_cut a b bs rest x e h is r = ap (λ y. y ∷ rest) is ∙ ap (λ l. get_or bs a 0 ∷ l) (r ∙ ap (λ k. drop k bs) (sym e)) ∙ sym (drop_more bs a 0 h)

-- a transaction has the byte that says it
byte_said : (b : ℕ) (t : Transaction) → transaction_said b ≡ Some t → transaction_byte t ≡ b
byte_said b t is = grind (arith, nat_tests)

signed_joined : (bs : List ℕ) (t : Transaction) → length bs ≡ 577 → Bytes bs → transaction_said (get_or bs 49 0) ≡ Some t → signed_bytes (signed_in bs t) ≡ bs
signed_joined bs t len small is =
    let seal = end 321 256 bs (omega arith) in
    let block = cut 65 256 321 bs _ refl seal in
    let total = number_cut 61 4 65 bs _ refl (omega arith) small block in
    let side = number_cut 57 4 61 bs _ refl (omega arith) small total in
    let amount = number_cut 50 7 57 bs _ refl (omega arith) small side in
    let transaction = byte_cut 49 50 bs _ _ refl (omega arith) (byte_said _ t is) amount in
    let type_code = byte_cut 48 49 bs _ _ refl (omega arith) refl transaction in
    let buyer = cut 28 20 48 bs _ refl type_code in
    let taxpayer = cut 8 20 28 bs _ refl buyer in
    cut 0 8 8 bs _ refl taxpayer

-- what is read from bytes is written as they are
signed_as_back : (bs : List ℕ) (o : Option Transaction) (s : Signed) → length bs ≡ 577 → Bytes bs → o ≡ transaction_said (get_or bs 49 0) → signed_as bs o ≡ Some s → signed_bytes s ≡ bs
signed_as_back bs None s len small is e = grind arith
signed_as_back bs (Some t) s len small is e = let same : signed_in bs t ≡ s = cc in ap signed_bytes (sym same) ∙ signed_joined bs t len small (sym is)

pub signed_back : (bs : List ℕ) (s : Signed) → Bytes bs → signed_read bs ≡ Some s → signed_bytes s ≡ bs
signed_back bs s small e = grind (arith, nat_tests, signed_as_back)

pub amounts_joined : (bs : List ℕ) → length bs ≡ 14 → Bytes bs → amounts_bytes (amounts_in bs) ≡ bs
amounts_joined bs len small = number_cut 0 7 7 bs _ refl (omega arith) small (number 7 7 bs (omega arith) small ∙ end 7 7 bs (omega arith))
