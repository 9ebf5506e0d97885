-- Only what is written in one of the seven forms is a command.
use Rattle.std.proofs.Common.{◌≡◌, ℕ, ◌^◌, ◌<◌, ◌≤◌, Bool, cond, ◌⊎◌, List, [], ◌∷◌, ◌++◌, length, get_or, take, drop, Some, None, Ok, Err, Option, Result, sym, refl, ap, ◌∙◌, subst, inl, inr, Fits, w8, arith}
use Rattle.std.proofs.lemmas.List.{append-nil, take-append-drop, length-take-le, nil_from_length}
use Rattle.std.proofs.lemmas.List.Elements.{All-from_get_or, All-take, All-drop, recursion_from_All}
use Rattle.std.proofs.lemmas.Bool.Decides.{nat_tests, eqb_tells}
use Rattle.std.proofs.lemmas.Int.Digits.{number_lt}
use Rattle.std.specs.List.{All}
use Rattle.octets.specs.Big.{be, big}
use Rattle.octets.proofs.Bigs.{be-big}
use Rattle.apdu.specs.declared.commands.Header.{Header}
use Rattle.apdu.specs.declared.faults.Fault.{Fault}
use Rattle.apdu.specs.Forms.{Form, form, le_said, le_behind, map_ok, body_form, sized, formed}
use Rattle.apdu.specs.Reading.{Reading, BodyLiesIn, header, at_place, parsed}
use Rattle.apdu.specs.Writings.{Width, short, long, count, lead, Writing, bare, with_le, with_body, with_both, LeAllowed, BodyAllowed, Allowed, tail, written, place_in, said, WayBack}
use Rattle.apdu.proofs.Written.{found, be_past, read_written, lies_written}

abbrev Byte : ℕ → Type 0
Byte d = d < 256

-- which tests led to a form
sized_ways : (c place : ℕ) (bs : List ℕ) (f : Form) → sized c place bs ≡ Ok f →
    ((length bs ≡ c) × (f ≡ form 4 [] (Some (le_said c (big bs))))) ⊎ ((c < length bs) × (body_form c place (big (take c bs)) (drop c bs) ≡ Ok f))
sized_ways c place bs f is = grind (arith, nat_tests)

body_ways : (c place n : ℕ) (bs : List ℕ) (f : Form) → body_form c place n bs ≡ Ok f →
    (1 ≤ n) × ((n ≤ length bs) × (map_ok (form place (take n bs)) (le_behind c (drop n bs)) ≡ Ok f))
body_ways c place n bs f is = grind (arith, nat_tests)

map_ok_ways : {A B : Type 0} (g : A → B) (r : Result A Fault) (y : B) → map_ok g r ≡ Ok y → (x : A) × ((r ≡ Ok x) × (y ≡ g x))
map_ok_ways g (Ok x) y is = (x, (refl, cc))
map_ok_ways g (Err e) y is = cc

behind_ways : (c : ℕ) (bs : List ℕ) (le : Option ℕ) → le_behind c bs ≡ Ok le →
    ((length bs ≡ 0) × (le ≡ None)) ⊎ ((length bs ≡ c) × (le ≡ Some (le_said c (big bs))))
behind_ways c bs le is = grind (arith, nat_tests)

-- k bytes, and the number that they write
number_back : (k : ℕ) (bs : List ℕ) → All Byte bs → length bs ≡ k → (big bs < 256 ^ k) × (be k (big bs) ≡ bs)
number_back k bs u len = let P : ℕ → Type 0 = λ j. (big bs < 256 ^ j) × (be j (big bs) ≡ bs) in subst P len (number_lt 256 bs (recursion_from_All Byte bs u), be-big bs (recursion_from_All Byte bs u))

-- an Le is written as the bytes that it was read from
le_written : (w : Width) (bs : List ℕ) → All Byte bs → length bs ≡ count w →
    LeAllowed w (le_said (count w) (big bs)) × (be (count w) (le_said (count w) (big bs)) ≡ bs)
le_written w bs u len =
    let m = number_back (count w) bs u len in
    elim (eqb_tells (big bs) 0) [
      | inl z ↦ rw z.0 ((omega (arith, m.0), omega arith), be_past w ∙ ap (be (count w)) (sym z.1) ∙ m.1)
      | inr z ↦ rw z.0 ((grind arith, omega (arith, m.0)), m.1)
    ]

-- a body is written as the bytes that it was read from, behind its length
body_written : (w : Width) (bs : List ℕ) → All Byte bs → count w < length bs →
    let n = big (take (count w) bs) in
    let rest = drop (count w) bs in
    1 ≤ n → n ≤ length rest →
    BodyAllowed w (take n rest) × (bs ≡ be (count w) (length (take n rest)) ++ (take n rest ++ drop n rest))
body_written w bs u more p l =
    let head = take (count w) bs in
    let rest = drop (count w) bs in
    let b = take (big head) rest in
    let m = number_back (count w) head (All-take Byte (count w) bs u) (length-take-le (count w) bs (omega arith)) in
    let len : length b ≡ big head = length-take-le (big head) rest l in
    let field : be (count w) (length b) ≡ head = ap (be (count w)) len ∙ m.1 in
    let cut : bs ≡ head ++ rest = sym (take-append-drop (count w) bs) in
    ((omega arith, omega (arith, m.0)), cut ∙ ap (λ x. x ++ rest) (sym field) ∙ ap (λ x. be (count w) (length b) ++ x) (sym (take-append-drop (big head) rest)))

-- a tail that reading finds a form in is a tail of that form
Tail : List ℕ → Form → Type 0
Tail rest f = (t : Writing) × (Allowed t × ((rest ≡ tail t) × (f ≡ found t)))

tail-body : (w : Width) (bs : List ℕ) (f : Form) → All Byte bs → count w < length bs →
    let n = big (take (count w) bs) in
    let rest = drop (count w) bs in
    (1 ≤ n) × ((n ≤ length rest) × (map_ok (form (place_in w) (take n rest)) (le_behind (count w) (drop n rest)) ≡ Ok f)) → Tail (lead w ++ bs) f
unfolding Tail
tail-body w bs f u more v =
    let n = big (take (count w) bs) in
    let rest = drop (count w) bs in
    let b = take n rest in
    let behind = drop n rest in
    let r = map_ok_ways (form (place_in w) b) (le_behind (count w) behind) f v.1.1 in
    let t = body_written w bs u more v.0 v.1.0 in
    elim (behind_ways (count w) behind r.0 r.1.0) [
      | inl z ↦ let nil = ap (λ x. b ++ x) (nil_from_length behind z.0) ∙ append-nil b in
          (with_body w b, (t.0, (ap (λ x. lead w ++ x) (t.1 ∙ ap (λ x. be (count w) (length b) ++ x) nil), r.1.1 ∙ ap (form (place_in w) b) z.1)))
      | inr z ↦ let e = le_written w behind (All-drop Byte n rest (All-drop Byte (count w) bs u)) z.0 in
          (with_both w b (le_said (count w) (big behind)), ((t.0, e.0), (ap (λ x. lead w ++ x) (t.1 ∙ ap (λ x. be (count w) (length b) ++ (b ++ x)) (sym e.1)), r.1.1 ∙ ap (form (place_in w) b) z.1)))
    ]

tail-sized : (w : Width) (bs : List ℕ) (f : Form) → All Byte bs → sized (count w) (place_in w) bs ≡ Ok f → Tail (lead w ++ bs) f
unfolding Tail
tail-sized w bs f u is =
    elim (sized_ways (count w) (place_in w) bs f is) [
      | inl q ↦ let e = le_written w bs u q.0 in (with_le w (le_said (count w) (big bs)), (e.0, (ap (λ x. lead w ++ x) (sym e.1), q.1)))
      | inr q ↦ tail-body w bs f u q.0 (body_ways (count w) (place_in w) (big (take (count w) bs)) (drop (count w) bs) f q.1)
    ]

tail-formed : (rest : List ℕ) (f : Form) → All Byte rest → formed rest ≡ Ok f → Tail rest f
unfolding Tail
tail-formed [] f u is = (bare, (tt, (refl, cc)))
tail-formed (a ∷ []) f u is = tail-sized short (a ∷ []) f u is
tail-formed (a ∷ b ∷ bs) f u is =
    let test : Bool → Result Form Fault = λ t. cond t (sized 2 7 (b ∷ bs)) (sized 1 5 (a ∷ b ∷ bs)) in
    elim (eqb_tells a 0) [
      | inl z ↦ let P : ℕ → Type 0 = λ n. Tail (n ∷ b ∷ bs) f in subst P (sym z.1) (tail-sized long (b ∷ bs) f (All-drop Byte 1 (a ∷ b ∷ bs) u) (ap test (sym z.0) ∙ is))
      | inr z ↦ tail-sized short (a ∷ b ∷ bs) f u (ap test (sym z.0) ∙ is)
    ]

-- only what is written in a form is a command
Only : List ℕ → Reading → Type 0
Only bs x = (h : Header) × ((t : Writing) × (Allowed t × ((bs ≡ written h t) × (x ≡ said h t))))

only-written : (bs : List ℕ) (x : Reading) → All Byte bs → parsed bs ≡ Ok x → Only bs x
unfolding Only Tail
only-written [] x u is = cc
only-written (c ∷ []) x u is = cc
only-written (c ∷ i ∷ []) x u is = cc
only-written (c ∷ i ∷ p ∷ []) x u is = cc
only-written (c ∷ i ∷ p ∷ q ∷ rest) x u is =
    let h : Header = header c i p q in
    let w = map_ok_ways (at_place h) (formed rest) x is in
    let t = tail-formed rest w.0 (All-drop Byte 4 (c ∷ i ∷ p ∷ q ∷ rest) u) w.1.0 in
    (h, (t.0, (t.1.0, (ap (λ l. c ∷ i ∷ p ∷ q ∷ l) t.1.1.0, w.1.1 ∙ ap (at_place h) t.1.1.1))))

lies_at : {bs cs : List ℕ} {x y : Reading} → bs ≡ cs → x ≡ y → BodyLiesIn cs y → BodyLiesIn bs x
lies_at p q l = rw (p, q) l

-- all of it, for a list of bytes
pub way_back : (bs : List ℕ) → ((i : ℕ) → Fits w8 (get_or bs i 0)) → WayBack bs
unfolding Only
way_back bs small =
    let u : All Byte bs = All-from_get_or Byte bs 0 (λ i h. omega (arith, small i)) in
    record {
      reads = λ h t a is. ap parsed is ∙ read_written h t a;
      only = λ x is. only-written bs x u is;
      lies = λ x is. let o = only-written bs x u is in lies_at o.1.1.1.0 o.1.1.1.1 (lies_written o.0 o.1.0);
    }
