-- What is written in one of the seven forms is read as what it says.
use Rattle.std.proofs.Common.{◌≡◌, ℕ, ◌%◌, ◌^◌, ◌<◌, ◌≤◌, false, cond, eqb, List, [], ◌∷◌, ◌++◌, length, take, drop, Some, None, Ok, Option, sym, refl, ap, ◌∙◌, mod-eq_of_lt, inl, inr, arith}
use Rattle.std.proofs.lemmas.List.{append-nil, length-append, take_at, drop_at}
use Rattle.std.proofs.lemmas.Bool.Decides.{nat_tests, eqb_tells}
use Rattle.octets.specs.Big.{be, big}
use Rattle.octets.specs.Parts.{part}
use Rattle.octets.proofs.Bigs.{length-be, big-be}
use Rattle.apdu.specs.declared.commands.Header.{Header}
use Rattle.apdu.specs.Forms.{Form, form, le_said, le_behind, sized, formed}
use Rattle.apdu.specs.Reading.{BodyLiesIn, at_form, parsed}
use Rattle.apdu.specs.Writings.{Width, short, long, count, lead, Writing, bare, with_le, with_body, with_both, LeAllowed, BodyAllowed, Allowed, tail, written, body_of, place_in, place_of, le_of, said}

-- the form that reading finds behind the header, at each writing
abbrev pub found : Writing → Form
found t = form (place_of t) (body_of t) (le_of t)

-- the number past the largest is written as 0
pub be_past : (w : Width) → be (count w) (256 ^ count w) ≡ be (count w) 0
be_past short = refl
be_past long = refl

-- a length has a byte at least
count_pos : (w : Width) → 1 ≤ count w
count_pos short = omega arith
count_pos long = omega arith

-- an Le is read back
le-back : (w : Width) (e : ℕ) → LeAllowed w e → le_said (count w) (big (be (count w) e)) ≡ e
le-back w e a =
    elim (eqb_tells e (256 ^ count w)) [
      | inl m ↦ let z : big (be (count w) e) ≡ 0 = ap (λ n. big (be (count w) n)) m.1 ∙ ap big (be_past w) ∙ big-be (count w) 0 (omega arith) in grind (arith, nat_tests)
      | inr m ↦ let v : big (be (count w) e) ≡ e = big-be (count w) e (omega (arith, m.1)) in grind (arith, nat_tests)
    ]

-- an Le at the end of a command
le_behind-be : (w : Width) (e : ℕ) → LeAllowed w e → le_behind (count w) (be (count w) e) ≡ Ok (Some e)
le_behind-be w e a = let l = length-be (count w) e in let b = le-back w e a in let p = count_pos w in grind (arith, nat_tests)

sized-le : (w : Width) (e : ℕ) → LeAllowed w e → sized (count w) (place_in w) (be (count w) e) ≡ Ok (form 4 [] (Some e))
sized-le w e a = let l = length-be (count w) e in let b = le-back w e a in grind (arith, nat_tests)

-- a body, and what stands behind it
sized-body : (w : Width) (b behind : List ℕ) (le : Option ℕ) → BodyAllowed w b → le_behind (count w) behind ≡ Ok le →
    sized (count w) (place_in w) (be (count w) (length b) ++ (b ++ behind)) ≡ Ok (form (place_in w) b le)
sized-body w b behind le a is =
    let n : ℕ = length b in
    let rest = b ++ behind in
    let size = length-append (be (count w) n) rest in
    let len = length-be (count w) n in
    let more = length-append b behind in
    let lc : big (take (count w) (be (count w) n ++ rest)) ≡ n = ap big (take_at (be (count w) n) rest (count w) len) ∙ big-be (count w) n a.1 in
    let cut : drop (count w) (be (count w) n ++ rest) ≡ rest = drop_at (be (count w) n) rest (count w) len in
    let front : take n rest ≡ b = take_at b behind n refl in
    let back : drop n rest ≡ behind = drop_at b behind n refl in
    grind (arith, nat_tests)

-- a byte `00` and more leads to lengths of two bytes, and all else to lengths of one
formed-le : (w : Width) (e : ℕ) → formed (lead w ++ be (count w) e) ≡ sized (count w) (place_in w) (be (count w) e)
formed-le short e = refl
formed-le long e = refl

formed-body : (w : Width) (n : ℕ) (bs : List ℕ) → 1 ≤ n → n < 256 ^ count w → 1 ≤ length bs →
    formed (lead w ++ (be (count w) n ++ bs)) ≡ sized (count w) (place_in w) (be (count w) n ++ bs)
formed-body w n [] p h l = absurd (omega arith)
formed-body long n (b ∷ bs) p h l = refl
formed-body short n (b ∷ bs) p h l =
    let e : eqb (n % 256) 0 ≡ false = let s = mod-eq_of_lt h in grind (arith, nat_tests) in
    ap (λ t. cond t (sized 2 7 (b ∷ bs)) (sized 1 5 (n % 256 ∷ b ∷ bs))) e

formed-tail : (t : Writing) → Allowed t → formed (tail t) ≡ Ok (found t)
formed-tail bare a = refl
formed-tail (with_le w e) a = formed-le w e ∙ sized-le w e a
formed-tail (with_body w b) a =
    ap (λ x. formed (lead w ++ (be (count w) (length b) ++ x))) (sym (append-nil b))
    ∙ formed-body w (length b) (b ++ []) a.0 a.1 (simp length-append (omega (arith, a.0)))
    ∙ sized-body w b [] None a refl
formed-tail (with_both w b e) a =
    formed-body w (length b) (b ++ be (count w) e) a.0.0 a.0.1 (simp length-append (omega (arith, a.0.0)))
    ∙ sized-body w b (be (count w) e) (Some e) a.0 (le_behind-be w e a.1)

-- what is written in a form is read as what it says
pub read_written : (h : Header) (t : Writing) → Allowed t → parsed (written h t) ≡ Ok (said h t)
read_written h t a = ap (at_form h) (formed-tail t a)

-- the body that it says lies in it, behind the header and the length
body_lies : (h : Header) (w : Width) (n : ℕ) (b behind : List ℕ) → part (place_in w) (length b) (h.class ∷ h.instruction ∷ h.p1 ∷ h.p2 ∷ (lead w ++ (be (count w) n ++ (b ++ behind)))) ≡ b
body_lies h short n b behind = take_at b behind (length b) refl
body_lies h long n b behind = take_at b behind (length b) refl

pub lies_written : (h : Header) (t : Writing) → BodyLiesIn (written h t) (said h t)
lies_written h bare = refl
lies_written h (with_le w e) = refl
lies_written h (with_body w b) = ap (λ x. part (place_in w) (length b) (h.class ∷ h.instruction ∷ h.p1 ∷ h.p2 ∷ (lead w ++ (be (count w) (length b) ++ x)))) (sym (append-nil b)) ∙ body_lies h w (length b) b []
lies_written h (with_both w b e) = body_lies h w (length b) b (be (count w) e)
