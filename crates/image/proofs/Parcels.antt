-- Fields laid end to end, and cut out again.
use Rattle.std.proofs.Common.{◌≡◌, ℕ, zero, suc, ◌+◌, ◌-◌, ◌<◌, List, [], ◌∷◌, ◌++◌, length, get_or, take, drop, sym, refl, ap, ◌∙◌, arith, take-add}
use Rattle.std.proofs.lemmas.List.{take_at, append_assoc, append-nil, length-append, drop-drop, drop-take, get_or-take, get_or-drop}
use Rattle.octets.specs.Parts.{part}
use Rattle.octets.proofs.Pieces.{part_right}
use Rattle.image.specs.Layout.{joined}
use Rattle.image.specs.Filling.{laid}
use Rattle.image.specs.Sound.{fits_flag, flag_good}

-- the widths, summed
abbrev pub sum : List ℕ → ℕ
sum [] = 0
sum (w ∷ ws) = w + sum ws

-- fields of these widths
abbrev pub Wide : List ℕ → List (List ℕ) → Type 0
Wide [] [] = Unit {0}
Wide [] (f ∷ fs) = ⊥
Wide (w ∷ ws) [] = ⊥
Wide (w ∷ ws) (f ∷ fs) = (length f ≡ w) × Wide ws fs

pub length-joined : (ws : List ℕ) (fs : List (List ℕ)) → Wide ws fs → length (joined fs) ≡ sum ws
unfolding joined
length-joined [] [] h = refl
length-joined [] (f ∷ fs) h = absurd h
length-joined (w ∷ ws) [] h = absurd h
length-joined (w ∷ ws) (f ∷ fs) h = length-append f (joined fs) ∙ omega (arith, h.0, length-joined ws fs h.1)

-- fields laid behind bytes are those bytes, and the fields joined
pub laid_is : (bs : List ℕ) (fs : List (List ℕ)) → laid bs fs ≡ bs ++ joined fs
unfolding joined
laid_is bs [] = sym (append-nil bs)
laid_is bs (f ∷ fs) = laid_is (bs ++ f) fs ∙ append_assoc bs f (joined fs)

-- where field k begins
abbrev pub offset : List ℕ → ℕ → ℕ
offset ws zero = 0
offset [] (suc k) = 0
offset (w ∷ ws) (suc k) = w + offset ws k

-- each field is found at its place
pub field_of : (ws : List ℕ) (fs : List (List ℕ)) → Wide ws fs → (k : ℕ) → k < length ws → part (offset ws k) (get_or ws k 0) (joined fs) ≡ get_or fs k []
unfolding joined
field_of [] fs h k l = absurd (omega arith)
field_of (w ∷ ws) [] h k l = absurd h
field_of (w ∷ ws) (f ∷ fs) h zero l = take_at f (joined fs) w h.0
field_of (w ∷ ws) (f ∷ fs) h (suc k) l =
    let back : w + offset ws k - w ≡ offset ws k = omega arith in
    part_right (w + offset ws k) (get_or ws k 0) w f (joined fs) h.0 (omega arith) ∙ ap (λ o. part o (get_or ws k 0) (joined fs)) back ∙ field_of ws fs h.1 k (omega arith)

-- two parts that lie side by side
pub side_by_side : (at n m : ℕ) (bs : List ℕ) → part at n bs ++ part (at + n) m bs ≡ part at (n + m) bs
side_by_side at n m bs = ap (λ u. part at n bs ++ take m u) (sym (drop-drop n at bs)) ∙ sym (take-add n m (drop at bs))

-- a flag with m bytes behind it, in bytes
pub fits_flag-part : (at m : ℕ) (bs : List ℕ) → fits_flag (get_or bs at 0) (part (at + 1) m bs) ≡ flag_good (part at (1 + m) bs)
fits_flag-part at m bs =
    let flag : get_or (part at (1 + m) bs) 0 0 ≡ get_or bs at 0 = get_or-take (1 + m) (drop at bs) 0 0 (omega arith) ∙ get_or-drop at bs 0 0 ∙ ap (λ k. get_or bs k 0) (omega arith) in
    let behind : drop 1 (part at (1 + m) bs) ≡ part (at + 1) m bs = drop-take 1 m (drop at bs) ∙ ap (take m) (drop-drop 1 at bs) in
    sym (λ j. fits_flag (flag j) (behind j))

-- the fields of these widths from a place on
abbrev pub cut : ℕ → List ℕ → List ℕ → List (List ℕ)
cut at [] bs = []
cut at (w ∷ ws) bs = part at w bs ∷ cut (at + w) ws bs

pub joined-cut : (at : ℕ) (ws : List ℕ) (bs : List ℕ) → joined (cut at ws bs) ≡ part at (sum ws) bs
unfolding joined
joined-cut at [] bs = refl
joined-cut at (w ∷ ws) bs = ap (λ u. part at w bs ++ u) (joined-cut (at + w) ws bs) ∙ side_by_side at w (sum ws) bs
