-- The forms of a command: where its body lies behind the four header bytes, and what Le is.
use Rattle.std.specs.Prelude.{ℕ, ◌^◌, cond, List, [], ◌∷◌, length, take, drop, Some, None, Ok, Err, Option, Result, ◌==◌, nat_lt}
use Rattle.octets.specs.Big.{big}
use Rattle.apdu.specs.declared.faults.Fault.{Fault}
use Rattle.apdu.specs.declared.faults.Fault.TheVariants.{HalfLength, EmptyBody, CutBody, HalfLe, TrailingBytes}

-- what is found behind the header: the place of the body in the command, the body, and Le
pub record Form : Type 0 where
  pub place : ℕ
  pub body : List ℕ
  pub le : Option ℕ

abbrev pub form : ℕ → List ℕ → Option ℕ → Form
form place b le = record { place = place; body = b; le = le }

-- an Le of w bytes that write n: 0 stands for the number past their largest, which is 256 or 65536
abbrev pub le_said : ℕ → ℕ → ℕ
le_said w n = cond (n == 0) (256 ^ w) n

-- what stands behind a body: nothing, or an Le of w bytes
abbrev pub le_behind : ℕ → List ℕ → Result (Option ℕ) Fault
le_behind w bs =
    cond (length bs == 0) (Ok None)
    (cond (nat_lt (length bs) w) (Err HalfLe)
    (cond (length bs == w) (Ok (Some (le_said w (big bs))))
    (Err TrailingBytes)))

-- f of the value, if there is one
abbrev pub map_ok : {A B E : Type 0} → (A → B) → Result A E → Result B E
map_ok f (Ok x) = Ok (f x)
map_ok f (Err e) = Err e

-- what follows an Lc of w bytes that write n: a body of n bytes, which is not empty, and what stands behind it
abbrev pub body_form : ℕ → ℕ → ℕ → List ℕ → Result Form Fault
body_form w place n bs =
    cond (n == 0) (Err EmptyBody)
    (cond (nat_lt (length bs) n) (Err CutBody)
    (map_ok (form place (take n bs)) (le_behind w (drop n bs))))

-- what follows the header where lengths take w bytes: exactly w bytes are an Le, more are an Lc and its body
abbrev pub sized : ℕ → ℕ → List ℕ → Result Form Fault
sized w place bs =
    cond (nat_lt (length bs) w) (Err HalfLength)
    (cond (length bs == w) (Ok (form 4 [] (Some (le_said w (big bs)))))
    (body_form w place (big (take w bs)) (drop w bs)))

-- what follows the header: nothing, lengths of one byte, or lengths of two bytes behind a byte `00`
abbrev pub formed : List ℕ → Result Form Fault
formed [] = Ok (form 4 [] None)
formed (first ∷ []) = sized 1 5 (first ∷ [])
formed (first ∷ b ∷ bs) = cond (first == 0) (sized 2 7 (b ∷ bs)) (sized 1 5 (first ∷ b ∷ bs))
