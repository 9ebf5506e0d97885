-- The seven forms in which a command is written, and reading as the way back from them.
use Rattle.std.specs.Prelude.{◌≡◌, ℕ, ◌^◌, ◌<◌, ◌≤◌, List, [], ◌∷◌, ◌++◌, length, Some, None, Ok, Option}
use Rattle.octets.specs.Big.{be}
use Rattle.apdu.specs.declared.commands.Header.{Header}
use Rattle.apdu.specs.Kinds.{kind_of}
use Rattle.apdu.specs.Reading.{Reading, BodyLiesIn, parsed}

-- lengths take one byte, or two behind a byte `00`
pub data Width : Type 0 where
  short : Width
  long : Width

abbrev pub count : Width → ℕ
count short = 1
count long = 2

abbrev pub lead : Width → List ℕ
lead short = []
lead long = 0 ∷ []

-- what stands behind the header: nothing, an Le, a body, or a body and an Le
pub data Writing : Type 0 where
  bare : Writing
  with_le : Width → ℕ → Writing
  with_body : Width → List ℕ → Writing
  with_both : Width → List ℕ → ℕ → Writing

-- an Le is 1 to 256 in one byte and 1 to 65536 in two; a body is not empty, and its length fits
abbrev pub LeAllowed : Width → ℕ → Type 0
LeAllowed w e = (1 ≤ e) × (e ≤ 256 ^ count w)

abbrev pub BodyAllowed : Width → List ℕ → Type 0
BodyAllowed w b = (1 ≤ length b) × (length b < 256 ^ count w)

abbrev pub Allowed : Writing → Type 0
Allowed bare = Unit {0}
Allowed (with_le w e) = LeAllowed w e
Allowed (with_body w b) = BodyAllowed w b
Allowed (with_both w b e) = BodyAllowed w b × LeAllowed w e

-- the bytes behind the header; the largest Le is written as zeros, since `be` leaves out what does not fit
abbrev pub tail : Writing → List ℕ
tail bare = []
tail (with_le w e) = lead w ++ be (count w) e
tail (with_body w b) = lead w ++ (be (count w) (length b) ++ b)
tail (with_both w b e) = lead w ++ (be (count w) (length b) ++ (b ++ be (count w) e))

-- the bytes of a command
abbrev pub written : Header → Writing → List ℕ
written h t = h.class ∷ h.instruction ∷ h.p1 ∷ h.p2 ∷ tail t

-- what a command so written says
abbrev pub body_of : Writing → List ℕ
body_of bare = []
body_of (with_le w e) = []
body_of (with_body w b) = b
body_of (with_both w b e) = b

abbrev pub place_in : Width → ℕ
place_in short = 5
place_in long = 7

abbrev pub place_of : Writing → ℕ
place_of bare = 4
place_of (with_le w e) = 4
place_of (with_body w b) = place_in w
place_of (with_both w b e) = place_in w

abbrev pub le_of : Writing → Option ℕ
le_of bare = None
le_of (with_le w e) = Some e
le_of (with_body w b) = None
le_of (with_both w b e) = Some e

abbrev pub said : Header → Writing → Reading
said h t = record { kind = kind_of h.class h.instruction; header = h; body = body_of t; place = place_of t; le = le_of t }

-- bytes that are written in a form are read as what they say, only such bytes are a command, and its body lies in them
pub record WayBack (bs : List ℕ) : Type 0 where
  pub reads : (h : Header) (t : Writing) → Allowed t → bs ≡ written h t → parsed bs ≡ Ok (said h t)
  pub only : (x : Reading) → parsed bs ≡ Ok x → (h : Header) × ((t : Writing) × (Allowed t × ((bs ≡ written h t) × (x ≡ said h t))))
  pub lies : (x : Reading) → parsed bs ≡ Ok x → BodyLiesIn bs x
