-- The kinds of command: the class and instruction of each, and its name.
use Rattle.std.specs.Prelude.{ℕ, cond, ◌&&◌, List, [], ◌∷◌, codes, ◌==◌}
use Rattle.apdu.specs.declared.kinds.Kind.{Kind}
use Rattle.apdu.specs.declared.kinds.Kind.TheVariants.{Select, Version, Tries, Amounts, Last, Pin, Sign, Export, Directive, Other}

-- a class and an instruction, and the kind that they say
pub record Row : Type 0 where
  pub class : ℕ
  pub instruction : ℕ
  pub kind : Kind

abbrev pub row : ℕ → ℕ → Kind → Row
row c i k = record { class = c; instruction = i; kind = k }

abbrev pub table : List Row
table =
    row 0x00 0xa4 Select
    ∷ row 0x88 0x08 Version
    ∷ row 0x88 0x16 Tries
    ∷ row 0x88 0x14 Amounts
    ∷ row 0x88 0x15 Last
    ∷ row 0x88 0x11 Pin
    ∷ row 0x88 0x13 Sign
    ∷ row 0x88 0x12 Export
    ∷ row 0x88 0x40 Directive
    ∷ []

-- the kind that the first fitting row says
abbrev pub looked_up : List Row → ℕ → ℕ → Kind
looked_up [] c i = Other
looked_up (r ∷ rs) c i = cond (c == r.class && i == r.instruction) r.kind (looked_up rs c i)

abbrev pub kind_of : ℕ → ℕ → Kind
kind_of c i = looked_up table c i

-- the kind of the first row with this instruction, whatever its class
abbrev pub named_in : List Row → ℕ → Kind
named_in [] i = Other
named_in (r ∷ rs) i = cond (i == r.instruction) r.kind (named_in rs i)

-- the kind that an instruction names by itself
abbrev pub kind_named : ℕ → Kind
kind_named i = named_in table i

-- the name of a kind
abbrev pub kind_name : Kind → List ℕ
kind_name Select = codes "select"
kind_name Version = codes "version"
kind_name Tries = codes "tries"
kind_name Amounts = codes "amounts"
kind_name Last = codes "last"
kind_name Pin = codes "PIN"
kind_name Sign = codes "sign"
kind_name Export = codes "export"
kind_name Directive = codes "directive"
kind_name Other = codes "other"
