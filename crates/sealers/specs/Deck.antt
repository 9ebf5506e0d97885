-- A deck of recorded answers, and the rules that it gives.
use Rattle.std.specs.Prelude.{ℕ, zero, suc, ◌+◌, Bool, true, false, cond, ◌&&◌, List, [], ◌∷◌, length, take, drop, Some, None, Option, ◌==◌, nat_lt}
use Rattle.std.specs.Option.{option_map}
use Rattle.std.specs.Str.{bytes_eq}
use Rattle.octets.specs.Parts.{part}
use Rattle.sealers.specs.declared.recorded.Entry as code
use Rattle.sealers.specs.declared.recorded.Kind.{Kind}
use Rattle.sealers.specs.declared.recorded.Rule.{Rule}
use Rattle.sealers.specs.declared.recorded.Rule.TheVariants.{Cover, Seal}
use Rattle.sealers.specs.Sizes.{answer_size}

-- a kind of entry: its rule, and how long its message is
abbrev pub kind : Rule → ℕ → Kind
kind r n = record { rule = r; len = n }

-- the kinds, by their byte
abbrev pub kind_of : ℕ → Option Kind
kind_of byte =
    cond (byte == 1) (Some (kind Cover 256))
    (cond (byte == 2) (Some (kind Seal 321))
    (cond (byte == 3) (Some (kind Seal 309))
    (cond (byte == 4) (Some (kind Seal 256))
    None)))

-- an entry, and the bytes behind it
pub record Entry : Type 0 where
  pub rule : Rule
  pub message : List ℕ
  pub answer : List ℕ
  pub rest : List ℕ

-- the entry of a kind at the front of the bytes behind its kind byte; none where it is cut short
abbrev pub entry_in : Kind → List ℕ → Option Entry
entry_in k bs =
    cond (nat_lt (length bs) (k.len + answer_size)) None
    (Some record { rule = k.rule; message = take k.len bs; answer = part k.len answer_size bs; rest = drop (k.len + answer_size) bs })

-- the same, where the byte said a kind
abbrev pub entry_if : Option Kind → List ℕ → Option Entry
entry_if (Some k) bs = entry_in k bs
entry_if None bs = None

-- the first entry of a deck; none where reading ends
abbrev pub first_entry : List ℕ → Option Entry
first_entry [] = None
first_entry (byte ∷ bs) = entry_if (kind_of byte) bs

-- an entry, and then those that are read behind it
abbrev pub read_on : (List ℕ → List Entry) → Option Entry → List Entry
read_on behind (Some e) = e ∷ behind e.rest
read_on behind None = []

-- the first n entries of a deck, up to where reading ends
unfoldable pub first_entries : ℕ → List ℕ → List Entry
first_entries zero deck = []
first_entries (suc n) deck = read_on (λ rest. first_entries n rest) (first_entry deck)

-- all entries of a deck: there are no more of them than bytes
abbrev pub entries : List ℕ → List Entry
entries deck = first_entries (length deck) deck

-- whether two rules are one
abbrev pub same_rule : Rule → Rule → Bool
same_rule Cover Cover = true
same_rule Cover Seal = false
same_rule Seal Cover = false
same_rule Seal Seal = true

-- whether an entry answers for a message under a rule
abbrev pub answers : Rule → List ℕ → Entry → Bool
answers r m e = same_rule e.rule r && bytes_eq e.message m

-- what the first of the entries says that answers
abbrev pub first_answer : Rule → List ℕ → List Entry → Option (List ℕ)
first_answer r m [] = None
first_answer r m (e ∷ es) = cond (answers r m e) (Some e.answer) (first_answer r m es)

-- what a deck answers for a message under a rule
abbrev pub recorded : Rule → List ℕ → List ℕ → Option (List ℕ)
recorded r deck m = first_answer r m (entries deck)

-- the cover of a block, by a deck
abbrev pub recorded_cover : List ℕ → List ℕ → Option (List ℕ)
recorded_cover deck block = recorded Cover deck block

-- the seal of a message, by a deck
abbrev pub recorded_seal : List ℕ → List ℕ → Option (List ℕ)
recorded_seal deck message = recorded Seal deck message

-- what an entry in the code says
abbrev pub entry_read : code.Entry → Entry
entry_read e = record { rule = e.rule; message = e.message.now; answer = e.answer.now; rest = e.rest.now }

-- what the code found, as an entry of the deck
abbrev pub entry_result : Option code.Entry → Option Entry
entry_result o = option_map entry_read o
