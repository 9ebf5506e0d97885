-- Status words: the value of each, what it says, and which word has a value.
use Rattle.std.specs.Prelude.{ℕ, List, [], ◌∷◌, ◌++◌, Some, None, Option, codes, decimal, if◌then◌else◌, ◌==◌}
use Rattle.status.specs.declared.words.StatusWord.{StatusWord}
use Rattle.status.specs.declared.words.UnknownWord.{UnknownWord}
use Rattle.status.specs.declared.words.StatusWord.TheVariants.{Success, WrongPin, NoSeal, StoreRefused, WrongLength, PinNotVerified, PinBlocked, OverLimit, NotSelected, BadSeal, BadBody, UnknownApplet, NoRoom, WrongParameters, NothingSigned, UnknownInstruction, UnknownClass, UnsoundImage}

-- the value of a status word
abbrev pub word_value : StatusWord → ℕ
word_value Success = 0x9000
word_value WrongPin = 0x6302
word_value NoSeal = 0x6400
word_value StoreRefused = 0x6581
word_value WrongLength = 0x6700
word_value PinNotVerified = 0x6982
word_value PinBlocked = 0x6983
word_value OverLimit = 0x6985
word_value NotSelected = 0x6986
word_value BadSeal = 0x6988
word_value BadBody = 0x6a80
word_value UnknownApplet = 0x6a82
word_value NoRoom = 0x6a84
word_value WrongParameters = 0x6a86
word_value NothingSigned = 0x6a88
word_value UnknownInstruction = 0x6d00
word_value UnknownClass = 0x6e00
word_value UnsoundImage = 0x6f00

-- what a status word says
abbrev pub word_name : StatusWord → List ℕ
word_name Success = codes "success"
word_name WrongPin = codes "wrong PIN"
word_name NoSeal = codes "no seal"
word_name StoreRefused = codes "store refused the write"
word_name WrongLength = codes "wrong length"
word_name PinNotVerified = codes "PIN not verified"
word_name PinBlocked = codes "PIN blocked"
word_name OverLimit = codes "over the limit"
word_name NotSelected = codes "applet not selected"
word_name BadSeal = codes "bad seal"
word_name BadBody = codes "bad body"
word_name UnknownApplet = codes "unknown applet"
word_name NoRoom = codes "no room in a tally"
word_name WrongParameters = codes "wrong parameters"
word_name NothingSigned = codes "nothing signed"
word_name UnknownInstruction = codes "unknown instruction"
word_name UnknownClass = codes "unknown class"
word_name UnsoundImage = codes "unsound image"

-- all words
abbrev pub all_words : List StatusWord
all_words =
    Success
    ∷ WrongPin
    ∷ NoSeal
    ∷ StoreRefused
    ∷ WrongLength
    ∷ PinNotVerified
    ∷ PinBlocked
    ∷ OverLimit
    ∷ NotSelected
    ∷ BadSeal
    ∷ BadBody
    ∷ UnknownApplet
    ∷ NoRoom
    ∷ WrongParameters
    ∷ NothingSigned
    ∷ UnknownInstruction
    ∷ UnknownClass
    ∷ UnsoundImage
    ∷ []

-- the word of a list that has this value
abbrev pub word_in : List StatusWord → ℕ → Option StatusWord
word_in [] v = None
word_in (w ∷ ws) v = if v == word_value w then Some w else word_in ws v

-- the word that has this value; none for a value of no word
abbrev pub word_known : ℕ → Option StatusWord
word_known v = word_in all_words v

-- what is said of a value of no word
abbrev pub unknown_text : UnknownWord → List ℕ
unknown_text u = codes "no status word has the value " ++ decimal u.value
