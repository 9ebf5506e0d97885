-- How a command is answered, and checking as the way back from it.
use Rattle.std.specs.Prelude.{◌≡◌, ℕ, cond, List, ◌++◌, length, Some, None, Ok, Option}
use Rattle.apdu.specs.declared.kinds.Kind.{Kind}
use Rattle.octets.specs.Big.{be}
use Rattle.status.specs.declared.words.StatusWord.{StatusWord}
use Rattle.status.specs.Words.{word_value}
use Rattle.answers.specs.Sizes.{word_size}
use Rattle.answers.specs.Lengths.{data_length}
use Rattle.answers.specs.Known.{accepts}
use Rattle.answers.specs.Checking.{examined_as, data_of}

-- the bytes of an answer: its data, and then the status word
abbrev pub answer_bytes : List ℕ → StatusWord → List ℕ
answer_bytes d w = d ++ be word_size (word_value w)

-- how many bytes of data stand beside a word, where an accepted command answers so many: a refusal has none
abbrev pub data_beside : StatusWord → Option ℕ → Option ℕ
data_beside w None = None
data_beside w (Some n) = Some (cond (accepts w) n 0)

-- a command of one of the nine kinds may be answered by this data and this word
abbrev pub Answers : Kind → List ℕ → StatusWord → Type 0
Answers k d w = data_beside w (data_length k) ≡ Some (length d)

-- every such answer is read as its word and its data, and only such bytes are an answer
pub record WayBack (k : Kind) (r : List ℕ) : Type 0 where
  pub reads : (d : List ℕ) (w : StatusWord) → Answers k d w → r ≡ answer_bytes d w → (examined_as (data_length k) r ≡ Ok w) × (data_of r ≡ d)
  pub only : (w : StatusWord) → examined_as (data_length k) r ≡ Ok w → Answers k (data_of r) w × (r ≡ answer_bytes (data_of r) w)
