-- Checking an answer: its status word, or why it is none, and its data.
use Rattle.std.specs.Prelude.{ℕ, ◌+◌, ◌-◌, ◌*◌, cond, List, length, take, Some, None, Ok, Err, Option, Result, ◌==◌, nat_le, slice_index}
use Rattle.std.specs.Result.{result_map_both}
use Rattle.apdu.specs.Kinds.{kind_named}
use Rattle.status.specs.declared.errors.CallError.{CallError}
use Rattle.status.specs.declared.words.StatusWord.{StatusWord}
use Rattle.status.specs.Words.{word_known}
use Rattle.answers.specs.declared.faults.AnswerFault.{AnswerFault}
use Rattle.answers.specs.declared.faults.AnswerFault.TheVariants.{UnknownInstruction, NoStatusWord, UnknownStatusWord, WrongDataLength, DataWithRefusal}
use Rattle.answers.specs.Sizes.{word_size}
use Rattle.answers.specs.Lengths.{data_length}
use Rattle.answers.specs.Known.{accepts}
use Rattle.answers.specs.Faults.{refusal_of}

-- the last two bytes as a number
abbrev pub last_two : List ℕ → ℕ
last_two r = slice_index r (length r - 2) * 256 + slice_index r (length r - 1)

-- all but the status word; nothing where there is none
abbrev pub data_of : List ℕ → List ℕ
data_of r = take (length r - word_size) r

-- a word beside so many bytes of data, where an accepted command answers n
abbrev pub judged : ℕ → ℕ → StatusWord → Result StatusWord AnswerFault
judged n found w =
    cond (accepts w)
    (cond (found == n) (Ok w) (Err WrongDataLength))
    (cond (found == 0) (Ok w) (Err DataWithRefusal))

-- the same of a word that may be unknown
abbrev pub judged_known : ℕ → ℕ → Option StatusWord → Result StatusWord AnswerFault
judged_known n found None = Err UnknownStatusWord
judged_known n found (Some w) = judged n found w

-- what a response says, where an accepted command answers n bytes of data, or is not one of the nine
abbrev pub examined_as : Option ℕ → List ℕ → Result StatusWord AnswerFault
examined_as None r = Err UnknownInstruction
examined_as (Some n) r = cond (nat_le word_size (length r)) (judged_known n (length r - word_size) (word_known (last_two r))) (Err NoStatusWord)

-- what a response to an instruction says: its status word, or why it is no answer
abbrev pub examined : ℕ → List ℕ → Result StatusWord AnswerFault
examined i r = examined_as (data_length (kind_named i)) r

-- the same, where a fault is its refusal
abbrev pub refused : Result StatusWord AnswerFault → Result StatusWord CallError
refused r = result_map_both (λ w. w) refusal_of r

abbrev pub checked : ℕ → List ℕ → Result StatusWord CallError
checked i r = refused (examined i r)
