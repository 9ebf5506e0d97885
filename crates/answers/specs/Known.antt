-- Which status words accept a command.
use Rattle.std.specs.Prelude.{Bool, ◌==◌}
use Rattle.status.specs.declared.words.StatusWord.{StatusWord}
use Rattle.status.specs.declared.words.StatusWord.TheVariants.{Success}
use Rattle.status.specs.Words.{word_value}

-- whether a word says that the command is accepted
abbrev pub accepts : StatusWord → Bool
accepts w = word_value w == word_value Success
