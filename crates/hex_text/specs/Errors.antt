-- Why a text is no bytes in hexadecimal, in words.
use Rattle.std.specs.Prelude.{ℕ, List, ◌++◌, codes, decimal}
use Rattle.hex_text.specs.declared.errors.HexError.{HexError}
use Rattle.hex_text.specs.declared.errors.HexError.TheVariants.{NoDigit, HalfByte, NoMemory}

-- what is wrong with the text; a character is told by its code
abbrev pub error_text : HexError → List ℕ
error_text (NoDigit c) = codes "the character " ++ (decimal c ++ codes " is no digit")
error_text HalfByte = codes "a byte has one digit"
error_text NoMemory = codes "no memory"
