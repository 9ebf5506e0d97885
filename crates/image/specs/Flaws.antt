-- The ways in which an image can be unsound, in words.
use Rattle.std.specs.Prelude.{ℕ, List, codes}
use Rattle.image.specs.declared.flaws.Flaw.{Flaw}
use Rattle.image.specs.declared.flaws.Flaw.TheVariants.{Size, Kinds, MarkFlag, LastFlag, Total, OverLimit, MarkCounter, MarkAmount, Pin, Tries, LastAnswer}

-- what a flaw is
abbrev pub flaw_name : Flaw → List ℕ
flaw_name Size = codes "not 835 bytes"
flaw_name Kinds = codes "a wrong kind byte"
flaw_name MarkFlag = codes "a bad mark flag"
flaw_name LastFlag = codes "a bad last flag"
flaw_name Total = codes "total counter too large"
flaw_name OverLimit = codes "unaudited amount over the limit"
flaw_name MarkCounter = codes "marked counter over the total"
flaw_name MarkAmount = codes "marked amount over the unaudited"
flaw_name Pin = codes "PIN not four digits"
flaw_name Tries = codes "more than five tries"
flaw_name LastAnswer = codes "last answer and total disagree"
