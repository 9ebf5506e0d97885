-- What is known of the bench sealer.
use Rattle.std.specs.Prelude.{◌≡◌, [], ◌∷◌, take}
use Rattle.sealers.specs.Bench.{sealed}

-- with key 0 the seal of the empty message begins 00 01 24
abbrev pub Begins : Type 0
Begins = take 3 (sealed 0 []) ≡ 0x00 ∷ 0x01 ∷ 0x24 ∷ []
