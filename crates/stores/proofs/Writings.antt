-- A new image that is accepted.
use Rattle.std.proofs.Common.{◌≡◌, ℕ, ◌<◌, true, ◌&&◌, ltb, List, length, ap, ◌∙◌, eq-eqb, lt-ltb}
use Rattle.stores.specs.Sizes.{image_size}
use Rattle.stores.specs.Meaning.{accepted}

pub accepted_is : (left : ℕ) (new : List ℕ) → length new ≡ image_size → 0 < left → accepted left new ≡ true
accepted_is left new size some = ap (λ b. b && ltb 0 left) (eq-eqb (length new) image_size size) ∙ lt-ltb 0 left some
