-- The flat store: the writes left, then the image.
use Rattle.std.specs.Prelude.{◌≡◌, ℕ, ◌-◌, Bool, true, false, cond, ◌&&◌, List, ◌++◌, length, take, ◌==◌, refl}
use Rattle.std.proofs.Common.{arith, eqb-true}
use Rattle.octets.specs.Big.{be, big}
use Rattle.octets.specs.Parts.{part}
use Rattle.octets.proofs.Pieces.{length-part}
use Rattle.stores.specs.Sizes.{image_size, left_width, flat_size}
use Rattle.stores.specs.Meaning.{no_image, length-no_image, accepted}

-- the image that a memory means
abbrev pub flat_image : List ℕ → List ℕ
flat_image memory = cond (length memory == flat_size) (part left_width image_size memory) no_image

-- the writes left that a memory means
abbrev pub flat_left : List ℕ → ℕ
flat_left memory = cond (length memory == flat_size) (big (take left_width memory)) 0

-- a memory filled with writes left and an image
abbrev pub flat_filled : ℕ → List ℕ → List ℕ
flat_filled left image = be left_width left ++ image

-- the memory after a new image was written or refused
abbrev pub flat_written : List ℕ → List ℕ → List ℕ
flat_written memory new = cond (accepted (flat_left memory) new) (flat_filled (flat_left memory - 1) new) memory

-- whether an image can be laid in a memory
abbrev pub flat_fits : List ℕ → List ℕ → Bool
flat_fits image memory = length image == image_size && length memory == flat_size

-- the memory after an image was laid in it or refused
abbrev pub flat_laid : List ℕ → ℕ → List ℕ → List ℕ
flat_laid image left memory = cond (flat_fits image memory) (flat_filled left image) memory

-- an image has its size, whatever the memory
pub flat_whole : (memory : List ℕ) → length (flat_image memory) ≡ image_size
flat_whole memory = go (length memory == flat_size) refl
  where
    go : (t : Bool) → (length memory == flat_size) ≡ t → length (cond t (part left_width image_size memory) no_image) ≡ image_size
    go true h = let size = eqb-true (length memory) flat_size h in length-part left_width image_size memory (omega arith)
    go false h = length-no_image
