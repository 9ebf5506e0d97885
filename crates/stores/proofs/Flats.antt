-- A flat memory that was filled with writes left and an image.
use Rattle.std.proofs.Common.{◌≡◌, ℕ, ◌+◌, ◌-◌, ◌^◌, ◌<◌, true, cond, Ok, List, [], ◌++◌, length, take, drop, sym, ap, ◌∙◌, arith, eq-eqb, ne_eqb}
use borrow.Rule.Slice.PartMut.{put_mid, post_of}
use Rattle.std.proofs.lemmas.List.{take_at, drop_at, drop_all, drop-drop, length-append, length-drop, append-nil, take_all}
use Rattle.octets.specs.Big.{be, big}
use Rattle.octets.specs.Parts.{part}
use Rattle.octets.proofs.Bigs.{length-be, big-be}
use Rattle.stores.specs.Sizes.{image_size, left_width, flat_size}
use Rattle.stores.specs.Meaning.{no_image, accepted, writing, image_after, left_after}
use Rattle.stores.specs.Flat.{flat_image, flat_left, flat_filled, flat_written}
use Rattle.stores.proofs.Writings.{accepted_is}

-- a memory of a + k bytes, written in two parts
pub two_parts : (a k : ℕ) (memory x y head body : List ℕ) → length memory ≡ a + k → length head ≡ a → x ≡ head → y ≡ body →
    put_mid a k (x ++ post_of 0 a memory) y ≡ head ++ body
two_parts a k memory x y head body lm lh ex ey =
    let whole : x ++ post_of 0 a memory ≡ head ++ drop a memory = ap (λ u. u ++ drop a memory) ex in
    let t : take a (head ++ drop a memory) ≡ head = take_at head (drop a memory) a lh in
    let d : drop k (drop a (head ++ drop a memory)) ≡ [] =
    ap (drop k) (drop_at head (drop a memory) a lh) ∙ drop-drop k a memory ∙ drop_all (a + k) memory (omega arith) in
    ap (λ u. take a u ++ (y ++ drop k (drop a u))) whole ∙ ap (λ u. u ++ (y ++ drop k (drop a (head ++ drop a memory)))) t
    ∙ ap (λ u. head ++ (y ++ u)) d ∙ ap (λ u. head ++ u) (append-nil y ∙ ey)

-- the second of two parts
last_part : (a k : ℕ) (head body : List ℕ) → length head ≡ a → length body ≡ k → part a k (head ++ body) ≡ body
last_part a k head body lh lb = ap (take k) (drop_at head body a lh) ∙ take_all k body (omega arith)

module _ (left : ℕ) (image : List ℕ) (size : length image ≡ image_size) where
  length-filled : length (flat_filled left image) ≡ flat_size
  length-filled = length-append (be left_width left) image ∙ ap (λ n. left_width + n) size

  pub image_filled : flat_image (flat_filled left image) ≡ image
  image_filled =
      ap (λ t. cond t (part left_width image_size (flat_filled left image)) no_image) (eq-eqb (length (flat_filled left image)) flat_size length-filled)
      ∙ last_part left_width image_size (be left_width left) image (length-be left_width left) size

  pub left_filled : left < 256 ^ left_width → flat_left (flat_filled left image) ≡ left
  left_filled fits =
      ap (λ t. cond t (big (take left_width (flat_filled left image))) 0) (eq-eqb (length (flat_filled left image)) flat_size length-filled)
      ∙ ap big (take_at (be left_width left) image left_width (length-be left_width left)) ∙ big-be left_width left fits

-- memory of the right size, and of another
pub flat_image_good : (memory image : List ℕ) → length memory ≡ flat_size → image ≡ drop left_width memory → image ≡ flat_image memory
flat_image_good memory image h e =
    e ∙ sym (take_all image_size (drop left_width memory) (simp length-drop (omega arith)))
    ∙ sym (ap (λ t. cond t (part left_width image_size memory) no_image) (eq-eqb (length memory) flat_size h))

pub flat_image_bad : (memory : List ℕ) → (length memory ≡ flat_size → ⊥) → flat_image memory ≡ no_image
flat_image_bad memory h = ap (λ t. cond t (part left_width image_size memory) no_image) (ne_eqb (length memory) flat_size h)

-- memory in which an accepted image was written
module _ (memory new : List ℕ) (size : length new ≡ image_size) (some : 0 < flat_left memory) where
  accepted_put : accepted (flat_left memory) new ≡ true
  accepted_put = accepted_is (flat_left memory) new size some

  pub value_put : Ok tt ≡ writing (accepted (flat_left memory) new)
  value_put = sym (ap writing accepted_put)

  pub image_put : new ≡ image_after (flat_image memory) (flat_left memory) new
  image_put = sym (ap (λ b. cond b new (flat_image memory)) accepted_put)

  pub left_put : flat_left memory - 1 ≡ left_after (flat_left memory) new
  left_put = sym (ap (λ b. cond b (flat_left memory - 1) (flat_left memory)) accepted_put)

  pub memory_put : flat_filled (flat_left memory - 1) new ≡ flat_written memory new
  memory_put = sym (ap (λ b. cond b (flat_filled (flat_left memory - 1) new) memory) accepted_put)
