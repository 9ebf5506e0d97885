-- A tape memory in which an image was laid.
use Rattle.std.proofs.Common.{◌≡◌, ℕ, zero, suc, ◌+◌, ◌-◌, ◌*◌, ◌/◌, ◌<◌, ◌≤◌, List, ◌++◌, length, get_or, take, drop, set, true, ◌&&◌, leb, cond, Ok, sym, refl, ap, ◌∙◌, ⊎_elim, arith, length-set, eq-eqb, le-leb}
use Rattle.std.proofs.lemmas.List.{take-set-le, get_or-set_same, get_or-set_other, get_or-take, take_at, take_all}
use Rattle.octets.specs.Parts.{part, overwritten}
use Rattle.octets.proofs.Pieces.{part-part, length-overwritten}
use Rattle.stores.specs.Sizes.{image_size, record_size, kind_written, kind_free}
use Rattle.stores.specs.Meaning.{laying}
use Rattle.stores.specs.Tape.{records, tape_image, tape_left, written_record, freed, tape_fits, tape_laid}
use Rattle.stores.proofs.Tapes.{kind, Tape, image_of_tape, left_of_tape, le_or}

-- one more record made free
pub freed_more : (i : ℕ) (m n : List ℕ) → 1 ≤ i → n ≡ freed (i - 1) m → set n (record_size * i) kind_free ≡ freed (i + 1 - 1) m
unfolding freed
freed_more i m n some e =
    let next : i + 1 - 1 ≡ suc (i - 1) = omega arith in
    let this : suc (i - 1) ≡ i = omega arith in
    ap (λ l. set l (record_size * i) kind_free) e ∙ ap (λ j. set (freed (i - 1) m) (record_size * j) kind_free) (sym this) ∙ ap (λ j. freed j m) (sym next)

-- records that were made free: how long the memory is, what its first record holds, and their kinds
pub length-freed : (k : ℕ) (m : List ℕ) → length (freed k m) ≡ length m
unfolding freed
length-freed zero m = refl
length-freed (suc k) m = length-set (freed k m) (record_size * suc k) kind_free ∙ length-freed k m

first-freed : (k : ℕ) (m : List ℕ) → take record_size (freed k m) ≡ take record_size m
unfolding freed
first-freed zero m = refl
first-freed (suc k) m = take-set-le record_size (freed k m) (record_size * suc k) kind_free (omega arith) ∙ first-freed k m

kind-freed : (k : ℕ) (m : List ℕ) → k < records m → (i : ℕ) → 1 ≤ i → i ≤ k → kind record_size i (freed k m) ≡ kind_free
unfolding freed
kind-freed zero m room i some h = absurd (omega arith)
kind-freed (suc k) m room i some h =
    ⊎_elim (λ l. get_or-set_other (freed k m) (record_size * suc k) (record_size * i) kind_free 0 (λ e. absurd (omega arith)) ∙ kind-freed k m (omega arith) i some l)
    (λ l. ap (λ j. kind record_size j (set (freed k m) (record_size * suc k) kind_free)) (omega arith)
    ∙ get_or-set_same (freed k m) (record_size * suc k) kind_free 0 (omega (arith, length-freed k m)))
    (le_or i k)

-- an image laid in the first record, and the others free
module _ (image m : List ℕ) (size : length image ≡ image_size) (room : record_size ≤ length m) where
  abbrev O : List ℕ
  O = overwritten 0 (written_record image) m

  abbrev L : List ℕ
  L = freed (records m - 1) O

  size_record : length (written_record image) ≡ record_size
  size_record = ap suc size

  length_over : length O ≡ length m
  length_over = length-overwritten 0 (written_record image) m (omega (arith, size_record))

  length_laid : length L ≡ length m
  length_laid = length-freed (records m - 1) O ∙ length_over

  first_laid : take record_size L ≡ written_record image
  first_laid = first-freed (records m - 1) O ∙ take_at (written_record image) _ record_size size_record

  tape_laid_is : Tape 1 L
  tape_laid_is = record {
    some = omega arith;
    within = omega (arith, length_laid);
    full = λ i h. (let z : record_size * i ≡ 0 = omega arith in ap (λ j. get_or L j 0) z) ∙ first_kind;
    rest = λ i h l. kind-freed (records m - 1) O (omega (arith, length_over)) i h (omega (arith, length_laid));
  }
    where
      first_kind : get_or L 0 0 ≡ kind_written
      first_kind = sym (get_or-take record_size L 0 0 (omega arith)) ∙ ap (λ l. get_or l 0 0) first_laid

  pub image_laid : tape_image L ≡ image
  image_laid = image_of_tape 1 L tape_laid_is ∙ sym (part-part 1 image_size 0 record_size L (omega arith)) ∙ ap (part 1 image_size) first_laid ∙ take_all image_size image (omega arith)

  pub left_laid : tape_left L ≡ records m - 1
  left_laid = left_of_tape 1 L tape_laid_is ∙ ap (λ n. n / record_size - 1) length_laid

  -- the memory as its first step, and as both steps leave it
  pub first_step : written_record image ++ drop record_size m ≡ O
  first_step = let n : record_size ≡ 0 + length (written_record image) = omega (arith, size_record) in ap (λ j. written_record image ++ drop j m) n

  pub laid_as : (x y : List ℕ) → x ≡ O → y ≡ freed (records x - 1) x → y ≡ L
  laid_as x y ex ey = ey ∙ ap (λ l. freed (records l - 1) l) ex ∙ ap (λ n. freed (n / record_size - 1) O) length_over

  fits_laid : tape_fits image m ≡ true
  fits_laid = ap (λ b. b && leb record_size (length m)) (eq-eqb (length image) image_size size) ∙ le-leb record_size (length m) room

  pub value_laid : Ok tt ≡ laying (tape_fits image m)
  value_laid = sym (ap laying fits_laid)

  pub memory_laid : L ≡ tape_laid image m
  memory_laid = sym (ap (λ b. cond b L m) fits_laid)
