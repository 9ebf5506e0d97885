-- The tape store: records of a kind byte and an image, a shorter tail being ignored.
use Rattle.std.specs.Prelude.{◌≡◌, ℕ, ◌+◌, ◌-◌, ◌*◌, ◌/◌, ◌<◌, ◌≤◌, Bool, true, false, cond, ◌&&◌, List, ◌∷◌, length, drop, ◌==◌, nat_le, nat_lt, slice_index, slice_set, Option, Some, None, refl}
use Rattle.std.specs.Bool.{then_some}
use Rattle.std.specs.List.{prefix_len, list_all}
use Rattle.std.specs.Simd.{first_chunks}
use Rattle.std.proofs.Common.{zero, suc, sym, ap, ◌∙◌, arith, ltb-true, leb-true}
use Rattle.std.proofs.lemmas.Bool.{and_parts}
use Rattle.std.proofs.lemmas.List.Sums.{prefix_len-le-length}
use Rattle.std.proofs.lemmas.Option.{none-some, same_Some}
use Rattle.octets.specs.Parts.{part, overwritten}
use Rattle.octets.proofs.Pieces.{length-part}
use Rattle.stores.specs.Sizes.{image_size, record_size, kind_written, kind_free}
use Rattle.stores.specs.Meaning.{no_image, length-no_image, accepted}

-- the number of records in a memory
abbrev pub records : List ℕ → ℕ
records m = length m / record_size

-- the records of a memory, one after the other
abbrev pub cut : List ℕ → List (List ℕ)
cut m = first_chunks record_size (records m) m

-- whether a record was written, and whether it is free
abbrev pub is_written : List ℕ → Bool
is_written r = slice_index r 0 == kind_written

abbrev pub is_free : List ℕ → Bool
is_free r = slice_index r 0 == kind_free

-- the number of records written at the beginning of a memory
abbrev pub written : List ℕ → ℕ
written m = prefix_len is_written (cut m)

-- whether a memory is a tape: one or more records written, and then only free ones
abbrev pub good : List ℕ → Bool
good m = nat_lt 0 (written m) && list_all is_free (drop (written m) (cut m))

-- the place where a tape is written next, as the number of its records written; none for memory that is no tape
abbrev pub place : List ℕ → Option ℕ
place m = then_some (good m) (written m)

-- whether that many records can have been written: one or more, and no more than there are
abbrev pub stands : ℕ → List ℕ → Bool
stands k m = nat_lt 0 k && nat_le k (records m)

-- the image in the last of k records written
abbrev pub image_at : Option ℕ → List ℕ → List ℕ
image_at None m = no_image
image_at (Some k) m = cond (stands k m) (part (record_size * (k - 1) + 1) image_size m) no_image

-- the records that are left behind k written ones
abbrev pub left_at : Option ℕ → List ℕ → ℕ
left_at None m = 0
left_at (Some k) m = cond (stands k m) (records m - k) 0

-- the image that a memory means
abbrev pub tape_image : List ℕ → List ℕ
tape_image m = image_at (place m) m

-- the writes left that a memory means
abbrev pub tape_left : List ℕ → ℕ
tape_left m = left_at (place m) m

-- a record as it is written
abbrev pub written_record : List ℕ → List ℕ
written_record image = kind_written ∷ image

-- the memory after a new image was written or refused
abbrev pub tape_written : List ℕ → List ℕ → List ℕ
tape_written m new = cond (accepted (tape_left m) new) (overwritten (record_size * written m) (written_record new) m) m

-- a memory in which the k records behind the first are free; only their kind bytes are set
unfoldable pub freed : ℕ → List ℕ → List ℕ
freed zero m = m
freed (suc k) m = slice_set (freed k m) (record_size * suc k) kind_free

-- whether an image can be laid in a memory
abbrev pub tape_fits : List ℕ → List ℕ → Bool
tape_fits image m = length image == image_size && nat_le record_size (length m)

-- the memory after an image was laid in it or refused
abbrev pub tape_laid : List ℕ → List ℕ → List ℕ
tape_laid image m = cond (tape_fits image m) (freed (records m - 1) (overwritten 0 (written_record image) m)) m

-- whatever the body of the next free record holds, the memory means the same: so a write that is cut short before
-- the kind byte leaves the old image and the old writes left
abbrev pub CutShort : List ℕ → Type 0
CutShort m =
    (body : List ℕ) → length body ≡ image_size → 0 < tape_left m →
    let half = overwritten (record_size * written m + 1) body m in (tape_image half ≡ tape_image m) × (tape_left half ≡ tape_left m)

-- a memory has as many records as it is cut into
length-first_chunks : (w n : ℕ) (m : List ℕ) → length (first_chunks w n m) ≡ n
length-first_chunks w zero m = refl
length-first_chunks w (suc n) m = ap suc (length-first_chunks w n (drop w m))

pub length_cut : (m : List ℕ) → length (cut m) ≡ records m
length_cut m = length-first_chunks record_size (records m) m

-- a test that gives a number holds, and the number is the one that it was asked for
pub some_of : (b : Bool) (n k : ℕ) → then_some b n ≡ Some k → (b ≡ true) × (n ≡ k)
some_of true n k e = (refl, same_Some n k e)
some_of false n k e = absurd (none-some k e)

-- the place is among the records
pub place-le : (k : ℕ) (m : List ℕ) → place m ≡ Some k → (k ≡ written m) × ((0 < k) × (k ≤ records m))
place-le k m e =
    let (g, s) = some_of (good m) (written m) k e in
    let some = ltb-true 0 (written m) (and_parts _ _ g).0 in
    let le = prefix_len-le-length is_written (cut m) in
    let n = length_cut m in
    (omega (arith, s), (omega (arith, s, some), omega (arith, s, le, n)))

-- an image has its size, whatever the place and the memory
pub image_whole : (p : Option ℕ) (m : List ℕ) → length (image_at p m) ≡ image_size
image_whole None m = length-no_image
image_whole (Some k) m = go (stands k m) refl
  where
    at : ℕ
    at = record_size * (k - 1) + 1

    go : (b : Bool) → stands k m ≡ b → length (cond b (part at image_size m) no_image) ≡ image_size
    go false e = length-no_image
    go true e =
        let some = ltb-true 0 k (and_parts _ _ e).0 in
        let within = leb-true k (records m) (and_parts (nat_lt 0 k) _ e).1 in
        length-part at image_size m (omega arith)

-- and so has the image that a memory means
pub tape_whole : (m : List ℕ) → length (tape_image m) ≡ image_size
tape_whole m = image_whole (place m) m

-- two stores that stand at the places of their memories mean the same over the same memory
pub one_place : (j k : Option ℕ) (m n : List ℕ) → j ≡ place m → k ≡ place n → m ≡ n → (image_at j m ≡ image_at k n) × (left_at j m ≡ left_at k n)
one_place j k m n ej ek e =
    let same : j ≡ k = ej ∙ ap place e ∙ sym ek in
    (ap (λ i. image_at i m) same ∙ ap (image_at k) e, ap (λ i. left_at i m) same ∙ ap (left_at k) e)
