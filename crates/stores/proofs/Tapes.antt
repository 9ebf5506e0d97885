-- The records of a tape, by their kind bytes.
use Rattle.std.proofs.Common.{◌≡◌, ℕ, zero, suc, ◌+◌, ◌-◌, ◌*◌, ◌/◌, ◌<◌, ◌≤◌, Bool, true, false, cond, ◌&&◌, eqb, ltb, leb, ◌⊎◌, List, [], ◌∷◌, ◌++◌, length, get_or, take, drop, Option, Some, Ok, sym, refl, ap, ◌∙◌, inl, inr, ⊎_elim, mul-suc, arith, lt-ltb, ltb-true, le-leb, eqb-true, leb-false, leb-true, length-drop}
use Rattle.std.specs.Bool.{then_some}
use Rattle.std.specs.List.{list_all}
use Rattle.std.specs.Simd.{first_chunks}
use Rattle.std.proofs.lemmas.List.{drop-drop, drop-take, get_or-drop, get_or-take, take_at, length-take-le}
use Rattle.std.proofs.lemmas.List.Elements.{All-get_or, All-from_get_or}
use Rattle.std.proofs.lemmas.List.Sums.{prefix_len_is, prefix_len_passes, AllPass-from_list_all, list_all-from_AllPass}
use Rattle.std.proofs.lemmas.Bool.{and_parts}
use Rattle.octets.specs.Parts.{part, overwritten}
use borrow.Rule.Slice.PartMut.{put_mid}
use Rattle.octets.proofs.Pieces.{put_mid_is, part-before, part_behind, part_right, length-overwritten}
use Rattle.stores.specs.Sizes.{image_size, record_size, kind_written, kind_free}
use Rattle.stores.specs.Meaning.{no_image, accepted, writing, image_after, left_after}
use Rattle.stores.specs.Tape.{records, cut, is_written, is_free, written, good, place, stands, image_at, left_at, tape_image, tape_left, written_record, tape_written, CutShort, length_cut, some_of, place-le}
use Rattle.stores.proofs.Writings.{accepted_is}

-- record i of a memory that is cut into n records of w bytes
chunk_is : (w n i : ℕ) (m d : List ℕ) → i < n → get_or (first_chunks w n m) i d ≡ part (w * i) w m
chunk_is w zero i m d h = absurd (omega arith)
chunk_is w (suc n) zero m d h = let z : 0 ≡ w * 0 = omega arith in ap (λ j. take w (drop j m)) z
chunk_is w (suc n) (suc i) m d h =
    let e : w + w * i ≡ w * suc i = omega (arith, mul-suc w i) in
    chunk_is w n i (drop w m) d (omega arith) ∙ ap (take w) (drop-drop (w * i) w m ∙ ap (λ j. drop j m) e)

-- the kind byte of record i, for records of w bytes
abbrev pub kind : ℕ → ℕ → List ℕ → ℕ
kind w i m = get_or m (w * i) 0

-- it is the first byte of that record
kind_cut : (i : ℕ) (m : List ℕ) → i < records m → get_or (get_or (cut m) i []) 0 0 ≡ kind record_size i m
kind_cut i m h =
    ap (λ r. get_or r 0 0) (chunk_is record_size (records m) i m [] h) ∙ get_or-take record_size (drop (record_size * i) m) 0 0 (omega arith)
    ∙ get_or-drop (record_size * i) m 0 0 ∙ ap (λ j. get_or m j 0) (omega arith)

-- a good tape of which k records were written
pub record Tape (k : ℕ) (m : List ℕ) : Type 0 where
  pub some : 0 < k
  pub within : k ≤ records m
  pub full : (i : ℕ) → i < k → kind record_size i m ≡ kind_written
  pub rest : (i : ℕ) → k ≤ i → i < records m → kind record_size i m ≡ kind_free

pub place_of_tape : (k : ℕ) (m : List ℕ) → Tape k m → place m ≡ Some k
place_of_tape k m t = ap (λ b. then_some b (written m)) is_good ∙ ap Some count
  where
    n : length (cut m) ≡ records m
    n = length_cut m

    count : written m ≡ k
    count =
        prefix_len_is is_written (cut m) k [] (omega (arith, n, t.within))
        (λ i h. ap (λ x. eqb x kind_written) (kind_cut i m (omega (arith, t.within)) ∙ t.full i h))
        (λ h. ap (λ x. eqb x kind_written) (kind_cut k m (omega (arith, n)) ∙ t.rest k (omega arith) (omega (arith, n))))

    free_at : (i : ℕ) → i < length (drop k (cut m)) → is_free (get_or (drop k (cut m)) i []) ≡ true
    free_at i h =
        let l : k + i < records m = omega (arith, n, length-drop k (cut m)) in
        ap is_free (get_or-drop k (cut m) i []) ∙ ap (λ x. eqb x kind_free) (kind_cut (k + i) m l ∙ t.rest (k + i) (omega arith) l)

    is_good : good m ≡ true
    is_good =
        ap (λ j. ltb 0 j && list_all is_free (drop j (cut m))) count ∙ ap (λ b. b && list_all is_free (drop k (cut m))) (lt-ltb 0 k t.some)
        ∙ list_all-from_AllPass is_free (drop k (cut m)) (All-from_get_or (λ r. is_free r ≡ true) (drop k (cut m)) [] free_at)

pub tape_of_place : (k : ℕ) (m : List ℕ) → place m ≡ Some k → Tape k m
tape_of_place k m e = record { some = p.1.0; within = p.1.1; full = full_at; rest = rest_at }
  where
    p : (k ≡ written m) × ((0 < k) × (k ≤ records m))
    p = place-le k m e

    n : length (cut m) ≡ records m
    n = length_cut m

    free_tail : list_all is_free (drop (written m) (cut m)) ≡ true
    free_tail = (and_parts (ltb 0 (written m)) _ (some_of (good m) (written m) k e).0).1

    full_at : (i : ℕ) → i < k → kind record_size i m ≡ kind_written
    full_at i h =
        sym (kind_cut i m (omega (arith, p.1.1))) ∙ eqb-true _ kind_written (prefix_len_passes is_written (cut m) i [] (omega (arith, p.0)))

    rest_at : (i : ℕ) → k ≤ i → i < records m → kind record_size i m ≡ kind_free
    rest_at i h l =
        let j : written m + (i - written m) ≡ i = omega (arith, p.0) in
        let at = All-get_or (λ r. is_free r ≡ true) (drop (written m) (cut m)) (i - written m) [] (omega (arith, n, p.0, length-drop (written m) (cut m))) (AllPass-from_list_all is_free _ free_tail) in
        sym (kind_cut i m l) ∙ ap (λ r. get_or r 0 0) (ap (λ x. get_or (cut m) x []) (sym j) ∙ sym (get_or-drop (written m) (cut m) (i - written m) []))
        ∙ eqb-true _ kind_free at

-- so is a place that was kept
pub kept-le : (k : ℕ) (m : List ℕ) (kept : Option ℕ) → kept ≡ place m → kept ≡ Some k → (0 < k) × (k ≤ records m)
kept-le k m kept f e = (place-le k m (sym f ∙ e)).1

-- as many records as a memory has can have been written, but none cannot
pub stands_true : (k : ℕ) (m : List ℕ) → 0 < k → k ≤ records m → stands k m ≡ true
stands_true k m some within = ap (λ b. b && leb k (records m)) (lt-ltb 0 k some) ∙ le-leb k (records m) within

-- what a good tape means
pub image_of_tape : (k : ℕ) (m : List ℕ) → Tape k m → tape_image m ≡ part (record_size * (k - 1) + 1) image_size m
image_of_tape k m t =
    ap (λ p. image_at p m) (place_of_tape k m t)
    ∙ ap (λ b. cond b (part (record_size * (k - 1) + 1) image_size m) no_image) (stands_true k m t.some t.within)

pub left_of_tape : (k : ℕ) (m : List ℕ) → Tape k m → tape_left m ≡ records m - k
left_of_tape k m t = ap (λ p. left_at p m) (place_of_tape k m t) ∙ ap (λ b. cond b (records m - k) 0) (stands_true k m t.some t.within)

-- the image in the last record written, as it is read
pub image_of_last : (k : ℕ) (m d : List ℕ) (rs : List (List ℕ)) → place m ≡ Some k → rs ≡ cut m → drop 1 (get_or rs (k - 1) d) ≡ tape_image m
image_of_last k m d rs p e =
    let t = tape_of_place k m p in
    let i : ℕ = k - 1 in
    ap (λ l. drop 1 (get_or l i d)) e ∙ ap (drop 1) (chunk_is record_size (records m) i m d (omega (arith, t.some, t.within)))
    ∙ drop-take 1 image_size (drop (record_size * i) m) ∙ ap (take image_size) (drop-drop 1 (record_size * i) m) ∙ sym (image_of_tape k m t)

-- records are left only behind some that were written
pub left_some : (k : ℕ) (m : List ℕ) → 0 < left_at (Some k) m → (0 < k) × (k < records m)
left_some k m h = go (stands k m) refl h
  where
    go : (b : Bool) → stands k m ≡ b → 0 < cond b (records m - k) 0 → (0 < k) × (k < records m)
    go false e l = absurd (omega arith)
    go true e l = (ltb-true 0 k (and_parts _ _ e).0, omega arith)

-- and then the memory is a good tape
left_tape : (m : List ℕ) → 0 < tape_left m → Tape (written m) m × (written m < records m)
left_tape m h = go (good m) refl h
  where
    go : (b : Bool) → good m ≡ b → 0 < left_at (then_some b (written m)) m → Tape (written m) m × (written m < records m)
    go false g l = absurd (omega arith)
    go true g l = (tape_of_place (written m) m (ap (λ b. then_some b (written m)) g), (left_some (written m) m l).1)

-- single bytes of a list that was overwritten
byte_part : (j : ℕ) (m : List ℕ) → get_or (part j 1 m) 0 0 ≡ get_or m j 0
byte_part j m = get_or-take 1 (drop j m) 0 0 (omega arith) ∙ get_or-drop j m 0 0 ∙ ap (λ i. get_or m i 0) (omega arith)

byte_before : (j at : ℕ) (new old : List ℕ) → j < at → at ≤ length old → get_or (overwritten at new old) j 0 ≡ get_or old j 0
byte_before j at new old h k =
    sym (byte_part j (overwritten at new old)) ∙ ap (λ p. get_or p 0 0) (part-before j 1 at new old (omega arith) k) ∙ byte_part j old

byte_behind : (j at : ℕ) (new old : List ℕ) → at + length new ≤ j → at ≤ length old → get_or (overwritten at new old) j 0 ≡ get_or old j 0
byte_behind j at new old h k =
    sym (byte_part j (overwritten at new old)) ∙ ap (λ p. get_or p 0 0) (part_behind j 1 at new old h k) ∙ byte_part j old

byte_first : (at x : ℕ) (new old : List ℕ) → at ≤ length old → get_or (overwritten at (x ∷ new) old) at 0 ≡ x
byte_first at x new old h =
    let z : at - at ≡ 0 = omega arith in
    sym (byte_part at (overwritten at (x ∷ new) old)) ∙ ap (λ p. get_or p 0 0) (part_right at 1 at (take at old) _ (length-take-le at old h) (omega arith))
    ∙ ap (λ j. get_or (part j 1 ((x ∷ new) ++ drop (at + length (x ∷ new)) old)) 0 0) z

pub le_or : (i k : ℕ) → (i ≤ k) ⊎ (k < i)
le_or i k = go (leb i k) refl
  where
    go : (b : Bool) → leb i k ≡ b → (i ≤ k) ⊎ (k < i)
    go true e = inl (leb-true i k e)
    go false e = inr (leb-false i k e)

-- a write to record k, behind k written ones
module _ (k : ℕ) (m new : List ℕ) (at_place : place m ≡ Some k) (room : k < records m) (size : length new ≡ image_size) where
  old_tape : Tape k m
  old_tape = tape_of_place k m at_place

  abbrev a : ℕ
  a = record_size * k

  abbrev M : List ℕ
  M = overwritten a (written_record new) m

  size_record : length (written_record new) ≡ record_size
  size_record = ap suc size

  fits : a + record_size ≤ length m
  fits = omega arith

  length_put : length M ≡ length m
  length_put = length-overwritten a (written_record new) m (omega (arith, fits, size_record))

  new_tape : Tape (k + 1) M
  new_tape = record {
    some = omega arith;
    within = omega (arith, length_put);
    full = full_put;
    rest = λ i h l. byte_behind (record_size * i) a (written_record new) m (omega (arith, size_record)) (omega (arith, fits)) ∙ old_tape.rest i (omega arith) (omega (arith, length_put));
  }
    where
      full_put : (i : ℕ) → i < k + 1 → kind record_size i M ≡ kind_written
      full_put i h = ⊎_elim (λ l. ap (λ j. kind record_size j M) (omega arith) ∙ byte_first a kind_written new m (omega (arith, fits)))
          (λ l. byte_before (record_size * i) a (written_record new) m (omega arith) (omega (arith, fits)) ∙ old_tape.full i l) (le_or k i)

  accepted_put : accepted (tape_left m) new ≡ true
  accepted_put = accepted_is (tape_left m) new size (omega (arith, left_of_tape k m old_tape))

  pub place_put : Some (k + 1) ≡ place M
  place_put = sym (place_of_tape (k + 1) M new_tape)

  pub value_put : Ok tt ≡ writing (accepted (tape_left m) new)
  value_put = sym (ap writing accepted_put)

  pub memory_put : M ≡ tape_written m new
  memory_put =
      ap (λ j. overwritten (record_size * j) (written_record new) m) (place-le k m at_place).0
      ∙ sym (ap (λ b. cond b (overwritten (record_size * written m) (written_record new) m) m) accepted_put)

  pub image_put : tape_image M ≡ image_after (tape_image m) (tape_left m) new
  image_put =
      let one : a + 1 - a ≡ 1 = omega arith in
      image_of_tape (k + 1) M new_tape ∙ ap (λ j. part (record_size * j + 1) image_size M) (omega arith)
      ∙ part_right (a + 1) image_size a (take a m) _ (length-take-le a m (omega (arith, fits))) (omega arith)
      ∙ ap (λ j. part j image_size (written_record new ++ drop (a + length (written_record new)) m)) one
      ∙ take_at new (drop (a + length (written_record new)) m) image_size size
      ∙ sym (ap (λ b. cond b new (tape_image m)) accepted_put)

  pub left_put : tape_left M ≡ left_after (tape_left m) new
  left_put =
      left_of_tape (k + 1) M new_tape ∙ ap (λ n. n / record_size - (k + 1)) length_put
      ∙ omega (arith, left_of_tape k m old_tape) ∙ sym (ap (λ b. cond b (tape_left m - 1) (tape_left m)) accepted_put)

-- a write of record k that is cut short: its body holds anything
module _ (k : ℕ) (m body : List ℕ) (t : Tape k m) (room : k < records m) (size : length body ≡ image_size) where
  abbrev b : ℕ
  b = record_size * k + 1

  abbrev C : List ℕ
  C = overwritten b body m

  fits_cut : b + length body ≤ length m
  fits_cut = omega arith

  length-cut : length C ≡ length m
  length-cut = length-overwritten b body m fits_cut

  tape_cut : Tape k C
  tape_cut = record {
    some = t.some;
    within = omega (arith, length-cut, t.within);
    full = λ i h. byte_before (record_size * i) b body m (omega arith) (omega (arith, fits_cut)) ∙ t.full i h;
    rest = λ i h l. rest-cut i h (omega (arith, length-cut));
  }
    where
      rest-cut : (i : ℕ) → k ≤ i → i < records m → kind record_size i C ≡ kind_free
      rest-cut i h l = ⊎_elim (λ e. byte_before (record_size * i) b body m (omega arith) (omega (arith, fits_cut)) ∙ t.rest i h l)
          (λ e. byte_behind (record_size * i) b body m (omega arith) (omega (arith, fits_cut)) ∙ t.rest i h l) (le_or i k)

  image_short : tape_image C ≡ tape_image m
  image_short =
      image_of_tape k C tape_cut ∙ part-before (record_size * (k - 1) + 1) image_size b body m (omega (arith, t.some)) (omega (arith, fits_cut)) ∙ sym (image_of_tape k m t)

  left_short : tape_left C ≡ tape_left m
  left_short = left_of_tape k C tape_cut ∙ ap (λ n. n / record_size - k) length-cut ∙ sym (left_of_tape k m t)

pub cut_short : (m : List ℕ) → CutShort m
cut_short m body size some = let l = left_tape m some in (image_short (written m) m body l.0 l.1 size, left_short (written m) m body l.0 l.1 size)

-- a write as the code leaves the memory
module _ (k : ℕ) (m slot new : List ℕ) (s : slot ≡ written_record new) (size : length new ≡ image_size) (p : place m ≡ Some k) (room : k < records m) where
  abbrev left_memory : List ℕ
  left_memory = put_mid (record_size * k) (record_size * k + record_size - record_size * k) m slot

  put_is : left_memory ≡ overwritten (record_size * k) (written_record new) m
  put_is = put_mid_is (record_size * k) _ (length (written_record new)) _ m _ (written_record new) (omega (arith, size)) refl s

  pub place_after : place left_memory ≡ Some (k + 1)
  place_after = ap place put_is ∙ sym (place_put k m new p room size)

  pub image_after_put : tape_image left_memory ≡ image_after (tape_image m) (tape_left m) new
  image_after_put = ap tape_image put_is ∙ image_put k m new p room size

  pub left_after_put : tape_left left_memory ≡ left_after (tape_left m) new
  left_after_put = ap tape_left put_is ∙ left_put k m new p room size

  pub memory_after : left_memory ≡ tape_written m new
  memory_after = put_is ∙ memory_put k m new p room size
