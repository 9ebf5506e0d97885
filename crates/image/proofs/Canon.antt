-- Writing what was read from a sound image gives the same bytes.
use Rattle.std.proofs.Common.{◌≡◌, ℕ, ◌+◌, ◌*◌, ◌<◌, ◌≤◌, Bool, true, false, cond, ◌&&◌, eqb, ◌⊎◌, List, [], ◌∷◌, length, get_or, drop, replicate, Some, None, Ok, Err, Option, Result, sym, refl, ap, ◌∙◌, subst, inl, inr, ⊎_elim, arith, eqb-true, le-leb}
use Rattle.std.proofs.lemmas.List.{get_or-take, get_or-drop, take_all}
use Rattle.std.proofs.ByRecursion.{All-take, All-drop}
use Rattle.std.proofs.lemmas.Bool.{and_parts}
use Rattle.std.proofs.lemmas.Int.Digits.{number_lt}
use Rattle.std.specs.Int.Digits.{AllBelowBase}
use Rattle.octets.specs.Big.{be, big}
use Rattle.octets.specs.Parts.{part}
use Rattle.octets.proofs.Bigs.{be-big_of}
use Rattle.octets.proofs.Pieces.{length-part, part-part}
use Rattle.std.specs.List.{list_all}
use Rattle.ledger.specs.Sides.{packed_sides, sides_in}
use Rattle.ledger.proofs.Halves.{packed_sides-sides_in}
use Rattle.stores.specs.Sizes.{image_size}
use Rattle.image.specs.declared.fields.Mark.{Mark}
use Rattle.image.specs.declared.flaws.Flaw.{Flaw}
use Rattle.image.specs.declared.flaws.Flaw.TheVariants.{Size, Kinds, MarkFlag, LastFlag}
use Rattle.image.specs.Places.{widths, count_width, sum_width, amount_width, answer_width, ids, counters_at, sums_at, unaudited_at, limit_at, mark_at, mark_counter_at, mark_amount_at, pin_at, tries_at, rows_at, last_at, answer_at, key_at}
use Rattle.image.specs.Layout.{Meaning, mark_flag, mark_counter, mark_amount, last_flag, last_bytes, no_answer, mark_in, last_in, image_fields, joined, image_bytes, image_in}
use Rattle.image.specs.Sound.{kinds_right, zero_byte, flag_good, mark_part, last_part, check, onward, sized_read, WrittenBack}
use Rattle.image.specs.Writing.{amount_max, amounts_fit}
use Rattle.image.proofs.Parcels.{cut, joined-cut, fits_flag-part}

-- bytes that are all zero
zeros_are : (bs : List ℕ) → list_all zero_byte bs ≡ true → bs ≡ replicate (length bs) 0
zeros_are [] h = refl
zeros_are (b ∷ bs) h =
    let both = and_parts (zero_byte b) _ h in
    ap (λ x. x ∷ bs) (eqb-true b 0 both.0) ∙ ap (λ l. 0 ∷ l) (zeros_are bs both.1)

module _ (bs : List ℕ) (size : length bs ≡ image_size) (u : AllBelowBase 256 bs) where
  under : (at n : ℕ) → AllBelowBase 256 (part at n bs)
  under at n = All-take (λ d. d < 256) n (drop at bs) (All-drop (λ d. d < 256) at bs u)

  -- numbers and tallies are written again as the bytes that they were read from
  number_again : (at w : ℕ) → at + w ≤ image_size → be w (big (part at w bs)) ≡ part at w bs
  number_again at w h = be-big_of w (part at w bs) (length-part at w bs (omega arith)) (under at w)

  sides_again : (at w n : ℕ) → at + 2 * (w * n) ≤ image_size → packed_sides w (sides_in w n (part at (2 * (w * n)) bs)) ≡ part at (2 * (w * n)) bs
  sides_again at w n h = packed_sides-sides_in w n (part at (2 * (w * n)) bs) (under at (2 * (w * n))) (length-part at (2 * (w * n)) bs (omega arith))

  -- a byte is the number of its part
  byte_number : (at : ℕ) → at + 1 ≤ image_size → big (part at 1 bs) ≡ get_or bs at 0
  byte_number at h = first (part at 1 bs) (length-part at 1 bs (omega arith)) ∙ get_or-take 1 (drop at bs) 0 0 (omega arith) ∙ get_or-drop at bs 0 0 ∙ ap (λ k. get_or bs k 0) (omega arith)
    where
      first : (p : List ℕ) → length p ≡ 1 → big p ≡ get_or p 0 0
      first [] l = absurd (omega arith)
      first (b ∷ []) l = omega arith
      first (b ∷ c ∷ p) l = absurd (omega arith)

  byte_again : (at v : ℕ) → at + 1 ≤ image_size → get_or bs at 0 ≡ v → be 1 v ≡ part at 1 bs
  byte_again at v h e = ap (be 1) (sym e ∙ sym (byte_number at h)) ∙ number_again at 1 h

  -- a flag with m bytes behind it is 0, and they are zero, or it is 1
  flag_cases : (at m : ℕ) → at + (1 + m) ≤ image_size → flag_good (part at (1 + m) bs) ≡ true → ((get_or bs at 0 ≡ 0) × (part (at + 1) m bs ≡ replicate m 0)) ⊎ (get_or bs at 0 ≡ 1)
  flag_cases at m h good = go (eqb (get_or bs at 0) 0) refl (fits_flag-part at m bs ∙ good)
    where
      go : (b : Bool) → eqb (get_or bs at 0) 0 ≡ b → cond b (list_all zero_byte (part (at + 1) m bs)) (eqb (get_or bs at 0) 1) ≡ true →
          ((get_or bs at 0 ≡ 0) × (part (at + 1) m bs ≡ replicate m 0)) ⊎ (get_or bs at 0 ≡ 1)
      go true e z =
          let l : length (part (at + 1) m bs) ≡ m = length-part (at + 1) m bs (omega arith) in
          inl (eqb-true (get_or bs at 0) 0 e, zeros_are (part (at + 1) m bs) z ∙ ap (λ n. replicate n 0) l)
      go false e one = inr (eqb-true (get_or bs at 0) 1 one)

  -- the three fields of the mark are written again
  abbrev ToldMark : Option Mark → Type 0
  ToldMark m = (be 1 (mark_flag m) ≡ part mark_at 1 bs) × ((be count_width (mark_counter m) ≡ part mark_counter_at count_width bs) × (be amount_width (mark_amount m) ≡ part mark_amount_at amount_width bs))

  mark_again : flag_good (mark_part bs) ≡ true → ToldMark (mark_in bs)
  mark_again good = ⊎_elim unmarked marked (flag_cases mark_at 11 (omega arith) good)
    where
      found : Option Mark
      found = Some (record { counter = big (part mark_counter_at count_width bs); amount = big (part mark_amount_at amount_width bs) })

      by_flag : (f : ℕ) → get_or bs mark_at 0 ≡ f → cond (eqb f 0) None found ≡ mark_in bs
      by_flag f e = ap (λ k. cond (eqb k 0) None found) (sym e)

      unmarked : (get_or bs mark_at 0 ≡ 0) × (part mark_counter_at 11 bs ≡ replicate 11 0) → ToldMark (mark_in bs)
      unmarked z =
          let counter = sym (part-part 0 4 mark_counter_at 11 bs (omega arith)) ∙ ap (part 0 4) z.1 in
          let amount = sym (part-part 4 7 mark_counter_at 11 bs (omega arith)) ∙ ap (part 4 7) z.1 in
          subst ToldMark (by_flag 0 z.0) (byte_again mark_at 0 (omega arith) z.0, (sym counter, sym amount))

      marked : get_or bs mark_at 0 ≡ 1 → ToldMark (mark_in bs)
      marked e = subst ToldMark (by_flag 1 e) (byte_again mark_at 1 (omega arith) e, (number_again mark_counter_at count_width (omega arith), number_again mark_amount_at amount_width (omega arith)))

  -- and so are the two of the last answer
  abbrev ToldLast : Option (List ℕ) → Type 0
  ToldLast l = (be 1 (last_flag l) ≡ part last_at 1 bs) × (last_bytes l ≡ part answer_at answer_width bs)

  last_again : flag_good (last_part bs) ≡ true → ToldLast (last_in bs)
  unfolding last_part no_answer
  last_again good = ⊎_elim unsigned signed (flag_cases last_at answer_width (omega arith) good)
    where
      by_flag : (f : ℕ) → get_or bs last_at 0 ≡ f → cond (eqb f 0) None (Some (part answer_at answer_width bs)) ≡ last_in bs
      by_flag f e = ap (λ k. cond (eqb k 0) None (Some (part answer_at answer_width bs))) (sym e)

      unsigned : (get_or bs last_at 0 ≡ 0) × (part answer_at answer_width bs ≡ replicate answer_width 0) → ToldLast (last_in bs)
      unsigned z = subst ToldLast (by_flag 0 z.0) (byte_again last_at 0 (omega arith) z.0, sym z.1)

      signed : get_or bs last_at 0 ≡ 1 → ToldLast (last_in bs)
      signed e = subst ToldLast (by_flag 1 e) (byte_again last_at 1 (omega arith) e, refl)

  -- amounts fit their bytes
  amount-small : (at : ℕ) → at + amount_width ≤ image_size → big (part at amount_width bs) ≤ amount_max
  amount-small at h =
      let l : length (part at amount_width bs) ≡ amount_width = length-part at amount_width bs (omega arith) in
      let small = rw l at (number_lt 256 (part at amount_width bs) (under at amount_width)) in
      omega arith

  mark-small : (b : Bool) → mark_amount (cond b None (Some (record { counter = big (part mark_counter_at count_width bs); amount = big (part mark_amount_at amount_width bs) }))) ≤ amount_max
  mark-small true = omega arith
  mark-small false = amount-small mark_amount_at (omega arith)

  pub fit_again : amounts_fit (image_in bs) ≡ true
  fit_again =
      let u = le-leb (big (part unaudited_at amount_width bs)) amount_max (amount-small unaudited_at (omega arith)) in
      let l = le-leb (big (part limit_at amount_width bs)) amount_max (amount-small limit_at (omega arith)) in
      let m = le-leb (mark_amount (mark_in bs)) amount_max (mark-small (eqb (get_or bs mark_at 0) 0)) in
      λ j. u j && (l j && m j)

  -- so all fields are, and with them the image
  pub written_back : kinds_right bs ≡ true → flag_good (mark_part bs) ≡ true → flag_good (last_part bs) ≡ true → image_bytes (image_in bs) ≡ bs
  written_back kinds mark last =
      let k1 = and_parts _ _ kinds in
      let k2 = and_parts _ _ k1.1 in
      let k3 = and_parts _ _ k2.1 in
      let k4 = and_parts _ _ k3.1 in
      let k5 = and_parts _ _ k4.1 in
      let kind : (at v : ℕ) → at + 1 ≤ image_size → eqb (get_or bs at 0) v ≡ true → be 1 v ≡ part at 1 bs = λ at v h t. byte_again at v h (eqb-true (get_or bs at 0) v t) in
      let m = mark_again mark in
      let l = last_again last in
      let fields : image_fields (image_in bs) ≡ cut 0 widths bs = λ j.
      kind 0 1 (omega arith) k1.0 j ∷ sides_again counters_at count_width 1 (omega arith) j ∷ sides_again sums_at sum_width 1 (omega arith) j
      ∷ kind 25 2 (omega arith) k2.0 j ∷ number_again unaudited_at amount_width (omega arith) j ∷ number_again limit_at amount_width (omega arith) j
      ∷ m.0 j ∷ m.1.0 j ∷ m.1.1 j
      ∷ kind 52 3 (omega arith) k3.0 j ∷ part pin_at 4 bs ∷ byte_again tries_at _ (omega arith) refl j
      ∷ kind 58 4 (omega arith) k4.0 j ∷ sides_again rows_at sum_width ids (omega arith) j
      ∷ kind 251 5 (omega arith) k5.0 j ∷ l.0 j ∷ l.1 j
      ∷ kind 830 6 (omega arith) k5.1 j ∷ number_again key_at count_width (omega arith) j ∷ [] in
      ap joined fields ∙ joined-cut 0 widths bs ∙ take_all image_size bs (omega arith)

-- bytes that are read have passed each test
passed : (t k m l : Bool) (c : Result (Unit {0}) Flaw) (x i : Meaning) →
    cond t (onward (cond k (cond m (cond l (Ok tt) (Err LastFlag)) (Err MarkFlag)) (Err Kinds)) (onward c (Ok x))) (Err Size) ≡ Ok i →
    (t ≡ true) × ((k ≡ true) × ((m ≡ true) × ((l ≡ true) × (x ≡ i))))
passed t k m l c x i e = grind arith

pub canonical : (bs : List ℕ) → AllBelowBase 256 bs → WrittenBack bs
unfolding sized_read
canonical bs u i e =
    let p = passed (eqb (length bs) image_size) (kinds_right bs) (flag_good (mark_part bs)) (flag_good (last_part bs)) (check (image_in bs)) (image_in bs) i e in
    let size = eqb-true (length bs) image_size p.0 in
    let is = sym p.1.1.1.1 in
    (ap amounts_fit is ∙ fit_again bs size u, ap image_bytes is ∙ written_back bs size u p.1.0 p.1.1.0 p.1.1.1.0)
