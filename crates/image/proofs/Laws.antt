-- The fields of what was written are the same.
use Rattle.std.proofs.Common.{◌≡◌, ℕ, ◌^◌, ◌<◌, cond, eqb, List, [], length, get_or, drop, Some, None, Option, sym, refl, ap, ◌∙◌, mod-eq_of_lt, arith, lit<}
use Rattle.std.proofs.lemmas.List.{get_or-take, get_or-drop}
use Rattle.octets.specs.Big.{be, big}
use Rattle.octets.specs.Parts.{part}
use Rattle.octets.proofs.Bigs.{big-be}
use Rattle.ledger.specs.Sides.{Sides, packed_sides, sides_in}
use Rattle.image.specs.declared.fields.Mark.{Mark}
use Rattle.image.specs.Places.{widths, count_width, sum_width, amount_width, answer_width, ids, mark_at, mark_counter_at, mark_amount_at, last_at, answer_at}
use Rattle.image.specs.Layout.{Meaning, mark_flag, mark_counter, mark_amount, last_flag, last_bytes, image_fields, image_bytes, image_in}
use Rattle.image.specs.Fitting.{SidesFit, Fits}
use Rattle.image.proofs.Parcels.{Wide, offset, field_of}

pub wide : (i : Meaning) → Fits i → Wide widths (image_fields i)
wide i f = (
  refl,
  (
    f.counters.size,
    (
      f.sums.size,
      (
        refl,
        (
          refl,
          (
            refl,
            (
              refl,
              (
                refl,
                (
                  refl,
                  (
                    refl,
                    (
                      f.pin,
                      (
                        refl,
                        (
                          refl,
                          (
                            f.rows.size,
                            (
                              refl,
                              (
                                refl,
                                (
                                  f.answer,
                                  (refl, (refl, tt)),
                                ),
                              ),
                            ),
                          ),
                        ),
                      ),
                    ),
                  ),
                ),
              ),
            ),
          ),
        ),
      ),
    ),
  ),
)

-- a byte, and the part of one byte
byte_of : (at : ℕ) (bs : List ℕ) → get_or bs at 0 ≡ get_or (part at 1 bs) 0 0
byte_of at bs = sym (get_or-take 1 (drop at bs) 0 0 (omega arith) ∙ get_or-drop at bs 0 0 ∙ ap (λ k. get_or bs k 0) (omega arith))

-- a part that holds a byte, and one that holds a number
pub byte_back : (at v : ℕ) (bs : List ℕ) → v < 256 → part at 1 bs ≡ be 1 v → get_or bs at 0 ≡ v
byte_back at v bs h e = byte_of at bs ∙ ap (λ p. get_or p 0 0) e ∙ mod-eq_of_lt h

number_back : (w v : ℕ) (p : List ℕ) → v < 256 ^ w → p ≡ be w v → big p ≡ v
number_back w v p h e = ap big e ∙ big-be w v h

sides-back : (w n : ℕ) (s : Sides) (p : List ℕ) → SidesFit w n s → p ≡ packed_sides w s → sides_in w n p ≡ s
sides-back w n s p f e = ap (sides_in w n) e ∙ f.back

-- the mark and the last answer are told by their flags
mark-back : (m : Option Mark) (flag counter amount : ℕ) → flag ≡ mark_flag m → counter ≡ mark_counter m → amount ≡ mark_amount m →
    cond (eqb flag 0) None (Some (record { counter = counter; amount = amount })) ≡ m
mark-back None flag counter amount ef ec ea = ap (λ k. cond (eqb k 0) None (Some (record { counter = counter; amount = amount }))) ef
mark-back (Some m) flag counter amount ef ec ea =
    ap (λ k. cond (eqb k 0) None (Some (record { counter = counter; amount = amount }))) ef ∙ λ j. Some (record { counter = ec j; amount = ea j })

last-back : (l : Option (List ℕ)) (flag : ℕ) (answer : List ℕ) → flag ≡ last_flag l → answer ≡ last_bytes l → cond (eqb flag 0) None (Some answer) ≡ l
last-back None flag answer ef ea = ap (λ k. cond (eqb k 0) None (Some answer)) ef
last-back (Some a) flag answer ef ea = ap (λ k. cond (eqb k 0) None (Some answer)) ef ∙ ap Some ea

flag_small : (m : Option Mark) → mark_flag m < 256
flag_small None = lit< tt
flag_small (Some m) = lit< tt

last-small : (l : Option (List ℕ)) → last_flag l < 256
last-small None = lit< tt
last-small (Some a) = lit< tt

-- reading what was written gives the same
module _ (i : Meaning) (f : Fits i) where
  abbrev B : List ℕ
  B = image_bytes i

  pub field_at : (k : ℕ) → k < length widths → part (offset widths k) (get_or widths k 0) B ≡ get_or (image_fields i) k []
  field_at = field_of widths (image_fields i) (wide i f)

  pub read_back : image_in B ≡ i
  read_back =
      let mark = mark-back i.mark (get_or B mark_at 0) (big (part mark_counter_at count_width B)) (big (part mark_amount_at amount_width B))
      (byte_back mark_at (mark_flag i.mark) B (flag_small i.mark) (field_at 6 (lit< tt)))
      (number_back count_width (mark_counter i.mark) _ f.marked_counter (field_at 7 (lit< tt)))
      (number_back amount_width (mark_amount i.mark) _ f.marked_amount (field_at 8 (lit< tt))) in
      let last = last-back i.last (get_or B last_at 0) (part answer_at answer_width B) (byte_back last_at (last_flag i.last) B (last-small i.last) (field_at 15 (lit< tt))) (field_at 16 (lit< tt)) in
      λ j. record {
        counters = sides-back count_width 1 i.counters _ f.counters (field_at 1 (lit< tt)) j;
        sums = sides-back sum_width 1 i.sums _ f.sums (field_at 2 (lit< tt)) j;
        unaudited = number_back amount_width i.unaudited _ f.unaudited (field_at 4 (lit< tt)) j;
        limit = number_back amount_width i.limit _ f.limit (field_at 5 (lit< tt)) j;
        mark = mark j;
        pin = field_at 10 (lit< tt) j;
        tries = byte_back 57 i.tries B f.tries (field_at 11 (lit< tt)) j;
        rows = sides-back sum_width ids i.rows _ f.rows (field_at 13 (lit< tt)) j;
        last = last j;
        key_version = number_back count_width i.key_version _ f.key (field_at 18 (lit< tt)) j;
      }
