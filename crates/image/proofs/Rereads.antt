-- A written image has no flaw in its layout, and so is read as the same image.
use Rattle.std.proofs.Common.{◌≡◌, ℕ, ◌<◌, true, cond, ◌&&◌, eqb, List, ◌++◌, length, get_or, Some, None, Ok, Err, Option, sym, refl, ap, ◌∙◌, lit<, eq-eqb}
use Rattle.octets.specs.Big.{be}
use Rattle.octets.specs.Parts.{part}
use Rattle.stores.specs.Sizes.{image_size}
use Rattle.image.specs.declared.fields.Mark.{Mark}
use Rattle.image.specs.declared.flaws.Flaw.TheVariants.{Size, Kinds, MarkFlag, LastFlag}
use Rattle.image.specs.Places.{widths, count_width, amount_width, answer_width, mark_at, last_at}
use Rattle.image.specs.Layout.{Meaning, mark_flag, mark_counter, mark_amount, last_flag, last_bytes, no_answer, image_fields, image_bytes, image_in}
use Rattle.image.specs.Sound.{kinds_right, flag_good, mark_part, last_part, records_layout, check, onward, sized_read, image_read, ReadBack}
use Rattle.image.specs.Fitting.{Fits}
use Rattle.image.proofs.Parcels.{length-joined, side_by_side}
use Rattle.image.proofs.Laws.{wide, field_at, byte_back, read_back}

-- flags with the fields that are written behind them
mark-good : (m : Option Mark) → flag_good (be 1 (mark_flag m) ++ (be count_width (mark_counter m) ++ be amount_width (mark_amount m))) ≡ true
mark-good None = refl
mark-good (Some m) = refl

last-good : (l : Option (List ℕ)) → flag_good (be 1 (last_flag l) ++ last_bytes l) ≡ true
unfolding no_answer
last-good None = refl
last-good (Some a) = refl

module _ (i : Meaning) (f : Fits i) where
  abbrev B : List ℕ
  B = image_bytes i

  kind_written : (at v : ℕ) → v < 256 → part at 1 B ≡ be 1 v → eqb (get_or B at 0) v ≡ true
  kind_written at v h e = eq-eqb (get_or B at 0) v (byte_back at v B h e)

  kinds_written : kinds_right B ≡ true
  kinds_written =
      let k = field_at i f in
      let k1 = kind_written 0 1 (lit< tt) (k 0 (lit< tt)) in
      let k2 = kind_written 25 2 (lit< tt) (k 3 (lit< tt)) in
      let k3 = kind_written 52 3 (lit< tt) (k 9 (lit< tt)) in
      let k4 = kind_written 58 4 (lit< tt) (k 12 (lit< tt)) in
      let k5 = kind_written 251 5 (lit< tt) (k 14 (lit< tt)) in
      let k6 = kind_written 830 6 (lit< tt) (k 17 (lit< tt)) in
      λ j. k1 j && (k2 j && (k3 j && (k4 j && (k5 j && k6 j))))

  mark-written : flag_good (mark_part B) ≡ true
  mark-written =
      let k = field_at i f in
      let tail : part 41 11 B ≡ be count_width (mark_counter i.mark) ++ be amount_width (mark_amount i.mark) =
      sym (side_by_side 41 4 7 B) ∙ λ j. k 7 (lit< tt) j ++ k 8 (lit< tt) j in
      ap flag_good (sym (side_by_side mark_at 1 11 B) ∙ λ j. k 6 (lit< tt) j ++ tail j) ∙ mark-good i.mark

  last_written : flag_good (last_part B) ≡ true
  unfolding last_part
  last_written =
      let k = field_at i f in
      ap flag_good (sym (side_by_side last_at 1 answer_width B) ∙ λ j. k 15 (lit< tt) j ++ k 16 (lit< tt) j) ∙ last-good i.last

  layout_written : records_layout B ≡ Ok tt
  layout_written = λ j. cond (kinds_written j) (cond (mark-written j) (cond (last_written j) (Ok tt) (Err LastFlag)) (Err MarkFlag)) (Err Kinds)

  reread : check i ≡ Ok tt → image_read B ≡ Ok i
  unfolding sized_read
  reread sound =
      ap (λ t. cond t (sized_read B) (Err Size)) (eq-eqb (length B) image_size (length-joined widths (image_fields i) (wide i f)))
      ∙ ap (λ l. onward l (onward (check (image_in B)) (Ok (image_in B)))) layout_written
      ∙ ap (λ m. onward (check m) (Ok m)) (read_back i f) ∙ ap (λ l. onward l (Ok i)) sound

  pub read_written : ReadBack i
  read_written = (read_back i f, reread)
