-- What writing answers and leaves, by whether the amounts fit.
use Rattle.std.proofs.Common.{◌≡◌, ℕ, ◌≤◌, Bool, true, false, cond, ◌&&◌, ltb, leb, List, [], ◌∷◌, ◌++◌, length, take, drop, Some, None, Ok, Err, Option, sym, refl, ap, ◌∙◌, arith, le-ltb, eq-eqb}
use Rattle.std.proofs.lemmas.List.{take-append-drop, drop_all, append-nil}
use Rattle.std.specs.Option.{is_some}
use Rattle.std.specs.Int.{from_bool}
use Rattle.status.specs.declared.errors.CallError.{CallError}
use Rattle.status.specs.declared.errors.CallError.TheVariants.{SmallBuffer, BadField}
use Rattle.octets.specs.Big.{be}
use Rattle.stores.specs.Sizes.{image_size}
use Rattle.image.specs.Layout.{Meaning, last_flag, image_bytes}
use Rattle.image.specs.Sound.{pin_good}
use Rattle.image.specs.Personal.{personal, personal_after}
use Rattle.image.specs.Writing.{amount_max, amounts_fit, fitting, write_value, write_after}

-- the flag of the last answer
pub flag_stored : (l : Option (List ℕ)) → from_bool (is_some l) ∷ [] ≡ be 1 (last_flag l)
flag_stored None = refl
flag_stored (Some a) = refl

-- a buffer with room
module _ (i : Meaning) (out : List ℕ) (room : image_size ≤ length out) where
  by_fit : (t : Bool) → amounts_fit i ≡ t → (cond t (Ok tt) (Err BadField) ≡ write_value i out) × (cond t (image_bytes i ++ drop image_size out) out ≡ write_after i out)
  by_fit t fit =
      let enough = le-ltb (length out) image_size room in (
        sym (λ j. cond (enough j) (Err SmallBuffer) (cond (fit j) (Ok tt) (Err BadField))),
        sym (λ j. cond (enough j) out (cond (fit j) (image_bytes i ++ drop image_size out) out)),
      )

  pub done : (bs : List ℕ) → Ok tt ≡ fitting i → bs ≡ image_bytes i → (Ok tt ≡ write_value i out) × (bs ++ drop image_size out ≡ write_after i out)
  done bs e is =
      let fits : amounts_fit i ≡ true = grind arith in
      let fit = by_fit true fits in
      (fit.0, ap (λ x. x ++ drop image_size out) is ∙ fit.1)

  pub not_done : (f : CallError) → Err f ≡ fitting i → (Err f ≡ write_value i out) × (take image_size out ++ drop image_size out ≡ write_after i out)
  not_done f e =
      let is : (amounts_fit i ≡ false) × (f ≡ BadField) = grind arith in
      let fit = by_fit false is.0 in
      (ap (λ x. Err x) is.1 ∙ fit.0, take-append-drop image_size out ∙ fit.1)

-- what is left of the first image of a card in a buffer of its size
pub first_after : (pin : List ℕ) (limit key : ℕ) (out : List ℕ) → length out ≡ image_size → pin_good pin ≡ true → write_after (personal pin limit key) out ≡ personal_after pin limit key out
first_after pin limit key out size good =
    let i = personal pin limit key in
    let small = ap (λ n. cond (ltb n image_size) out (cond (amounts_fit i) (image_bytes i ++ drop image_size out) out)) size in
    let whole = ap (λ t. cond t (cond (pin_good pin && leb limit amount_max) (image_bytes i) out) out) (eq-eqb (length out) image_size size) in
    let pinned = ap (λ t. cond (t && leb limit amount_max) (image_bytes i) out) good in
    small ∙ go (leb limit amount_max) ∙ sym (whole ∙ pinned)
  where
    go : (t : Bool) → cond (t && true) (image_bytes (personal pin limit key) ++ drop image_size out) out ≡ cond t (image_bytes (personal pin limit key)) out
    go true = ap (λ u. image_bytes (personal pin limit key) ++ u) (drop_all image_size out (omega arith)) ∙ append-nil (image_bytes (personal pin limit key))
    go false = refl
