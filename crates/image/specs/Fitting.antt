-- What holds of the fields of every image of the code whose amounts fit: each fits its bytes, and is read back from them.
use Rattle.std.specs.Prelude.{◌≡◌, ℕ, ◌*◌, ◌^◌, ◌<◌, length}
use Rattle.ledger.specs.Sides.{Sides, packed_sides, sides_in}
use Rattle.image.specs.Places.{count_width, sum_width, amount_width, pin_width, answer_width, ids}
use Rattle.image.specs.Layout.{Meaning, mark_counter, mark_amount, last_bytes}

-- n numbers on each side fit w bytes each
pub record SidesFit (w n : ℕ) (s : Sides) : Type 0 where
  pub size : length (packed_sides w s) ≡ 2 * (w * n)
  pub back : sides_in w n (packed_sides w s) ≡ s

-- all fields fit
pub record Fits (i : Meaning) : Type 0 where
  pub counters : SidesFit count_width 1 i.counters
  pub sums : SidesFit sum_width 1 i.sums
  pub unaudited : i.unaudited < 256 ^ amount_width
  pub limit : i.limit < 256 ^ amount_width
  pub marked_counter : mark_counter i.mark < 256 ^ count_width
  pub marked_amount : mark_amount i.mark < 256 ^ amount_width
  pub pin : length i.pin ≡ pin_width
  pub tries : i.tries < 256
  pub rows : SidesFit sum_width ids i.rows
  pub answer : length (last_bytes i.last) ≡ answer_width
  pub key : i.key_version < 256 ^ count_width
