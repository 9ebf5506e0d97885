use Rattle.std.proofs.Common.{◌≡◌, length, ap, ◌∙◌, arith}
use Rattle.octets.specs.Big.{be}
use Rattle.octets.proofs.Bigs.{length-be}
use Rattle.stores.specs.Sizes.{image_size, left_width}
use Rattle.stores.specs.Flat.{flat_image, flat_left}
use Rattle.stores.proofs.Flats.{two_parts, image_filled, left_filled}
use Rattle.stores.proofs.flat.fill.Goals as goal

pub returns : goal.returns
returns c =
    let left = c.args.left in
    let image = c.args.image.now in
    let size : length image ≡ image_size = omega arith in
    let filled = two_parts left_width image_size c.args.memory.now _ _ (be left_width left) image (omega arith) (length-be left_width left) (c.copy_from_slice.ensures.after ∙ c.to_be_bytes.ensures) c.copy_from_slice-2.ensures.after in
    record {
      after = filled;
      image = ap flat_image filled ∙ image_filled left image size;
      left = ap flat_left filled ∙ left_filled left image size (omega arith);
    }
