use Rattle.std.proofs.Common.{◌∙◌}
use Rattle.image.specs.Places.{last_at, answer_width}
use Rattle.image.specs.Sound.{last_part}
use Rattle.image.proofs.Parcels.{fits_flag-part}
use Rattle.image.proofs.sound.is_last_good.Goals as goal

pub returns : goal.returns
unfolding last_part
returns c = c.fits_flag.ensures ∙ fits_flag-part last_at answer_width c.args.bytes.now
