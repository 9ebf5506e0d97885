use Rattle.std.proofs.Common.{◌∙◌}
use Rattle.image.specs.Places.{mark_at}
use Rattle.image.proofs.Parcels.{fits_flag-part}
use Rattle.image.proofs.sound.is_mark_good.Goals as goal

pub returns : goal.returns
returns c = c.fits_flag.ensures ∙ fits_flag-part mark_at 11 c.args.bytes.now
