use Rattle.std.proofs.Common.{refl}
use Rattle.stores.specs.Meaning.{no_image}
use Rattle.stores.proofs.store.no_image.Goals as goal

pub returns : goal.returns
unfolding no_image
returns c = refl
