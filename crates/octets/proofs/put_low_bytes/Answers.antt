use Rattle.std.proofs.Common.{length, ap, ◌∙◌}
use Rattle.octets.specs.Big.{big}
use Rattle.octets.proofs.Bigs.{big-be, low_bytes}
use Rattle.octets.proofs.put_low_bytes.Goals as goal

pub returns : goal.returns
returns c =
    let k = length c.args.out.now in
    let low = low_bytes k c.args.v _ _ c.requires c.to_be_bytes-bytes.ensures c.copy_from_slice.ensures.after in
    record { after = low; back = λ h. ap big low ∙ big-be k c.args.v h }
