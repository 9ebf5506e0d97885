use Rattle.std.proofs.Common.{◌∙◌, ap, length, ◌/◌, map}
use Rattle.measures.specs.Categories.{category_at}
use Rattle.measures.proofs.Chunks.{chunks_are}
use Rattle.measures.proofs.categories.each_category.Goals as goal

pub returns : goal.returns
returns c = ap (map (category_at 0)) c.as_chunks.ensures.front ∙ chunks_are (length c.args.bytes.now / 8) c.args.bytes.now
