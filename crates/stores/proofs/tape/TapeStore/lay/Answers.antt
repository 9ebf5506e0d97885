use Rattle.std.proofs.Common.{◌≡◌, ◌≤◌, ◌++◌, length, drop, Some, ap, ◌∙◌}
use Rattle.std.specs.Result.{result_ok}
use Rattle.stores.specs.Sizes.{image_size, record_size}
use Rattle.stores.specs.Tape.{tape_image, tape_left, written_record}
use Rattle.stores.proofs.Layings.{first_step, laid_as, image_laid, left_laid, value_laid, memory_laid}
use Rattle.stores.proofs.tape.TapeStore.lay.Goals as goal

pub returns : goal.returns
returns c =
    let m = c.args.memory.now in
    let image = c.args.image.now in
    let given : c.as_array.result ≡ Some c.in_ok-image.image = c.ok_or.ensures.ok_part ∙ ap result_ok c.in_ok-image.was in
    let whole = rw given at c.as_array.ensures.cases in
    let size : length image ≡ image_size = whole.long in
    let found : c.first_chunk_mut.result ≡ Some c.in_ok-first.first = c.ok_or-2.ensures.ok_part ∙ ap result_ok c.in_ok-first.was in
    let chunk = rw found at c.first_chunk_mut.ensures.cases in
    let room : record_size ≤ length m = chunk.enough in
    let first = ap (λ r. r ++ drop record_size m) (c.put_record.ensures ∙ ap written_record whole.same) ∙ first_step image m size room in
    let laid = laid_as image m size room _ _ first c.free_behind_first.ensures in
    record {
      value = value_laid image m size room;
      after = laid ∙ memory_laid image m size room;
      image = λ e. ap tape_image laid ∙ image_laid image m size room;
      left = λ e. ap tape_left laid ∙ left_laid image m size room;
    }
