use Rattle.std.proofs.Common.{◌≡◌, Some, ap, ◌∙◌}
use Rattle.std.specs.Result.{result_ok}
use Rattle.stores.proofs.Tapes.{value_put}
use Rattle.stores.proofs.tape.TapeStoreStore.write.Goals as goal

pub returns-clause-value : goal.returns-clause-value
returns-clause-value c =
    let found : c.free_record.result ≡ Some c.in_ok-next.next = c.ok_or.ensures.ok_part ∙ ap result_ok c.in_ok-next.was in
    let free = rw found at c.free_record.ensures in
    let given : c.as_array.result ≡ Some c.in_ok-image.image = c.ok_or-2.ensures.ok_part ∙ ap result_ok c.in_ok-image.was in
    let whole = rw given at c.as_array.ensures.cases in
    value_put c.in_ok-next.next c.args.self.now.memory.now c.args.new.now free.0 free.1 whole.long
