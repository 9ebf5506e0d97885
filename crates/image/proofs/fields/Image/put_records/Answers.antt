use Rattle.std.proofs.Common.{◌≡◌, [], ap, ◌∙◌}
use Rattle.image.specs.Layout.{meaning, counters_record, money_record, pin_record, rows_record, last_record, key_record, image_fields}
use Rattle.image.specs.Filling.{laid}
use Rattle.image.specs.Fitting.{Fits}
use Rattle.image.proofs.Parcels.{laid_is}
use Rattle.image.proofs.Rereads.{read_written}
use Rattle.image.proofs.fields.Image.put_records.Goals as goal

pub returns-clause-after : goal.returns-clause-after
returns-clause-after c =
    let i = meaning c.args.self.now in
    let counters = c.put_counters.ensures.after ∙ ap (λ u. laid u (counters_record i)) c.requires in
    let pin = c.put_pin.ensures.after ∙ ap (λ u. laid u (pin_record i)) (c.in_ok-put_money.ensures.after ∙ ap (λ u. laid u (money_record i)) counters) in
    let last = c.put_last.ensures.after ∙ ap (λ u. laid u (last_record i)) (c.put_rows.ensures.after ∙ ap (λ u. laid u (rows_record i)) pin) in
    let all : c.put_key.new.out ≡ laid [] (image_fields i) = c.put_key.ensures.after ∙ ap (λ u. laid u (key_record i)) last in
    all ∙ laid_is [] (image_fields i)

pub returns-clause-back : goal.returns-clause-back
returns-clause-back c =
    let i = meaning c.args.self.now in
    let money = c.in_ok-put_money.ensures in
    let fits : Fits i = record {
      counters = c.put_counters.ensures.counters;
      sums = c.put_counters.ensures.sums;
      unaudited = money.unaudited;
      limit = money.limit;
      marked_counter = money.counter;
      marked_amount = money.amount;
      pin = c.put_pin.ensures.pin;
      tries = c.put_pin.ensures.tries;
      rows = c.put_rows.ensures.rows;
      answer = c.put_last.ensures.size;
      key = c.put_key.ensures.key;
    } in
    read_written i fits
