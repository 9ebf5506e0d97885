use Rattle.std.proofs.Common.{◌≡◌, ℕ, ◌<◌, [], length, get_or, sym, refl, ap, ◌∙◌, arith, rules}
use Rattle.measures.specs.Sizes.{id_count, money_size}
use Rattle.octets.specs.Big.{be}
use Rattle.std.specs.List.{flat_map}
use Rattle.ledger.specs.Stored.{fields}
use Rattle.ledger.proofs.Fields.{Below, packed_back, packed_flat}
use Rattle.ledger.proofs.stored_row.fields_of.Goals as goal

pub returns : goal.returns
returns c =
    let vs = c.args.values in
    let len : length vs ≡ id_count = search rules in
    let each : (i : ℕ) → i < length vs → be money_size (get_or vs i 0) ≡ get_or c.map.result i [] = λ i h. let p = c.map.ensures.items.at i 0 [] (omega arith) in search rules in
    let all = packed_flat money_size vs c.map.result (c.map.ensures.items.long ∙ sym len) each in
    let low : Below money_size vs = search rules in
    record {
      value = sym all;
      back = ap (λ n. fields money_size n (flat_map (λ x. x) c.map.result)) (sym len) ∙ packed_back money_size vs _ _ all low refl;
    }
