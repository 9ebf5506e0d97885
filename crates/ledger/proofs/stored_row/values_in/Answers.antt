use Rattle.std.proofs.Common.{◌≡◌, ℕ, ◌<◌, ◌*◌, ◌/◌, [], get_or, length, Some, None, true, cond, sym, ap, ◌∙◌, arith, rules, eq-eqb}
use Rattle.std.specs.Int.{w64, from_be_bytes}
use Rattle.std.specs.Simd.{first_chunks}
use Rattle.std.proofs.ByRecursion.{All-from_get_or}
use Rattle.std.specs.Int.Digits.{AllBelowBase}
use Rattle.measures.specs.Sizes.{id_count, money_size}
use Rattle.ledger.specs.Stored.{fields, packed, sized}
use Rattle.ledger.proofs.Fields.{chunks_read, packed-fields}
use Rattle.ledger.proofs.stored_row.values_in.Goals as goal

size : (c : goal.After-map) → length c.args.bytes.now ≡ money_size * id_count
size c =
    let count : length c.args.bytes.now / money_size ≡ id_count = sym c.as_chunks.ensures.front_len ∙ c.in_ok-as_array.ensures.cases.long in
    omega (arith, c.as_chunks.ensures.back_len, c.in_default-empty.len_below)

bytes : (c : goal.After-map) → AllBelowBase 256 c.args.bytes.now
bytes c = All-from_get_or (λ d. d < 256) c.args.bytes.now 0 (λ i h. omega (arith, c.type_inv.bytes i))

numbers : (c : goal.After-map) → c.map.result ≡ fields money_size id_count c.args.bytes.now
numbers c =
    let bs = c.args.bytes.now in
    let bss = c.in_ok-as_array.field-0.now in
    let whole = c.in_ok-as_array.ensures.cases in
    let count : length bs / money_size ≡ id_count = sym c.as_chunks.ensures.front_len ∙ whole.long in
    let cut : bss ≡ first_chunks money_size id_count bs = whole.same ∙ c.as_chunks.ensures.front ∙ ap (λ n. first_chunks money_size n bs) count in
    let each : (i : ℕ) → i < id_count → get_or c.map.result i 0 ≡ from_be_bytes w64 (get_or (first_chunks money_size id_count bs) i []) = λ i h.
    let p = c.map.ensures.items.at i [] 0 h in
    let n : get_or c.map.result i 0 ≡ from_be_bytes w64 (get_or bss i []) = search rules in
    n ∙ ap (λ t. from_be_bytes w64 (get_or t i [])) cut
    in
    chunks_read id_count c.map.result bs (bytes c) (size c) c.map.ensures.items.long each

pub returns-clause-value : goal.returns-clause-value
returns-clause-value c =
    let bs = c.args.bytes.now in
    let fits : sized money_size id_count bs ≡ true = eq-eqb (length bs) (money_size * id_count) (size c) in
    ap Some (numbers c) ∙ sym (ap (λ t. cond t (Some (fields money_size id_count bs)) None) fits)

pub returns-clause-back : goal.returns-clause-back
returns-clause-back c m e =
    let q : c.map.result ≡ m = cc in
    ap (packed money_size) (sym q) ∙ ap (packed money_size) (numbers c) ∙ packed-fields money_size id_count c.args.bytes.now (bytes c) (size c)
