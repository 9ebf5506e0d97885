use Rattle.std.proofs.Common.{◌≡◌, ◌∙◌, true, false, ap, get_or, drop, map, [], ◌+◌, refl, arith}
use Rattle.std.specs.Bool.{then_some}
use Rattle.std.specs.Option.{option_map}
use Rattle.measures.specs.declared.categories.Category.{Category}
use Rattle.measures.specs.Categories.{category_at}
use Rattle.measures.specs.Counted.{category_fits, category_added, row_after}
use Rattle.measures.proofs.Rows.{row_fits, row_stops, row_ends, fit, no_fit, added_within}
use Rattle.measures.proofs.row.add_all.Goals as goal

pub loop-category-init : goal.loop-category-init
loop-category-init c = record { long = c.told-values; within = λ k. omega (arith, c.fits-values k); rest = ap (λ cs. row_after cs c.args.values.now) c.each_category-category-items.ensures }

pub returns-in_err-add_category : goal.returns-in_err-add_category
returns-in_err-add_category c =
    let f : category_fits (category_at 0 (get_or c.each_category-category-items.result.now c.loop-category.category-index [])) c.loop-category.values ≡ false =
    no_fit (category_fits (category_at 0 (get_or c.each_category-category-items.result.now c.loop-category.category-index [])) c.loop-category.values)
    (c.in_err-add_category.ensures.value ∙ ap (λ x. then_some (category_fits x c.loop-category.values) (tt {0})) c.from.ensures) in
    ap (option_map (λ _. _)) c.from_residual.ensures ∙ row_stops _ c.loop-category.category-index c.loop-category.values _ c.loop-category.invariant.rest (omega arith) c.loop-category.invariant.long f

pub loop-category-preserved : goal.loop-category-preserved
loop-category-preserved c =
    let here : Category = category_at 0 (get_or c.each_category-category-items.result.now c.loop-category.category-index []) in
    let t : category_fits here c.loop-category.values ≡ true =
    fit (category_fits here c.loop-category.values) c.in_ok-add_category.field-0 (c.in_ok-add_category.ensures.value ∙ ap (λ x. then_some (category_fits x c.loop-category.values) (tt {0})) c.from.ensures) in
    let e : c.add_category.new.values ≡ category_added here c.loop-category.values = c.in_ok-add_category.ensures.after refl ∙ ap (λ x. category_added x c.loop-category.values) c.from.ensures in
    record {
      long = c.add_category.array_long;
      within = λ k. omega (arith, added_within here c.loop-category.values t c.loop-category.invariant.within k, ap (λ r. get_or r k 0) e);
      rest =
          ap (row_after (map (category_at 0) (drop (c.loop-category.category-index + 1) c.each_category-category-items.result.now))) e
          ∙ row_fits _ c.loop-category.category-index c.loop-category.values _ c.loop-category.invariant.rest (omega arith) c.loop-category.invariant.long t;
    }

pub returns : goal.returns
returns c = row_ends _ c.loop-category.category-index c.loop-category.values _ c.loop-category.invariant.rest (omega arith) c.loop-category.invariant.within
