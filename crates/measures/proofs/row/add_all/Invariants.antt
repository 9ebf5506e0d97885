use Rattle.std.proofs.Common.{◌≡◌, ℕ, ◌≤◌, length, get_or, drop, map}
use Rattle.measures.specs.Categories.{category_at, categories_of}
use Rattle.measures.specs.Counted.{money_ceiling, row_after}
use Rattle.measures.proofs.row.add_all.Given as goal

abbrev pub invariant-loop-category : goal.invariant-loop-category
invariant-loop-category l = record {
  long : length l.values ≡ 12;
  within : (k : ℕ) → get_or l.values k 0 ≤ money_ceiling;
  rest : row_after (map (category_at 0) (drop l.category-index l.category-items)) l.values ≡ row_after (categories_of l.bytes) l.initial.values;
}
