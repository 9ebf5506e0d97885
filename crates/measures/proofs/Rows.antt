-- Categories added to a row, one after the other.
use Rattle.std.proofs.Common.{◌≡◌, ℕ, ◌+◌, ◌-◌, ◌<◌, ◌≤◌, Bool, true, false, cond, ◌&&◌, leb, List, [], ◌∷◌, map, length, get_or, drop, set, Some, None, Option, sym, refl, ap, ◌∙◌, arith, get_or-set_same, leb-false, le-leb}
use Rattle.std.specs.Bool.{then_some}
use Rattle.std.specs.List.{list_all}
use Rattle.std.proofs.lemmas.List.{at_drop_more, at_drop_all, get_or_past}
use Rattle.std.proofs.lemmas.Grind.{common_steps}
use Rattle.std.proofs.lemmas.List.Folds.{list_all_at}
use Rattle.std.proofs.lemmas.List.Recursion.{and_from_places}
use Rattle.std.proofs.lemmas.Bool.Decides.{nat_tests}
use Rattle.measures.specs.declared.categories.Category.{Category}
use Rattle.measures.specs.Categories.{category_at, id_known, ids_known}
use Rattle.measures.specs.Counted.{money_ceiling, category_fits, category_added, row_added, row_after}

-- numbers that are all at most c, and one that is above it
all_within : (c : ℕ) (ns : List ℕ) → ((i : ℕ) → get_or ns i 0 ≤ c) → list_all (λ n. leb n c) ns ≡ true
all_within c ns h = and_from_places (list_all (λ n. leb n c)) (λ n. leb n c) refl (λ _ _. refl) ns 0 (λ i _. le-leb (get_or ns i 0) c (h i))

one_above : (c : ℕ) (ns : List ℕ) (i : ℕ) → c < get_or ns i 0 → list_all (λ n. leb n c) ns ≡ false
one_above c ns i h =
    let past = get_or_past ns i 0 in
    let f : leb (get_or ns i 0) c ≡ false = grind (arith, nat_tests) in
    let within : i < length ns = grind (arith, past) in
    list_all_at (λ n. leb n c) ns i 0 within f

-- a number that is set to a larger one makes no number smaller
set_grows : (xs : List ℕ) (i a k : ℕ) → get_or xs k 0 ≤ get_or (set xs i (get_or xs i 0 + a)) k 0
set_grows xs i a k = grind (arith, common_steps)

-- a number that is set to one that is not above the ceiling
set_within : (xs : List ℕ) (i v c k : ℕ) → v ≤ c → ((j : ℕ) → get_or xs j 0 ≤ c) → get_or (set xs i v) k 0 ≤ c
set_within xs i v c k h all = let a = all k in grind (arith, common_steps)

pub added_within : (c : Category) (row : List ℕ) → category_fits c row ≡ true → ((j : ℕ) → get_or row j 0 ≤ money_ceiling) → (k : ℕ) → get_or (category_added c row) k 0 ≤ money_ceiling
added_within c row t all k =
    let within : get_or row (c.id - 1) 0 + c.amount ≤ money_ceiling = grind (arith, nat_tests) in
    set_within row (c.id - 1) (get_or row (c.id - 1) 0 + c.amount) money_ceiling k within all

-- categories make no number of a row smaller
pub row_grows : (cs : List Category) (row : List ℕ) (k : ℕ) → get_or row k 0 ≤ get_or (row_added cs row) k 0
row_grows [] row k = omega arith
row_grows (c ∷ cs) row k = omega (arith, set_grows row (c.id - 1) c.amount k, row_grows cs (category_added c row) k)

and_false : (b : Bool) → (b && false) ≡ false
and_false true = refl
and_false false = refl

-- a row in which a number is above the ceiling
pub after_above : (cs : List Category) (row : List ℕ) (k : ℕ) → money_ceiling < get_or row k 0 → row_after cs row ≡ None
after_above cs row k h =
    let f : list_all (λ n. leb n money_ceiling) (row_added cs row) ≡ false = one_above money_ceiling (row_added cs row) k (omega (arith, row_grows cs row k)) in
    ap (λ b. cond (ids_known cs && b) (Some (row_added cs row)) None) f ∙ ap (λ b. cond b (Some (row_added cs row)) None) (and_false (ids_known cs))

-- a row with no category to add
pub after_none : (row : List ℕ) → ((k : ℕ) → get_or row k 0 ≤ money_ceiling) → row_after [] row ≡ Some row
after_none row h = ap (λ b. cond b (Some row) None) (all_within money_ceiling row h)

-- a row with a first category, which fits or does not
module _ (c : Category) (cs : List Category) (row : List ℕ) (l : length row ≡ 12) where
  by_id : (known : Bool) → id_known c.id ≡ known → row_after (c ∷ cs) row ≡ cond known (row_after cs (category_added c row)) None
  by_id true e = ap (λ b. cond ((b && ids_known cs) && list_all (λ n. leb n money_ceiling) (row_added (c ∷ cs) row)) (Some (row_added (c ∷ cs) row)) None) e
  by_id false e = ap (λ b. cond ((b && ids_known cs) && list_all (λ n. leb n money_ceiling) (row_added (c ∷ cs) row)) (Some (row_added (c ∷ cs) row)) None) e

  by_sum : (known within : Bool) → id_known c.id ≡ known → leb (get_or row (c.id - 1) 0 + c.amount) money_ceiling ≡ within → row_after (c ∷ cs) row ≡ cond (known && within) (row_after cs (category_added c row)) None
  by_sum false w e f = by_id false e
  by_sum true true e f = by_id true e
  by_sum true false e f =
      let low : 1 ≤ c.id = grind (arith, nat_tests) in
      let high : c.id ≤ 12 = grind (arith, nat_tests) in
      let above = leb-false (get_or row (c.id - 1) 0 + c.amount) money_ceiling f in
      let same = get_or-set_same row (c.id - 1) (get_or row (c.id - 1) 0 + c.amount) 0 (omega arith) in
      by_id true e ∙ after_above cs (category_added c row) (c.id - 1) (omega arith)

  after_one : row_after (c ∷ cs) row ≡ cond (category_fits c row) (row_after cs (category_added c row)) None
  after_one = by_sum (id_known c.id) (leb (get_or row (c.id - 1) 0 + c.amount) money_ceiling) refl refl

-- a loop at the chunk i, where the categories of the rest give what all categories give
module _ (chunks : List (List ℕ)) (i : ℕ) (row : List ℕ) (R : Option (List ℕ)) (inv : row_after (map (category_at 0) (drop i chunks)) row ≡ R) where
  abbrev here : Category
  here = category_at 0 (get_or chunks i [])

  next : i < length chunks → length row ≡ 12 → R ≡ cond (category_fits here row) (row_after (map (category_at 0) (drop (i + 1) chunks)) (category_added here row)) None
  next h l = sym inv ∙ at_drop_more (λ cs. row_after (map (category_at 0) cs) row) chunks i [] h ∙ after_one here (map (category_at 0) (drop (i + 1) chunks)) row l

  pub row_fits : i < length chunks → length row ≡ 12 → category_fits here row ≡ true → row_after (map (category_at 0) (drop (i + 1) chunks)) (category_added here row) ≡ R
  row_fits h l t = sym (next h l ∙ ap (λ b. cond b (row_after (map (category_at 0) (drop (i + 1) chunks)) (category_added here row)) None) t)

  pub row_stops : i < length chunks → length row ≡ 12 → category_fits here row ≡ false → None ≡ R
  row_stops h l f = sym (next h l ∙ ap (λ b. cond b (row_after (map (category_at 0) (drop (i + 1) chunks)) (category_added here row)) None) f)

  pub row_ends : length chunks ≤ i → ((k : ℕ) → get_or row k 0 ≤ money_ceiling) → Some row ≡ R
  row_ends h within = sym (after_none row within) ∙ sym (at_drop_all (λ cs. row_after (map (category_at 0) cs) row) chunks i h) ∙ inv

-- whether a category fits, by the answer
pub fit : (b : Bool) (u : Unit {0}) → Some u ≡ then_some b (tt {0}) → b ≡ true
fit true u e = refl
fit false u e = cc

pub no_fit : (b : Bool) → None ≡ then_some b (tt {0}) → b ≡ false
no_fit true e = cc
no_fit false e = refl
