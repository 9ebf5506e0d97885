-- The categories in bytes, by the chunks of their size.
use Rattle.std.proofs.Common.{◌≡◌, ℕ, zero, suc, List, [], ◌∷◌, map, take, drop, refl, ap, ◌∙◌, arith}
use Rattle.std.proofs.lemmas.List.{take-take}
use Rattle.std.specs.Simd.{first_chunks}
use Rattle.octets.specs.Big.{big}
use Rattle.measures.specs.Categories.{category, category_at, categories_in}

category_taken : (bs : List ℕ) → category_at 0 (take 8 bs) ≡ category_at 0 bs
category_taken [] = refl
category_taken (b ∷ bs) = ap (λ a. category b (big a)) (take-take 7 7 bs (omega arith))

pub chunks_are : (k : ℕ) (bs : List ℕ) → map (category_at 0) (first_chunks 8 k bs) ≡ categories_in k bs
unfolding categories_in
chunks_are zero bs = refl
chunks_are (suc k) bs = ap (λ c. c ∷ map (category_at 0) (first_chunks 8 k (drop 8 bs))) (category_taken bs) ∙ ap (λ cs. category_at 0 bs ∷ cs) (chunks_are k (drop 8 bs))
