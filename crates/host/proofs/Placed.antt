-- A command put at the beginning of a buffer.
use Rattle.std.proofs.Common.{◌≡◌, ℕ, Bool, true, false, cond, leb, List, ◌++◌, length, take, drop, Ok, Err, ap, ◌∙◌, arith}
use Rattle.std.proofs.lemmas.List.{take_at}
use Rattle.host.specs.declared.faults.BuildFault.TheVariants.{SmallBuffer}
use Rattle.host.specs.Building.{put_value, put_after}

-- the bytes that a put answers for are the command
put_back_at : (t : Bool) (c out after : List ℕ) (n : ℕ) → cond t (Ok (length c)) (Err SmallBuffer) ≡ Ok n → after ≡ cond t (c ++ drop (length c) out) out → take n after ≡ c
put_back_at true c out after n v a = let l : length c ≡ n = grind arith in ap (take n) a ∙ take_at c (drop (length c) out) n l
put_back_at false c out after n v a = grind arith

pub put_back : (c out after : List ℕ) (n : ℕ) → put_value c out ≡ Ok n → after ≡ put_after c out → take n after ≡ c
put_back c out after n v a = put_back_at (leb (length c) (length out)) c out after n v a
