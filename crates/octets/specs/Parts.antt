-- Parts of a list of bytes.
use Rattle.std.specs.Prelude.{ℕ, ◌+◌, Bool, cond, List, ◌++◌, length, take, drop, nat_le}

-- the n bytes of `bs` from `at` on
abbrev pub part : ℕ → ℕ → List ℕ → List ℕ
part at n bs = take n (drop at bs)

-- `old` with `new` in it from `at` on, and all else kept
abbrev pub overwritten : ℕ → List ℕ → List ℕ → List ℕ
overwritten at new old = take at old ++ (new ++ drop (at + length new) old)

-- whether n bytes from `at` on lie within `bs`
abbrev pub inside : ℕ → ℕ → List ℕ → Bool
inside at n bs = nat_le (at + n) (length bs)

-- what `old` holds after `new` was copied to `at`, or refused for want of room
abbrev pub copied : ℕ → List ℕ → List ℕ → List ℕ
copied at new old = cond (inside at (length new) old) (overwritten at new old) old
