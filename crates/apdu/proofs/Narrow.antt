-- Lengths take two bytes at most.
use Rattle.std.proofs.Common.{◌≤◌, ℕ, ◌^◌, lit<}
use native.Mathlib.Nat.{pow-le-pow_right}

pub power_narrow : (w : ℕ) → w ≤ 2 → 256 ^ w ≤ 65536
power_narrow w h = pow-le-pow_right {n = 256} (lit< tt) h
