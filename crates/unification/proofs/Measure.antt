-- The measure of the recursion: each new binding leaves fewer variables to bind, and without one the sides become smaller.
use Rattle.std.proofs.Common.{ℕ, ◌<◌, ◌≤◌, ◌+◌, ◌*◌, ◌-◌, ◌^◌, min, arith}

abbrev pub weight : ℕ → ℕ → ℕ → ℕ
weight bound nodes rank = (2 ^ 64 - bound) * 1000000 + (4 * min nodes 40000 + rank)

pub grown_less : (n m s u j k : ℕ) → n < m → m < 2 ^ 64 → j ≤ 3 → weight m s j < weight n u k
grown_less n m s u j k less below small = omega arith

pub same_less : (n s u j k : ℕ) → s ≤ u → j < k → weight n s j < weight n u k
same_less n s u j k h less = omega arith

pub smaller_less : (n s u j k : ℕ) → s + 1 ≤ u → u ≤ 40000 → j ≤ 3 → weight n s j < weight n u k
smaller_less n s u j k h fit small = omega arith
