-- Page sizes (fileformat2, 1.3.2).
use Rattle.std.specs.Prelude.{◌≡◌, ℕ, ◌^◌, ◌≤◌}

-- a power of two from 512 to 65536 (fileformat2, 1.3.2)
abbrev pub IsPageSize : ℕ → Type 0
IsPageSize n = (k : ℕ) × (9 ≤ k) × (k ≤ 16) × (n ≡ 2 ^ k)
