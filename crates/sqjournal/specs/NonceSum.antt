-- The sum of a record (fileformat2, 3, "The Rollback Journal").
use Rattle.std.specs.Prelude.{ℕ, zero, suc, ◌+◌, ◌-◌, ◌%◌, ◌^◌, ◌==◌, ◌&&◌, Bool, nat_lt, if◌then◌else◌, List, length, slice_index}

-- f 0 + f 1 + .. + f (n - 1)
unfoldable pub total : (ℕ → ℕ) → (n : ℕ) → ℕ
total f zero = 0
total f (suc n) = total f n + f n

-- whether the place k of a page of n bytes is one of those that count: above 0, and a multiple of 200 before the end
abbrev pub counts : (n k : ℕ) → Bool
counts n k = nat_lt 0 k && ((n - k) % 200 == 0)

-- the byte at a place that counts, otherwise 0
abbrev pub counted : List ℕ → (k : ℕ) → ℕ
counted page k = if counts (length page) k then slice_index page k else 0

-- the nonce and all bytes that count
unfoldable pub nonce_sum : (nonce : ℕ) → (page : List ℕ) → ℕ
nonce_sum nonce page = (nonce + total (counted page) (length page)) % 2 ^ 32
