-- The bytes of an entry whose payload lies behind the others (own). No public contract cites these words.
use Rattle.std.specs.Prelude.{ℕ, List, take, drop}
use Rattle.std.specs.Int.{from_le_bytes, w32}

-- where the payload begins behind the others, and how many bytes it has, each in four bytes, the lowest first
unfoldable pub start_in : (body : List ℕ) → ℕ
start_in body = from_le_bytes w32 (take 4 body)

unfoldable pub size_in : (body : List ℕ) → ℕ
size_in body = from_le_bytes w32 (take 4 (drop 4 body))
