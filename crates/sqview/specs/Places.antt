-- Where a log has the pages of a view.
use Rattle.std.specs.Prelude.{ℕ, ◌+◌, ◌*◌, ◌/◌, List, length}

-- At most so many numbers are kept beside a log: 262,144, and 17 for each page that its bytes have room for.
abbrev pub most_kept : (size : ℕ) (log : List ℕ) → ℕ
most_kept size log = 262144 + 17 * (length log / size)
