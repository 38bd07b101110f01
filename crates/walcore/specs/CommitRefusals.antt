-- Why a commit into a write-ahead log is refused (own).
use Rattle.std.specs.Prelude.{ℕ, ◌+◌, nat_lt, ◌∷◌, ◌++◌, [], length, Option}
use Rattle.sqval.specs.Database.{Pages}
use Rattle.sqval.specs.CommitFaults.{first_true, page_faults}

-- the most pages that are committed into one log
abbrev pub most_pages : ℕ
most_pages = 1048576

-- the first of these, and then that the log would have too many pages
abbrev pub refusal_of : (old_size page_size used : ℕ) → Pages → (size : ℕ) → Option ℕ
refusal_of old_size page_size used pages size = first_true (page_faults old_size page_size pages size ++ (nat_lt most_pages (used + length pages), 10) ∷ [])
