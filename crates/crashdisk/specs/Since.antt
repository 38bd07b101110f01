-- What a disk that tears keeps of its log (own).
use Rattle.std.specs.Prelude.{ℕ, List, take, map}
use Rattle.crashdisk.specs.declared.since.Since.{Since}

-- the bytes when it last had nothing unsynced, and the writes since then
abbrev pub kept_bytes : Since → List ℕ
kept_bytes since = take since.kept since.room.items

abbrev pub handed_writes : Since → List (ℕ × List ℕ)
handed_writes since = map (λ entry. (entry.0, entry.1.items)) since.handed.items
