-- Where a page stands in the log that counts (fileformat2, 3 and 4.4).
use Rattle.std.specs.Prelude.{◌≡◌, ◌⊎◌, ℕ, ◌<◌, List, Option, None, Some}
use Rattle.sqwal.specs.View.{Unnamed, IsLast}
use Rattle.cli_text.specs.declared.pages.Logged.{Logged}
use Rattle.cli_text.specs.declared.pages.Logged.TheVariants.{Frame, Record}
use Rattle.cli_show.specs.Records.{IsRecordNumber}

-- in the last of the frames 1 to m that names the page, if one does
abbrev pub IsLoggedFrame : (size : ℕ) → (wal : List ℕ) → (m p : ℕ) → Option Logged → Type 0
IsLoggedFrame size w m p None = Unnamed size w m p
IsLoggedFrame size w m p (Some (Frame i)) = IsLast size w m p i
IsLoggedFrame size w m p (Some (Record n)) = ⊥

-- in the record whose page begins at the place, 0 where none does
abbrev pub IsLoggedRecord : (journal : List ℕ) → (at : ℕ) → Option Logged → Type 0
IsLoggedRecord b at None = (at ≡ 0) ⊎ IsRecordNumber b at None
IsLoggedRecord b at (Some (Record n)) = (0 < at) × IsRecordNumber b at (Some n)
IsLoggedRecord b at (Some (Frame i)) = ⊥
