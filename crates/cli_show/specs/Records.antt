-- The records of a hot journal, by the place of their pages.
use Rattle.std.specs.Prelude.{◌≡◌, ◌≢◌, ℕ, List, Option, None, Some, MatchOption}
use Rattle.sqjournal.specs.Journal.{IsHot}
use Rattle.sqjournal.specs.Took.{HasEntry}
use Rattle.sqjournal.specs.declared.reading.Record.{Record}
use Rattle.sqview.specs.Logs.{HasRead}
use Rattle.cli_show.specs.declared.records.Records.{Records}

-- those of the journal, where it is hot; otherwise none
abbrev pub AreRecordsOf : (journal : List ℕ) → Records → Type 0
AreRecordsOf b records = MatchOption records.replay (¬ IsHot b) (λ replay. IsHot b × HasRead b replay)

-- the number of the record whose page begins at a place, from 1; none where no record's does
abbrev pub IsRecordNumber : (journal : List ℕ) → (at : ℕ) → Option ℕ → Type 0
IsRecordNumber b at (Some n) = (r : Record) × HasEntry b n (Some r) × (r.at ≡ at)
IsRecordNumber b at None = (n : ℕ) (r : Record) → HasEntry b n (Some r) → r.at ≢ at
