-- Where the rows that are shown of a database stand.
use Rattle.std.specs.Prelude.{◌≡◌, ℕ, List, length, Option, Result, MatchResult}
use Rattle.sqval.specs.Database.{Database}
use Rattle.sqview.specs.LogView.{StandsAt}
use Rattle.cli_words.specs.Commits.{commit_named}
use Rattle.cli_words.specs.declared.requests.Commit.{Commit}
use Rattle.cli_words.specs.declared.requests.Commit.TheVariants.{Last, Front, At}
use Rattle.cli_words.specs.declared.requests.Options.{Options}
use Rattle.cli_show.specs.Views.{AskedShows}
use Rattle.cli_show_places.specs.Frames.{AreFrames}
use Rattle.cli_show_places.specs.Places.{ArePlacesPrinted}
use Rattle.cli_show_places.specs.Stops.{ArePlacesStopped}
use Rattle.cli_show_rows.specs.declared.stop.Stop.{Stop}

-- The database that is asked for stands at this frame of the log: the commit that is asked for or the front by the index,
-- otherwise the front, and 0 where none counts.
abbrev pub AskedStands : (at : Commit) → (wal journal : List ℕ) → (m : ℕ) → Type 0
AskedStands Last wal journal m = StandsAt wal journal m
AskedStands (Front n) wal journal m = m ≡ n
AskedStands (At n) wal journal m = m ≡ n

-- It was printed of the database that is asked for, to its end or up to the stop that is told, each row with the last frame up
-- to that one that names its page.
abbrev pub ArePlacesShown : Options → (table : Option (List ℕ)) → (db wal journal : List ℕ) → (before after : Option (List ℕ)) → Result (Unit {0}) Stop → Type 0
ArePlacesShown options table db wal journal before after ended =
    (size : ℕ) × (m : ℕ) × (d : Database) × (frames : ℕ → Option ℕ) × AskedShows (commit_named options) size db wal journal d
    × AskedStands (commit_named options) wal journal m × AreFrames size wal m (length d) frames
    × MatchResult ended (λ _. ArePlacesPrinted d frames options.style table before after)
    (λ stop. ArePlacesStopped d frames options.style table stop before after)
