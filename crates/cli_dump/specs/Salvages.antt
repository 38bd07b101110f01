-- The script that is written of a database.
use Rattle.std.specs.Prelude.{◌≡◌, ◌⊎◌, ℕ, Bool, true, List, length, Option, Result, MatchResult}
use Rattle.sqval.specs.Database.{Database}
use Rattle.cli_show_rows.specs.declared.stop.Stop.{Stop}
use Rattle.cli_show_salvage.specs.Scripts.{IsScript, IsScriptStopped}
use Rattle.cli_show.specs.Views.{AskedShows}
use Rattle.cli_words.specs.declared.requests.Commit.{Commit}

-- What was written of a database; one without pages is well formed, and nothing is written of it.
abbrev pub IsScripted : Database → (size : ℕ) → (places : Bool) → (before after : Option (List ℕ)) → (whole : Bool) → Type 0
IsScripted d size places before after whole = ((length d ≡ 0) × (whole ≡ true) × (before ≡ after)) ⊎ IsScript d size places before after whole

-- It was written of the database that is asked for, to its end or up to the stop that is told.
abbrev pub IsSalvageShown : (at : Commit) → (places : Bool) → (db wal journal : List ℕ) → (before after : Option (List ℕ)) → Result Bool Stop → Type 0
IsSalvageShown at places db wal journal before after ended =
    (size : ℕ) × (d : Database) × AskedShows at size db wal journal d
    × MatchResult ended (IsScripted d size places before after) (λ stop. IsScriptStopped d size places stop before after)
