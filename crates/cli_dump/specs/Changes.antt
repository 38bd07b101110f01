-- The changes of rows that are shown of a database.
use Rattle.std.specs.Prelude.{◌⊎◌, ℕ, List, codes, length, map, Option, Some, None, Result, MatchResult}
use Rattle.sqval.specs.Database.{Database}
use Rattle.cli_words.specs.Line.{GiveTexts}
use Rattle.cli_words.specs.declared.requests.ChangeForm.{ChangeForm as AskedForm}
use Rattle.cli_words.specs.declared.requests.ChangeForm.TheVariants as asked
use Rattle.cli_words.specs.Commits.{commit_of}
use Rattle.cli_words.specs.declared.requests.Commit.TheVariants.{At}
use Rattle.cli_words.specs.declared.requests.Compared.{Compared}
use Rattle.cli_words.specs.declared.requests.Options.{Options}
use Rattle.cli_facts.specs.declared.outcome.Refusal.{Refusal}
use Rattle.cli_show_rows.specs.declared.stop.Stop.{Stop}
use Rattle.cli_show_diff.specs.declared.form.ChangeForm.{ChangeForm}
use Rattle.cli_show_diff.specs.declared.form.ChangeForm.TheVariants.{Lines, Json, Sql}
use Rattle.cli_show_diff.specs.Changes.{AreChangesPrinted, AreChangesStopped}
use Rattle.cli_show.specs.declared.contents.Contents.{Contents}
use Rattle.cli_show.specs.Views.{AskedShows, IsUnasked}

-- the form of changes that is asked for
abbrev pub change_form_named : AskedForm → ChangeForm
change_form_named asked.Lines = Lines
change_form_named asked.Json = Json None
change_form_named asked.Sql = Sql

-- the names of the tables that are asked for, in their order
abbrev pub AreNamed : Compared → (names : List (List ℕ)) → Type 0
AreNamed compared names = GiveTexts (codes "--table") (map (λ w. w.now) compared.tables.options.now) (length compared.tables.options.now) names

-- They were those between the databases at both commits, to their end or up to the stop that is told.
abbrev pub AreChangesShown : Options → Compared → (from to : Contents (List ℕ)) → (before after : Option (List ℕ)) → Result (Unit {0}) Stop → Type 0
AreChangesShown options compared from to before after ended =
    (names : List (List ℕ)) × AreNamed compared names × ((old_size new_size : ℕ) × (d e : Database) × AskedShows (At compared.from) old_size from.db from.wal from.journal d
    × AskedShows (commit_of compared.to options.front) new_size to.db to.wal to.journal e
    × MatchResult ended (λ _. AreChangesPrinted d e names (change_form_named compared.form) before after) (λ stop. AreChangesStopped d e names (change_form_named compared.form) stop before after))

-- the options with another commit that is asked for, or none
abbrev pub at_commit : Options → Option ℕ → Options
at_commit options frame = record options { at = frame }

-- There is no view at one of both commits, for this.
abbrev pub IsUncompared : Options → Compared → (from to : Contents (List ℕ)) → Refusal → Type 0
IsUncompared options compared from to refusal =
    IsUnasked (at_commit options (Some compared.from)) from.db from.wal from.journal refusal
    ⊎ IsUnasked (at_commit options compared.to) to.db to.wal to.journal refusal
