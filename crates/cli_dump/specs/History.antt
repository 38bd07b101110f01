-- The changes of the commits of a log that are shown.
use Rattle.std.specs.Prelude.{◌≡◌, ◌⊎◌, ℕ, List, Option, Some, None, Result, Ok, MatchResult}
use Rattle.sqval.specs.Limits.{Bounds}
use Rattle.sqwal.specs.Header.{named_size, IsHeader}
use Rattle.sqjournal.specs.Journal.{IsHot}
use Rattle.cli_words.specs.declared.requests.ChangeForm.{ChangeForm as AskedForm}
use Rattle.cli_words.specs.declared.requests.ChangeForm.TheVariants as asked
use Rattle.sqpast.specs.declared.past_error.PastError.{PastError}
use Rattle.cli_words.specs.Commits.{commit_of, last_of}
use Rattle.cli_words.specs.declared.requests.Commit.{Commit}
use Rattle.cli_words.specs.declared.requests.Commit.TheVariants.{Last, Front, At}
use Rattle.cli_words.specs.declared.requests.Compared.{Compared}
use Rattle.cli_words.specs.declared.requests.Options.{Options}
use Rattle.cli_facts.specs.Refusals.{refusal_of_past}
use Rattle.cli_facts.specs.declared.outcome.Refusal.{Refusal}
use Rattle.cli_facts.specs.declared.outcome.Refusal.TheVariants.{NoMemory}
use Rattle.cli_show.specs.Limits.{limits_named}
use Rattle.cli_show.specs.Logs.{IsUnreadLog}
use Rattle.cli_show.specs.Views.{IsUnasked}
use Rattle.cli_show_rows.specs.declared.stop.Stop.{Stop}
use Rattle.cli_history.specs.declared.commits.CommitForm.{CommitForm}
use Rattle.cli_history.specs.declared.commits.CommitForm.TheVariants.{Lines, Json}
use Rattle.cli_history.specs.declared.error.HistoryError.TheVariants as errors
use Rattle.cli_history.specs.declared.files.Files.{Files}
use Rattle.cli_history.specs.History.{AreCommitsPrinted, AreCommitsStopped}
use Rattle.cli_history.specs.Ranges.{AreBetween}
use Rattle.cli_dump.specs.Changes.{AreNamed, at_commit}

-- the front by the log's index, if the log is read up to it
abbrev pub front_named : Commit → Option ℕ
front_named Last = None
front_named (Front m) = Some m
front_named (At m) = None

-- the form of the changes of commits that is asked for
abbrev pub commit_form_named : AskedForm → CommitForm
commit_form_named asked.Lines = Lines
commit_form_named asked.Json = Json
commit_form_named asked.Sql = Lines

-- no write-ahead log counts: a hot journal does, or its header isn't valid
abbrev pub IsNoLog : (wal journal : List ℕ) → Type 0
IsNoLog wal journal = IsHot journal ⊎ ¬ IsHeader (named_size wal) wal

-- The changes of the log's commits behind the one that is asked for and up to this one were printed, to their end or up to
-- the stop that is told.
abbrev pub IsRangePrinted : (limits : Bounds) → Files (List ℕ) → (names : List (List ℕ)) → Compared → (to : Commit) → (before after : Option (List ℕ)) → Result (Unit {0}) Stop → Type 0
IsRangePrinted limits files names compared to before after ended =
    (frames : List ℕ) × AreBetween (named_size files.wal) files.wal compared.from (last_of to) frames
    × MatchResult ended (λ _. AreCommitsPrinted files (front_named to) names (commit_form_named compared.form) compared.from frames before after)
    (λ stop. AreCommitsStopped limits files (front_named to) names (commit_form_named compared.form) compared.from frames (errors.Stop stop) before after)

-- They were; where no write-ahead log counts nothing was.
abbrev pub IsHistoryPrinted : (limits : Bounds) → Files (List ℕ) → (names : List (List ℕ)) → Compared → (to : Commit) → (before after : Option (List ℕ)) → Result (Unit {0}) Stop → Type 0
IsHistoryPrinted limits files names compared to before after ended =
    (IsNoLog files.wal files.journal × (before ≡ after) × (ended ≡ Ok tt)) ⊎ IsRangePrinted limits files names compared to before after ended

-- the same of the tables that are asked for, up to the commit that is, otherwise up to the front by the index or to the end
abbrev pub IsHistoryShown : Options → Files (List ℕ) → Compared → (before after : Option (List ℕ)) → Result (Unit {0}) Stop → Type 0
IsHistoryShown options files compared before after ended =
    (names : List (List ℕ)) × AreNamed compared names
    × IsHistoryPrinted (limits_named options.large) files names compared (commit_of compared.to options.front) before after ended

-- They weren't, for this: memory ran out, or there is no view at the next commit.
abbrev pub IsRangeRefused : (limits : Bounds) → Files (List ℕ) → (names : List (List ℕ)) → Compared → (to : Commit) → (before after : Option (List ℕ)) → Refusal → Type 0
IsRangeRefused limits files names compared to before after refusal =
    (refusal ≡ NoMemory)
    ⊎ ((frames : List ℕ) × (error : PastError) × AreBetween (named_size files.wal) files.wal compared.from (last_of to) frames
    × AreCommitsStopped limits files (front_named to) names (commit_form_named compared.form) compared.from frames (errors.View error) before after
    × (refusal ≡ refusal_of_past error))

-- There is no view at the first commit or at the last one, the log that counts isn't read, or its commits' changes weren't.
abbrev pub IsHistoryRefused : Options → Files (List ℕ) → Compared → (before after : Option (List ℕ)) → Refusal → Type 0
IsHistoryRefused options files compared before after refusal =
    IsUnasked (at_commit options (Some compared.from)) files.db files.wal files.journal refusal
    ⊎ (IsUnasked (at_commit options compared.to) files.db files.wal files.journal refusal
    ⊎ (IsUnreadLog (limits_named options.large) files.wal files.journal refusal
    ⊎ ((names : List (List ℕ)) × AreNamed compared names × IsRangeRefused (limits_named options.large) files names compared (commit_of compared.to options.front) before after refusal)))
