-- The commit at which changes begin if none is named (own).
use Rattle.std.specs.Prelude.{◌≡◌, ◌⊎◌, ℕ, List, ◌++◌, codes}
use Rattle.std.specs.Fmt.{decimal}
use Rattle.sqval.specs.Limits.{Bounds}
use Rattle.sqpast.specs.declared.past_error.PastError.{PastError}
use Rattle.cli_words.specs.declared.requests.ChangeForm.{ChangeForm}
use Rattle.cli_words.specs.declared.requests.ChangeForm.TheVariants.{Lines, Json, Sql}
use Rattle.cli_facts.specs.Refusals.{refusal_of_past}
use Rattle.cli_facts.specs.declared.outcome.Refusal.{Refusal}
use Rattle.cli_show.specs.Logs.{IsUnreadLog}
use Rattle.cli_history.specs.Ranges.{IsFirstShown, IsNoneShown}
use Rattle.cli_history.specs.declared.files.Files.{Files}
use Rattle.cli_dump.specs.Elements.{begun_text}
use Rattle.cli_dump.specs.History.{IsNoLog}

-- the first commit that is known; 0 where no write-ahead log counts
abbrev pub IsFirstCommit : (limits : Bounds) → Files (List ℕ) → (first : ℕ) → Type 0
IsFirstCommit limits files first = (IsNoLog files.wal files.journal × (first ≡ 0)) ⊎ IsFirstShown limits files first

-- why it isn't found: the log that counts isn't read, or as for 0
abbrev pub IsNoFirstCommit : (limits : Bounds) → Files (List ℕ) → Refusal → Type 0
IsNoFirstCommit limits files refusal = IsUnreadLog limits files.wal files.journal refusal
    ⊎ ((error : PastError) × IsNoneShown limits files error × (refusal ≡ refusal_of_past error))

-- that changes begin at this commit, and not at 0: a line, an object, or a comment of a script
abbrev pub first_text : ChangeForm → (from : ℕ) → List ℕ
first_text Lines from = codes "the changes begin at frame " ++ (decimal from ++ codes ": no database before it is known\n")
first_text Json from = begun_text from
first_text Sql from = codes "-- the changes begin at frame " ++ (decimal from ++ codes ": no database before it is known\n")
