-- What each command finds of the files of a database.
use Rattle.std.specs.Prelude.{◌≡◌, ℕ, Bool, true, false, List, Option, None, is_some, Result, Ok, Err, IfErr, IsSome, IsTrue, OnOk}
use Rattle.std.specs.Borrow.{Bor}
use Rattle.std.specs.Io.KnownBytes.{Appends}
use Rattle.cli_facts.specs.declared.fronts.Front.{Front}
use Rattle.cli_facts.specs.declared.outcome.Refusal.{Refusal}
use Rattle.cli_words.specs.declared.requests.Deep.{Deep}
use Rattle.cli_words.specs.declared.requests.Options.{Options}
use Rattle.cli_words.specs.declared.requests.Part.{Part}
use Rattle.cli_words.specs.declared.requests.Part.TheVariants as parts
use Rattle.cli_show.specs.Behind.{IsWholeLogText}
use Rattle.cli_show.specs.Contents.{AreGiven, contents_of}
use Rattle.cli_show.specs.Errors.{IfRefused}
use Rattle.cli_show.specs.Found.{fault_in, IsFoundOf, IsFrontFound, IsUnfound}
use Rattle.cli_show.specs.Limits.{limits_named}
use Rattle.cli_show.specs.Logs.{IsUnreadLog}
use Rattle.cli_show.specs.LogsShown.{IsCommitsText, IsLogText}
use Rattle.cli_show.specs.Shown.{IsHeaderText, IsHeaderUnshown, IsPageUnshown, ShowsPage}
use Rattle.cli_show.specs.Views.{IsNotFound, IsUnasked}
use Rattle.cli_show.specs.declared.contents.Contents.{Contents}
use Rattle.cli_show.specs.declared.views.Asked.{Asked}
use Rattle.cli_dump.specs.Deleted.{AreDeletedShown}
use Rattle.cli_dump.specs.Places.{ArePlacesShown}
use Rattle.cli_dump.specs.Rows.{AreRowsShown}
use Rattle.cli_dump.specs.declared.rows.Wanted.{Wanted}
use Rattle.cli_show_places.specs.Places.{name_of}
use Rattle.cli_show_deep.specs.Found.{IsFoundAs}
use Rattle.sqdeepjudge.specs.Verdicts.{is_damaged}
use Rattle.cli_job.specs.declared.commands.Command.{Command}
use Rattle.cli_job.specs.declared.commands.Command.TheVariants.{Check, Pages, Show, Rows, Places, Deleted}
use Rattle.cli_job.specs.declared.commands.Finding.{Finding}
use Rattle.cli_job.specs.declared.commands.Finding.TheVariants.{Checked, Surveyed, Shown, Printed}

-- Of files that give their bytes: what a check finds, or a deep one, or why it finds nothing.
abbrev pub ChecksFiles : {F : Type 0} → (bytes : F → List ℕ) → (gives : F → Type 0) → Asked → Option Deep → Contents F → Result (Finding F) Refusal → Type 0
ChecksFiles bytes gives asked deep files (Ok (Checked found)) = AreGiven gives files
    → IsFoundAs (is_some deep) asked.maps.pointer_maps asked.limits asked.at (bytes files.db) (bytes files.wal) (bytes files.journal) found.verdict
ChecksFiles bytes gives asked deep files (Ok _) = ⊥
ChecksFiles bytes gives asked deep files (Err refusal) = AreGiven gives files
    → IsNotFound asked.maps.pointer_maps asked.limits asked.at (bytes files.db) (bytes files.wal) (bytes files.journal) refusal

-- what a survey of their pages finds, or why it finds nothing
abbrev pub SurveysFiles : {F : Type 0} → (bytes : F → List ℕ) → (gives : F → Type 0) → Asked → Contents F → Result (Finding F) Refusal → Type 0
SurveysFiles bytes gives asked files (Ok (Surveyed found)) = AreGiven gives files
    → IsFoundOf asked.maps.pointer_maps asked.limits bytes asked.at (contents_of bytes files) found
SurveysFiles bytes gives asked files (Ok _) = ⊥
SurveysFiles bytes gives asked files (Err refusal) = AreGiven gives files
    → IsUnfound asked.maps.pointer_maps asked.limits asked.at (contents_of bytes files) refusal

-- what is printed of a part
abbrev pub IsPartShown : Part → Options → (files : Contents (List ℕ)) → (before after : Option (List ℕ)) → Type 0
IsPartShown parts.Header options files before after = (text : List ℕ) × IsHeaderText options files.db files.wal files.journal text × Appends before after text
IsPartShown (parts.Page number) options files before after = ShowsPage options number files.db files.wal files.journal
IsPartShown (parts.Log true) options files before after = (text : List ℕ) × IsWholeLogText options files text × Appends before after text
IsPartShown (parts.Log false) options files before after = (text : List ℕ) × IsLogText options files.wal files.journal text × Appends before after text
IsPartShown parts.Commits options files before after = (text : List ℕ) × IsCommitsText options files text × Appends before after text
IsPartShown parts.Pages options files before after = before ≡ after

-- why a part isn't shown
abbrev pub IsPartUnshown : Part → Options → (files : Contents (List ℕ)) → Refusal → Type 0
IsPartUnshown parts.Header options files refusal = IsHeaderUnshown options files.db files.wal files.journal refusal
IsPartUnshown (parts.Page number) options files refusal = IsPageUnshown options number files.db files.wal files.journal refusal
IsPartUnshown (parts.Log all) options files refusal = IsUnreadLog (limits_named options.large) files.wal files.journal refusal
IsPartUnshown parts.Commits options files refusal = IsUnreadLog (limits_named options.large) files.wal files.journal refusal
IsPartUnshown parts.Pages options files refusal = ⊥

-- what is shown of them, or why not all of it is
abbrev pub ShowsPart : {F : Type 0} → (bytes : F → List ℕ) → (gives : F → Type 0) → Part → Options → Contents F → Result (Finding F) Refusal
    → (before after : Option (List ℕ)) → Type 0
ShowsPart bytes gives part options files (Ok (Shown shown)) before after =
    (AreGiven gives files → OnOk shown (IsPartShown part options (contents_of bytes files) before after))
    × (AreGiven gives files → IfErr shown (IfRefused (IsPartUnshown part options (contents_of bytes files))))
ShowsPart bytes gives part options files (Ok _) before after = ⊥
ShowsPart bytes gives part options files (Err refusal) before after = ⊥

-- which rows are printed of them, or why none are
abbrev pub PrintsRows : {F : Type 0} → (bytes : F → List ℕ) → (gives : F → Type 0) → Wanted → Options → Contents F → Result (Finding F) Refusal
    → (before after : Option (List ℕ)) → Type 0
PrintsRows bytes gives wanted options files (Ok (Printed printed)) before after = AreGiven gives files
    → AreRowsShown options wanted (bytes files.db) (bytes files.wal) (bytes files.journal) before after printed.ended
PrintsRows bytes gives wanted options files (Ok _) before after = ⊥
PrintsRows bytes gives wanted options files (Err refusal) before after = AreGiven gives files
    → IsUnasked options (bytes files.db) (bytes files.wal) (bytes files.journal) refusal

-- of which rows it is printed where they stand: of the table of this name, or of each, or why of none
abbrev pub PrintsPlaces : {F : Type 0} → (bytes : F → List ℕ) → (gives : F → Type 0) → (table : Option (Bor (List ℕ))) → Options → Contents F → Result (Finding F) Refusal
    → (before after : Option (List ℕ)) → Type 0
PrintsPlaces bytes gives table options files (Ok (Printed printed)) before after = AreGiven gives files
    → ArePlacesShown options (name_of table) (bytes files.db) (bytes files.wal) (bytes files.journal) before after printed.ended
PrintsPlaces bytes gives table options files (Ok _) before after = ⊥
PrintsPlaces bytes gives table options files (Err refusal) before after = AreGiven gives files
    → IsUnasked options (bytes files.db) (bytes files.wal) (bytes files.journal) refusal

-- what was printed of deleted rows, all of it where that is asked for, or why of none
abbrev pub PrintsDeleted : {F : Type 0} → (bytes : F → List ℕ) → (gives : F → Type 0) → (all : Bool) → Options → Contents F → Result (Finding F) Refusal
    → (before after : Option (List ℕ)) → Type 0
PrintsDeleted bytes gives all options files (Ok (Printed printed)) before after = AreGiven gives files
    → AreDeletedShown options all (bytes files.db) (bytes files.wal) (bytes files.journal) before after printed.ended
PrintsDeleted bytes gives all options files (Ok _) before after = ⊥
PrintsDeleted bytes gives all options files (Err refusal) before after = AreGiven gives files
    → IsUnasked options (bytes files.db) (bytes files.wal) (bytes files.journal) refusal

-- What a command finds of files, and prints meanwhile; a check and a survey print nothing.
abbrev pub Finds : {F : Type 0} → (bytes : F → List ℕ) → (gives : F → Type 0) → Command → Options → Contents F → Result (Finding F) Refusal
    → (before after : Option (List ℕ)) → Type 0
Finds bytes gives (Check asked deep) options files answer before after = ChecksFiles bytes gives asked deep files answer × (after ≡ before)
Finds bytes gives (Pages asked) options files answer before after = SurveysFiles bytes gives asked files answer × (after ≡ before)
Finds bytes gives (Show part) options files answer before after = ShowsPart bytes gives part options files answer before after
Finds bytes gives (Rows wanted) options files answer before after = PrintsRows bytes gives wanted options files answer before after
Finds bytes gives (Places table) options files answer before after = PrintsPlaces bytes gives table options files answer before after
Finds bytes gives (Deleted all) options files answer before after = PrintsDeleted bytes gives all options files answer before after

-- damage that a further look may find to be none
abbrev pub IsDamage : {F : Type 0} → Finding F → Type 0
IsDamage (Checked found) = IsTrue (is_damaged found.verdict)
IsDamage (Surveyed found) = IsSome (fault_in found)
IsDamage (Shown shown) = ⊥
IsDamage (Printed printed) = ⊥

-- a command that prints while it reads
abbrev pub prints_meanwhile : Command → Bool
prints_meanwhile (Show part) = true
prints_meanwhile (Rows wanted) = true
prints_meanwhile (Places table) = true
prints_meanwhile (Deleted all) = true
prints_meanwhile _ = false

-- the front of the log at which a command found this, none where a part isn't shown
abbrev pub IsFoundAt : {F : Type 0} → Finding F → Option Front → Type 0
IsFoundAt (Checked found) front = front ≡ found.front
IsFoundAt (Surveyed found) front = IsFrontFound found front
IsFoundAt (Shown (Ok shown)) front = front ≡ shown
IsFoundAt (Shown (Err error)) front = front ≡ None
IsFoundAt (Printed printed) front = front ≡ printed.front
