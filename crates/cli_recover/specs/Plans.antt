-- What a recovery does of a database's files (fileformat2, 1.3.2, 3 and 4.3; what refuses it: own).
use Rattle.std.specs.Prelude.{◌≡◌, ◌≢◌, ◌⊎◌, ℕ, suc, ◌<◌, ◌≤◌, List, length, Option, None, Some, IsSome, IfSome, IsSomeAnd, Result, Ok, Err}
use Rattle.sqval.specs.Limits.{Bounds}
use Rattle.sqwal.specs.Frames.{IsCommit, IsFront, IsValidFrame}
use Rattle.sqwal.specs.Header.{HeaderRefused, IsHeader, named_size}
use Rattle.sqwal.specs.Took.{TookWithin}
use Rattle.sqwal.specs.declared.error.WalFormatError.{WalFormatError}
use Rattle.sqwal.specs.declared.error.WalFormatError.TheVariants.{UnknownVersion}
use Rattle.sqpage.specs.Header.{HasMagic, HasPageSize, size_named}
use Rattle.sqview.specs.Laid.{part_or_zeros}
use Rattle.sqjournal.specs.declared.header.JournalHeader.{JournalHeader}
use Rattle.sqview.specs.Logs.{AreTwoLogs, CountsAnswer}
use Rattle.sqview.specs.declared.logs.LogInUse.TheVariants.{Neither, Wal, Journal}
use Rattle.cli_words.specs.declared.requests.Options.{Options}
use Rattle.cli_words.specs.declared.requests.SuperJournal.{SuperJournal as Said}
use Rattle.cli_facts.specs.declared.outcome.Refusal.{Refusal}
use Rattle.cli_facts.specs.declared.outcome.Refusal.TheVariants.{SuperJournal, UnknownLogVersion, NoSuchCommit, PageSizesDiffer, TooLarge, TwoLogs, NoMemory}
use Rattle.cli_files.specs.Journals.{MayBeThere, NamesSuperJournal}
use Rattle.cli_show.specs.Contents.{KeepsBytes}
use Rattle.cli_show.specs.Limits.{limits_named}
use Rattle.cli_show.specs.declared.contents.Contents.{Contents}
use Rattle.cli_recover.specs.declared.plans.Recovery.{Recovery}
use Rattle.cli_recover.specs.declared.plans.Recovery.TheVariants.{Nothing, Empty, Fold, RollBack}

-- The files were only read: each has its bytes still, and gives them if it gave them.
pub record AreKept {F : Type 0} (bytes : F → List ℕ) (gives : F → Type 0) (old new : Contents F) : Type 0 where
  pub db : KeepsBytes bytes gives old.db new.db
  pub wal : KeepsBytes bytes gives old.wal new.wal
  pub journal : KeepsBytes bytes gives old.journal new.journal

-- the header of a database file names a page size, and another one than this
abbrev pub HasOtherSize : (db : List ℕ) → (size : ℕ) → Type 0
HasOtherSize db size =
    (18 ≤ length db) × HasMagic (part_or_zeros 100 0 db) × HasPageSize (part_or_zeros 100 0 db) × (size_named (part_or_zeros 100 0 db) ≢ size)

-- A hot journal is replayed, unless it names a super-journal and nothing says whether that exists.
abbrev pub RollsBack : Option Said → (journal : List ℕ) → Result Recovery Refusal → Type 0
RollsBack said journal (Ok plan) = (plan ≡ RollBack) × (NamesSuperJournal journal → MayBeThere said)
RollsBack said journal (Err refusal) = (refusal ≡ SuperJournal) × NamesSuperJournal journal × ¬ MayBeThere said

-- a log without a valid header, of which no frame counts: it isn't whole, or something else is amiss than its version
abbrev pub HasNoHeader : (wal : List ℕ) → Type 0
HasNoHeader wal = (length wal < 32) ⊎ ((error : WalFormatError) × (error ≢ UnknownVersion) × HeaderRefused wal error)

-- a valid frame that ends a commit
abbrev pub IsCommitOf : (wal : List ℕ) → (frame : ℕ) → Type 0
IsCommitOf wal frame = IsValidFrame (named_size wal) wal frame × IsCommit (named_size wal) wal frame

-- Of a commit frame that is asked for: the log has no valid header, or the database file names no other page size than it.
abbrev pub AreAlike : (at : Option ℕ) → (db wal : List ℕ) → Type 0
AreAlike (Some (suc m)) db wal = HasNoHeader wal ⊎ ((size : ℕ) × IsHeader size wal × ¬ HasOtherSize db size)
AreAlike _ db wal = Unit {0}

-- it names another one, or the log is of another version
abbrev pub AreUnlike : (db wal : List ℕ) → Refusal → Type 0
AreUnlike db wal refusal = ((refusal ≡ PageSizesDiffer) × (size : ℕ) × IsHeader size wal × HasOtherSize db size)
    ⊎ ((refusal ≡ UnknownLogVersion) × (32 ≤ length wal) × HeaderRefused wal UnknownVersion)

-- why it isn't said what a recovery does of a log
abbrev pub IsUnplanned : Bounds → (front : Option ℕ) → (db wal : List ℕ) → Refusal → Type 0
IsUnplanned limits front db wal UnknownLogVersion = (32 ≤ length wal) × HeaderRefused wal UnknownVersion
IsUnplanned limits front db wal NoSuchCommit = IsSomeAnd front (λ frame. ¬ IsCommitOf wal frame)
IsUnplanned limits front db wal PageSizesDiffer =
    IsHeader (named_size wal) wal × HasOtherSize db (named_size wal) × ((frame : ℕ) × IsCommitOf wal frame)
IsUnplanned limits front db wal TooLarge = IsValidFrame (named_size wal) wal (suc limits.frames)
IsUnplanned limits front db wal NoMemory = Unit {0}
IsUnplanned limits front db wal _ = ⊥

-- A log without a valid header is emptied. Another one is folded, in the size of its pages, up to the front that its index
-- names if one is said, whose scan is there then; a database file that names another size has to be one to which no frame counts.
abbrev pub PlansFold : Bounds → (front : Option ℕ) → (db wal : List ℕ) → Result Recovery Refusal → Type 0
PlansFold limits front db wal (Ok Empty) = (front ≡ None) × HasNoHeader wal
PlansFold limits front db wal (Ok (Fold size scan)) = IsHeader size wal × IfSome scan (TookWithin limits.frames wal)
    × IfSome front (λ frame. IsSome scan × IsCommitOf wal frame) × (HasOtherSize db size → IsFront size wal 0)
PlansFold limits front db wal (Ok _) = ⊥
PlansFold limits front db wal (Err refusal) = IsUnplanned limits front db wal refusal

-- the write-ahead log counts, and its index doesn't say that none of its frames does
abbrev pub CountsWal : (front : Option ℕ) → (wal journal : List ℕ) → Type 0
CountsWal front wal journal = CountsAnswer wal journal (Ok Wal) × (front ≢ Some 0)

-- the journal counts, and no index names a front
abbrev pub CountsJournal : (front : Option ℕ) → (wal journal : List ℕ) → Type 0
CountsJournal front wal journal = (front ≡ None) × ((header : JournalHeader) × CountsAnswer wal journal (Ok (Journal header)))

-- What a recovery does of files of these bytes, by the log that counts of them, if no commit is asked for.
abbrev pub IsPlanOf : Options → (db wal journal : List ℕ) → Recovery → Type 0
IsPlanOf options db wal journal Nothing = (options.front ≡ Some 0) ⊎ ((options.front ≡ None) × CountsAnswer wal journal (Ok Neither))
IsPlanOf options db wal journal Empty = CountsWal options.front wal journal × PlansFold (limits_named options.large) options.front db wal (Ok Empty)
IsPlanOf options db wal journal (Fold size scan) =
    CountsWal options.front wal journal × PlansFold (limits_named options.large) options.front db wal (Ok (Fold size scan))
IsPlanOf options db wal journal RollBack = CountsJournal options.front wal journal × RollsBack options.super_journal journal (Ok RollBack)

-- an index names a front where no write-ahead log counts
abbrev pub LacksCommit : (front : Option ℕ) → (wal journal : List ℕ) → Type 0
LacksCommit front wal journal = IsSomeAnd front (λ m. m ≢ 0) × ¬ CountsAnswer wal journal (Ok Wal)

-- Why nothing is planned of them: two logs count, or one of them isn't recovered.
abbrev pub IsUnplannedOf : Options → (db wal journal : List ℕ) → Refusal → Type 0
IsUnplannedOf options db wal journal refusal = ((refusal ≡ TwoLogs) × AreTwoLogs wal journal)
    ⊎ (((refusal ≡ NoSuchCommit) × LacksCommit options.front wal journal)
    ⊎ ((CountsJournal options.front wal journal × RollsBack options.super_journal journal (Err refusal))
    ⊎ (CountsWal options.front wal journal × IsUnplanned (limits_named options.large) options.front db wal refusal)))
