-- What a recovery refuses, as this crate's helpers answer it.
use Rattle.std.specs.Prelude.{ℕ, ◌≤◌, List, Result, Ok, Err}
use Rattle.sqwal.specs.Header.{named_size}
use Rattle.sqwal.specs.Answers.{LogRefused}
use Rattle.sqwal.specs.declared.error.WalFormatError.{WalFormatError}
use Rattle.sqwal.specs.declared.error.WalFormatError.TheVariants as wals
use Rattle.sqwal.specs.declared.error.WalFormatError.TheVariants.{UnknownVersion}
use Rattle.sqrescue_c.specs.Recoveries.{NamesSuperJournal, IsOfOtherVersion, HasFront, NamesOtherSize, HaveOtherSizes}
use Rattle.sqrescue_c.specs.declared.status.Status.{Status}
use Rattle.sqrescue_c.specs.declared.status.Status.TheVariants.{LogVersion, SuperJournal, PageSizesDiffer, NoMemory}

-- of what refuses a log's bytes: no memory alone, and another version alone
abbrev pub memory_of : WalFormatError → Result (Unit {0}) Status
memory_of wals.NotAWal = Ok tt
memory_of wals.PageSize = Ok tt
memory_of wals.HeaderSum = Ok tt
memory_of wals.UnknownVersion = Ok tt
memory_of wals.TooLong = Ok tt
memory_of wals.NoMemory = Err NoMemory

abbrev pub version_of : WalFormatError → Result (Unit {0}) Status
version_of wals.NotAWal = Ok tt
version_of wals.PageSize = Ok tt
version_of wals.HeaderSum = Ok tt
version_of wals.UnknownVersion = Err LogVersion
version_of wals.TooLong = Ok tt
version_of wals.NoMemory = Ok tt

-- of a log, whether it counts or not
abbrev pub IsAskedOfLog : {T : Type 0} → (db wal : List ℕ) → Result T Status → Type 0
IsAskedOfLog db wal (Ok _) = (¬ LogRefused wal UnknownVersion) × (HasFront wal → NamesOtherSize db (named_size wal) → ⊥)
IsAskedOfLog db wal (Err LogVersion) = LogRefused wal UnknownVersion
IsAskedOfLog db wal (Err PageSizesDiffer) = HasFront wal × NamesOtherSize db (named_size wal)
IsAskedOfLog db wal (Err NoMemory) = ¬ LogRefused wal UnknownVersion
IsAskedOfLog db wal (Err _) = ⊥

abbrev pub IsAsked : {T : Type 0} → (db wal journal : List ℕ) → Result T Status → Type 0
IsAsked db wal journal (Ok _) = (¬ IsOfOtherVersion wal journal) × (¬ NamesSuperJournal wal journal) × ¬ HaveOtherSizes db wal journal
IsAsked db wal journal (Err LogVersion) = IsOfOtherVersion wal journal
IsAsked db wal journal (Err SuperJournal) = NamesSuperJournal wal journal
IsAsked db wal journal (Err PageSizesDiffer) = HaveOtherSizes db wal journal
IsAsked db wal journal (Err NoMemory) = (¬ IsOfOtherVersion wal journal) × ¬ NamesSuperJournal wal journal
IsAsked db wal journal (Err _) = ⊥

abbrev pub IsAskedAt : {T : Type 0} → (m : ℕ) (db wal journal : List ℕ) → Result T Status → Type 0
IsAskedAt m db wal journal (Ok _) = 1 ≤ m → (¬ IsOfOtherVersion wal journal) × ¬ HaveOtherSizes db wal journal
IsAskedAt m db wal journal (Err LogVersion) = (1 ≤ m) × IsOfOtherVersion wal journal
IsAskedAt m db wal journal (Err PageSizesDiffer) = (1 ≤ m) × HaveOtherSizes db wal journal
IsAskedAt m db wal journal (Err NoMemory) = ¬ IsOfOtherVersion wal journal
IsAskedAt m db wal journal (Err _) = ⊥
