-- The numbers that calls answer (own).
use Rattle.std.specs.Prelude.{ℕ}
use Rattle.sqwal.specs.declared.error.WalFormatError.{WalFormatError}
use Rattle.sqwal.specs.declared.error.WalFormatError.TheVariants as wals
use Rattle.sqwal.specs.declared.scan.Why.{Why as WalWhy}
use Rattle.sqwal.specs.declared.scan.Why.TheVariants as wal_stops
use Rattle.sqjournal.specs.declared.error.JournalError.{JournalError}
use Rattle.sqjournal.specs.declared.error.JournalError.TheVariants as journals
use Rattle.sqjournal.specs.declared.reading.Why.{Why as JournalWhy}
use Rattle.sqjournal.specs.declared.reading.Why.TheVariants as journal_stops
use Rattle.sqview.specs.declared.judge_error.JudgeError.{JudgeError}
use Rattle.sqview.specs.declared.judge_error.JudgeError.TheVariants as judged
use Rattle.sqview.specs.declared.view_error.ViewError.{ViewError}
use Rattle.sqview.specs.declared.view_error.ViewError.TheVariants as viewed
use Rattle.sqpast.specs.declared.past_error.PastError.{PastError}
use Rattle.sqpast.specs.declared.past_error.PastError.TheVariants.{Refused, CommitOverwritten}

-- what refuses a view; bytes in memory are never unread
abbrev pub view_status : ViewError → ℕ
view_status viewed.TwoLogs = 2
view_status viewed.TooLarge = 3
view_status (viewed.Header fault) = 5
view_status viewed.Unread = 6
view_status viewed.NoMemory = 6
view_status viewed.NoSuchCommit = 10

-- what refuses a view at a commit
abbrev pub past_status : PastError → ℕ
past_status (Refused e) = view_status e
past_status CommitOverwritten = 30

-- what refuses a check
abbrev pub judge_status : JudgeError → ℕ
judge_status judged.TwoLogs = 2
judge_status judged.TooLarge = 3
judge_status judged.AutoVacuum = 4
judge_status judged.Unread = 6
judge_status judged.NoMemory = 6
judge_status judged.NoSuchCommit = 10

-- what refuses a write-ahead log
abbrev pub wal_status : WalFormatError → ℕ
wal_status wals.NotAWal = 11
wal_status wals.PageSize = 12
wal_status wals.HeaderSum = 13
wal_status wals.UnknownVersion = 14
wal_status wals.TooLong = 3
wal_status wals.NoMemory = 6

-- why one stops
abbrev pub wal_why : WalWhy → ℕ
wal_why wal_stops.End = 1
wal_why wal_stops.Cut = 2
wal_why wal_stops.Salt = 3
wal_why wal_stops.PageZero = 4
wal_why wal_stops.Sum = 5

-- what refuses a rollback journal
abbrev pub journal_status : JournalError → ℕ
journal_status journals.NotAJournal = 11
journal_status journals.SectorSize = 12
journal_status journals.PageSize = 12
journal_status journals.NoMemory = 6
journal_status journals.TooLong = 3

-- why one stops
abbrev pub journal_why : JournalWhy → ℕ
journal_why journal_stops.End = 1
journal_why journal_stops.Header = 2
journal_why journal_stops.Short = 3
journal_why journal_stops.PageZero = 4
journal_why journal_stops.Sum = 5
