-- The numbers that calls answer (own).
use Rattle.std.specs.Prelude.{ℕ}
use Rattle.sqrescue_c.specs.declared.status.Status.{Status}
use Rattle.sqrescue_c.specs.declared.status.Status.TheVariants as statuses

abbrev pub number_of : Status → ℕ
number_of statuses.Done = 0
number_of statuses.Damaged = 1
number_of statuses.TwoLogs = 2
number_of statuses.TooLarge = 3
number_of statuses.AutoVacuum = 4
number_of statuses.NotADatabase = 5
number_of statuses.NoMemory = 6
number_of statuses.NoSuchPage = 7
number_of statuses.WrongSize = 8
number_of statuses.NoRoom = 9
number_of statuses.NoSuchCommit = 10
number_of statuses.Magic = 11
number_of statuses.PageSize = 12
number_of statuses.Sum = 13
number_of statuses.LogVersion = 14
number_of statuses.SuperJournal = 15
number_of statuses.PageSizesDiffer = 16
number_of statuses.CommitOverwritten = 30
number_of statuses.NotJudged = 31
