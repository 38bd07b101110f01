-- Which refusal each error becomes.
use Rattle.std.specs.declared.io.ErrorKind.{ErrorKind}
use Rattle.std.specs.declared.io.ErrorKind.TheVariants as kinds
use Rattle.cli_facts.specs.declared.outcome.Refusal.{Refusal}
use Rattle.cli_facts.specs.declared.outcome.Refusal.TheVariants.{FileFailed, TooLarge, TwoLogs, AutoVacuum, NoSuchCommit, NoMemory}
use Rattle.sqview.specs.declared.judge_error.JudgeError.{JudgeError}
use Rattle.sqview.specs.declared.judge_error.JudgeError.TheVariants as judged

abbrev pub refusal_of_kind : ErrorKind → Refusal
refusal_of_kind kinds.OutOfMemory = NoMemory
refusal_of_kind _ = FileFailed

abbrev pub refusal_of_judge : JudgeError → Refusal
refusal_of_judge judged.TwoLogs = TwoLogs
refusal_of_judge judged.TooLarge = TooLarge
refusal_of_judge judged.AutoVacuum = AutoVacuum
refusal_of_judge judged.Unread = FileFailed
refusal_of_judge judged.NoMemory = NoMemory
refusal_of_judge judged.NoSuchCommit = NoSuchCommit
