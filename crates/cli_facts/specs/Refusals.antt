-- Which refusal each error becomes.
use Rattle.cli_facts.specs.declared.outcome.Refusal.{Refusal}
use Rattle.cli_facts.specs.declared.outcome.Refusal.TheVariants.{FileFailed, TooLarge, TwoLogs, NotADatabase, NoSuchCommit, CommitOverwritten, NoMemory}
use Rattle.sqpast.specs.declared.past_error.PastError.{PastError}
use Rattle.sqpast.specs.declared.past_error.PastError.TheVariants as past
use Rattle.sqview.specs.declared.view_error.ViewError.{ViewError}
use Rattle.sqview.specs.declared.view_error.ViewError.TheVariants as views

abbrev pub refusal_of : ViewError → Refusal
refusal_of views.TwoLogs = TwoLogs
refusal_of views.TooLarge = TooLarge
refusal_of (views.Header fault) = NotADatabase
refusal_of views.Unread = FileFailed
refusal_of views.NoMemory = NoMemory
refusal_of views.NoSuchCommit = NoSuchCommit

abbrev pub refusal_of_past : PastError → Refusal
refusal_of_past (past.Refused error) = refusal_of error
refusal_of_past past.CommitOverwritten = CommitOverwritten
