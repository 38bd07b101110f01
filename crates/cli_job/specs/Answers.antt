-- What a command comes to, and with which status (own).
use Rattle.std.specs.Prelude.{◌≡◌, ◌⊎◌, ◌&&◌, if◌then◌else◌, Bool, true, false, Option, None, Some, Result, Ok, Err, IfOk}
use Rattle.std.specs.IoError.{error_kind}
use Rattle.std.specs.declared.io.ErrorKind.{ErrorKind}
use Rattle.std.specs.declared.io.ErrorKind.TheVariants.{OutOfMemory}
use Rattle.cli_facts.specs.declared.fronts.Front.{Front}
use Rattle.cli_facts.specs.declared.outcome.Refusal.TheVariants.{FileFailed, TooLarge, NoMemory}
use Rattle.cli_facts.specs.declared.status.Status.{Status}
use Rattle.cli_facts.specs.declared.status.Status.TheVariants as statuses
use Rattle.sqpage.specs.declared.fault.CheckError.{CheckError}
use Rattle.sqpage.specs.declared.fault.Fault.{Fault}
use Rattle.sqpage.specs.declared.fault.Fault.TheVariants as faults
use Rattle.cli_show_rows.specs.declared.stop.Stop.{Stop}
use Rattle.cli_show_rows.specs.declared.stop.Stop.TheVariants as stops
use Rattle.cli_show.specs.Found.{fault_in}
use Rattle.cli_show.specs.declared.error.ShowError.{ShowError}
use Rattle.cli_show.specs.declared.error.ShowError.TheVariants as errors
use Rattle.cli_words.specs.declared.requests.Deep.{Deep}
use Rattle.sqdeepjudge.specs.Verdicts.{is_damaged, is_in_part}
use Rattle.sqdeepjudge.specs.declared.verdict.DeepVerdict.{DeepVerdict}
use Rattle.cli_job.specs.declared.answers.Answer.{Answer}
use Rattle.cli_job.specs.declared.answers.Answer.TheVariants.{Done, Damaged, Refused}
use Rattle.cli_job.specs.declared.answers.Untold.TheVariants.{NoSuchTable, NotUnderstood, NotJudged}
use Rattle.cli_job.specs.declared.commands.Command.{Command}
use Rattle.cli_job.specs.declared.commands.Command.TheVariants.{Check}
use Rattle.cli_job.specs.declared.commands.Finding.{Finding}
use Rattle.cli_job.specs.declared.commands.Finding.TheVariants.{Checked, Surveyed, Shown, Printed}

-- what damage comes to
abbrev pub answer_named : (is_damaged : Bool) → Answer
answer_named true = Damaged
answer_named false = Done

-- What a check comes to: damage; or where all is to be judged, and something isn't that has to be, that; otherwise it is done.
abbrev pub answer_of_check : Option Deep → DeepVerdict → Answer
answer_of_check None verdict = answer_named (is_damaged verdict)
answer_of_check (Some deep) verdict =
    if deep.complete && is_in_part verdict then Refused NotJudged else answer_named (is_damaged verdict)

-- which deep check a command is, if any
abbrev pub deep_of : Command → Option Deep
deep_of (Check asked deep) = deep
deep_of _ = None

-- a fault is damage
abbrev pub answer_of_fault : Option CheckError → Answer
answer_of_fault (Some fault) = Damaged
answer_of_fault None = Done

-- what comes of a writer's error
abbrev pub error_of_write : ErrorKind → ShowError
error_of_write OutOfMemory = errors.Refused NoMemory
error_of_write _ = errors.Unwritten

-- a page's fault is damage, but that it couldn't be read, or memory ran out
abbrev pub answer_of_unsound : Fault → Result Answer ShowError
answer_of_unsound faults.Source = Err (errors.Refused FileFailed)
answer_of_unsound faults.NoMemory = Err (errors.Refused NoMemory)
answer_of_unsound _ = Ok Damaged

-- What comes of rows that ended so. A tree that isn't sound and a row that is no record are damage, and so is what a script
-- has to leave out.
abbrev pub answer_of_rows : Result (Unit {0}) Stop → Result Answer ShowError
answer_of_rows (Ok done) = Ok Done
answer_of_rows (Err (stops.Fault error)) = answer_of_unsound error.fault
answer_of_rows (Err (stops.Record error)) = Ok Damaged
answer_of_rows (Err stops.TooLong) = Err (errors.Refused TooLarge)
answer_of_rows (Err stops.NoMemory) = Err (errors.Refused NoMemory)
answer_of_rows (Err (stops.Write error)) = Err (error_of_write (error_kind error))
answer_of_rows (Err stops.NoSuchTable) = Ok (Refused NoSuchTable)
answer_of_rows (Err stops.NotUnderstood) = Ok (Refused NotUnderstood)
answer_of_rows (Err stops.Default) = Ok (Refused NotUnderstood)
answer_of_rows (Err stops.Behind) = Ok (Refused NotUnderstood)
answer_of_rows (Err stops.Encoding) = Ok (Refused NotUnderstood)
answer_of_rows (Err stops.NotNamed) = Ok (Refused NotUnderstood)
answer_of_rows (Err (stops.LeftOut n)) = Ok Damaged

-- what comes of a script that ended so: one that doesn't have the whole database is damage
abbrev pub answer_of_script : Result Bool Stop → Result Answer ShowError
answer_of_script (Ok true) = Ok Done
answer_of_script (Ok false) = Ok Damaged
answer_of_script (Err stop) = answer_of_rows (Err stop)

-- what comes of a part that was shown, or wasn't
abbrev pub answer_of_shown : Result (Option Front) ShowError → Result Answer ShowError
answer_of_shown (Ok front) = Ok Done
answer_of_shown (Err error) = Err error

-- what comes of what a command found
abbrev pub answer_of_finding : {F : Type 0} → Command → Finding F → Result Answer ShowError
answer_of_finding command (Checked found) = Ok (answer_of_check (deep_of command) found.verdict)
answer_of_finding command (Surveyed found) = Ok (answer_of_fault (fault_in found))
answer_of_finding command (Shown shown) = answer_of_shown shown
answer_of_finding command (Printed printed) = answer_of_rows printed.ended

-- a line couldn't be written, or memory for it was refused
abbrev pub IsUntold : Result Answer ShowError → Type 0
IsUntold answer = (answer ≡ Err errors.Unwritten) ⊎ (answer ≡ Err (errors.Refused NoMemory))

-- this is answered, or it couldn't be told
abbrev pub Tells : (wanted answer : Result Answer ShowError) → Type 0
Tells wanted answer = (answer ≡ wanted) ⊎ IsUntold answer

-- the status with which a run ends that came to this
abbrev pub status_named : Result Answer ShowError → Status
status_named (Ok Done) = statuses.Done
status_named (Ok Damaged) = statuses.Damaged
status_named (Ok (Refused why)) = statuses.Refused
status_named (Err error) = statuses.Refused

-- it was done, or it is refused
abbrev pub IsDoneOr : Result Answer ShowError → Type 0
IsDoneOr answer = IfOk answer (λ answer. answer ≡ Done)
