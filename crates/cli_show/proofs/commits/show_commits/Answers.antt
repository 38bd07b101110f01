use Rattle.std.proofs.Common.{ℕ, List, sym, subst}
use Rattle.std.specs.Io.KnownBytes.{Appends}
use Rattle.std.specs.Prelude.{Ok, OnOk, Result}
use Rattle.sqval.specs.Limits.{Bounds}
use Rattle.sqwal.specs.Took.{TookWithin}
use Rattle.sqwal.specs.declared.error.WalFormatError.{WalFormatError}
use Rattle.sqwal.specs.declared.scan.Scan.{Scan}
use Rattle.sqview.specs.Logs.{CountsAnswer}
use Rattle.sqview.specs.declared.logs.LogInUse.{LogInUse}
use Rattle.cli_show.specs.Contents.{contents_of}
use Rattle.cli_show.specs.Limits.{limits_named}
use Rattle.cli_show.specs.Logs.{ScanFound}
use Rattle.cli_show.specs.LogsShown.{IsTextOfCommits}
use Rattle.cli_show.proofs.CountedLogs.{counted, commits_shown}
use Rattle.cli_show.proofs.WrittenCommits.{commits_written, memory_unread}
use Rattle.cli_show.proofs.commits.show_commits.Goals as goal

pub returns-in-Ok-clause-front : goal.returns-in-Ok-clause-front
returns-in-Ok-clause-front g c = λ given.
    let bytes = g.F.FileBytes.bytes in
    let wal = bytes c.args.files.now.wal in
    let journal = bytes c.args.files.now.journal in
    let counts = counted wal journal c.log_in_use.result c.map_err.result c.in_ok-map_err.field-0 _ (c.log_in_use.ensures.answer given.1 given.2) c.map_err.ensures.cases c.map_err.ensures.variant c.in_ok-map_err.was in
    let cold = subst (λ (l : LogInUse). CountsAnswer wal journal (Ok l)) c.in-Wal.is counts in
    let took = subst (λ (r : Result Scan WalFormatError). ScanFound c.limits_of.result wal (Ok r)) c.in-Ok.is (c.in_ok-scan-in-Wal.ensures.found given.1) in
    commits_shown wal journal c.show_commits_of.result c.limits_of.result.frames c.in-Ok.scan cold.0 took c.show_commits_of.ensures.front

pub returns-in-Ok-clause-refused : goal.returns-in-Ok-clause-refused
returns-in-Ok-clause-refused g c = λ given.
    let bytes = g.F.FileBytes.bytes in
    let kept = c.in_ok-scan-in-Wal.ensures.same in
    memory_unread (limits_named c.args.options.large) (bytes c.args.files.now.wal) (bytes c.args.files.now.journal) c.show_commits_of.result
    (c.show_commits_of.ensures.refused (given.0, kept.still_gives given.1, c.log_in_use.ensures.still_gives given.2))

pub returns-in-Ok-clause-text : goal.returns-in-Ok-clause-text
returns-in-Ok-clause-text g c = λ given.
    let bytes = g.F.FileBytes.bytes in
    let written = g.W.Write.contents in
    let options = c.args.options in
    let files = contents_of bytes c.args.files.now in
    let wal = files.wal in
    let journal = files.journal in
    let old = written c.args.out.now in
    let new = written c.show_commits_of.new.out in
    let limits = limits_named options.large in
    let counts = counted wal journal c.log_in_use.result c.map_err.result c.in_ok-map_err.field-0 _ (c.log_in_use.ensures.answer given.1 given.2) c.map_err.ensures.cases c.map_err.ensures.variant c.in_ok-map_err.was in
    let cold = subst (λ (l : LogInUse). CountsAnswer wal journal (Ok l)) c.in-Wal.is counts in
    let found = subst (λ (r : Result Scan WalFormatError). ScanFound c.limits_of.result wal (Ok r)) c.in-Ok.is (c.in_ok-scan-in-Wal.ensures.found given.1) in
    let took = subst (λ (l : Bounds). TookWithin l.frames wal c.in-Ok.scan) c.limits_of.ensures found in
    let kept = c.in_ok-scan-in-Wal.ensures.same in
    let now = subst (λ (l : List ℕ). TookWithin limits.frames l c.in-Ok.scan) (sym kept.same_bytes) took in
    let text = c.show_commits_of.ensures.text (given.0, kept.still_gives given.1, c.log_in_use.ensures.still_gives given.2) limits.frames now in
    commits_written options files old new c.show_commits_of.result cold.0 cold.1
    (subst (λ (l : List ℕ). OnOk c.show_commits_of.result ((text : List ℕ) × IsTextOfCommits options.style limits.frames l files.db text × Appends old new text)) kept.same_bytes text)
