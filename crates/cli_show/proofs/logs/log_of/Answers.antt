use Rattle.std.proofs.Common.{◌∙◌, ℕ, List, length, ap, subst}
use Rattle.std.specs.Prelude.{Ok, Err, Result}
use Rattle.sqwal.specs.declared.error.WalFormatError.{WalFormatError}
use Rattle.sqwal.specs.declared.scan.Scan.{Scan}
use Rattle.sqview.specs.Logs.{CountsAnswer}
use Rattle.sqview.specs.declared.logs.LogInUse.{LogInUse}
use Rattle.cli_show.specs.Logs.{ReplayFound, ScanFound}
use Rattle.cli_show.proofs.CountedLogs.{log_found}
use Rattle.cli_show.proofs.ShownFiles.{hot_unread}
use Rattle.cli_show.proofs.logs.log_of.Goals as goal

pub returns-in-Ok : goal.returns-in-Ok
returns-in-Ok g c = λ given_wal given_journal.
    let bytes = g.F.FileBytes.bytes in
    let wal = bytes c.args.wal.now in
    let journal = bytes c.args.journal.now in
    let cold = subst (λ (l : LogInUse). CountsAnswer wal journal (Ok l)) c.in-Wal.is (c.in_ok-log_in_use.ensures.answer given_wal given_journal) in
    let took = subst (λ (r : Result Scan WalFormatError). ScanFound c.args.limits wal (Ok r)) c.in-Ok.is (c.in_ok-scan-in-Wal.ensures.found given_wal) in
    let long = c.len.ensures.count (g.met.F.FileBytes.right c.scanned.new.wal (c.scanned.ensures.same.still_gives given_wal)) ∙ ap (λ (l : List ℕ). length l) c.scanned.ensures.same.same_bytes in
    log_found c.args.limits wal journal c.wal_found.result (c.wal_found.ensures.found c.args.limits wal journal cold.0 took long) c.wal_found.ensures.memory

pub returns-in-Err-replayed : goal.returns-in-Err-replayed
returns-in-Err-replayed g c = λ given_wal given_journal.
    let bytes = g.F.FileBytes.bytes in
    let wal = bytes c.args.wal.now in
    let journal = bytes c.args.journal.now in
    let hot = subst (λ (l : LogInUse). CountsAnswer wal journal (Ok l)) c.in-Journal.is (c.in_ok-log_in_use.ensures.answer given_wal given_journal) in
    let found = c.in-Err-replayed.ensures.found (c.log_in_use.ensures.still_gives given_journal) in
    hot_unread c.args.limits wal journal c.in-Err-replayed.refusal hot.0
    (subst (λ (l : List ℕ). ReplayFound l (Err c.in-Err-replayed.refusal)) c.log_in_use.ensures.same_bytes found)
