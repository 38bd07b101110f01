use Rattle.std.proofs.Common.{ℕ, List, subst}
use Rattle.std.specs.Prelude.{Option}
use Rattle.sqwal.specs.Took.{TookWithin}
use Rattle.sqwal.specs.declared.scan.Scan.{Scan}
use Rattle.sqview.specs.LogView.{ViewAnswerWithin}
use Rattle.sqview.proofs.openings.ShownOrRefusedView.{answers, read_before, scan_refused, alone_bare, scanned_some, scanned_none}
use Rattle.sqview.proofs.view.opening.logged.Goals as goal

pub returns-in_err-scan-clause-right : goal.returns-in_err-scan-clause-right
returns-in_err-scan-clause-right g c = λ right right_wal ok journal cold.
    let bytes = g.F.FileBytes.bytes in
    let e = c.in_err-scan.field-0.0 in
    answers c.args.limits bytes (bytes c.args.db) (bytes c.args.wal) journal c.from_residual.result e c.from_residual.ensures.1
    (scan_refused c.args.limits (bytes c.args.db) (bytes c.args.wal) journal cold e (c.in_err-scan.ensures.right right_wal (read_before (Option Scan) c.from_residual.result e c.from_residual.ensures.1 ok)))

pub returns-in_default-clause-right : goal.returns-in_default-clause-right
returns-in_default-clause-right g c = λ right right_wal ok journal cold.
    let w = g.F.FileBytes.bytes c.args.wal in
    let alone = alone_bare c.args.limits (g.F.FileBytes.bytes c.args.db) w journal cold (scanned_none c.args.limits w c.in_ok-scan.field-0 c.in_default.is (c.in_ok-scan.ensures.right right_wal tt)) in
    c.own.ensures.right right ok w journal alone.0 alone.1

pub returns-clause-right : goal.returns-clause-right
returns-clause-right g c = λ right right_wal ok journal cold.
    let bytes = g.F.FileBytes.bytes in
    let w = bytes c.args.wal in
    let took = scanned_some c.args.limits w c.in_ok-scan.field-0 c.in-Some.scan c.in-Some.is (c.in_ok-scan.ensures.right right_wal tt) in
    subst (λ (l : List ℕ). TookWithin c.args.limits.frames l c.in-Some.scan → ViewAnswerWithin c.args.limits bytes (bytes c.args.db) l journal c.logged_by.result) c.scanned.ensures.same_bytes
    (λ t. c.logged_by.ensures.right right ok t journal cold) took
