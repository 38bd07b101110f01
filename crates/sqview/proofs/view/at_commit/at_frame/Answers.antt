use Rattle.std.proofs.Common.{List, ℕ, subst}
use Rattle.sqwal.specs.Took.{TookWithin}
use Rattle.sqview.specs.At.{AtAnswerWithin}
use Rattle.sqview.proofs.openings.ShownOrRefusedView.{scanned_some, scanned_none}
use Rattle.sqview.proofs.openings.ViewAtCommit.{at_bare}
use Rattle.sqview.proofs.view.at_commit.at_frame.Goals as goal

pub returns-in_default-clause-right : goal.returns-in_default-clause-right
returns-in_default-clause-right g c = λ right ok one journal cold.
    let bytes = g.F.FileBytes.bytes in
    let w = bytes c.args.wal in
    at_bare c.args.limits (bytes c.args.db) w journal cold c.args.frame one (scanned_none c.args.limits w c.in_ok-scan.field-0 c.in_default.is (c.in_ok-scan.ensures.right right tt))

pub returns-clause-right : goal.returns-clause-right
returns-clause-right g c = λ right ok one journal cold.
    let bytes = g.F.FileBytes.bytes in
    let w = bytes c.args.wal in
    let took = scanned_some c.args.limits w c.in_ok-scan.field-0 c.in-Some.scan c.in-Some.is (c.in_ok-scan.ensures.right right tt) in
    let same = c.scanned.ensures.same_bytes in
    subst (λ (l : List ℕ). TookWithin c.args.limits.frames l c.in-Some.scan → AtAnswerWithin c.args.limits bytes c.args.frame (bytes c.args.db) l journal c.of_scan_within.result) same
    (λ t. c.of_scan_within.ensures.answer t one journal cold) took
