use Rattle.std.proofs.Common.{◌≡◌, ◌≤◌, ℕ, List, Option, Some, IfSome, ap, refl, sym, subst}
use Rattle.std.specs.Prelude.{Ok, MatchResult}
use Rattle.sqval.specs.Limits.{Bounds}
use Rattle.sqwal.specs.Header.{named_size}
use Rattle.sqwal.specs.Took.{TookWithin}
use Rattle.sqwal.specs.declared.scan.Scan.{Scan}
use Rattle.cli_facts.specs.declared.outcome.Outcome.{Outcome}
use Rattle.cli_recover.specs.Copies.{HasFold}
use Rattle.cli_recover.specs.internal.Contents.{IsUnfoldedAt, content_bytes}
use Rattle.cli_recover.specs.internal.Scans.{ScansLog}
use Rattle.cli_recover.specs.declared.copies.Content.{Content}
use Rattle.cli_recover.proofs.CopiedPages.{folds_as_asked, none_counts}
use Rattle.cli_recover.proofs.copies.folded.Goals as goal

pub returns-then-front-eq0 : goal.returns-then-front-eq0
returns-then-front-eq0 g c = λ size given folds.
    let bytes = g.F.FileBytes.bytes in
    let files = c.args.files in
    let wal = bytes files.wal.file in
    let limits = c.limits_of-limits.result in
    let asked : IfSome c.args.scan (TookWithin limits.frames wal) =
    subst (λ (l : Bounds). IfSome c.args.scan (TookWithin l.frames wal)) (sym c.limits_of-limits.ensures) folds.0.1 in
    let took : TookWithin limits.frames wal c.in-Some.scan = subst (λ (o : Option Scan). ScansLog limits wal (Ok o)) c.in-Some.is (c.in_ok-scan.ensures.scan given.1 asked) in
    let has = none_counts c.args.options size c.args.scan (bytes files.db.file) wal (bytes files.journal.file) folds limits.frames wal c.committed-front.result refl
    (c.committed-front.ensures limits.frames wal took) c.if-front-eq0.true in
    (has.0, has.1, ap (content_bytes bytes) c.as_it_stands-then-front-eq0.ensures)

pub returns : goal.returns
returns g c = λ size given folds.
    let bytes = g.F.FileBytes.bytes in
    let files = c.args.files in
    let db = bytes files.db.file in
    let wal = bytes files.wal.file in
    let journal = bytes files.journal.file in
    let limits = c.limits_of-limits.result in
    let frame = c.unwrap_or.result in
    let asked : IfSome c.args.scan (TookWithin limits.frames wal) =
    subst (λ (l : Bounds). IfSome c.args.scan (TookWithin l.frames wal)) (sym c.limits_of-limits.ensures) folds.0.1 in
    let took : TookWithin limits.frames wal c.in-Some.scan = subst (λ (o : Option Scan). ScansLog limits wal (Ok o)) c.in-Some.is (c.in_ok-scan.ensures.scan given.1 asked) in
    let same : bytes c.scan_or.new.wal.file ≡ wal = c.scan_or.ensures.same.same_bytes in
    let took_still : TookWithin limits.frames (bytes c.scan_or.new.wal.file) c.in-Some.scan = subst (λ (w : List ℕ). TookWithin limits.frames w c.in-Some.scan) (sym same) took in
    let committed = c.committed-front.ensures limits.frames wal took in
    folds_as_asked c.args.options size c.args.scan db wal journal folds c.committed-front.result.frames committed.front c.if-front-eq0.false
    (λ (found : Outcome × Content g.row.F.Denot g.row.M.Denot). found.0) (λ found. content_bytes bytes found.1) limits frame c.folded_to.result
    c.limits_of-limits.ensures c.unwrap_or.ensures
    (λ (one : 1 ≤ frame). subst (λ (w : List ℕ).
    MatchResult c.folded_to.result (λ found. HasFold (Some frame) (named_size w) db w journal found.0 (content_bytes bytes found.1)) (IsUnfoldedAt limits frame db w journal)) same
    (c.folded_to.ensures (given.0, c.scan_or.ensures.same.still_gives given.1, given.2) took_still one folds.1))
