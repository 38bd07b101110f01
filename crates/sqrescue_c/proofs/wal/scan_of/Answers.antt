use Rattle.std.proofs.Common.{[]}
use Rattle.std.proofs.lemmas.Result.{err_from_is_err_and}
use Rattle.sqrescue_c.proofs.wal.scan_of.Goals as goal

pub returns-in_err-feed-clause-refused : goal.returns-in_err-feed-clause-refused
returns-in_err-feed-clause-refused c =
    let p = err_from_is_err_and c.from_residual.result c.from_residual.ensures.1 in
    rw (p.1, p.2) (c.in_err-feed.ensures _ [] c.new-scan.ensures).1

pub returns-clause-took : goal.returns-clause-took
returns-clause-took c = (c.in_ok-feed.ensures _ [] c.new-scan.ensures).0

pub returns-clause-short : goal.returns-clause-short
returns-clause-short c = (c.in_ok-feed.ensures _ [] c.new-scan.ensures).1
