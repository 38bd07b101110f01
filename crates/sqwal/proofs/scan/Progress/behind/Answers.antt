use Rattle.std.proofs.Common.{◌∙◌}
use Rattle.sqwal.proofs.feed.ScanWithNextFrame.{behind_none, behind_commit}
use Rattle.sqwal.proofs.scan.Progress.behind.Goals as goal
use Rattle.sqwal.proofs.scan.Progress.behind.Goals.{then-entry-eq0, else-entry-eq0}

pub returns : goal.returns
returns c = elim c.if-entry-eq0.branch [
  | then-entry-eq0 w ↦ behind_none c.args.header.now c.args.entry c.args.sum c.args.self c.if-entry-eq0.front w.if-entry-eq0.true w.front-is
  | else-entry-eq0 w ↦ behind_commit c.args.header.now c.args.entry c.args.sum c.args.self c.if-entry-eq0.front w.from.result w.from-else-entry-eq0.result w.if-entry-eq0.false w.front-is w.from.ensures (w.from-else-entry-eq0.ensures ∙ w.get.ensures.value)
]
