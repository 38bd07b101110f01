use Rattle.std.proofs.Common.{List, ap, subst}
use Rattle.rig_judge.specs.Judged.{IsFilesJudgment}
use Rattle.rig_judge.specs.Shown.{Commit, commits_of}
use Rattle.sqcrash.proofs.JudgedFiles.{judged_of, scan_of}
use Rattle.sqcrash.proofs.run.Run.judge_scanned.Goals as goal

pub returns-clause-judged : goal.returns-clause-judged
returns-clause-judged c = λ is_scan.
    let image = c.args.image.now in
    let run = c.args.self.now in
    let j = c.in_ok-judge_scanned.field-0 in
    let took = scan_of image c.args.scan.now c.in-Some.scan _ c.in-Some.is c.deref-2.ensures.value is_scan in
    subst (λ (l : List Commit). IsFilesJudgment l run.known image.db.items image.wal.items image.journal.items j) (ap commits_of c.history-history.ensures)
    (judged_of _ _ _ image.db.items image.wal.items image.journal.items (commits_of c.history-history.result.now) run.known j c.deref.ensures.value c.deref-2.ensures.value c.deref-3.ensures.value
    (c.in_ok-judge_scanned.ensures.judged took))
