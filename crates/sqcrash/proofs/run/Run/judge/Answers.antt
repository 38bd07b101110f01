use Rattle.std.proofs.Common.{List, ap, subst}
use Rattle.rig_judge.specs.Judged.{IsFilesJudgment}
use Rattle.rig_judge.specs.Shown.{Commit, commits_of}
use Rattle.sqcrash.proofs.JudgedFiles.{judged_of}
use Rattle.sqcrash.proofs.run.Run.judge.Goals as goal

pub returns : goal.returns
returns c =
    let image = c.args.image.now in
    let run = c.args.self.now in
    let j = c.in_ok-judge_files.field-0 in
    subst (λ (l : List Commit). IsFilesJudgment l run.known image.db.items image.wal.items image.journal.items j) (ap commits_of c.history-history.ensures)
    (judged_of _ _ _ image.db.items image.wal.items image.journal.items (commits_of c.history-history.result.now) run.known j c.deref.ensures.value c.deref-2.ensures.value c.deref-3.ensures.value
    c.in_ok-judge_files.ensures.judged)
