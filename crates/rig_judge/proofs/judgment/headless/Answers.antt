use Rattle.rig_judge.specs.Shown.{commits_of}
use Rattle.rig_judge.proofs.JudgmentOfFiles.{headless_judged}
use Rattle.rig_judge.proofs.judgment.headless.Goals as goal

pub returns-in-Some : goal.returns-in-Some
returns-in-Some c = λ db wal journal r e.
    headless_judged (commits_of c.args.history.now) c.args.known db wal journal c.args.fault c.in-Some.shown c.placed.result r (e.0 c.if-not-is_empty.false) c.in-Some.ensures c.placed.ensures
