use Rattle.rig_judge.specs.Shown.{commits_of}
use Rattle.rig_judge.proofs.JudgmentOfFiles.{judged_view, empty_tells}
use Rattle.rig_judge.proofs.judgment.judge_view.Goals as goal

pub returns-in-Ok-clause-judged : goal.returns-in-Ok-clause-judged
returns-in-Ok-clause-judged c =
    judged_view _ (commits_of c.args.history.now) c.args.known c.args.db.now c.args.wal.now c.args.journal.now c.in-Ok.view c.judge_source.result
    (c.in-Ok.ensures.answer (tt, tt, tt)) (c.judge_source.ensures.judged (tt, tt))

pub returns-in-Err-clause-judged : goal.returns-in-Err-clause-judged
returns-in-Err-clause-judged c =
    c.refused.ensures.judged c.args.db.now c.args.wal.now c.args.journal.now (c.in-Err.ensures.answer (tt, tt, tt)) (empty_tells c.is_empty.result c.args.db.now c.is_empty.ensures)

pub returns-in-Err-clause-memory : goal.returns-in-Err-clause-memory
returns-in-Err-clause-memory c = c.refused.ensures.memory c.args.db.now c.args.wal.now c.args.journal.now (c.in-Err.ensures.answer (tt, tt, tt))
