use Rattle.rig_judge.specs.Shown.{commit_of}
use Rattle.rig_judge.proofs.JudgmentOfFiles.{showing_view, empty_tells}
use Rattle.rig_judge.proofs.showing.files_show.Goals as goal

pub returns-in-Ok-clause-shows : goal.returns-in-Ok-clause-shows
returns-in-Ok-clause-shows c =
    showing_view _ c.args.db.now c.args.wal.now c.args.journal.now c.in-Ok.view (commit_of c.args.commit.now) c.is_shown.result (c.in-Ok.ensures.answer (tt, tt, tt)) (c.is_shown.ensures.shown (tt, tt))

pub returns-in-Err-clause-shows : goal.returns-in-Err-clause-shows
returns-in-Err-clause-shows c =
    c.refused_shows.ensures.shows c.args.db.now c.args.wal.now c.args.journal.now (c.in-Err.ensures.answer (tt, tt, tt)) (empty_tells c.is_empty.result c.args.db.now c.is_empty.ensures)

pub returns-in-Err-clause-memory : goal.returns-in-Err-clause-memory
returns-in-Err-clause-memory c = c.refused_shows.ensures.memory c.args.db.now c.args.wal.now c.args.journal.now (c.in-Err.ensures.answer (tt, tt, tt))
