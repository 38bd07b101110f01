use Rattle.std.proofs.Common.{subst}
use Rattle.sqview.specs.LogView.{ViewRefused}
use Rattle.rig_judge.specs.Shown.{commit_of}
use Rattle.rig_judge.proofs.JudgmentOfFiles.{showing_nothing}
use Rattle.rig_judge.proofs.showing.refused_shows.Goals as goal

pub returns-in-Header-clause-shows : goal.returns-in-Header-clause-shows
returns-in-Header-clause-shows c = λ db wal journal r e.
    showing_nothing db wal journal c.in-Header.field-0 (commit_of c.args.commit.now) c.is_empty.result (subst (ViewRefused db wal journal) c.in-Header.is r) (e.0 c.if-is_empty.true) c.is_empty.ensures
