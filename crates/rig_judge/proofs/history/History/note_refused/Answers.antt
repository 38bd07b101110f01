use Rattle.std.proofs.Common.{subst}
use Rattle.sqview.specs.LogView.{ViewRefused}
use Rattle.rig_judge.specs.Shown.{commits_of}
use Rattle.rig_judge.proofs.JudgmentOfFiles.{noted_nothing}
use Rattle.rig_judge.proofs.history.History.note_refused.Goals as goal

pub returns-in-Header-clause-noted : goal.returns-in-Header-clause-noted
returns-in-Header-clause-noted c = λ db wal journal r e.
    noted_nothing db wal journal c.in-Header.field-0 (commits_of c.args.self.now) (commits_of c.note_nothing.new.self) c.note_nothing.result
    (subst (ViewRefused db wal journal) c.in-Header.is r) (e.0 c.if-is_empty.true) c.note_nothing.ensures.noted
