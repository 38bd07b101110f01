use Rattle.std.proofs.Common.{subst}
use Rattle.sqview.specs.LogView.{ViewRefused}
use Rattle.rig_judge.proofs.judgment.refused.Goals as goal

pub returns-in-Header-clause-judged : goal.returns-in-Header-clause-judged
returns-in-Header-clause-judged c = λ db wal journal r e. c.headless.ensures db wal journal (subst (ViewRefused db wal journal) c.in-Header.is r) e
