use Rattle.sqview.proofs.judgments.VerdictOnFiles.{plainly}
use Rattle.sqview.proofs.verdict.judge_view.Goals as goal

pub returns-clause-refused : goal.returns-clause-refused
returns-clause-refused g c = λ gives. plainly _ c.judge_view_with.result (c.judge_view_with.ensures.refused gives)
