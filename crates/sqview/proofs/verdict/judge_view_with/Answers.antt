use Rattle.sqview.proofs.verdict.judge_view_with.Goals as goal

pub returns-in-Ok-clause-found : goal.returns-in-Ok-clause-found
returns-in-Ok-clause-found g c = λ right. c.in-Ok.ensures.ok right
