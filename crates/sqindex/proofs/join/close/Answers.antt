use Rattle.std.proofs.Common.{inl, inr, refl}
use Rattle.sqindex.proofs.join.close.Goals as goal

pub returns-in-Ok-clause-err : goal.returns-in-Ok-clause-err
returns-in-Ok-clause-err g c = λ gives table given w. tt

pub returns-in-Ok-finish-clause-err : goal.returns-in-Ok-finish-clause-err
returns-in-Ok-finish-clause-err g c = λ gives table given w. inr (c.in-Err.ensures, c.in-Ok-finish.ensures.ok gives table given w)

pub returns-clause-err : goal.returns-clause-err
returns-clause-err g c = λ gives table given w. inl (c.in-Err-finish.refusal, refl, c.in-Err-finish.ensures.err gives table given w)
