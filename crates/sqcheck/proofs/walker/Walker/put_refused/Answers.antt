use Rattle.sqcheck.proofs.Below.{on_ok}
use Rattle.sqcheck.proofs.walker.Walker.put_refused.Goals as goal

pub returns-clause-put : goal.returns-clause-put
returns-clause-put g c = λ right. on_ok _ _ c.put_down.result (λ put. (c.in_ok-role.role, c.in_ok-role.ensures.role right, put)) c.put_down.ensures.put
