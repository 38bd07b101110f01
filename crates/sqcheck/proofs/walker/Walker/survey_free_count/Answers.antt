use Rattle.sqcheck.proofs.Below.{inl, inr, on_ok, refl}
use Rattle.sqcheck.proofs.walker.Walker.survey_free_count.Goals as goal

pub returns-in-Ok-clause-tells : goal.returns-in-Ok-clause-tells
returns-in-Ok-clause-tells g c = inl (c.in-Ok.ensures.ok, refl)

pub returns-in-Err-clause-tells : goal.returns-in-Err-clause-tells
returns-in-Err-clause-tells g c =
    let h = c.in-Err.ensures.err in
    on_ok _ _ c.tell.result (λ down. inr (c.in-Err.error, h.2, (h.1, h.0), down)) c.tell.ensures.down
