use Rattle.sqcheck.proofs.Below.{inl, inr, on_ok, refl, sym, ◌∙◌}
use Rattle.sqcheck.proofs.walker.Walker.survey_largest_root.Goals as goal

pub returns-in-Ok-clause-tells : goal.returns-in-Ok-clause-tells
returns-in-Ok-clause-tells g c = λ right said. inl ((λ asked auto. c.in-Ok.ensures.ok (c.args.self.now.maps.all right asked auto) ∙ said), refl)

pub returns-in-Err-clause-tells : goal.returns-in-Err-clause-tells
returns-in-Err-clause-tells g c = λ right said.
    let e = c.in-Err.error in
    let h = c.in-Err.ensures.err in
    let maps = c.args.self.now.maps in
    on_ok _ _ c.tell.result (λ down. inr (e, (h.1, h.0), maps.asked h.2, (maps.known right).auto h.2, (λ same. h.3 (same ∙ sym said)), down)) c.tell.ensures.down
